-- What each call requires and gives, for a knowledge that represents a history.
use Rattle.std.proofs.Common.{rules}
use Rattle.std.proofs.Common.{map, count_by, ◌++◌, []}
use Rattle.crib_cards.specs.Sets.{rank_counts}
use Rattle.crib_cards.proofs.SetCounts.{count_append}
use Rattle.crib_cards.specs.Cards.{IsRank, ranks}
use Rattle.std.proofs.Common.{◌≡◌, ◌↔◌, ℕ, ◌-◌, ◌<◌, ◌≤◌, max, Bool, not, ◌&&◌, ◌||◌, eqb, List, ◌∷◌, length}
use Rattle.std.proofs.Common.{sym, ap, subst, ◌∙◌, arith}
use Rattle.std.specs.Prelude.{IsTrue}
use Rattle.std.specs.List.{filter}
use Rattle.crib_cards.specs.Cards.{rank_of}
use Rattle.crib_cards.specs.Sets.{has, set_of, set_without, count_at, counts_with}
use Rattle.crib_cards.specs.declared.sides.Dealt.{Dealt}
use Rattle.crib_cards.specs.declared.letters.Letter.TheVariants.{Seen, Go}
use Rattle.crib_cards.specs.declared.letters.Letter.{Letter}
use Rattle.crib_know.specs.Private.Knowledge.{Shows}
use Rattle.crib_cards.specs.declared.moves.Move.{Move}
use Rattle.crib_cards.specs.declared.moves.Move.TheVariants as move
use Rattle.crib_cards.specs.Letters.{letter_of}
use Rattle.crib_cards.proofs.SetLemmas.{has-set_where, set_where_agree, and_not_either, eqb_turned}
use Rattle.crib_cards.proofs.CountLemmas.{count_at-rank_counts, count_at-le, counts_with-rank_counts}
use Rattle.crib_cards.proofs.SetFacts.{has-filter}
use Rattle.crib_play.specs.declared.turns.Turn.TheVariants as turns
use Rattle.crib_play.specs.Record.{count_of}
use Rattle.crib_play.specs.Standing.{StandsFor}
use Rattle.crib_play.specs.History.{Event, Own, Theirs, history_letters}
use Rattle.crib_problem.specs.Setup.{Setup, start_of}
use Rattle.crib_problem.proofs.StartLemmas.{started}
use Rattle.crib_know.specs.Knowledge.{Knowledge, own_cards, their_ranks, least_value, asked_now, own_left}
use Rattle.crib_know.specs.Knowledge.{knowledge_after}
use Rattle.crib_know.specs.Hidden.{AgreesWith, IsPossible, CanShow, CanDoAt, KnowsAfter, Passes}
use Rattle.crib_know.proofs.LedHistories.{MayCome, IsLed}
use Rattle.crib_know.proofs.Deals.{least_after_card, least_after_own, least_after_go}
use Rattle.crib_know.proofs.AgreeingIsPassing.{passes_from, passes_to}
use Rattle.crib_know.proofs.PassingIsAgreeing.{can_might, passing_agrees, agrees_passes}
use Rattle.crib_know.proofs.RecordTurns.{possible_led}
use Rattle.crib_know.proofs.KnowledgeFacts.{led_possible, needs_history, begin_more, least_low, are_taken, high_own_go, holds_one, shows}

-- with one more card played, one card less is left
pub left_less : (hold played : List ℕ) (card : ℕ) →
    set_without (set_of (filter (λ c. not (has played c)) hold)) card ≡ set_of (filter (λ c. not (has (card ∷ played) c)) hold)
left_less hold played card =
    set_where_agree _ _ (λ other is.
    ap (λ (b : Bool). b && not (eqb other card)) (has-set_where (has (filter (λ c. not (has played c)) hold)) other is
    ∙ has-filter (λ c. not (has played c)) hold other)
    ∙ and_not_either (has hold other) (has played other) (eqb other card)
    ∙ ap (λ (b : Bool). has hold other && not (b || has played other)) (eqb_turned other card)
    ∙ sym (has-filter (λ c. not (has (card ∷ played) c)) hold other))

-- one more rank is counted
counts_more : (listed : List ℕ) (rank : ℕ) → IsRank rank → counts_with (rank_counts listed) rank ≡ rank_counts (rank ∷ listed)
counts_more listed rank is = counts_with-rank_counts listed rank is ∙ (λ i. map (λ r. each (λ other. eqb other r) i) ranks)
  where
    each : (f : ℕ → Bool) → count_by f (listed ++ rank ∷ []) ≡ count_by f (rank ∷ listed)
    each f = omega (arith, count_append f listed (rank ∷ []), count_append f (rank ∷ []) listed)

-- a history that a knowledge represents can be made turn by turn
pub led_of : (know : Knowledge) (problem : Setup) (history : List Event) → KnowsAfter know problem history → IsLed problem history
led_of know problem history knows = possible_led problem knows.setup history knows.possible

module _ (know : Knowledge) (problem : Setup) (history : List Event) (knows : KnowsAfter know problem history) where
  abbrev led : IsLed problem history
  led = led_of know problem history knows

  -- what holds of the knowledge after the history
  holds : (P : Knowledge → Type 0) → P (knowledge_after problem history) → P know
  holds P here = subst P (sym knows.knowledge) here

  least_same : know.least ≡ least_value problem history
  least_same = ap (λ (k : Knowledge). k.least) knows.knowledge

  pub stands_before : StandsFor know.round (start_of problem) (history_letters history)
  stands_before = search (rules, started problem knows.setup, are_taken problem knows.setup history led knows.begun, shows)

  pub least_range : (1 ≤ know.least) × (know.least ≤ 10)
  least_range = holds (λ k. (1 ≤ k.least) × (k.least ≤ 10)) (least_low problem knows.setup history, (needs_history problem knows.setup history led).least_most)

  -- the knowledge after one more turn
  stands_after : (event : Event) → IsPossible problem (event ∷ history) → (next : Knowledge) → next ≡ knowledge_after problem (event ∷ history) →
      KnowsAfter next problem (event ∷ history)
  stands_after event possible next same =
      record { setup = knows.setup; begun = begin_more problem event history knows.begun; possible = possible; knowledge = same }

  -- ---- what the opponent can show
  pub can_show_if : (letter : Letter) → Shows know letter → CanShow problem history letter
  can_show_if (Seen rank) facts =
      let here = rw knows.knowledge at facts in
      shows problem knows.setup history led knows.begun (Seen rank) (record {
        is = here.0;
        asked = here.1;
        fits = here.2;
        high = here.3;
        free = omega (arith, here.4, count_at-rank_counts (their_ranks history) rank here.0);
      })
  can_show_if Go facts =
      let here = rw knows.knowledge at facts in
      shows problem knows.setup history led knows.begun Go (record { asked = here.0; high = here.1 })

  pub shows_then : (letter : Letter) → CanShow problem history letter → Shows know letter
  shows_then (Seen rank) can = search (rules, can_might problem knows.setup history (Seen rank) can, holds, count_at-rank_counts (their_ranks history) rank)
  shows_then Go can = let might = can_might problem knows.setup history Go can in holds (λ k. Shows k Go) (might.asked, might.high)

  pub exact : (letter : Letter) (result : Bool) → (IsTrue result ↔ Shows know letter) → (IsTrue result ↔ CanShow problem history letter)
  exact letter result tells = (λ yes_can. can_show_if letter (tells.0 yes_can), λ can. tells.1 (shows_then letter can))

  -- ---- what a letter requires
  -- an opponent who plays a rank has a card left, and has played few cards of it
  pub play_left : (rank : ℕ) → CanShow problem history (Seen rank) → (count_at know.ranks_seen rank < 255) × (1 ≤ know.opponent_left)
  play_left rank can =
      let might = can_might problem knows.setup history (Seen rank) can in
      let held = holds_one problem knows.setup history led knows.begun might.asked in
      holds (λ k. (count_at k.ranks_seen rank < 255) × (1 ≤ k.opponent_left)) (
        omega (arith, held, count_at-le (their_ranks history) rank might.is),
        omega (arith, held),
      )

  pub after_play : (rank : ℕ) (can : CanShow problem history (Seen rank)) (next : Knowledge) →
      StandsFor next.round (start_of problem) (Seen rank ∷ history_letters history) → next.ranks_seen ≡ counts_with know.ranks_seen rank →
      next ≡ record know { round = next.round; ranks_seen = next.ranks_seen; opponent_left = know.opponent_left - 1 } →
      KnowsAfter next problem (Theirs (Seen rank) ∷ history)
  after_play rank can next stands ranks others =
      let might = can_might problem knows.setup history (Seen rank) can in
      let fewer : know.opponent_left - 1 ≡ 4 - length (rank ∷ their_ranks history) = holds (λ k. k.opponent_left - 1 ≡ 4 - length (rank ∷ their_ranks history))
      (omega arith) in
      let counts = ranks ∙ ap (λ (k : Knowledge). counts_with k.ranks_seen rank) knows.knowledge ∙ counts_more (their_ranks history) rank might.is in
      let least = least_same ∙ sym (least_after_card problem history rank) in
      stands_after (Theirs (Seen rank)) can next
      (others ∙ (λ i. record (knows.knowledge i) { round = stands.shows i; ranks_seen = counts i; opponent_left = fewer i; least = least i }))

  pub after_go : (can : CanShow problem history Go) (next : Knowledge) → StandsFor next.round (start_of problem) (Go ∷ history_letters history) →
      next.least ≡ max (32 - count_of know.round.pile) know.least → next ≡ record know { round = next.round; least = next.least } →
      KnowsAfter next problem (Theirs Go ∷ history)
  after_go can next stands least others =
      let high = least ∙ ap (λ (k : Knowledge). max (32 - count_of k.round.pile) k.least) knows.knowledge
      ∙ sym (least_after_go problem history stands_before.started stands_before.taken (can_might problem knows.setup history Go can).asked) in
      stands_after (Theirs Go) can next (others ∙ (λ i. record (knows.knowledge i) { round = stands.shows i; least = high i }))

  -- ---- the owner's turns
  pub can_may : (what : Move) → CanDoAt know what → MayCome problem history (Own what)
  can_may (move.Card card) can = rw knows.knowledge at can
  can_may move.Go can = rw knows.knowledge at can

  -- the owner can make the move that may be next
  pub own_may : (what : Move) → MayCome problem history (Own what) → CanDoAt know what
  own_may (move.Card card) may = holds (λ k. CanDoAt k (move.Card card)) may
  own_may move.Go may = holds (λ k. CanDoAt k move.Go) may

  pub own_go_high : CanDoAt know move.Go → 22 ≤ count_of know.round.pile
  own_go_high can = holds (λ k. 22 ≤ count_of k.round.pile) (high_own_go problem knows.setup history led knows.begun (can_may move.Go can))

  after_own : (what : Move) → CanDoAt know what → asked_now problem history ≡ turns.Owner → (next : Knowledge) →
      StandsFor next.round (start_of problem) (letter_of what ∷ history_letters history) → next.own_left ≡ own_left problem (Own what ∷ history) →
      next ≡ record know { round = next.round; own_left = next.own_left } → KnowsAfter next problem (Own what ∷ history)
  after_own what can asked next stands own others =
      let possible = led_possible problem knows.setup (Own what ∷ history) (led, can_may what can) (begin_more problem (Own what) history knows.begun) in
      let least = least_same ∙ sym (least_after_own problem history what asked) in
      stands_after (Own what) possible next (others ∙ (λ i. record (knows.knowledge i) { round = stands.shows i; own_left = own i; least = least i }))

  pub after_own_play : (card rank : ℕ) → rank ≡ rank_of card → CanDoAt know (move.Card card) → (next : Knowledge) →
      StandsFor next.round (start_of problem) (Seen rank ∷ history_letters history) → next.own_left ≡ set_without know.own_left card →
      next ≡ record know { round = next.round; own_left = next.own_left } → KnowsAfter next problem (Own (move.Card card) ∷ history)
  after_own_play card rank is can next stands own others =
      after_own (move.Card card) can (can_may (move.Card card) can).0 next (rw is at stands)
      (own ∙ ap (λ (k : Knowledge). set_without k.own_left card) knows.knowledge ∙ left_less problem.hold (own_cards history) card) others

  pub after_own_go : CanDoAt know move.Go → (next : Knowledge) → StandsFor next.round (start_of problem) (Go ∷ history_letters history) →
      next ≡ record know { round = next.round } → KnowsAfter next problem (Own move.Go ∷ history)
  after_own_go can next stands others =
      let own = ap (λ (k : Knowledge). k.own_left) others in
      after_own move.Go can (can_may move.Go can).0 next stands (own ∙ ap (λ (k : Knowledge). k.own_left) knows.knowledge)
      (others ∙ (λ i. record know { round = next.round; own_left = sym own i }))

  -- ---- exactly the deals that pass agree
  pub passing_same : (dealt : Dealt) → AgreesWith problem history dealt ↔ Passes problem know dealt
  passing_same dealt = holds (λ k. AgreesWith problem history dealt ↔ Passes problem k dealt) (
    λ agrees. (
      agrees.0,
      passes_from (least_value problem history) (their_ranks history) dealt.hold (agrees_passes problem knows.setup dealt agrees.0 history agrees),
    ),
    λ passing. passing_agrees problem knows.setup dealt passing.0 history led
        (passes_to (least_value problem history) (their_ranks history) dealt.hold passing.1),
  )
