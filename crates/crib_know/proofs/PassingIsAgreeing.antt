-- Each hidden deal that passes agrees with the history.
use Rattle.std.proofs.Common.{rules}
use Rattle.std.proofs.lemmas.Bool.Decides.{nat_tests}
use Rattle.std.proofs.Common.{Bool, ◌⊎◌}
use Rattle.std.proofs.Common.{◌≡◌, ℕ, ◌+◌, ◌-◌, ◌≤◌, max, true, false, not, eqb, leb, List, [], ◌∷◌, refl, sym, ap, ◌∙◌, inl, inr, arith}
use Rattle.std.specs.List.{filter}
use Rattle.std.proofs.lemmas.Bool.{eqb-true, eq-eqb, leb-true, le-leb, lt-leb}
use Rattle.crib_cards.specs.Cards.{rank_of, rank_value, card_value}
use Rattle.crib_cards.specs.Sets.{has, count_rank}
use Rattle.crib_cards.specs.Start.{Start, pone_of, Hands}
use Rattle.crib_cards.specs.declared.sides.Side.{Side}
use Rattle.crib_cards.specs.declared.sides.Side.TheVariants.{Owner, Opponent}
use Rattle.crib_cards.specs.declared.sides.Dealt.{Dealt}
use Rattle.crib_cards.specs.Letters.{IsLetter}
use Rattle.crib_cards.specs.declared.letters.Letter.{Letter}
use Rattle.crib_cards.specs.declared.letters.Letter.TheVariants.{Seen, Go}
use Rattle.crib_cards.specs.declared.moves.Move.{Move}
use Rattle.crib_cards.specs.declared.moves.Move.TheVariants as move
use Rattle.crib_cards.proofs.SetFacts.{in_set_where}
use Rattle.crib_play.specs.declared.turns.Turn.TheVariants as turns
use Rattle.crib_play.specs.Record.{mover}
use Rattle.crib_play.specs.Score.{is_done, side_asked, asked_after}
use Rattle.crib_play.specs.Filled.{filled_record}
use Rattle.crib_play.specs.Legal as legal
use Rattle.crib_play.specs.Legal.{letters_of, cards_of, cards_left, fits, MayTake}
use Rattle.crib_play.specs.History.{Event, Own, Theirs, event_by, history_letters}
use Rattle.crib_play.proofs.CardLemmas.{none_passes}
use Rattle.crib_play.proofs.RecordsReached.{asked_mover}
use Rattle.crib_problem.specs.Setup.{Setup, IsSetup, start_of, hands_of, IsDealOf}
use Rattle.crib_problem.proofs.StartLemmas.{started, hold_is_card}
use Rattle.crib_know.specs.Knowledge.{own_cards, their_ranks, least_value, count_after, asked_now, own_left}
use Rattle.crib_know.specs.Hidden.{AgreesWith, CanShow}
use Rattle.crib_know.proofs.LedHistories.{MayCome, IsLed}
use Rattle.crib_know.proofs.Events.{Plays, plays_of, plays_taken, agrees_of, NextPlay, last_play, play_more}
use Rattle.crib_know.proofs.CardsLeft.{has-filter_parts, has-filter_from, left_remaining, own_played}
use Rattle.crib_know.proofs.CardLists.{one_if, one_same, found_by, count_here, has_set_from}
use Rattle.crib_know.proofs.Deals.{dealt_is, hold_cards, least_after_go, least_before}
use Rattle.crib_know.proofs.ChosenRanks.{ranks_of}
use Rattle.crib_know.proofs.AgreeingIsPassing.{PassesRanks, asked_is, MightPlay, MightGo, past, left, left_played, past_same, count_same, mover_same}
use Rattle.crib_know.proofs.AgreeingIsPassing.{agreeing_passes, Might, covers}
use Rattle.crib_problem.proofs.HonestTurns.{none_any}
use Rattle.crib_cards.proofs.SetCounts.{count_cons}
use Rattle.crib_cards.proofs.Members.{rank_is}

module _ (problem : Setup) (setup : IsSetup problem) (dealt : Dealt) (deal : IsDealOf problem dealt) (history : List Event) where
  abbrev start : Start
  start = start_of problem

  abbrev hands : Hands
  hands = hands_of problem dealt

  module _ (plays : Plays start hands history) where
    abbrev before : List Move
    before = past problem setup dealt deal history plays

    own_unplayed : (card : ℕ) → has problem.hold card ≡ true → has (cards_of plays.seen) card ≡ has (own_cards history) card
    own_unplayed card mine = own_played start hands (dealt_is problem setup dealt deal) card mine plays.seen plays.legal
        ∙ ap (λ (h : List Event). has (own_cards h) card) plays.shows

    pub own_to : (card : ℕ) → has (own_left problem history) card ≡ true → has (cards_left hands Owner before) card ≡ true
    own_to card h =
        let kept = in_set_where (has (filter_own history)) card h in
        let parts = has-filter_parts (λ c. not (has (own_cards history) c)) problem.hold card kept.1 in
        ap (λ (xs : List ℕ). has xs card) (left_remaining start hands Owner plays.seen)
        ∙ has-filter_from (λ c. not (has (cards_of plays.seen) c)) problem.hold card parts.0 (ap not (own_unplayed card parts.0) ∙ parts.1)
      where
        filter_own : List Event → List ℕ
        filter_own h = filter (λ c. not (has (own_cards h) c)) problem.hold

    pub own_from : (card : ℕ) → has (cards_left hands Owner before) card ≡ true → has (own_left problem history) card ≡ true
    own_from card h =
        let parts = has-filter_parts (λ c. not (has (cards_of plays.seen) c)) problem.hold card
        (ap (λ (xs : List ℕ). has xs card) (sym (left_remaining start hands Owner plays.seen)) ∙ h) in
        has_set_from (has (filter (λ c. not (has (own_cards history) c)) problem.hold)) card (hold_is_card problem setup card parts.0)
        (has-filter_from (λ c. not (has (own_cards history) c)) problem.hold card parts.0 (ap not (sym (own_unplayed card parts.0)) ∙ parts.1))

    -- a turn of the side that is asked, as the last turn of a history
    unfoldable pub turn_of : (side : Side) (turn : Move) → asked_now problem history ≡ side_asked side → MayTake hands side turn before →
        NextPlay start hands (event_by side turn) history plays
    turn_of side turn asked take =
        let is_open = asked_mover start (filled_record start (history_letters history)) side asked in
        let mover_is : mover (pone_of start) (letters_of before) ≡ side = mover_same problem setup dealt deal history plays ∙ is_open.1 in
        record {
          turn = turn;
          shows = ap (λ (s : Side). event_by s turn) is_open.1;
          may = record { not_done = ap (is_done start) (past_same problem setup dealt deal history plays) ∙ is_open.0; may_take = rw mover_is take };
        }

    pub fits_same : (card : ℕ) → fits before card ≡ leb (count_after problem history + card_value card) 31
    fits_same card = ap (λ (n : ℕ). leb (n + card_value card) 31) (count_same problem setup dealt deal history plays)

    -- a turn of the owner that can be next, as the last turn of a history
    pub own_turn : (turn : Move) → MayCome problem history (Own turn) → NextPlay start hands (Own turn) history plays
    own_turn (move.Card card) may =
        turn_of Owner (move.Card card) may.0 (own_to card may.1, fits_same card ∙ le-leb (count_after problem history + card_value card) 31 may.2)
    own_turn move.Go may =
        turn_of Owner move.Go may.0
        (none_any (fits before) (cards_left hands Owner before)
        (λ card held. fits_same card ∙ none_passes (λ c. leb (count_after problem history + card_value c) 31) (own_left problem history) card may.1
        (own_from card held)))

    -- a turn that the owner takes can be next
    own_asked : mover (pone_of start) (letters_of before) ≡ Owner → is_done start (letters_of before) ≡ false → asked_now problem history ≡ turns.Owner
    own_asked m d = ap (asked_after start) (sym (past_same problem setup dealt deal history plays)) ∙ asked_is start (letters_of before) Owner d m

    own_may_take : (turn : Move) → asked_now problem history ≡ turns.Owner → MayTake hands Owner turn before → MayCome problem history (Own turn)
    own_may_take (move.Card card) asked take =
        (asked, own_from card take.0, leb-true (count_after problem history + card_value card) 31 (sym (fits_same card) ∙ take.1))
    own_may_take move.Go asked take = search (rules, none_any, fits_same, none_passes (fits before) (cards_left hands Owner before), own_to)

    pub own_may : (turn : Move) → mover (pone_of start) (letters_of before) ≡ Owner → legal.MayCome start hands turn before → MayCome problem history (Own turn)
    own_may turn m may = own_may_take turn (own_asked m may.not_done) (rw m at may.may_take)

    -- the opponent plays a card of a rank, with which his hold passes
    their_card : (rank : ℕ) → MightPlay problem history rank → PassesRanks (least_value problem history) (rank ∷ their_ranks history) dealt.hold →
        NextPlay start hands (Theirs (Seen rank)) history plays
    their_card rank might passes =
        let all : count_rank rank (left problem setup dealt deal history plays) + ranks_of (their_ranks history) rank ≡ count_rank rank dealt.hold =
        left_played problem setup dealt deal history plays (λ other. eqb other rank) in
        let found = found_by (λ c. eqb (rank_of c) rank) (left problem setup dealt deal history plays)
        (omega (arith, all, (passes rank might.is).enough, count_cons (λ other. eqb other rank) rank (their_ranks history), one_same rank)) in
        let is : rank_of found.card ≡ rank = eqb-true (rank_of found.card) rank found.passes in
        rw (← is) (turn_of Opponent (move.Card found.card) might.asked
        (found.held, fits_same found.card ∙ le-leb (count_after problem history + card_value found.card) 31 (omega (arith, ap rank_value is))))

    -- the opponent says go, and holds no card that fits
    their_go : MightGo problem history → PassesRanks (least_value problem (Theirs Go ∷ history)) (their_ranks history) dealt.hold →
        NextPlay start hands (Theirs Go) history plays
    their_go might passes =
        turn_of Opponent move.Go might.asked
        (none_any (fits before) (left problem setup dealt deal history plays) (λ card held. fits_same card ∙ too_high card held))
      where
        told : least_value problem (Theirs Go ∷ history) ≡ max (32 - count_after problem history) (least_value problem history)
        told = least_after_go problem history (started problem setup)
            (plays_taken start hands history plays (started problem setup) (dealt_is problem setup dealt deal)) might.asked

        too_high : (card : ℕ) → has (left problem setup dealt deal history plays) card ≡ true → leb (count_after problem history + card_value card) 31 ≡ false
        too_high card held =
            let mine = (has-filter_parts (λ c. not (has (cards_of before) c)) dealt.hold card held).0 in
            let passed = passes (rank_of card) (rank_is card (hold_cards problem setup dealt deal card mine)) in
            let all : count_rank (rank_of card) (left problem setup dealt deal history plays) + ranks_of (their_ranks history) (rank_of card) ≡ count_rank
            (rank_of card) dealt.hold =
            left_played problem setup dealt deal history plays (λ other. eqb other (rank_of card)) in
            let some : 1 ≤ count_rank (rank_of card) (left problem setup dealt deal history plays) =
            count_here (λ c. eqb (rank_of c) (rank_of card)) (left problem setup dealt deal history plays) card held
            (eq-eqb (rank_of card) (rank_of card) refl) in
            elim passed.high [
              | inl high ↦ let same = told in lt-leb (count_after problem history + card_value card) 31 (omega (arith, high, same))
              | inr same ↦ absurd (omega (arith, same, all, some))
            ]

-- ---- fewer turns ask less of a hold
fewer_high : (least value card_value held all played : ℕ) (same : Bool) → (same ≡ true → card_value ≡ value) → least ≤ card_value →
    all ≡ one_if same + played → (least ≤ value) ⊎ (held ≤ all) → (least ≤ value) ⊎ (held ≤ played)
fewer_high least value card_value held all played same is high more now = grind (arith, nat_tests)

shrink_card : (least : ℕ) (played hold : List ℕ) (card_rank : ℕ) → least ≤ rank_value card_rank → PassesRanks least (card_rank ∷ played) hold →
    PassesRanks least played hold
shrink_card least played hold card_rank high passes rank is =
    let now = passes rank is in
    let more = count_cons (λ other. eqb other rank) card_rank played in
    record {
      enough = omega (arith, now.enough, more);
      high = fewer_high least (rank_value rank) (rank_value card_rank) (count_rank rank hold) (ranks_of (card_rank ∷ played) rank) (ranks_of played rank)
          (eqb card_rank rank) (λ e. ap rank_value (eqb-true card_rank rank e)) high more now.high;
    }

passes_before : (problem : Setup) (event : Event) (history : List Event) (played hold : List ℕ) →
    PassesRanks (least_value problem (event ∷ history)) played hold → PassesRanks (least_value problem history) played hold
passes_before problem event history played hold passes rank is =
    let now = passes rank is in
    let less = least_before problem history event in
    record { enough = now.enough; high = elim now.high [ inl low ↦ inl (omega (arith, low, less)) | inr same ↦ inr same ] }

-- ---- a letter that can be shown might be next
pub can_might : (problem : Setup) → IsSetup problem → (history : List Event) (letter : Letter) → CanShow problem history letter → Might problem history letter
can_might problem setup history letter can =
    search (rules, plays_of (start_of problem), started problem setup, dealt_is problem setup can.0, covers problem setup can.0, last_play (start_of problem))

-- a turn of the owner that can be next, or a letter that the opponent might show
abbrev pub MightCome : Setup → List Event → Event → Type 0
MightCome problem history (Own turn) = MayCome problem history (Own turn)
MightCome problem history (Theirs letter) = Might problem history letter

pub may_might : (problem : Setup) → IsSetup problem → (history : List Event) (event : Event) → MayCome problem history event → MightCome problem history event
may_might problem setup history (Own turn) may = may
may_might problem setup history (Theirs letter) may = can_might problem setup history letter may

-- where the opponent can show a letter, he is asked, and it is a letter
pub theirs_asked : (problem : Setup) → IsSetup problem → (history : List Event) (letter : Letter) → CanShow problem history letter →
    asked_now problem history ≡ turns.Opponent
theirs_asked problem setup history (Seen rank) can = (can_might problem setup history (Seen rank) can).asked
theirs_asked problem setup history Go can = (can_might problem setup history Go can).asked

pub theirs_letter : (problem : Setup) → IsSetup problem → (history : List Event) (letter : Letter) → CanShow problem history letter → IsLetter letter
theirs_letter problem setup history (Seen rank) can = (can_might problem setup history (Seen rank) can).is
theirs_letter problem setup history Go can = tt

-- ---- each deal that passes agrees
module _ (problem : Setup) (setup : IsSetup problem) (dealt : Dealt) (deal : IsDealOf problem dealt) where
  -- the hold passes with what a history shows
  abbrev pub PassesAfter : List Event → Type 0
  PassesAfter history = PassesRanks (least_value problem history) (their_ranks history) dealt.hold

  pub passes_less : (event : Event) (history : List Event) → MightCome problem history event → PassesAfter (event ∷ history) → PassesAfter history
  passes_less (Own turn) history might passes = passes_before problem (Own turn) history (their_ranks history) dealt.hold passes
  passes_less (Theirs (Seen rank)) history might passes =
      shrink_card (least_value problem history) (their_ranks history) dealt.hold rank might.high
      (passes_before problem (Theirs (Seen rank)) history (rank ∷ their_ranks history) dealt.hold passes)
  passes_less (Theirs Go) history might passes = passes_before problem (Theirs Go) history (their_ranks history) dealt.hold passes

  -- a turn that might be next, as the next one of these hands
  pub next_play : (event : Event) (history : List Event) (before : Plays (start_of problem) (hands_of problem dealt) history) →
      MightCome problem history event → PassesAfter (event ∷ history) → NextPlay (start_of problem) (hands_of problem dealt) event history before
  next_play (Own turn) history before might passes = own_turn problem setup dealt deal history before turn might
  next_play (Theirs (Seen rank)) history before might passes =
      their_card problem setup dealt deal history before rank might
      (passes_before problem (Theirs (Seen rank)) history (rank ∷ their_ranks history) dealt.hold passes)
  next_play (Theirs Go) history before might passes = their_go problem setup dealt deal history before might passes

  more_plays : (event : Event) (history : List Event) → MightCome problem history event → PassesAfter (event ∷ history) →
      (PassesAfter history → Plays (start_of problem) (hands_of problem dealt) history) → Plays (start_of problem) (hands_of problem dealt) (event ∷ history)
  more_plays event history might passes plays =
      let before = plays (passes_less event history might passes) in
      play_more (start_of problem) (hands_of problem dealt) event history before (next_play event history before might passes)

  pub passing_plays : (history : List Event) → IsLed problem history → PassesAfter history → Plays (start_of problem) (hands_of problem dealt) history
  passing_plays [] led passes = record { seen = []; legal = tt; shows = refl }
  passing_plays (event ∷ history) led passes = more_plays event history (may_might problem setup history event led.1) passes (passing_plays history led.0)

  pub agrees_from : (history : List Event) → Plays (start_of problem) (hands_of problem dealt) history → AgreesWith problem history dealt
  agrees_from history plays =
      (deal, agrees_of (start_of problem) (hands_of problem dealt) history (started problem setup) (dealt_is problem setup dealt deal) plays)

  pub passing_agrees : (history : List Event) → IsLed problem history → PassesAfter history → AgreesWith problem history dealt
  passing_agrees history led passes = agrees_from history (passing_plays history led passes)

  pub agrees_passes : (history : List Event) → AgreesWith problem history dealt → PassesAfter history
  agrees_passes history agrees =
      agreeing_passes problem setup dealt deal history (plays_of (start_of problem) (hands_of problem dealt) history (started problem setup)
      (dealt_is problem setup dealt deal) agrees.1)

  -- a letter that might be next is shown by a hidden deal that passes with it
  pub shows_letter : (history : List Event) (letter : Letter) → IsLed problem history → Might problem history letter → PassesAfter (Theirs letter ∷ history) →
      CanShow problem history letter
  shows_letter history letter led might passes =
      (dealt, agrees_from (Theirs letter ∷ history) (more_plays (Theirs letter) history might passes (passing_plays history led)))
