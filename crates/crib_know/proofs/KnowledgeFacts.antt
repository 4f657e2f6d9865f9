-- What a knowledge says of the histories that it represents.
use Rattle.std.proofs.Common.{rules}
use Rattle.std.proofs.Common.{◌≡◌, ℕ, ◌<◌, ◌≤◌, true, false, not, eqb, ltb, List, [], ◌∷◌, ◌++◌, map, length, refl, sym, ap}
use Rattle.std.proofs.Common.{◌∙◌, arith}
use Rattle.std.proofs.lemmas.Bool.{and_parts, both_ways, ltb-true}
use Rattle.crib_cards.specs.Cards.{IsRank, rank_of}
use Rattle.crib_cards.specs.Sets.{count_rank}
use Rattle.crib_cards.specs.Start.{pone_of}
use Rattle.crib_cards.specs.declared.sides.Side.{Side}
use Rattle.crib_cards.specs.declared.sides.Side.TheVariants.{Owner, Opponent}
use Rattle.crib_cards.specs.declared.sides.Dealt.{Dealt}
use Rattle.crib_cards.specs.declared.letters.Letter.{Letter}
use Rattle.crib_cards.specs.declared.letters.Letter.TheVariants.{Seen, Go}
use Rattle.crib_cards.specs.declared.moves.Move.TheVariants as move
use Rattle.crib_play.specs.declared.turns.Turn.TheVariants as turns
use Rattle.crib_play.specs.Record.{mover, is_heard, has_said_go, cards_played}
use Rattle.crib_play.specs.Score.{is_done}
use Rattle.crib_play.specs.Filled.{filled_record}
use Rattle.crib_play.specs.Standing.{AreTaken}
use Rattle.crib_play.specs.Legal.{letters_of, cards_left}
use Rattle.crib_play.specs.History.{Event, Own, Theirs, history_letters}
use Rattle.crib_play.proofs.FilledRecords.{filled_stops}
use Rattle.crib_play.proofs.LegalRecords.{heard_next, legal_filled, taken_legal}
use Rattle.crib_play.proofs.TurnFacts.{play_of}
use Rattle.crib_play.proofs.RecordsReached.{asked_mover}
use Rattle.crib_cards.specs.declared.moves.Move.{Move}
use Rattle.crib_cards.specs.declared.moves.Act.{Act}
use Rattle.crib_play.specs.History.{event_of}
use Rattle.crib_problem.specs.Played.{cards_by}
use Rattle.crib_problem.specs.Setup.{Setup, IsSetup, unseen_of, start_of, hands_of, played_back, IsDealOf}
use Rattle.crib_problem.proofs.StartLemmas.{started}
use Rattle.crib_know.specs.Knowledge.{played_events, their_ranks, least_value, count_after, asked_now}
use Rattle.crib_know.specs.Hidden.{IsPossible, CanShow, BeginsAfter, IsFirstDeal}
use Rattle.crib_know.proofs.LedHistories.{MayCome, IsLed}
use Rattle.crib_know.proofs.ChosenRanks.{ranks_of}
use Rattle.crib_know.proofs.Events.{Plays, plays_of, plays_taken, play_more}
use Rattle.crib_know.proofs.CardLists.{count_all_of, each_member}
use Rattle.crib_know.proofs.Deals.{dealt_is, least_after_card, least_after_own, least_after_go_most, least_before}
use Rattle.crib_know.proofs.AgreeingIsPassing.{PassesRanks, Might, past, left_played, past_same, mover_same, played_most}
use Rattle.crib_know.proofs.PassingIsAgreeing.{can_might, passing_plays, passing_agrees, agrees_passes, shows_letter, own_turn}
use Rattle.crib_know.proofs.RankTotals.{one_more}
use Rattle.crib_know.proofs.FirstDeals.{Needs, Fixes, first_dealt, hold_passes, first_is_deal, first_in_order, other_after}
use Rattle.crib_cards.proofs.SetCounts.{count_cons}

-- one more card of a rank is seen, of which a card is unseen
there_more : (rank other : ℕ) (seen unseen : List ℕ) → ranks_of seen rank < count_rank rank unseen → ranks_of seen other ≤ count_rank other unseen →
    ranks_of (rank ∷ seen) other ≤ count_rank other unseen
there_more rank other seen unseen free there =
    omega (arith, count_cons (λ r. eqb r other) rank seen, one_more (ranks_of seen) (λ r. count_rank r unseen) rank other free there)

-- the ranks that the opponent has played are those of his cards among the acts
pub ranks_played : (acts : List Act) (rank : ℕ) → ranks_of (their_ranks (map event_of acts)) rank ≡ count_rank rank (cards_by Opponent acts)
ranks_played [] rank = refl
ranks_played (act ∷ before) rank = by_act act.side act.what (ranks_played before rank)
  where
    by_act : (side : Side) (what : Move) → ranks_of (their_ranks (map event_of before)) rank ≡ count_rank rank (cards_by Opponent before) →
        ranks_of (their_ranks (map event_of (record { side = side; what = what } ∷ before))) rank ≡ count_rank rank
        (cards_by Opponent (record { side = side; what = what } ∷ before))
    by_act Owner what rest = rest
    by_act Opponent move.Go rest = rest
    by_act Opponent (move.Card card) rest =
        let one = count_cons (λ r. eqb r rank) (rank_of card) (their_ranks (map event_of before)) in
        omega (arith, rest, one, count_cons (λ c. eqb (rank_of c) rank) card (cards_by Opponent before))

-- later turns only add ranks
ranks_more : (later history : List Event) (rank : ℕ) → ranks_of (their_ranks history) rank ≤ ranks_of (their_ranks (later ++ history)) rank
ranks_more [] history rank = omega arith
ranks_more (Own turn ∷ later) history rank = ranks_more later history rank
ranks_more (Theirs Go ∷ later) history rank = ranks_more later history rank
ranks_more (Theirs (Seen first) ∷ later) history rank =
    omega (arith, ranks_more later history rank, count_cons (λ r. eqb r rank) first (their_ranks (later ++ history)))

-- a history that begins with the opening still does so with one more turn
pub begin_more : (problem : Setup) (event : Event) (history : List Event) → BeginsAfter problem history → BeginsAfter problem (event ∷ history)
begin_more problem event history begun = record { later = event ∷ begun.later; parts = ap (λ (h : List Event). event ∷ h) begun.parts }

module _ (problem : Setup) (setup : IsSetup problem) where
  -- ---- what a history asks of a hold
  needs_shown : (history : List Event) (letter : Letter) → Needs problem setup (their_ranks history) (least_value problem history) →
      Might problem history letter → length (their_ranks (Theirs letter ∷ history)) ≤ 4 →
      Needs problem setup (their_ranks (Theirs letter ∷ history)) (least_value problem (Theirs letter ∷ history))
  needs_shown history (Seen rank) needs might most = record {
    are = each_member (λ r. IsRank r) rank (their_ranks history) might.is needs.are;
    most = most;
    there = λ other. there_more rank other (their_ranks history) (unseen_of problem) might.free (needs.there other);
    least_most = omega (arith, least_after_card problem history rank, needs.least_most);
  }
  needs_shown history Go needs might most = search (rules, least_after_go_most problem history)

  pub needs_history : (history : List Event) → IsLed problem history → Needs problem setup (their_ranks history) (least_value problem history)
  needs_history [] led = record { are = λ rank h. absurd (both_ways false refl h); most = omega arith; there = λ rank. omega arith; least_most = omega arith }
  needs_history (Own turn ∷ history) led = search (rules, needs_history history led.0, least_after_own problem history turn (owner_asked turn led.1))
    where
      owner_asked : (own : Move) → MayCome problem history (Own own) → asked_now problem history ≡ turns.Owner
      owner_asked (move.Card card) may = may.0
      owner_asked move.Go may = may.0
  needs_history (Theirs letter ∷ history) led =
      let can : CanShow problem history letter = led.1 in
      let hands = hands_of problem can.0 in
      let plays = plays_of (start_of problem) hands (Theirs letter ∷ history) (started problem setup) (dealt_is problem setup can.0 can.1.0) can.1.1 in
      needs_shown history letter (needs_history history led.0) (can_might problem setup history letter can)
      (played_most problem setup can.0 can.1.0 (Theirs letter ∷ history) plays)

  pub least_low : (history : List Event) → 1 ≤ least_value problem history
  least_low [] = omega arith
  least_low (event ∷ history) = let low = least_low history in let less = least_before problem history event in omega (arith, low, less)

  -- the ranks of the fixed cards are among those that were seen
  pub begun_fixes : (history : List Event) → BeginsAfter problem history → Fixes problem setup (their_ranks history)
  begun_fixes history begun rank =
      let more = ranks_more begun.later (played_events problem) rank in
      omega (arith, more, ranks_played (played_back problem) rank, ap (λ (h : List Event). ranks_of (their_ranks h) rank) begun.parts)

  -- ---- some deal agrees with it
  module _ (history : List Event) (led : IsLed problem history) (begun : BeginsAfter problem history) where
    abbrev fixes : Fixes problem setup (their_ranks history)
    fixes = begun_fixes history begun

    abbrev needs : Needs problem setup (their_ranks history) (least_value problem history)
    needs = needs_history history led

    abbrev first : Dealt
    first = first_dealt problem setup (their_ranks history) (least_value problem history)

    first_deal : IsDealOf problem first
    first_deal = first_is_deal problem setup (their_ranks history) (least_value problem history) needs fixes

    first_passes : PassesRanks (least_value problem history) (their_ranks history) first.hold
    first_passes = hold_passes problem setup (their_ranks history) (least_value problem history) needs fixes

    first_plays : Plays (start_of problem) (hands_of problem first) history
    first_plays = passing_plays problem setup first first_deal history led first_passes

    pub are_taken : AreTaken (start_of problem) (history_letters history)
    are_taken = plays_taken (start_of problem) (hands_of problem first) history first_plays (started problem setup) (dealt_is problem setup first first_deal)

    -- a go of the owner is at a count of at least 22
    pub high_own_go : MayCome problem history (Own move.Go) → 22 ≤ count_after problem history
    high_own_go may =
        let last = own_turn problem setup first first_deal history first_plays move.Go may in
        let plays = play_more (start_of problem) (hands_of problem first) (Own move.Go) history first_plays last in
        (plays_taken (start_of problem) (hands_of problem first) (Own move.Go ∷ history) plays (started problem setup)
        (dealt_is problem setup first first_deal)).1.may_show

    -- an opponent who is asked holds a card
    pub holds_one : asked_now problem history ≡ turns.Opponent → length (their_ranks history) < 4
    holds_one asked =
        let start = start_of problem in
        let hands = hands_of problem first in
        let dealt_ok = dealt_is problem setup first first_deal in
        let moves = past problem setup first first_deal history first_plays in
        let is_open = asked_mover start (filled_record start (history_letters history)) Opponent asked in
        let mover_is : mover (pone_of start) (letters_of moves) ≡ Opponent = mover_same problem setup first first_deal history first_plays ∙ is_open.1 in
        let not_done : is_done start (letters_of moves) ≡ false = ap (is_done start) (past_same problem setup first first_deal history first_plays)
        ∙ is_open.0 in
        let taken = taken_legal start hands first_plays.seen (started problem setup) dealt_ok first_plays.legal in
        let heard = heard_next start (letters_of moves) (filled_stops start first_plays.seen (started problem setup) taken) not_done in
        let mine : is_heard (pone_of start) Opponent (letters_of moves) ≡ true = ap (λ (side : Side). is_heard (pone_of start) side (letters_of moves))
        (sym mover_is) ∙ heard in
        let few = ltb-true (cards_played (pone_of start) Opponent (letters_of moves)) 4
        (and_parts (ltb (cards_played (pone_of start) Opponent (letters_of moves)) 4) (not (has_said_go (pone_of start) Opponent (letters_of moves)))
        mine).0 in
        let whole = (play_of start hands dealt_ok moves (legal_filled start hands first_plays.seen dealt_ok first_plays.legal)).left Opponent in
        let all = left_played problem setup first first_deal history first_plays (λ _. true) in
        let four : length first.hold ≡ 4 = first_deal.deal.held in
        omega (arith, few, whole, all, four, count_all_of (cards_left hands Opponent moves), count_all_of (their_ranks history), count_all_of first.hold)

    -- ---- a letter can be shown exactly where it might be next
    pub shows : (letter : Letter) → Might problem history letter → CanShow problem history letter
    shows letter might =
        let event = Theirs letter in
        let least = least_value problem (event ∷ history) in
        let seen = their_ranks (event ∷ history) in
        let more = needs_shown history letter needs might (at_most_four letter might) in
        let fixes_more = begun_fixes (event ∷ history) (begin_more problem event history begun) in
        shows_letter problem setup (first_dealt problem setup seen least) (first_is_deal problem setup seen least more fixes_more) history letter led might
        (hold_passes problem setup seen least more fixes_more)
      where
        at_most_four : (shown : Letter) → Might problem history shown → length (their_ranks (Theirs shown ∷ history)) ≤ 4
        at_most_four (Seen rank) play = omega (arith, holds_one play.asked)
        at_most_four Go play = needs.most

    -- ---- the first deal
    pub first_deal_is : IsFirstDeal problem history first
    first_deal_is = record {
      agrees = passing_agrees problem setup first first_deal history led first_passes;
      in_order = first_in_order problem setup (their_ranks history) (least_value problem history) needs fixes;
      first = λ other agrees. other_after problem setup (their_ranks history) (least_value problem history) needs fixes other agrees.0
          (agrees_passes problem setup other agrees.0 history agrees);
    }

    pub led_possible : IsPossible problem history
    led_possible = (first, first_deal_is.agrees)
