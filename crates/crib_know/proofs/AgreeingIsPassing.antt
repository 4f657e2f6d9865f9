-- Each hidden deal that agrees with a history passes, and the letter that it shows next can be next.
use Rattle.std.proofs.lemmas.Bool.Decides.{nat_tests}
use Rattle.std.proofs.Common.{◌≡◌, ◌⊎◌, ℕ, ◌+◌, ◌<◌, ◌≤◌, Bool, true, false, not, ◌&&◌, ◌||◌, eqb, leb, List, map, length, count_by, refl, sym, ap, ◌∙◌}
use Rattle.std.proofs.Common.{inl, inr, arith}
use Rattle.std.proofs.lemmas.Bool.{cases_lt, cond-false, eq-eqb, ne_eqb, leb-true}
use Rattle.crib_cards.specs.Cards.{IsRank, rank_of, rank_value, card_value}
use Rattle.crib_cards.specs.Sets.{has, rank_counts, count_rank}
use Rattle.crib_cards.specs.Start.{Start, pone_of, Hands}
use Rattle.crib_cards.specs.declared.sides.Side.{Side}
use Rattle.crib_cards.specs.declared.sides.Side.TheVariants.{Owner, Opponent}
use Rattle.crib_cards.specs.declared.sides.Dealt.{Dealt}
use Rattle.crib_cards.specs.declared.letters.Letter.{Letter}
use Rattle.crib_cards.specs.declared.letters.Letter.TheVariants.{Seen, Go}
use Rattle.crib_cards.specs.Letters.{letter_of}
use Rattle.crib_cards.specs.declared.moves.Move.{Move}
use Rattle.crib_cards.specs.declared.moves.Move.TheVariants as move
use Rattle.crib_cards.proofs.CountLemmas.{count_at-rank_counts}
use Rattle.crib_play.specs.declared.turns.Turn.TheVariants as turns
use Rattle.crib_play.specs.Record.{Record, mover, is_heard, count_of, pile_of}
use Rattle.crib_play.specs.Score.{is_done, side_asked, asked_after}
use Rattle.crib_play.specs.Filled.{filled_record}
use Rattle.crib_play.specs.Least.{least_of}
use Rattle.crib_play.specs.Legal.{letters_of, cards_of, cards_left, MayTake, MayCome}
use Rattle.crib_play.specs.History.{filled_moves, Event, Own, Theirs, event_by, history_letters}
use Rattle.crib_play.proofs.FilledRecords.{filled_stops}
use Rattle.crib_play.proofs.LegalRecords.{legal_filled, heard_next, taken_legal}
use Rattle.crib_play.proofs.TurnFacts.{play_of, high_go}
use Rattle.crib_play.proofs.LeastValues.{least_left}
use Rattle.crib_problem.specs.Setup.{Setup, IsSetup, known_cards, unseen_of, start_of, hands_of, IsDealOf}
use Rattle.crib_problem.proofs.StartLemmas.{started}
use Rattle.crib_know.specs.Knowledge.{their_ranks, least_value, count_after, asked_now}
use Rattle.crib_know.proofs.ChosenRanks.{ranks_of}
use Rattle.crib_know.specs.Hidden.{passes_rank, passes}
use Rattle.crib_know.proofs.Events.{Plays, plays_filled, LastPlay}
use Rattle.crib_know.proofs.CardsLeft.{remaining, left_remaining, left_and_played, has-filter_parts}
use Rattle.crib_know.proofs.CardLists.{count_here, count_none_of, count_map, count_within, count_all_of, all_ranks_from, all_ranks}
use Rattle.crib_know.proofs.Deals.{dealt_is, hold_unseen, hold_cards, hold_distinct}
use Rattle.crib_cards.proofs.Members.{rank_is}

-- ---- counts of a rank
-- a hold has as many cards of a rank as it must have after some ranks were played
pub record PassesRank (least : ℕ) (played : List ℕ) (hold : List ℕ) (rank : ℕ) : Type 0 where
  pub enough : ranks_of played rank ≤ count_rank rank hold
  pub high : (least ≤ rank_value rank) ⊎ (count_rank rank hold ≤ ranks_of played rank)

abbrev pub PassesRanks : ℕ → List ℕ → List ℕ → Type 0
PassesRanks least played hold = (rank : ℕ) → IsRank rank → PassesRank least played hold rank

module _ (least : ℕ) (played hold : List ℕ) where
  -- whether a hold passes for a rank
  passes_as : (rank : ℕ) → IsRank rank → passes_rank least (rank_counts played) (rank_counts (map rank_of hold)) rank
      ≡ (leb (ranks_of played rank) (count_rank rank hold) && (leb least (rank_value rank) || leb (count_rank rank hold) (ranks_of played rank)))
  passes_as rank is =
      grind (arith, nat_tests, count_at-rank_counts played rank is, count_at-rank_counts (map rank_of hold) rank is, count_map rank_of rank hold)

  pub passes_from : PassesRanks least played hold → passes least (rank_counts played) hold ≡ true
  passes_from each =
      all_ranks_from (passes_rank least (rank_counts played) (rank_counts (map rank_of hold)))
      (λ rank is. grind (arith, nat_tests, passes_as rank is, (each rank is).enough, (each rank is).high))

  pub passes_to : passes least (rank_counts played) hold ≡ true → PassesRanks least played hold
  passes_to all rank is =
      let here = all_ranks (passes_rank least (rank_counts played) (rank_counts (map rank_of hold))) all rank is in
      record { enough = grind (arith, nat_tests, passes_as rank is, here); high = grind (arith, nat_tests, passes_as rank is, here) }

-- ---- turns
pub theirs_is : (m : Side) (turn : Move) (letter : Letter) → event_by m turn ≡ Theirs letter → (m ≡ Opponent) × (letter_of turn ≡ letter)
theirs_is Owner turn letter e = absurd cc
theirs_is Opponent turn letter e = (refl, cc)

pub own_is : (m : Side) (turn own : Move) → event_by m turn ≡ Own own → (m ≡ Owner) × (turn ≡ own)
own_is Owner turn own e = (refl, cc)
own_is Opponent turn own e = absurd cc

-- whom the rules ask
pub asked_is : (start : Start) (past : Record) (side : Side) → is_done start past ≡ false → mover (pone_of start) past ≡ side →
    asked_after start past ≡ side_asked side
asked_is start past side d m = cond-false (is_done start past) turns.Over (side_asked (mover (pone_of start) past)) d ∙ ap side_asked m

-- ---- what the opponent may do next, as the owner sees it
pub record MightPlay (problem : Setup) (history : List Event) (rank : ℕ) : Type 0 where
  pub is : IsRank rank
  pub asked : asked_now problem history ≡ turns.Opponent
  pub fits : count_after problem history + rank_value rank ≤ 31
  pub high : least_value problem history ≤ rank_value rank
  pub free : ranks_of (their_ranks history) rank < count_rank rank (unseen_of problem)

pub record MightGo (problem : Setup) (history : List Event) : Type 0 where
  pub asked : asked_now problem history ≡ turns.Opponent
  pub high : 22 ≤ count_after problem history

abbrev pub Might : Setup → List Event → Letter → Type 0
Might problem history (Seen rank) = MightPlay problem history rank
Might problem history Go = MightGo problem history

module _ (problem : Setup) (setup : IsSetup problem) (dealt : Dealt) (deal : IsDealOf problem dealt) where
  abbrev pub the_start : Start
  the_start = start_of problem

  abbrev pub the_hands : Hands
  the_hands = hands_of problem dealt

  -- no rank of the hold has more cards than are unseen
  pub held_unseen : (rank : ℕ) → count_rank rank dealt.hold ≤ count_rank rank (unseen_of problem)
  held_unseen rank =
      count_within (λ card. eqb (rank_of card) rank) (λ card. not (has (known_cards problem) card)) dealt.hold (hold_distinct problem setup dealt deal)
      (hold_unseen problem setup dealt deal)

  module _ (history : List Event) (plays : Plays the_start the_hands history) where
    abbrev pub past : List Move
    past = filled_moves the_start plays.seen

    abbrev pub left : List ℕ
    left = cards_left the_hands Opponent past

    pub left_played : (f : ℕ → Bool) → count_by (λ card. f (rank_of card)) left + count_by f (their_ranks history) ≡ count_by (λ card. f (rank_of card))
        dealt.hold
    left_played f =
        ap (λ (cards : List ℕ). count_by (λ card. f (rank_of card)) cards + count_by f (their_ranks history))
        (left_remaining the_start the_hands Opponent plays.seen)
        ∙ ap (λ (h : List Event). count_by (λ card. f (rank_of card)) (remaining (cards_of plays.seen) dealt.hold) + count_by f (their_ranks h))
        (sym plays.shows)
        ∙ left_and_played the_start the_hands (dealt_is problem setup dealt deal) f plays.seen plays.legal

    pub left_high : (card : ℕ) → has left card ≡ true → least_value problem history ≤ card_value card
    left_high card held =
        let low = least_left the_start the_hands Opponent past card
        (legal_filled the_start the_hands plays.seen (dealt_is problem setup dealt deal) plays.legal) held in
        omega (arith, low, ap (least_of (pone_of the_start) Opponent) (plays_filled the_start the_hands history plays))

    -- each hidden deal that agrees passes
    pub agreeing_passes : PassesRanks (least_value problem history) (their_ranks history) dealt.hold
    agreeing_passes rank is =
        let all : count_rank rank left + ranks_of (their_ranks history) rank ≡ count_rank rank dealt.hold = left_played (λ other. eqb other rank) in
        record {
          enough = omega (arith, all);
          high = elim (cases_lt (rank_value rank) (least_value problem history)) [
            | inl low ↦
                let none : count_rank rank left ≡ 0 = count_none_of (λ card. eqb (rank_of card) rank) left
                (λ card held.
                ne_eqb (rank_of card) rank (λ e. let value : card_value card ≡ rank_value rank = ap rank_value e in
                absurd (omega (arith, left_high card held, value, low)))) in
                inr (omega (arith, all, none))
            | inr enough ↦ inl enough
          ];
        }

    pub played_most : length (their_ranks history) ≤ 4
    played_most = omega (arith, left_played (λ _. true), count_all_of (their_ranks history), count_all_of dealt.hold)

    pub past_same : letters_of past ≡ filled_record the_start (history_letters history)
    past_same = plays_filled the_start the_hands history plays

    pub count_same : count_of (pile_of (letters_of past)) ≡ count_after problem history
    count_same = ap (λ (letters : Record). count_of (pile_of letters)) past_same

    pub mover_same : mover (pone_of the_start) (letters_of past) ≡ mover (pone_of the_start) (filled_record the_start (history_letters history))
    mover_same = ap (mover (pone_of the_start)) past_same

    now_asked : (side : Side) (turn : Move) → MayCome the_start the_hands turn past → mover (pone_of the_start) (letters_of past) ≡ side →
        asked_now problem history ≡ side_asked side
    now_asked side turn may m = ap (asked_after the_start) (sym past_same) ∙ asked_is the_start (letters_of past) side may.not_done m

    -- a card of the opponent
    covers_card : (card : ℕ) → MayCome the_start the_hands (move.Card card) past → mover (pone_of the_start) (letters_of past) ≡ Opponent →
        MightPlay problem history (rank_of card)
    covers_card card may m =
        let rank = rank_of card in
        let take : MayTake the_hands Opponent (move.Card card) past = rw m at may.may_take in
        let held : has left card ≡ true = take.0 in
        let low = left_high card held in
        let all : count_rank rank left + ranks_of (their_ranks history) rank ≡ count_rank rank dealt.hold = left_played (λ other. eqb other rank) in
        record {
          is = rank_is card (hold_cards problem setup dealt deal card (held_hold card held));
          asked = now_asked Opponent (move.Card card) may m;
          fits = omega (arith, leb-true (count_of (pile_of (letters_of past)) + card_value card) 31 take.1, count_same);
          high = low;
          free = omega (arith, all, count_here (λ c. eqb (rank_of c) rank) left card held (eq-eqb rank rank refl), held_unseen rank);
        }
      where
        held_hold : (card : ℕ) → has left card ≡ true → has dealt.hold card ≡ true
        held_hold card held = (has-filter_parts (λ c. not (has (cards_of past) c)) dealt.hold card held).0

    covers_pass : MayCome the_start the_hands move.Go past → mover (pone_of the_start) (letters_of past) ≡ Opponent → MightGo problem history
    covers_pass may m =
        let dealt_ok = dealt_is problem setup dealt deal in
        let legal = legal_filled the_start the_hands plays.seen dealt_ok plays.legal in
        let taken = taken_legal the_start the_hands plays.seen (started problem setup) dealt_ok plays.legal in
        let heard = heard_next the_start (letters_of past) (filled_stops the_start plays.seen (started problem setup) taken) may.not_done in
        let high = high_go the_start the_hands past (play_of the_start the_hands dealt_ok past legal) Opponent (rw m at may.may_take)
        (ap (λ (side : Side). is_heard (pone_of the_start) side (letters_of past)) (sym m) ∙ heard) in
        record { asked = now_asked Opponent move.Go may m; high = omega (arith, high, count_same) }

    covers_turn : (turn : Move) → MayCome the_start the_hands turn past → mover (pone_of the_start) (letters_of past) ≡ Opponent →
        Might problem history (letter_of turn)
    covers_turn (move.Card card) may m = covers_card card may m
    covers_turn move.Go may m = covers_pass may m

  -- the letter that an agreeing deal shows next can be next
  pub covers : (history : List Event) (letter : Letter) → LastPlay the_start the_hands (Theirs letter) history → Might problem history letter
  covers history letter last =
      let is = theirs_is (mover (pone_of the_start) (filled_record the_start (history_letters history))) last.1.turn letter last.1.shows in
      rw is.1 at (covers_turn history last.0 last.1.turn last.1.may (mover_same history last.0 ∙ is.0))
