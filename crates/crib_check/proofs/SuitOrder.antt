-- The history and the hold fix a record in which the opponent plays equal ranks in suit order.
use Rattle.std.proofs.Common.{◌≡◌, ℕ, ◌<◌, ◌≤◌, true, false, not, List, [], ◌∷◌, ◌++◌, map}
use Rattle.std.proofs.Common.{length, length-append, refl, sym, ap, ◌∙◌, inl, inr, arith}
use Rattle.std.proofs.lemmas.Bool.{cases_order, both_ways, not-true, false_from_ne_true}
use Rattle.std.proofs.lemmas.Bool.Decides.{nat_tests}
use Rattle.crib_cards.proofs.SetLemmas.{has_push}
use Rattle.std.proofs.lemmas.List.{length-map}
use Rattle.crib_cards.specs.Cards.{rank_of}
use Rattle.crib_cards.specs.Sets.{has}
use Rattle.crib_cards.specs.Start.{Start, pone_of, Hands}
use Rattle.crib_cards.specs.declared.sides.Side.{Side}
use Rattle.crib_cards.specs.declared.sides.Side.TheVariants.{Owner, Opponent}
use Rattle.crib_cards.specs.declared.moves.Move.{Move}
use Rattle.crib_cards.specs.declared.moves.Move.TheVariants as move
use Rattle.crib_cards.specs.declared.moves.Act.{Act}
use Rattle.crib_play.specs.Record.{mover}
use Rattle.crib_play.specs.Legal.{letters_of, cards_of, cards_left, MayTake}
use Rattle.crib_play.specs.History.{event_of, event_by, filled_moves, AreLegal, moves_of}
use Rattle.crib_play.proofs.CardLemmas.{none_passes}
use Rattle.crib_problem.specs.Played.{cards_by}
use Rattle.crib_know.proofs.Events.{events}
use Rattle.crib_know.proofs.CardsLeft.{left_remaining, has-filter_parts}
use Rattle.crib_sure.specs.SuitOrder.{is_in_turn, is_in_suit_order}
use Rattle.crib_sure.proofs.AgreeingInSuitOrder.{same_side_of}
use Rattle.crib_sure.proofs.AgreeingInSuitOrder.{theirs_with}

-- ---- at each turn there is one card to play
module _ (few : ℕ) (start : Start) (hands : Hands) where
  played_is : (acts : List Act) (card : ℕ) → has (cards_by Opponent acts) card ≡ true → has (cards_of (moves_of acts)) card ≡ true
  played_is [] card h = h
  played_is (act ∷ acts) card h = by act.side act.what (played_is acts card) h
    where
      by : (side : Side) (what : Move) → (has (cards_by Opponent acts) card ≡ true → has (cards_of (moves_of acts)) card ≡ true) →
          has (theirs_with side what (cards_by Opponent acts)) card ≡ true → has (cards_of (what ∷ moves_of acts)) card ≡ true
      by Owner (move.Card played) before is = grind (arith, nat_tests, has_push (cards_of (moves_of acts)) played card, before is)
      by Opponent (move.Card played) before is = grind (arith, nat_tests, has_push (cards_of (moves_of acts)) played card, before, is)
      by Owner move.Go before is = before is
      by Opponent move.Go before is = before is

  -- a card that may be played is in the hold, and was not played
  module _ (acts : List Act) (card : ℕ) (held : has (cards_left hands Opponent (filled_moves start (moves_of acts))) card ≡ true) where
    in_hold : (has hands.opponent card ≡ true) × (not (has (cards_of (moves_of acts)) card) ≡ true)
    in_hold = has-filter_parts (λ c. not (has (cards_of (moves_of acts)) c)) hands.opponent card
        (ap (λ (cards : List ℕ). has cards card) (sym (left_remaining start hands Opponent (moves_of acts))) ∙ held)

    unplayed : has (cards_by Opponent acts) card ≡ false
    unplayed = false_from_ne_true _ (λ is. both_ways _ (not-true _ in_hold.1) (played_is acts card is))

    -- so no higher card of its rank is played in suit order
    not_higher : (higher : ℕ) → rank_of card ≡ rank_of higher → card < higher → is_in_turn hands.opponent (cards_by Opponent acts) higher ≡ true → ⊥
    not_higher higher rank less order =
        let fails = none_passes _ hands.opponent card (not-true _ order) in_hold.0 in grind (arith, nat_tests, fails, rank, less, unplayed)

  -- each card after the opening is played in suit order
  order_parts : (card : ℕ) (cards : List ℕ) → few ≤ length cards → is_in_suit_order few hands.opponent (card ∷ cards) ≡ true →
      (is_in_turn hands.opponent cards card ≡ true) × (is_in_suit_order few hands.opponent cards ≡ true)
  order_parts card cards enough order = grind (arith, nat_tests, enough, order)

  order_rest : (side : Side) (what : Move) (cards : List ℕ) → few ≤ length cards → is_in_suit_order few hands.opponent (theirs_with side what cards) ≡ true →
      is_in_suit_order few hands.opponent cards ≡ true
  order_rest Owner what cards enough order = order
  order_rest Opponent (move.Card card) cards enough order = (order_parts card cards enough order).1
  order_rest Opponent move.Go cards enough order = order

  same_what : (acts : List Act) (side : Side) (what other : Move) → few ≤ length (cards_by Opponent acts) → event_by side what ≡ event_by side other →
      MayTake hands side what (filled_moves start (moves_of acts)) → MayTake hands side other (filled_moves start (moves_of acts)) →
      is_in_suit_order few hands.opponent (theirs_with side what (cards_by Opponent acts)) ≡ true →
      is_in_suit_order few hands.opponent (theirs_with side other (cards_by Opponent acts)) ≡ true → what ≡ other
  same_what acts Opponent (move.Card card) (move.Card other) enough e take take_other order order_other =
      let rank : rank_of card ≡ rank_of other = cc in
      elim (cases_order card other) [
        | inl same ↦ ap move.Card same
        | inr (inl less) ↦ absurd (not_higher acts card take.0 other rank less (order_parts other (cards_by Opponent acts) enough order_other).0)
        | inr (inr more) ↦ absurd (not_higher acts other take_other.0 card (sym rank) more (order_parts card (cards_by Opponent acts) enough order).0)
      ]
  same_what acts Opponent move.Go (move.Card other) enough e take take_other order order_other = absurd cc
  same_what acts side what other enough e take take_other order order_other = cc

  -- acts that begin with the same acts
  module _ (base : List Act) (enough : few ≤ length (cards_by Opponent base)) where
    more_cards : (acts : List Act) → few ≤ length (cards_by Opponent (acts ++ base))
    more_cards [] = enough
    more_cards (act ∷ acts) = by act.side act.what (more_cards acts)
      where
        by : (side : Side) (what : Move) → few ≤ length (cards_by Opponent (acts ++ base)) →
            few ≤ length (theirs_with side what (cards_by Opponent (acts ++ base)))
        by Opponent (move.Card card) most = omega (arith, most)
        by side what most = most

    longer_list : (act : Act) (acts : List Act) → map event_of base ≡ map event_of (act ∷ acts ++ base) → ⊥
    longer_list act acts same =
        omega (arith, ap length same, length-map base event_of, length-map (acts ++ base) event_of, length-append acts base)

    pub same_suits : (acts others : List Act) → AreLegal start hands (moves_of (acts ++ base)) → AreLegal start hands (moves_of (others ++ base)) →
        events start (moves_of (acts ++ base)) ≡ map event_of (acts ++ base) → events start (moves_of (others ++ base)) ≡ map event_of (others ++ base) →
        map event_of (acts ++ base) ≡ map event_of (others ++ base) → is_in_suit_order few hands.opponent (cards_by Opponent (acts ++ base)) ≡ true →
        is_in_suit_order few hands.opponent (cards_by Opponent (others ++ base)) ≡ true → acts ≡ others
    same_suits [] [] legal legal_other shows shows_other same order order_other = refl
    same_suits [] (other ∷ others) legal legal_other shows shows_other same order order_other = absurd (longer_list other others same)
    same_suits (act ∷ acts) [] legal legal_other shows shows_other same order order_other = absurd (longer_list act acts (sym same))
    same_suits (act ∷ acts) (other ∷ others) legal legal_other shows shows_other same order order_other =
        let who = mover (pone_of start) (letters_of (filled_moves start (moves_of (acts ++ base)))) in
        let who_other = mover (pone_of start) (letters_of (filled_moves start (moves_of (others ++ base)))) in
        let first : event_by act.side act.what ≡ event_by other.side other.what = cc in
        let side = same_side_of act.side other.side act.what other.what first in
        let most = more_cards acts in
        let rest = same_suits acts others legal.0 legal_other.0 (cc) (cc) (cc) (order_rest act.side act.what (cards_by Opponent (acts ++ base)) most order)
        (order_rest other.side other.what (cards_by Opponent (others ++ base)) (more_cards others) order_other) in
        let take = rw (same_side_of who act.side act.what act.what (cc)) at legal.1.may_take in
        let take_other = rw (same_side_of who_other other.side other.what other.what (cc), ← side, ← rest) at legal_other.1.may_take in
        let what = same_what (acts ++ base) act.side act.what other.what most (rw (← side) at first) take take_other order
        (rw (← side, ← rest) at order_other) in
        λ i. record { side = side i; what = what i } ∷ rest i
