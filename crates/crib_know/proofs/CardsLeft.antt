-- The cards that are left to each side after some visible turns.
use Rattle.std.proofs.Common.{rules}
use Rattle.std.proofs.Math.Bool.{or_comm}
use Rattle.std.proofs.Common.{◌≡◌, ℕ, ◌+◌, Bool, true, false, cond, not, ◌||◌, eqb, List, [], ◌∷◌, ◌++◌, count_by, refl, sym, ap, ◌∙◌, arith}
use Rattle.std.specs.List.{filter}
use Rattle.std.proofs.lemmas.Bool.{and_parts, and_from, both_ways, ne_eqb}
use Rattle.std.proofs.lemmas.Bool.Decides.{nat_tests}
use Rattle.std.proofs.Math.Bool.{or-false}
use Rattle.std.proofs.lemmas.List.Folds.{list_any-append}
use Rattle.crib_cards.specs.Cards.{rank_of}
use Rattle.crib_cards.specs.Sets.{has, are_distinct}
use Rattle.crib_cards.specs.Start.{Start, pone_of, Hands, hand_of}
use Rattle.crib_cards.specs.declared.sides.Side.{Side}
use Rattle.crib_cards.specs.declared.sides.Side.TheVariants.{Owner, Opponent}
use Rattle.crib_cards.specs.declared.moves.Move.{Move}
use Rattle.crib_cards.specs.declared.moves.Move.TheVariants as move
use Rattle.crib_play.specs.Record.{mover}
use Rattle.crib_play.specs.Legal.{IsDealt, letters_of, cards_of, cards_left}
use Rattle.crib_play.specs.History.{filled_moves, AreLegal, Event, event_by}
use Rattle.crib_play.proofs.CardLemmas.{IsWithout, filter_absent, count_present, distinct_apart_back, has_played}
use Rattle.crib_play.proofs.TurnFacts.{filter_all}
use Rattle.crib_know.specs.Knowledge.{own_cards, their_ranks}
use Rattle.crib_know.proofs.Events.{events}
use Rattle.crib_play.proofs.FilledRecords.{cards_filled}
use Rattle.crib_cards.proofs.Members.{distinct_right, distinct_apart}
use Rattle.crib_cards.proofs.SetCounts.{count_cons}
use Rattle.crib_cards.proofs.SetFacts.{has-filter}

-- ---- lists
pub eqb_same : (x : ℕ) → eqb x x ≡ true
eqb_same x = grind (arith, nat_tests)

-- a filtered list has those cards of the list that pass the test
pub has-filter_parts : (p : ℕ → Bool) (xs : List ℕ) (card : ℕ) → has (filter p xs) card ≡ true → (has xs card ≡ true) × (p card ≡ true)
has-filter_parts p xs card h = and_parts (has xs card) (p card) (sym (has-filter p xs card) ∙ h)

pub has-filter_from : (p : ℕ → Bool) (xs : List ℕ) (card : ℕ) → has xs card ≡ true → p card ≡ true → has (filter p xs) card ≡ true
has-filter_from p xs card h e = has-filter p xs card ∙ and_from (has xs card) (p card) h e

-- the list with a card that was left has one card more than the list without it
pub filter_present_by : (f p q : ℕ → Bool) (card : ℕ) → IsWithout p q card → (xs : List ℕ) → are_distinct xs ≡ true → has (filter p xs) card ≡ true →
    count_by f (filter q xs) + cond (f card) 1 0 ≡ count_by f (filter p xs)
filter_present_by f p q card without xs distinct h =
    let parts = has-filter_parts p xs card h in
    count_present f p q card without parts.1 xs distinct parts.0

-- ---- what is left after some cards
abbrev pub remaining : List ℕ → List ℕ → List ℕ
remaining cards hold = filter (λ card. not (has cards card)) hold

pub left_remaining : (start : Start) (hands : Hands) (side : Side) (seen : List Move) → cards_left hands side (filled_moves start seen) ≡ remaining
    (cards_of seen) (hand_of hands side)
left_remaining start hands side seen = ap (λ (cards : List ℕ). remaining cards (hand_of hands side)) (cards_filled start seen)

-- the opponent's hold is the cards that he has played and those that are left to him
module _ (start : Start) (hands : Hands) (dealt : IsDealt hands) (f : ℕ → Bool) where
  abbrev by_rank : ℕ → Bool
  by_rank card = f (rank_of card)

  abbrev is_whole : List ℕ → List Event → Type 0
  is_whole cards history = count_by by_rank (remaining cards hands.opponent) + count_by f (their_ranks history) ≡ count_by by_rank hands.opponent

  whole_go : (m : Side) (cards : List ℕ) (history : List Event) → is_whole cards history → is_whole cards (event_by m move.Go ∷ history)
  whole_go Owner cards history h = h
  whole_go Opponent cards history h = h

  whole_card : (m : Side) (card : ℕ) (cards : List ℕ) (history : List Event) → has (remaining cards (hand_of hands m)) card ≡ true → is_whole cards history →
      is_whole (cards ++ card ∷ []) (event_by m (move.Card card) ∷ history)
  whole_card Owner card cards history held h =
      let mine = (has-filter_parts (λ c. not (has cards c)) hands.owner card held).0 in
      ap (λ (left : List ℕ). count_by by_rank left + count_by f (their_ranks history))
      (filter_absent (λ c. not (has cards c)) (λ c. not (has (cards ++ card ∷ []) c)) card (λ other. has_played cards card other) hands.opponent
      (distinct_apart hands.owner hands.opponent card dealt.distinct mine))
      ∙ h
  whole_card Opponent card cards history held h =
      let less : count_by by_rank (remaining (cards ++ card ∷ []) hands.opponent) + cond (f (rank_of card)) 1 0 ≡ count_by by_rank
      (remaining cards hands.opponent) =
      filter_present_by by_rank (λ c. not (has cards c)) (λ c. not (has (cards ++ card ∷ []) c)) card (λ other. has_played cards card other) hands.opponent
      (distinct_right hands.owner hands.opponent dealt.distinct) held in
      let more : count_by f (rank_of card ∷ their_ranks history) ≡ cond (f (rank_of card)) 1 0 + count_by f (their_ranks history) =
      count_cons f (rank_of card) (their_ranks history) in
      omega (arith, less, more, h)

  pub left_and_played : (seen : List Move) → AreLegal start hands seen → is_whole (cards_of seen) (events start seen)
  left_and_played [] legal = let e : count_by by_rank (remaining [] hands.opponent) ≡ count_by by_rank hands.opponent =
      ap (count_by by_rank) (filter_all hands.opponent) in omega (arith, e)
  left_and_played (move.Go ∷ seen) legal = whole_go (mover (pone_of start) (letters_of (filled_moves start seen))) (cards_of seen) (events start seen)
      (left_and_played seen legal.0)
  left_and_played (move.Card card ∷ seen) legal = search (rules, whole_card, left_remaining start hands, left_and_played seen legal.0)

-- a card of the owner is played exactly where his turns show it
module _ (start : Start) (hands : Hands) (dealt : IsDealt hands) (card : ℕ) (mine : has hands.owner card ≡ true) where
  own_go : (m : Side) (history : List Event) → has (own_cards history) card ≡ has (own_cards (event_by m move.Go ∷ history)) card
  own_go Owner history = refl
  own_go Opponent history = refl

  own_card : (m : Side) (played : ℕ) (cards : List ℕ) (history : List Event) → has (remaining cards (hand_of hands m)) played ≡ true →
      has cards card ≡ has (own_cards history) card →
      (has cards card || eqb played card) ≡ has (own_cards (event_by m (move.Card played) ∷ history)) card
  own_card Owner played cards history held h = or_comm (has cards card) (eqb played card) ∙ ap (λ (b : Bool). eqb played card || b) h
  own_card Opponent played cards history held h =
      let theirs = (has-filter_parts (λ c. not (has cards c)) hands.opponent played held).0 in
      let apart : has hands.owner played ≡ false = distinct_apart_back hands.owner hands.opponent played dealt.distinct theirs in
      let other : eqb played card ≡ false = ne_eqb played card (λ s. both_ways (has hands.owner card) (ap (has hands.owner) (sym s) ∙ apart) mine) in
      ap (λ (b : Bool). has cards card || b) other ∙ or-false (has cards card) ∙ h

  pub own_played : (seen : List Move) → AreLegal start hands seen → has (cards_of seen) card ≡ has (own_cards (events start seen)) card
  own_played [] legal = refl
  own_played (move.Go ∷ seen) legal = own_played seen legal.0 ∙ own_go (mover (pone_of start) (letters_of (filled_moves start seen))) (events start seen)
  own_played (move.Card played ∷ seen) legal =
      search (rules, list_any-append, or-false (eqb played card), own_card, left_remaining start hands, own_played seen legal.0)
