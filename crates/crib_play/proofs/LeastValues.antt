-- Proves that each card left to a side has at least the least value that its gos show, and that each visible turn changes this value by the rule.
use Rattle.std.proofs.Common.{rules}
use Rattle.crib_play.specs.Laws.{LeastLaw}
use Rattle.std.proofs.Common.{◌≡◌, ℕ, zero, suc, ◌+◌, ◌-◌, ◌≤◌, max, Bool, true, false, cond, not, ◌&&◌, leb, List, [], ◌∷◌, refl, sym, ap, ◌∙◌}
use Rattle.std.proofs.Common.{inl, inr, arith}
use Rattle.std.proofs.lemmas.Bool.{cases_Bool, and_parts, not-true, leb-false}
use Rattle.crib_cards.specs.Cards.{rank_of, rank_value, card_value}
use Rattle.crib_cards.specs.Sets.{has}
use Rattle.crib_cards.specs.Sides.{same_side}
use Rattle.crib_cards.specs.Start.{Start, pone_of, Hands}
use Rattle.crib_cards.specs.declared.sides.Side.{Side}
use Rattle.crib_cards.specs.declared.letters.Letter.{Letter}
use Rattle.crib_cards.specs.declared.letters.Letter.TheVariants.{Seen, Go}
use Rattle.crib_play.specs.Record.{Record, mover, is_heard, count_of, pile_of}
use Rattle.crib_play.specs.Score.{is_done, side_asked}
use Rattle.crib_play.specs.Filled.{is_silent_next, with_silent_gos, filled_record}
use Rattle.crib_play.specs.Standing.{AreTaken, IsStart}
use Rattle.crib_play.proofs.VisibleTurns.{count_seen, asked_seen}
use Rattle.crib_cards.specs.declared.moves.Move.{Move}
use Rattle.crib_cards.specs.declared.moves.Move.TheVariants as move
use Rattle.crib_play.specs.Legal.{letters_of, cards_of, cards_left, fits, MayTake}
use Rattle.crib_play.specs.Least.{least_with_go, least_of}
use Rattle.crib_play.proofs.CardLemmas.{none_fewer, none_passes, has_played}
use Rattle.crib_play.proofs.TurnFacts.{same_is, same_self}
use Rattle.crib_play.proofs.RecordsReached.{asked_mover}
use Rattle.crib_play.proofs.FilledAndVisible.{heard-filled_record}

-- a card that is left after one more card was left before it
left_before : (hands : Hands) (side : Side) (past : List Move) (played card : ℕ) → has (cards_left hands side (move.Card played ∷ past)) card ≡ true →
    has (cards_left hands side past) card ≡ true
left_before hands side past played card h = search (rules, none_fewer, has_played (cards_of past) played)

-- a card that is left to a side after its go has too high a value to fit
too_high : (hands : Hands) (m side : Side) (past : List Move) (card : ℕ) → MayTake hands m move.Go past → same_side m side ≡ true →
    has (cards_left hands side past) card ≡ true → 32 - count_of (pile_of (letters_of past)) ≤ card_value card
too_high hands m side past card none same h =
    search (rules, high (count_of (pile_of (letters_of past))) (rank_of card), none_passes (fits past) (cards_left hands side past) card, same_is m side same)
  where
    high : (n rank : ℕ) → leb (n + rank_value rank) 31 ≡ false → 32 - n ≤ rank_value rank
    high n rank e = omega (arith, leb-false (n + rank_value rank) 31 e)

both_below : (b : Bool) (low least value : ℕ) → (b ≡ true → low ≤ value) → least ≤ value → cond b (max low least) least ≤ value
both_below true low least value gives is = let first = gives (λ _. true) in omega (arith, first, is)
both_below false low least value gives is = is

pub least_left : LeastLaw
least_left start hands side [] card legal h = omega arith
least_left start hands side (move.Card rank ∷ past) card legal h = least_left start hands side past card legal.0 (left_before hands side past rank card h)
least_left start hands side (move.Go ∷ past) card legal h = search (rules, both_below, too_high hands, least_left start hands side past card legal.0 h)

-- ---- one more visible turn
-- a go that is not heard shows nothing
unheard_tells_none : (m side : Side) (heard : Side → Bool) → heard m ≡ false → (same_side m side && heard side) ≡ false
unheard_tells_none m side heard e = search (rules, same_is m side)

pub least_silent : (n : ℕ) (start : Start) (side : Side) (past : Record) →
    least_of (pone_of start) side (with_silent_gos n start past) ≡ least_of (pone_of start) side past
least_silent zero start side past = refl
least_silent (suc n) start side past =
    let pone = pone_of start in
    let heard : Side → Bool = λ s. is_heard pone s past in
    let least = least_of pone side past in
    elim (cases_Bool (is_silent_next start past)) [
      | inl is ↦
          let unheard : heard (mover pone past) ≡ false = not-true _ (and_parts (not (heard (mover pone past))) (not (is_done start past)) is).0 in
          rw is (least_silent n start side (Go ∷ past) ∙ rw (unheard_tells_none (mover pone past) side heard unheard) refl)
      | inr is ↦ rw is refl
    ]

-- the least value that each card left to a side can have, after visible turns
abbrev pub least_seen : Start → Side → List Letter → ℕ
least_seen start side seen = least_of (pone_of start) side (filled_record start seen)

between : (b : Bool) (low least : ℕ) → (least ≤ cond b (max low least) least) × (cond b (max low least) least ≤ max low least)
between true low least = (omega arith, omega arith)
between false low least = (omega arith, omega arith)

module _ (start : Start) (side : Side) (seen : List Letter) where
  -- a card shows nothing of it
  pub least_card : (rank : ℕ) → least_seen start side (Seen rank ∷ seen) ≡ least_seen start side seen
  least_card rank = least_silent 3 start side (Seen rank ∷ filled_record start seen)

  -- whether a go shows something: it is one of this side, and the side is heard
  abbrev told : Bool
  told = same_side (mover (pone_of start) (filled_record start seen)) side && is_heard (pone_of start) side (filled_record start seen)

  least_told : least_seen start side (Go ∷ seen) ≡ cond told (least_with_go (count_seen start seen) (least_seen start side seen)) (least_seen start side seen)
  least_told = least_silent 3 start side (Go ∷ filled_record start seen)

  -- a turn of the other side shows nothing
  pub least_other : (turn : Letter) → same_side (mover (pone_of start) (filled_record start seen)) side ≡ false →
      least_seen start side (turn ∷ seen) ≡ least_seen start side seen
  least_other (Seen rank) other = least_card rank
  least_other Go other = least_told ∙ rw other refl

  -- a go of the side that is asked shows that none of its cards fits
  pub least_go : IsStart start → AreTaken start seen → asked_seen start seen ≡ side_asked side →
      least_seen start side (Go ∷ seen) ≡ least_with_go (count_seen start seen) (least_seen start side seen)
  least_go is taken asked =
      let past = filled_record start seen in
      let open_now = asked_mover start past side asked in
      let heard : is_heard (pone_of start) side past ≡ true =
      ap (λ (s : Side). is_heard (pone_of start) s past) (sym open_now.1) ∙ heard-filled_record start seen is taken open_now.0 in
      let same : same_side (mover (pone_of start) past) side ≡ true = ap (λ (s : Side). same_side s side) open_now.1 ∙ same_self side in
      least_told ∙ rw (same, heard) refl

  -- one more turn never lowers the least value, and a go makes it at most the greater of it and 32 less the count
  pub least_grows : (turn : Letter) → least_seen start side seen ≤ least_seen start side (turn ∷ seen)
  least_grows (Seen rank) = let same = least_card rank in omega (arith, same)
  least_grows Go = let same = least_told in let more = (between told (32 - count_seen start seen) (least_seen start side seen)).0 in omega (arith, same, more)

  pub least_go_most : least_seen start side (Go ∷ seen) ≤ least_with_go (count_seen start seen) (least_seen start side seen)
  least_go_most = let same = least_told in let less = (between told (32 - count_seen start seen) (least_seen start side seen)).1 in omega (arith, same, less)

-- the same, turn by turn: the greatest of 1 and of 32 less the count at each go of the side
abbrev pub least_by_turns : Start → Side → List Letter → ℕ
least_by_turns start side [] = 1
least_by_turns start side (Seen rank ∷ seen) = least_by_turns start side seen
least_by_turns start side (Go ∷ seen) = cond (same_side (mover (pone_of start) (filled_record start seen)) side)
    (least_with_go (count_seen start seen) (least_by_turns start side seen)) (least_by_turns start side seen)

pub least_turned : (start : Start) (side : Side) (seen : List Letter) → IsStart start → AreTaken start seen →
    least_seen start side seen ≡ least_by_turns start side seen
least_turned start side [] is taken = refl
least_turned start side (Seen rank ∷ seen) is taken = least_card start side seen rank ∙ least_turned start side seen is taken.0
least_turned start side (Go ∷ seen) is taken =
    search (rules, least_turned start side seen is taken.0, least_go start side seen is taken.0, same_is, least_other start side seen Go)
