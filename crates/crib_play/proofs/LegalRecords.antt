-- Proves that visible turns which may be made one by one fill to a legal record, and that the visible turns of a legal record may be made so.
use Rattle.std.proofs.Common.{rules}
use Rattle.std.proofs.Common.{◌≡◌, ℕ, Bool, true, false, not, List, [], ◌∷◌, refl, sym, ap, ◌∙◌, inl, inr}
use Rattle.std.proofs.lemmas.Bool.{cases_Bool, and_parts, not-true, not-false}
use Rattle.std.proofs.Math.Bool.{and-true}
use Rattle.crib_cards.specs.Start.{Start, pone_of, Hands}
use Rattle.crib_play.specs.Record.{Record, mover, is_heard}
use Rattle.crib_play.specs.Score.{is_done}
use Rattle.crib_play.specs.Filled.{is_visible, visible_turns, is_silent_next, with_silent_gos, filled_record}
use Rattle.crib_play.specs.Standing.{AreTaken, IsStart}
use Rattle.crib_cards.specs.declared.moves.Move.{Move}
use Rattle.crib_cards.specs.declared.moves.Move.TheVariants as move
use Rattle.crib_cards.specs.Letters.{letter_of}
use Rattle.crib_play.specs.Legal.{IsDealt, letters_of, MayCome, IsLegal}
use Rattle.crib_play.specs.History.{acts_of, moves_of, visible_moves, with_silent_moves, filled_moves, AreLegal, act_by}
use Rattle.crib_play.proofs.TurnFacts.{play_of, none_unheard}
use Rattle.crib_play.proofs.FilledRecords.{fills, filled_law, filled_stops, heard_visible, letters_filled, letters_silent, letters_visible, not_silent_heard}
use Rattle.crib_play.proofs.FilledRecords.{silent_keeps, silent_stop, acts_visible, acts_silent, moves_visible, moves_silent}

-- ---- a record with its silent gos is legal
module _ (start : Start) (past : List Move) (s : is_silent_next start (letters_of past) ≡ true) where
  abbrev heard : Bool
  heard = is_heard (pone_of start) (mover (pone_of start) (letters_of past)) (letters_of past)

  pub silent_unheard : heard ≡ false
  silent_unheard = not-true heard (and_parts (not heard) (not (is_done start (letters_of past))) s).0

  pub silent_not_done : is_done start (letters_of past) ≡ false
  silent_not_done = not-true (is_done start (letters_of past)) (and_parts (not heard) (not (is_done start (letters_of past))) s).1

pub legal_gos : (n : ℕ) (start : Start) (hands : Hands) (past : List Move) → IsDealt hands → IsLegal start hands past →
    IsLegal start hands (with_silent_moves n start past)
legal_gos n start hands past dealt legal =
    silent_keeps (λ moves. IsLegal start hands moves) start
    (λ more s holds. (
      holds,
      record {
        not_done = silent_not_done start more s;
        may_take = none_unheard start hands more (play_of start hands dealt more holds) (mover (pone_of start) (letters_of more)) (silent_unheard start more s);
      },
    )) n past legal

-- where no silent go follows and the deal is not done, the player to move is heard
pub heard_next : (start : Start) (past : Record) → is_silent_next start past ≡ false → is_done start past ≡ false →
    is_heard (pone_of start) (mover (pone_of start) past) past ≡ true
heard_next start past s d = search (rules, not-false, and-true)

-- ---- the visible turns of a filled record are those that it was filled from
acts_gos : (n : ℕ) (start : Start) (past : List Move) → acts_of (pone_of start) (with_silent_moves n start past) ≡ acts_of (pone_of start) past
acts_gos n start past = silent_keeps (λ more. acts_of (pone_of start) more ≡ acts_of (pone_of start) past) start
    (λ more s same. acts_silent (pone_of start) move.Go more (silent_unheard start more s) ∙ same) n past refl

module _ (start : Start) (hands : Hands) where
  pub legal_filled : (seen : List Move) → IsDealt hands → AreLegal start hands seen → IsLegal start hands (filled_moves start seen)
  legal_filled [] dealt are = tt
  legal_filled (turn ∷ seen) dealt are = legal_gos 3 start hands (turn ∷ filled_moves start seen) dealt (legal_filled seen dealt are.0, are.1)

  taken_before : (seen : List Move) → IsStart start → IsDealt hands → AreLegal start hands seen →
      visible_moves (pone_of start) (filled_moves start seen) ≡ seen → AreTaken start (letters_of seen)
  taken_before seen is dealt are same = rw same at ((fills start hands (filled_moves start seen) is dealt (legal_filled seen dealt are)).taken)

  -- a turn that may come after a filled record is visible
  visible_come : (turn : Move) (seen : List Move) → IsStart start → AreTaken start (letters_of seen) → MayCome start hands turn (filled_moves start seen) →
      is_visible (pone_of start) (letter_of turn) (letters_of (filled_moves start seen)) ≡ true
  visible_come move.Go seen is taken may = heard_next start (letters_of (filled_moves start seen)) (filled_stops start seen is taken) may.not_done
  visible_come (move.Card card) seen is taken may = refl

  pub visible_filled : (seen : List Move) → IsStart start → IsDealt hands → AreLegal start hands seen →
      visible_moves (pone_of start) (filled_moves start seen) ≡ seen
  visible_filled [] is dealt are = refl
  visible_filled (turn ∷ seen) is dealt are =
      let before = visible_filled seen is dealt are.0 in
      let past = filled_moves start seen in
      ap moves_of (acts_gos 3 start (turn ∷ past))
      ∙ moves_visible (pone_of start) turn past (visible_come turn seen is (taken_before seen is dealt are.0 before) are.1)
      ∙ ap (λ (rest : List Move). turn ∷ rest) before

  pub taken_legal : (seen : List Move) → IsStart start → IsDealt hands → AreLegal start hands seen → AreTaken start (letters_of seen)
  taken_legal seen is dealt are = taken_before seen is dealt are (visible_filled seen is dealt are)

  -- the same, for turns that may be made one by one
  pub visible_after : (turn : Move) (seen : List Move) → IsStart start → IsDealt hands → AreLegal start hands seen →
      MayCome start hands turn (filled_moves start seen) → is_visible (pone_of start) (letter_of turn) (letters_of (filled_moves start seen)) ≡ true
  visible_after turn seen is dealt are may = visible_come turn seen is (taken_legal seen is dealt are) may

  -- with such a turn, the filled record has one visible turn more
  pub acts_more : (turn : Move) (seen : List Move) → IsStart start → IsDealt hands → AreLegal start hands (turn ∷ seen) →
      acts_of (pone_of start) (filled_moves start (turn ∷ seen))
      ≡ act_by (pone_of start) turn (filled_moves start seen) ∷ acts_of (pone_of start) (filled_moves start seen)
  acts_more turn seen is dealt are =
      acts_gos 3 start (turn ∷ filled_moves start seen)
      ∙ acts_visible (pone_of start) turn (filled_moves start seen) (visible_after turn seen is dealt are.0 are.1)

  -- ---- the visible turns of a legal record
  -- the record before a visible turn is a filled record
  pub filled_before : (turn : Move) (past : List Move) → IsStart start → IsDealt hands → IsLegal start hands past → MayCome start hands turn past →
      is_visible (pone_of start) (letter_of turn) (letters_of past) ≡ true → filled_moves start (visible_moves (pone_of start) past) ≡ past
  filled_before turn past is dealt legal may v =
      filled_law start hands past is dealt legal
      ∙ silent_stop 3 start past (not_silent_heard start (letters_of past) (heard_visible start hands turn past (play_of start hands dealt past legal) may v))

  pub visible_legal : (played : List Move) → IsStart start → IsDealt hands → IsLegal start hands played →
      AreLegal start hands (visible_moves (pone_of start) played)
  visible_legal [] is dealt legal = tt
  visible_legal (turn ∷ past) is dealt legal =
      elim (cases_Bool (is_visible (pone_of start) (letter_of turn) (letters_of past))) [
        | inl v ↦ rw (moves_visible (pone_of start) turn past v)
            (visible_legal past is dealt legal.0, rw (filled_before turn past is dealt legal.0 legal.1 v) legal.1)
        | inr v ↦ rw (moves_silent (pone_of start) turn past v) (visible_legal past is dealt legal.0)
      ]

-- ---- records with the same visible turns
pub same_filled : (start : Start) (hands others : Hands) (played other : List Move) → IsStart start → IsDealt hands → IsDealt others →
    IsLegal start hands played → IsLegal start others other →
    visible_turns (pone_of start) (letters_of played) ≡ visible_turns (pone_of start) (letters_of other) →
    with_silent_gos 3 start (letters_of played) ≡ with_silent_gos 3 start (letters_of other)
same_filled start hands others played other is dealt dealt_other legal legal_other same =
    sym (filled_letters hands played dealt legal) ∙ ap (filled_record start) same ∙ filled_letters others other dealt_other legal_other
  where
    filled_letters : (hands : Hands) (played : List Move) → IsDealt hands → IsLegal start hands played →
        filled_record start (visible_turns (pone_of start) (letters_of played)) ≡ with_silent_gos 3 start (letters_of played)
    filled_letters hands played dealt legal =
        ap (filled_record start) (sym (letters_visible (pone_of start) played))
        ∙ sym (letters_filled start (visible_moves (pone_of start) played))
        ∙ ap letters_of (filled_law start hands played is dealt legal)
        ∙ letters_silent 3 start played

pub same_moves : (start : Start) (hands others : Hands) (played other : List Move) → IsStart start → IsDealt hands → IsDealt others →
    IsLegal start hands played → IsLegal start others other →
    visible_moves (pone_of start) played ≡ visible_moves (pone_of start) other → with_silent_moves 3 start played ≡ with_silent_moves 3 start other
same_moves start hands others played other is dealt dealt_other legal legal_other same =
    sym (filled_law start hands played is dealt legal) ∙ ap (filled_moves start) same ∙ filled_law start others other is dealt_other legal_other
