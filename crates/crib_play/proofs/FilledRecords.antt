-- Proves that a legal record is the filled record of its visible turns, where no silent go follows it.
use Rattle.std.proofs.Common.{rules}
use Rattle.std.proofs.Common.{◌≡◌, ℕ, zero, suc, ◌≤◌, true, false, not, List, [], ◌∷◌, ◌++◌, length, refl, sym, ap, ◌∙◌, inl, inr, arith}
use Rattle.std.proofs.lemmas.Bool.{cases_Bool, cond_both, cond-true, cond-false, and_from, and_left, and_right, leb-true}
use Rattle.crib_cards.specs.Start.{Start, pone_of, Hands}
use Rattle.crib_cards.specs.declared.sides.Side.{Side}
use Rattle.crib_cards.specs.declared.letters.Letter.TheVariants.{Go}
use Rattle.crib_play.specs.Record.{Record, mover, is_heard}
use Rattle.crib_play.specs.Score.{is_done}
use Rattle.crib_play.specs.Filled.{is_visible, visible_turns, is_silent_next, with_silent_gos, filled_record}
use Rattle.crib_play.specs.Standing.{MayShow, AreTaken, IsStart}
use Rattle.crib_play.proofs.FilledAndVisible.{heard-filled_record}
use Rattle.crib_play.proofs.RecordStates.{chosen}
use Rattle.crib_cards.specs.declared.moves.Move.{Move}
use Rattle.crib_cards.specs.declared.moves.Move.TheVariants as move
use Rattle.crib_cards.specs.Letters.{letter_of}
use Rattle.crib_play.specs.Legal.{IsDealt, letters_of, cards_of, MayCome, IsLegal}
use Rattle.crib_play.specs.History.{acts_of, moves_of, visible_moves, with_silent_moves, filled_moves, act_by}
use Rattle.crib_play.proofs.TurnFacts.{Play, play_of, heard_card, high_go}

-- ---- the visible turns of a record: one more turn is visible or silent
module _ (pone : Side) (turn : Move) (past : List Move) where
  pub acts_visible : is_visible pone (letter_of turn) (letters_of past) ≡ true → acts_of pone (turn ∷ past) ≡ act_by pone turn past ∷ acts_of pone past
  acts_visible v = cond-true (is_visible pone (letter_of turn) (letters_of past)) (act_by pone turn past ∷ acts_of pone past) (acts_of pone past) v

  pub acts_silent : is_visible pone (letter_of turn) (letters_of past) ≡ false → acts_of pone (turn ∷ past) ≡ acts_of pone past
  acts_silent v = cond-false (is_visible pone (letter_of turn) (letters_of past)) (act_by pone turn past ∷ acts_of pone past) (acts_of pone past) v

  pub moves_visible : is_visible pone (letter_of turn) (letters_of past) ≡ true → visible_moves pone (turn ∷ past) ≡ turn ∷ visible_moves pone past
  moves_visible v = ap moves_of (acts_visible v)

  pub moves_silent : is_visible pone (letter_of turn) (letters_of past) ≡ false → visible_moves pone (turn ∷ past) ≡ visible_moves pone past
  moves_silent v = ap moves_of (acts_silent v)

-- a record has at most as many visible turns as turns
pub acts_fewer : (pone : Side) (played : List Move) → length (acts_of pone played) ≤ length played
acts_fewer pone [] = omega arith
acts_fewer pone (turn ∷ past) = search (rules, acts_fewer pone past, acts_visible pone turn past, acts_silent pone turn past)

-- ---- the letters of moves
pub letters_silent : (n : ℕ) (start : Start) (past : List Move) → letters_of (with_silent_moves n start past) ≡ with_silent_gos n start (letters_of past)
letters_silent zero start past = refl
letters_silent (suc n) start past = chosen letters_of _ _ _ _ _ refl (letters_silent n start (move.Go ∷ past))

pub letters_filled : (start : Start) (seen : List Move) → letters_of (filled_moves start seen) ≡ filled_record start (letters_of seen)
letters_filled start [] = refl
letters_filled start (turn ∷ seen) =
    letters_silent 3 start (turn ∷ filled_moves start seen)
    ∙ ap (λ (past : Record). with_silent_gos 3 start (letter_of turn ∷ past)) (letters_filled start seen)

pub letters_visible : (pone : Side) (past : List Move) → letters_of (visible_moves pone past) ≡ visible_turns pone (letters_of past)
letters_visible pone [] = refl
letters_visible pone (turn ∷ past) = search (rules, letters_visible pone past)

-- ---- what silent gos leave as it is
pub silent_keeps : (P : List Move → Type 0) (start : Start) →
    ((past : List Move) → is_silent_next start (letters_of past) ≡ true → P past → P (move.Go ∷ past)) → (n : ℕ) (past : List Move) → P past →
    P (with_silent_moves n start past)
silent_keeps P start step zero past holds = holds
silent_keeps P start step (suc n) past holds =
    cond_both (is_silent_next start (letters_of past)) (with_silent_moves n start (move.Go ∷ past)) past P
    (λ s. silent_keeps P start step n (move.Go ∷ past) (step past s holds)) (λ _. holds)

-- ---- the cards of a filled record
cards_silent : (n : ℕ) (start : Start) (past : List Move) → cards_of (with_silent_moves n start past) ≡ cards_of past
cards_silent n start past = silent_keeps (λ more. cards_of more ≡ cards_of past) start (λ _ _ same. same) n past refl

pub cards_filled : (start : Start) (seen : List Move) → cards_of (filled_moves start seen) ≡ cards_of seen
cards_filled start [] = refl
cards_filled start (move.Card card ∷ seen) =
    cards_silent 3 start (move.Card card ∷ filled_moves start seen) ∙ ap (λ (cards : List ℕ). cards ++ card ∷ []) (cards_filled start seen)
cards_filled start (move.Go ∷ seen) = cards_silent 3 start (move.Go ∷ filled_moves start seen) ∙ cards_filled start seen

-- ---- silent gos
pub not_silent_heard : (start : Start) (past : Record) → is_heard (pone_of start) (mover (pone_of start) past) past ≡ true → is_silent_next start past ≡ false
not_silent_heard start past h = and_left (not (is_heard (pone_of start) (mover (pone_of start) past) past)) (not (is_done start past)) (ap not h)

pub not_silent_done : (start : Start) (past : Record) → is_done start past ≡ true → is_silent_next start past ≡ false
not_silent_done start past d = and_right (not (is_heard (pone_of start) (mover (pone_of start) past) past)) (not (is_done start past)) (ap not d)

pub silent_is : (start : Start) (past : Record) → is_heard (pone_of start) (mover (pone_of start) past) past ≡ false → is_done start past ≡ false →
    is_silent_next start past ≡ true
silent_is start past h d = and_from (not (is_heard (pone_of start) (mover (pone_of start) past) past)) (not (is_done start past)) (ap not h) (ap not d)

pub silent_stop : (n : ℕ) (start : Start) (past : List Move) → is_silent_next start (letters_of past) ≡ false → with_silent_moves n start past ≡ past
silent_stop zero start past e = refl
silent_stop (suc n) start past e = cond-false (is_silent_next start (letters_of past)) (with_silent_moves n start (move.Go ∷ past)) past e

pub silent_go : (n : ℕ) (start : Start) (past : List Move) → is_silent_next start (letters_of past) ≡ true →
    with_silent_moves (suc n) start past ≡ with_silent_moves n start (move.Go ∷ past)
silent_go n start past e = cond-true (is_silent_next start (letters_of past)) (with_silent_moves n start (move.Go ∷ past)) past e

-- where no silent go follows, a greater number of silent gos changes nothing
pub silent_more : (n : ℕ) (start : Start) (past : List Move) → is_silent_next start (letters_of (with_silent_moves n start past)) ≡ false →
    with_silent_moves (suc n) start past ≡ with_silent_moves n start past
silent_more zero start past e = silent_stop 1 start past e
silent_more (suc n) start past e = elim (cases_Bool (is_silent_next start (letters_of past))) [
  | inl s ↦ rw s (silent_more n start (move.Go ∷ past) (rw s at e))
  | inr s ↦ rw s refl
]

-- no silent go follows a filled record
pub filled_stops : (start : Start) (seen : List Move) → IsStart start → AreTaken start (letters_of seen) →
    is_silent_next start (letters_of (filled_moves start seen)) ≡ false
filled_stops start seen is taken =
    ap (is_silent_next start) (letters_filled start seen)
    ∙ (elim (cases_Bool (is_done start (filled_record start (letters_of seen)))) [
      | inl d ↦ not_silent_done start (filled_record start (letters_of seen)) d
      | inr d ↦ not_silent_heard start (filled_record start (letters_of seen)) (heard-filled_record start (letters_of seen) is taken d)
    ])

-- ---- a visible turn of a legal record
-- the player of a visible turn is heard
pub heard_visible : (start : Start) (hands : Hands) (turn : Move) (past : List Move) → Play start hands past → MayCome start hands turn past →
    is_visible (pone_of start) (letter_of turn) (letters_of past) ≡ true →
    is_heard (pone_of start) (mover (pone_of start) (letters_of past)) (letters_of past) ≡ true
heard_visible start hands (move.Card card) past p may v =
    heard_card start hands past p (mover (pone_of start) (letters_of past)) card may.may_take.0 may.may_take.1
heard_visible start hands move.Go past p may v = v

-- the letter of a visible turn may be shown
pub may_show : (start : Start) (hands : Hands) (turn : Move) (past : List Move) → Play start hands past → MayCome start hands turn past →
    is_visible (pone_of start) (letter_of turn) (letters_of past) ≡ true →
    MayShow (letter_of turn) (letters_of past)
may_show start hands (move.Card card) past p may v = leb-true _ 31 may.may_take.1
may_show start hands move.Go past p may v = high_go start hands past p (mover (pone_of start) (letters_of past)) may.may_take v

-- ---- the filled record
pub record Fills (start : Start) (played : List Move) : Type 0 where
  pub taken : AreTaken start (letters_of (visible_moves (pone_of start) played))
  pub filled : filled_moves start (visible_moves (pone_of start) played) ≡ with_silent_moves 3 start played

fills_visible : (start : Start) (hands : Hands) (turn : Move) (past : List Move) → Play start hands past → MayCome start hands turn past → Fills start past →
    is_visible (pone_of start) (letter_of turn) (letters_of past) ≡ true → Fills start (turn ∷ past)
fills_visible start hands turn past p may f v =
    let pone = pone_of start in
    let seen = visible_moves pone past in
    let shows = moves_visible pone turn past v in
    let before : filled_moves start seen ≡ past =
    f.filled ∙ silent_stop 3 start past (not_silent_heard start (letters_of past) (heard_visible start hands turn past p may v)) in
    let letters : filled_record start (letters_of seen) ≡ letters_of past = sym (letters_filled start seen) ∙ ap letters_of before in
    record {
      taken = rw shows (f.taken, rw letters (record { not_done = may.not_done; may_show = may_show start hands turn past p may v }));
      filled = ap (filled_moves start) shows ∙ ap (λ (moves : List Move). with_silent_moves 3 start (turn ∷ moves)) before;
    }

fills_silent : (start : Start) (past : List Move) → IsStart start → is_done start (letters_of past) ≡ false → Fills start past →
    is_visible (pone_of start) Go (letters_of past) ≡ false → Fills start (move.Go ∷ past)
fills_silent start past is d f v =
    let stops = ap (λ (moves : List Move). is_silent_next start (letters_of moves)) (sym f.filled) ∙ filled_stops start _ is f.taken in
    let filled = f.filled ∙ sym (silent_more 3 start past stops) ∙ silent_go 3 start past (silent_is start (letters_of past) v d) in
    let shows = moves_silent (pone_of start) move.Go past v in
    record { taken = rw shows f.taken; filled = rw shows filled }

fills_turn : (start : Start) (hands : Hands) (turn : Move) (past : List Move) → IsStart start → Play start hands past → MayCome start hands turn past →
    Fills start past → Fills start (turn ∷ past)
fills_turn start hands (move.Card card) past is p may f = fills_visible start hands (move.Card card) past p may f refl
fills_turn start hands move.Go past is p may f =
    elim (cases_Bool (is_visible (pone_of start) Go (letters_of past))) [
      | inl v ↦ fills_visible start hands move.Go past p may f v
      | inr v ↦ fills_silent start past is may.not_done f v
    ]

fills_start : (start : Start) → IsStart start → Fills start []
fills_start start is = record { taken = tt; filled = sym (silent_stop 3 start [] (filled_stops start [] is tt)) }

pub fills : (start : Start) (hands : Hands) (played : List Move) → IsStart start → IsDealt hands → IsLegal start hands played → Fills start played
fills start hands [] is dealt legal = fills_start start is
fills start hands (turn ∷ past) is dealt legal =
    fills_turn start hands turn past is (play_of start hands dealt past legal.0) legal.1 (fills start hands past is dealt legal.0)

pub filled_law : (start : Start) (hands : Hands) (played : List Move) → IsStart start → IsDealt hands → IsLegal start hands played →
    filled_moves start (visible_moves (pone_of start) played) ≡ with_silent_moves 3 start played
filled_law start hands played is dealt legal = (fills start hands played is dealt legal).filled

-- a legal record is the filled record of its visible turns, where no silent go follows it
pub filled_whole : (start : Start) (hands : Hands) (played : List Move) → IsStart start → IsDealt hands → IsLegal start hands played →
    is_silent_next start (letters_of played) ≡ false →
    filled_moves start (visible_moves (pone_of start) played) ≡ played
filled_whole start hands played is dealt legal e = filled_law start hands played is dealt legal ∙ silent_stop 3 start played e
