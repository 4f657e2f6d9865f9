-- Acts are refused unless they are the visible turns of a legal record without remarks.
use Rattle.std.proofs.Common.{◌≡◌, ℕ, ◌+◌, zero, suc, Bool, true, false, cond, List, [], ◌∷◌, length, Option, Some, None, refl, sym, ap, subst, ◌∙◌}
use Rattle.std.proofs.Common.{arith}
use Rattle.std.specs.Option.{option_or}
use Rattle.std.proofs.lemmas.Bool.{cond_both, both_ways}
use Rattle.crib_cards.specs.Letters.{letter_of}
use Rattle.crib_cards.specs.Sides.{same_side}
use Rattle.crib_cards.specs.Start.{Start, pone_of, Hands}
use Rattle.crib_cards.specs.declared.sides.Side.{Side}
use Rattle.crib_cards.specs.declared.moves.Move.{Move}
use Rattle.crib_cards.specs.declared.moves.Move.TheVariants as move
use Rattle.crib_cards.specs.declared.moves.Act.{Act}
use Rattle.crib_play.specs.Record.{mover}
use Rattle.crib_play.specs.Score.{is_done}
use Rattle.crib_play.specs.Filled.{is_visible, is_silent_next}
use Rattle.crib_play.specs.Standing.{IsStart}
use Rattle.crib_play.specs.Legal.{IsDealt, letters_of, MayTake, MayCome, IsLegal}
use Rattle.crib_play.specs.History.{with_silent_moves, filled_moves, AreLegal, acts_of, moves_of, act_by}
use Rattle.crib_play.proofs.TurnFacts.{same_is, same_self}
use Rattle.crib_play.proofs.LegalRecords.{silent_unheard, acts_more, filled_before}
use Rattle.crib_game.specs.declared.fault.GameFault.{GameFault}
use Rattle.crib_game.specs.declared.replaying.remark.Remark.{Remark}
use Rattle.crib_game.specs.declared.replaying.remark.Remark.TheVariants.{Fine}
use Rattle.crib_game.specs.Laws.{NoneStrays}
use Rattle.crib_game.specs.Replay.{Judge, first_fault, move_fault, act_fault, acts_fault}

-- ---- one act
pub cond_none : {A : Type 0} (b : Bool) (first : A) (rest : Option A) → cond b (Some first) rest ≡ None → (b ≡ false) × (rest ≡ None)
cond_none b first rest e = grind arith

move_right : (hands : Hands) (side : Side) (turn : Move) (past : List Move) (number : ℕ) → move_fault hands side turn past number ≡ None →
    MayTake hands side turn past
move_right hands side (move.Card card) past number e = grind (arith, e)
move_right hands side move.Go past number e = grind (arith, e)

right_move : (hands : Hands) (side : Side) (turn : Move) (past : List Move) (number : ℕ) → MayTake hands side turn past →
    move_fault hands side turn past number ≡ None
right_move hands side (move.Card card) past number may = grind (arith, may.0, may.1)
right_move hands side move.Go past number may = grind (arith, may)

-- an act of the side that is asked, which may take this turn and has no remark
pub record IsRight (judge : Judge) (start : Start) (hands : Hands) (act : Act) (past : List Move) : Type 0 where
  pub side : act.side ≡ mover (pone_of start) (letters_of past)
  pub may : MayCome start hands act.what past
  pub follows : judge act past ≡ Fine

pub first_none : (remark : Remark) (done asked : Bool) (wrong : Option GameFault) (number : ℕ) → first_fault remark done asked wrong number ≡ None →
    (remark ≡ Fine) × (done ≡ false) × (asked ≡ true) × (wrong ≡ None)
first_none remark done asked wrong number e = grind (arith, e)

pub act_right : (judge : Judge) (start : Start) (hands : Hands) (act : Act) (past : List Move) (number : ℕ) → act_fault judge start hands act past number
    ≡ None → IsRight judge start hands act past
act_right judge start hands act past number e =
    let m = mover (pone_of start) (letters_of past) in
    let none = first_none (judge act past) (is_done start (letters_of past)) (same_side act.side m) (move_fault hands act.side act.what past number) number
    e in
    let side : act.side ≡ m = same_is act.side m none.2 in
    let T : Side → Type 0 = λ x. MayTake hands x act.what past in
    record {
      side = side;
      may = record { not_done = none.1; may_take = subst T side (move_right hands act.side act.what past number none.3) };
      follows = none.0;
    }

right_act : (judge : Judge) (start : Start) (hands : Hands) (turn : Move) (past : List Move) (number : ℕ) → judge (act_by (pone_of start) turn past) past
    ≡ Fine → MayCome start hands turn past →
    act_fault judge start hands (act_by (pone_of start) turn past) past number ≡ None
right_act judge start hands turn past number follows may =
    let m = mover (pone_of start) (letters_of past) in
    λ i. first_fault (follows i) (may.not_done i) (same_self m i) (right_move hands m turn past number may.may_take i) number

-- ---- all acts
pub option_or_none : (earlier later : Option GameFault) → option_or earlier later ≡ None → (earlier ≡ None) × (later ≡ None)
option_or_none earlier later e = grind arith

-- if no act is refused, each was taken by the rules
pub legal_acts : (judge : Judge) (start : Start) (hands : Hands) (acts : List Act) → acts_fault judge start hands acts ≡ None →
    AreLegal start hands (moves_of acts)
legal_acts judge start hands [] e = tt
legal_acts judge start hands (act ∷ before) e =
    let past = filled_moves start (moves_of before) in
    let parts = option_or_none (acts_fault judge start hands before) (act_fault judge start hands act past (length before + 1)) e in
    (legal_acts judge start hands before parts.0, (act_right judge start hands act past (length before + 1) parts.1).may)

-- and the acts are the visible turns of their filled record
pub acts_filled : (judge : Judge) (start : Start) (hands : Hands) (acts : List Act) → IsStart start → IsDealt hands →
    acts_fault judge start hands acts ≡ None → acts_of (pone_of start) (filled_moves start (moves_of acts)) ≡ acts
acts_filled judge start hands [] is dealt e = refl
acts_filled judge start hands (act ∷ before) is dealt e =
    let pone = pone_of start in
    let past = filled_moves start (moves_of before) in
    let parts = option_or_none (acts_fault judge start hands before) (act_fault judge start hands act past (length before + 1)) e in
    let right = act_right judge start hands act past (length before + 1) parts.1 in
    let same : act_by pone act.what past ≡ act = λ i. record { side = sym right.side i; what = act.what } in
    acts_more start hands act.what (moves_of before) is dealt (legal_acts judge start hands (act ∷ before) e)
    ∙ ap (λ (rest : List Act). act_by pone act.what past ∷ rest) (acts_filled judge start hands before is dealt parts.0)
    ∙ ap (λ (first : Act). first ∷ before) same

-- and there is no remark on them
silent_stays : (judge : Judge) (n : ℕ) (start : Start) (past : List Move) → NoneStrays judge (pone_of start) past →
    NoneStrays judge (pone_of start) (with_silent_moves n start past)
silent_stays judge zero start past none = none
silent_stays judge (suc n) start past none =
    cond_both (is_silent_next start (letters_of past)) _ _ (λ (moves : List Move). NoneStrays judge (pone_of start) moves)
    (λ s. silent_stays judge n start (move.Go ∷ past) (none, λ heard. absurd (both_ways _ (silent_unheard start past s) heard))) (λ s. none)

pub acts_stay : (judge : Judge) (start : Start) (hands : Hands) (acts : List Act) → acts_fault judge start hands acts ≡ None →
    NoneStrays judge (pone_of start) (filled_moves start (moves_of acts))
acts_stay judge start hands [] e = tt
acts_stay judge start hands (act ∷ before) e =
    let past = filled_moves start (moves_of before) in
    let parts = option_or_none (acts_fault judge start hands before) (act_fault judge start hands act past (length before + 1)) e in
    let right = act_right judge start hands act past (length before + 1) parts.1 in
    let same : act_by (pone_of start) act.what past ≡ act = λ i. record { side = sym right.side i; what = act.what } in
    silent_stays judge 3 start (act.what ∷ past) (acts_stay judge start hands before parts.0, λ _. ap (λ (x : Act). judge x past) same ∙ right.follows)

-- the visible turns of a legal record are not refused, if there is no remark on them
pub no_fault : (judge : Judge) (start : Start) (hands : Hands) (played : List Move) → IsStart start → IsDealt hands → IsLegal start hands played →
    NoneStrays judge (pone_of start) played → acts_fault judge start hands (acts_of (pone_of start) played) ≡ None
no_fault judge start hands [] is dealt legal none = refl
no_fault judge start hands (turn ∷ past) is dealt legal none =
    let pone = pone_of start in
    let before = acts_of pone past in
    let earlier = no_fault judge start hands past is dealt legal.0 none.0 in
    cond_both (is_visible pone (letter_of turn) (letters_of past)) _ _ (λ (acts : List Act). acts_fault judge start hands acts ≡ None)
    (λ v.
    let same : filled_moves start (moves_of before) ≡ past = filled_before start hands turn past is dealt legal.0 legal.1 v in
    rw (earlier, same) (right_act judge start hands turn past (length before + 1) (none.1 v) legal.1))
    (λ v. earlier)
