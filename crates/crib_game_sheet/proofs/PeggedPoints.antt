-- What each side pegs in the acts of a game is what the play counts for it.
use Rattle.std.proofs.Common.{◌≡◌, ℕ, zero, suc, ◌+◌, ◌-◌, Bool, true, false, cond, List, [], ◌∷◌, ◌++◌, length, reverse}
use Rattle.std.proofs.Common.{Option, Some, None, Ok, refl, sym, ap, ◌∙◌, inl, inr, arith}
use Rattle.std.proofs.lemmas.Bool.{cases_Bool}
use Rattle.std.proofs.lemmas.List.{append-nil, append_assoc, reverse-append}
use Rattle.crib_cards.specs.Letters.{letter_of}
use Rattle.crib_cards.specs.Sides.{same_side}
use Rattle.crib_cards.specs.Start.{Hands, Start, pone_of}
use Rattle.crib_cards.specs.declared.letters.Letter.{Letter}
use Rattle.crib_cards.specs.declared.letters.Letter.TheVariants.{Seen, Go}
use Rattle.crib_cards.specs.declared.moves.Act.{Act}
use Rattle.crib_cards.specs.declared.moves.Move.{Move}
use Rattle.crib_cards.specs.declared.moves.Move.TheVariants as move
use Rattle.crib_cards.specs.declared.sides.Side.{Side}
use Rattle.crib_play.specs.Record.{Record, closes, mover}
use Rattle.crib_play.specs.Points.{last_player, points_for, points_in, turn_points}
use Rattle.crib_play.specs.Filled.{filled_record, is_silent_next, with_silent_gos}
use Rattle.crib_play.specs.History.{filled_moves, moves_of}
use Rattle.crib_play.specs.Legal.{letters_of}
use Rattle.crib_play.proofs.FilledRecords.{letters_filled}
use Rattle.crib_problem.specs.Setup.{hands_of, start_of}
use Rattle.crib_game.specs.declared.fault.GameFault.{GameFault}
use Rattle.crib_game.specs.declared.replaying.report.Report.{Report}
use Rattle.crib_game.specs.Replay.{Judge, act_fault, act_row, acts_back, acts_fault, by_rules, game_fault, record_of, report_of, unless_fault}
use Rattle.crib_game.proofs.ActFaults.{act_right, option_or_none}
use Rattle.crib_game.proofs.GameFaults.{clear_parts}
use Rattle.crib_game_sheet.specs.GameLaws.{PeggedLaw}
use Rattle.crib_game_sheet.specs.GameText.{last_after, pegged_points}
use Rattle.crib_game_sheet.proofs.PlayWalks.{reported, rows_from, rows_of_report}

-- ---- silent gos
-- what some gos after a record bring, for the player of its last card
record GosFor (pone : Side) (past full : Record) (more : ℕ) : Type 0 where
  last : last_player pone full ≡ last_player pone past
  all : points_in full ≡ more + points_in past
  own : (side : Side) → points_for pone side full ≡ cond (same_side (last_player pone past) side) more 0 + points_for pone side past

if_sum : (test : Bool) (some more : ℕ) → cond test (some + more) 0 ≡ cond test some 0 + cond test more 0
if_sum true some more = refl
if_sum false some more = refl

no_points : (test : Bool) → ◌≡◌ {A = ℕ} (cond test 0 0) 0
no_points true = refl
no_points false = refl

no_gos : (pone : Side) (past : Record) → GosFor pone past past 0
no_gos pone past = record {
  last = refl;
  all = omega arith;
  own = λ side. omega (arith, no_points (same_side (last_player pone past) side));
}

one_go : (pone : Side) (past full : Record) (more : ℕ) → GosFor pone (Go ∷ past) full more → GosFor pone past full (more + cond (closes Go past) 1 0)
one_go pone past full more gos = record {
  last = gos.last;
  all = omega (arith, gos.all);
  own = λ side. omega (arith, gos.own side, if_sum (same_side (last_player pone past) side) more (cond (closes Go past) 1 0));
}

gos_for : (n : ℕ) (start : Start) (past : Record) → (more : ℕ) × GosFor (pone_of start) past (with_silent_gos n start past) more
gos_for zero start past = (0, no_gos (pone_of start) past)
gos_for (suc n) start past =
    elim (cases_Bool (is_silent_next start past)) [
      | inl silent ↦ let gos = gos_for n start (Go ∷ past) in rw silent (gos.0 + cond (closes Go past) 1 0, one_go (pone_of start) past _ gos.0 gos.1)
      | inr heard ↦ rw heard (0, no_gos (pone_of start) past)
    ]

-- ---- one act
-- the points of a turn and of the gos after it are for the player of the last card
turn_pegs : (pone : Side) (turn : Letter) (past full : Record) (more : ℕ) (side : Side) → GosFor pone (turn ∷ past) full more →
    cond (same_side (last_player pone (turn ∷ past)) side) (points_in full - points_in past) 0 + points_for pone side past ≡ points_for pone side full
turn_pegs pone turn past full more side gos =
    let added : points_in full - points_in past ≡ more + turn_points turn past = omega (arith, gos.all) in
    rw added (by_turn turn (gos.own side))
  where
    by_turn : (turn : Letter)
        → points_for pone side full ≡ cond (same_side (last_player pone (turn ∷ past)) side) more 0 + points_for pone side (turn ∷ past)
        → cond (same_side (last_player pone (turn ∷ past)) side) (more + turn_points turn past) 0 + points_for pone side past ≡ points_for pone side full
    by_turn (Seen rank) own = omega (arith, own, if_sum (same_side (mover pone past) side) more (turn_points (Seen rank) past))
    by_turn Go own = omega (arith, own, if_sum (same_side (last_player pone past) side) more (turn_points Go past))

last_is : (pone side : Side) (what : Move) (past : Record) → side ≡ mover pone past → last_after side what (last_player pone past)
    ≡ last_player pone (letter_of what ∷ past)
last_is pone side (move.Card card) past is = is
last_is pone side move.Go past is = refl

-- ---- all acts
-- the filled record after some acts
abbrev after : Start → List Act → Record
after start acts = filled_record start (letters_of (moves_of acts))

module _ (judge : Judge) (start : Start) (hands : Hands) where
  none_before : (later before : List Act) → acts_fault judge start hands (later ++ before) ≡ None → acts_fault judge start hands before ≡ None
  none_before [] before e = e
  none_before (act ∷ later) before e = none_before later before (option_or_none (acts_fault judge start hands (later ++ before)) _ e).0

  side_is : (act : Act) (before : List Act) → acts_fault judge start hands (act ∷ before) ≡ None → act.side ≡ mover (pone_of start) (after start before)
  side_is act before e =
      let past = filled_moves start (moves_of before) in
      let fault = act_fault judge start hands act past (length before + 1) in
      (act_right judge start hands act past (length before + 1) (option_or_none (acts_fault judge start hands before) fault e).1).side
      ∙ ap (mover (pone_of start)) (letters_filled start (moves_of before))

  pegs : (side : Side) (before acts : List Act) → acts_fault judge start hands (reverse acts ++ before) ≡ None →
      pegged_points side (last_player (pone_of start) (after start before)) (rows_from start before acts) + points_for (pone_of start) side (after start before)
      ≡ points_for (pone_of start) side (after start (reverse acts ++ before))
  unfolding pegged_points
  pegs side before [] e = omega arith
  pegs side before (act ∷ acts) e =
      let pone = pone_of start in
      let past = after start before in
      let turned : reverse (act ∷ acts) ++ before ≡ reverse acts ++ act ∷ before
      = ap (λ (all : List Act). all ++ before) (reverse-append (act ∷ []) acts) ∙ append_assoc (reverse acts) (act ∷ []) before in
      let none : acts_fault judge start hands (reverse acts ++ act ∷ before) ≡ None = ap (acts_fault judge start hands) (sym turned) ∙ e in
      let gos = gos_for 3 start (letter_of act.what ∷ past) in
      let one = turn_pegs pone (letter_of act.what) past (after start (act ∷ before)) gos.0 side gos.1 in
      let last = last_is pone act.side act.what past (side_is act before (none_before (reverse acts) (act ∷ before) none)) in
      let others : pegged_points side (last_after act.side act.what (last_player pone past)) (rows_from start (act ∷ before) acts)
      + points_for pone side (after start (act ∷ before))
      ≡ points_for pone side (after start (reverse acts ++ act ∷ before))
      = ap (λ (who : Side). pegged_points side who (rows_from start (act ∷ before) acts) + points_for pone side (after start (act ∷ before)))
      (last ∙ sym gos.1.last)
      ∙ pegs side (act ∷ before) acts none in
      let first = ap (λ (who : Side). cond (same_side who side) (act_row start act before).points 0) last in
      omega (arith, first, one, others, ap (λ (all : List Act). points_for pone side (after start all)) turned)

-- ---- a game
no_fault_of : (fault : Option GameFault) (report report' : Report) → unless_fault fault report ≡ Ok report' → fault ≡ None
no_fault_of None report report' e = refl
no_fault_of (Some fault) report report' e = absurd cc

pub pegged_law : PeggedLaw
unfolding pegged_points
pegged_law problem game report side e =
    let start = start_of problem in
    let hands = hands_of problem game.opp in
    let clear = clear_parts (by_rules problem) problem game (no_fault_of (game_fault problem game) (report_of problem game) report e) in
    let whole = append-nil (acts_back game) in
    let sums = pegs (by_rules problem) start hands side [] game.acts.items (ap (acts_fault (by_rules problem) start hands) whole ∙ clear.acts) in
    let rows = sym (rows_of_report problem game) ∙ ap (λ (r : Report). r.rows.items) (reported problem game report e) in
    let records : after start (acts_back game ++ []) ≡ letters_of (record_of problem game)
    = ap (after start) whole ∙ sym (letters_filled start (moves_of (acts_back game))) in
    omega (arith, sums, ap (pegged_points side (pone_of start)) rows, ap (points_for (pone_of start) side) records)
