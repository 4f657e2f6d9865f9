-- Worked examples of the reasons for which inputs without a sheet are refused, and of the reply with a table of scores.
use Rattle.std.proofs.Common.{◌≡◌, refl, ℕ, List, [], ◌∷◌, ◌++◌, codes, map, Some, None, Ok}
use Rattle.std.specs.Fmt.{digits}
use Rattle.crib_play.specs.declared.turns.Turn.TheVariants as turns
use Rattle.crib_text.specs.declared.fault.TextCause.TheVariants.{BadCard}
use Rattle.crib_problem.proofs.ExampleProblems.{four_twos}
use Rattle.crib_game.specs.declared.fault.GameFault.TheVariants.{NotHeld}
use Rattle.crib_input.specs.declared.refusal.Cause.TheVariants as causes
use Rattle.crib_input.specs.declared.reason.FaultCause.TheVariants.{NoMemory}
use Rattle.crib_input.specs.declared.reason.Reason.TheVariants as reasons
use Rattle.crib_input.proofs.InputReaders.{read_played}
use Rattle.crib_tables.specs.Scores.{AreScores}
use Rattle.crib_tables.specs.declared.scores.Mark.TheVariants as mark
use Rattle.crib_tables.specs.declared.scores.Row.{Row}
use Rattle.crib_tables.specs.declared.scores.ScoreTable.{ScoreTable}
use Rattle.crib_run.specs.declared.status.Status.TheVariants.{Yes}
use Rattle.crib_sheet.specs.declared.answer.job.SheetJob.TheVariants.{Plan, Game, Beaten, Try, Refute, Why, Leads, Scores, Holes}
use Rattle.crib_sheet.specs.Scores.{above_text, cards_line, columns_text, row_text, scores_text}
use Rattle.crib_sheet.specs.Sheet.{AnswersScores}
use Rattle.crib_sheet.specs.Told.{SheetTells, sheet_fault_in}

abbrev lead_of : List ℕ → List ℕ
lead_of card =
    codes "problem 1\ndealer opponent\nscore 0 0\nstarter KD\nhold 2C 2D 2H 2S\nthrow 4C 6D\ngoal holes 13\n"
    ++ codes "game 1\nhold AC AD AH AS\nthrow 3C 3D\nacts 1\nown " ++ card ++ codes "\n"

-- a king that isn't held, a two that is, and nothing. Jobs without a game have no fault of one
faults_of_leads :
    (map (sheet_fault_in Game) (lead_of (codes "KC") ∷ lead_of (codes "2C") ∷ [] ∷ []) ≡ Some (NotHeld 1) ∷ None ∷ None ∷ [])
    × (map (λ job. sheet_fault_in job (lead_of (codes "KC"))) (Plan ∷ Beaten ∷ Try ∷ Refute ∷ Why ∷ Leads ∷ Scores ∷ Holes ∷ [])
    ≡ None ∷ None ∷ None ∷ None ∷ None ∷ None ∷ None ∷ None ∷ [])
unfolding read_played
faults_of_leads = (refl, refl)

-- the king is the reason, or that memory was short, and no other act and no word that is no card
reasons_for_the_king :
    SheetTells Game (lead_of (codes "KC")) (reasons.Refused (record { line = 12; cause = causes.Game (NotHeld 1) }))
    × SheetTells Game (lead_of (codes "KC")) (reasons.Fault NoMemory)
    × (SheetTells Game (lead_of (codes "KC")) (reasons.Refused (record { line = 13; cause = causes.Game (NotHeld 2) })) → ⊥)
    × (SheetTells Game (lead_of (codes "KC")) (reasons.Refused (record { line = 12; cause = causes.Text BadCard })) → ⊥)
unfolding read_played
reasons_for_the_king = (refl, tt, (λ is. cc), (λ is. cc))

-- the whole table is printed
a_table_is_printed : (table : ScoreTable) (row : Row) → AreScores four_twos table → table.turn ≡ turns.Owner → table.columns.items ≡ 9 ∷ 10 ∷ [] →
    table.rows.items ≡ row ∷ [] → row.owner ≡ 8 → row.marks.items ≡ mark.Turns 2 ∷ mark.Impossible ∷ [] → AnswersScores (Ok four_twos) (record {
      output = codes "Cards that are sure to lead: a digit is how many, and . is none.\n"
          ++ codes "hold 2C 2D 2H 2S, throw 4C 6D, starter KD, dealer opponent, goal holes 13\n"
          ++ codes "The owner's score is at the side, the opponent's at the top.\n"
          ++ codes "A blank is a score that the goal or the turns can't have.\n\n      1\n    9 0\n  8 2\n";
      status = Yes;
    })
unfolding scores_text above_text cards_line columns_text row_text digits
a_table_is_printed table row right turn columns rows owner marks = (table, right, rw (turn, columns, rows, owner, marks) refl)
