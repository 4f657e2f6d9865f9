-- The head of the sheet of a plan: the position, and whether the plan is sure.
use Rattle.std.specs.Prelude.{ℕ, Bool, true, false, List, [], ◌∷◌, ◌++◌, flat_map, Option, Result, Ok, Err, codes}
use Rattle.crib_cards.specs.declared.moves.Act.{Act}
use Rattle.crib_cards.specs.declared.sides.Side.{Side}
use Rattle.crib_text.specs.Spelling.{line_feed}
use Rattle.crib_problem.specs.Setup.{Setup}
use Rattle.crib_problem.specs.Spelling.{move_word}
use Rattle.crib_plan.specs.declared.plan.Node.{Node}
use Rattle.crib_game.specs.declared.fault.GameFault.{GameFault}
use Rattle.crib_game.specs.declared.following.ending.Ending.{Ending}
use Rattle.crib_game.specs.declared.replaying.report.Report.{Report}
use Rattle.crib_game.specs.Replay.{replay_result}
use Rattle.crib_game.specs.declared.section.game.Game.{Game}
use Rattle.crib_game.specs.declared.following.ending.Ending.TheVariants.{Open, Stuck, Lost, Short, Reached}
use Rattle.crib_beaten.specs.declared.rows.Rows.{Rows}
use Rattle.crib_check.specs.declared.verdict.Verdict.{Verdict}
use Rattle.crib_check.specs.declared.verdict.Verdict.TheVariants.{Holds, Fails}
use Rattle.crib_run.specs.declared.status.Status.{Status}
use Rattle.crib_run.specs.declared.status.Status.TheVariants.{Yes, No, Refused, Fault}
use Rattle.crib_run.specs.Pieces.{role_word}
use Rattle.crib_game_sheet.specs.GamePlay.{game_reasons}
use Rattle.crib_game_sheet.specs.GameText.{played_text}
use Rattle.crib_game_sheet.specs.Heading.{heading_text}
use Rattle.crib_sheet.specs.declared.verdict.beaten.Best.{Best}
use Rattle.crib_sheet.specs.PlanBeaten.{beating_text, best_text}
use Rattle.crib_plan_sheet.specs.PlanNow.{now_text}
use Rattle.crib_plan_sheet.specs.PlanStuck.{stuck_text}

-- the line of a turn of the opening: `  pone 8D`
unfoldable pub turn_line : Side → Act → List ℕ
turn_line dealer act = codes "  " ++ role_word dealer act.side ++ codes " " ++ move_word act.what ++ codes "\n"

-- the lines of the opening
abbrev pub turn_lines : Side → List Act → List ℕ
turn_lines dealer acts = flat_map (turn_line dealer) acts

-- that a plan is sure, before an empty line
abbrev pub sure_line : List ℕ
sure_line = codes "This plan is sure: it reaches your goal against every hand and every play.\n\n"

-- how a plan fails, by the ending of the first game in which it does
abbrev pub failing_line : Ending → List ℕ
failing_line Open = []
failing_line Stuck = codes "In this game it states no card that you can play:\n"
failing_line Lost = codes "In this game you lose:\n"
failing_line Short = codes "In this game you fall short of your goal:\n"
failing_line Reached = []

-- the sheet of a game with this report but for the position, after an empty line
abbrev pub game_lines : Setup → Game → Result Report GameFault → List ℕ
game_lines problem game (Ok report) = line_feed ∷ played_text problem game.opp report (game_reasons problem game)
game_lines problem game (Err fault) = []

-- why a plan is stuck after a game that ends so, after an empty line
abbrev pub why_text : Setup → List Node → Ending → Game → List ℕ
why_text problem plan Open game = []
why_text problem plan Stuck game = line_feed ∷ stuck_text problem plan game.acts.items
why_text problem plan Lost game = []
why_text problem plan Short game = []
why_text problem plan Reached game = []

-- the position at the first lead and now
unfoldable pub position_text : Setup → List ℕ
position_text problem = heading_text problem ++ turn_lines problem.dealer problem.played ++ now_text problem

-- the head of the sheet of a plan that is sure
abbrev pub sure_text : Setup → List ℕ
sure_text problem = position_text problem ++ sure_line

-- the rest of the head of a plan that is not sure: the first game in which it fails, and why it is stuck there
unfoldable pub failing_text : Setup → List Node → Ending → Game → List ℕ
failing_text problem plan ending game =
    failing_line ending ++ game_lines problem game (replay_result problem game) ++ why_text problem plan ending game
    ++ codes "\nThe plan:\n\n"

-- the head of a plan's sheet, by the verdict on the plan: the position, and if it is not sure how many deals beat it,
-- and how few beat another
abbrev pub head_text : Setup → List Node → Verdict → ℕ → ℕ → Option Rows → Best → List ℕ
head_text problem plan Holds open_deals beaten hands best = sure_text problem
head_text problem plan (Fails ending game) open_deals beaten hands best =
    position_text problem ++ beating_text open_deals beaten hands ++ best_text beaten best
    ++ failing_text problem plan ending game

-- whether the status of a sheet says that the plan is sure
abbrev pub is_sure : Status → Bool
is_sure Yes = true
is_sure No = false
is_sure Refused = false
is_sure Fault = false
