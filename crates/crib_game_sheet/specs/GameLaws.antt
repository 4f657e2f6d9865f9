-- The laws of the sheet of a game: reasons and combinations add up to the points beside them, what each side pegged is
-- what the play counts for it, and games that differ have sheets that differ.
use Rattle.std.specs.Prelude.{◌≡◌, List, [], ◌∷◌, ◌++◌, map, sum_by, Ok, ℕ}
use Rattle.std.specs.List.{AllByRecursion}
use Rattle.crib_cards.specs.Sets.{AreDifferent}
use Rattle.crib_cards.specs.Start.{Start, pone_of}
use Rattle.crib_cards.specs.declared.letters.Letter.{Letter}
use Rattle.crib_cards.specs.declared.sides.Side.{Side}
use Rattle.crib_play.specs.Record.{Record}
use Rattle.crib_play.specs.Filled.{filled_record}
use Rattle.crib_play.specs.Legal.{letters_of}
use Rattle.crib_play.specs.Points.{points_for}
use Rattle.crib_show.specs.declared.show.outcomes.ShowRow.{ShowRow}
use Rattle.crib_problem.specs.Setup.{Setup, IsSetup, start_of}
use Rattle.crib_game.specs.declared.section.game.Game.{Game}
use Rattle.crib_game.specs.declared.replaying.report.Row.{Row}
use Rattle.crib_game.specs.declared.replaying.report.Report.{Report}
use Rattle.crib_game.specs.Replay.{record_of, replay_result}
use Rattle.crib_game.specs.Spelling.{AreSixCards, IsGame}
use Rattle.crib_game_sheet.specs.declared.game.reason.PlayReason.{PlayReason}
use Rattle.crib_game_sheet.specs.GamePlay.{game_reasons, reasons_added, reasons_points, turn_reasons}
use Rattle.crib_game_sheet.specs.GameShow.{points_of}
use Rattle.crib_game_sheet.specs.GameText.{counted_combinations, game_sheet_text, pegged_points}

-- why the turns of a record count points, in the order of play
abbrev pub reasons_in : Record → List PlayReason
reasons_in [] = []
reasons_in (turn ∷ past) = reasons_in past ++ turn_reasons turn past

-- what a visible turn adds is what the whole record has after it, with the silent gos, behind what it had before
abbrev pub ReasonsAddedLaw : Type 0
ReasonsAddedLaw =
    (start : Start) (turn : Letter) (seen : List Letter) →
    reasons_in (filled_record start (turn ∷ seen))
    ≡ reasons_in (filled_record start seen) ++ reasons_added start turn seen

-- the reasons of each act of a game that is accepted add up to the points of its row, and none of them is listed twice
abbrev pub ReasonsAddUpLaw : Type 0
ReasonsAddUpLaw =
    (problem : Setup) (game : Game) (report : Report) → replay_result problem game ≡ Ok report →
    (map reasons_points (game_reasons problem game) ≡ map (λ (row : Row). row.points) report.rows.items)
    × AllByRecursion (λ reasons. AreDifferent reasons) (game_reasons problem game)

-- the combinations under each counted hand of a game that is accepted add up to its points
abbrev pub HandsAddUpLaw : Type 0
HandsAddUpLaw =
    (problem : Setup) (game : Game) (report : Report) → IsSetup problem → AreSixCards game.opp →
    replay_result problem game ≡ Ok report →
    AllByRecursion
    (λ (row : ShowRow). sum_by points_of (counted_combinations problem game.opp row) ≡ row.points) report.show.items

-- the points that the sheet of a game that is accepted gives each side are those of its record
abbrev pub PeggedLaw : Type 0
PeggedLaw =
    (problem : Setup) (game : Game) (report : Report) (side : Side) → replay_result problem game ≡ Ok report →
    pegged_points side (pone_of (start_of problem)) report.rows.items
    ≡ points_for (pone_of (start_of problem)) side (letters_of (record_of problem game))

-- two games of a problem with the same sheet are equal
abbrev pub SheetsHaveOneGameLaw : Type 0
SheetsHaveOneGameLaw =
    (problem : Setup) (game other : Game) (text : List ℕ) → IsGame game → IsGame other →
    game_sheet_text problem game ≡ Ok text → game_sheet_text problem other ≡ Ok text → game ≡ other
