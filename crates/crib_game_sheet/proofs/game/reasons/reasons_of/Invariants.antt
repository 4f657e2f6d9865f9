use Rattle.std.proofs.Common.{◌≡◌, ◌≤◌, Ok, length, drop}
use Rattle.crib_problem.specs.Setup.{Setup, start_of}
use Rattle.crib_game.specs.declared.section.game.Game.{Game}
use Rattle.crib_game.specs.Replay.{acts_back, replay_result}
use Rattle.crib_game_sheet.proofs.PlayWalks.{Walks}
use Rattle.crib_game_sheet.proofs.game.reasons.reasons_of.Given as goal

abbrev pub invariant-loop-row : goal.invariant-loop-row
invariant-loop-row l = record {
  pile : length l.play.pile.items ≤ l.row-index;
  cards : l.play.cards ≤ l.row-index;
  found : length l.reasons.items ≡ l.row-index;
  walks : (problem : Setup) (game : Game) → replay_result problem game ≡ Ok l.report →
      Walks (start_of problem) (acts_back game) l.play l.reasons.items (drop l.row-index l.report.rows.items);
}
