use Rattle.std.proofs.Common.{◌≡◌, ℕ, ◌<◌, Some}
use Rattle.std.specs.Prelude.{slice_get}
use Rattle.crib_game.specs.declared.section.game.Game.{Game}
use Rattle.crib_players.specs.Private.Judging.{IsAnswered}
use Rattle.crib_players.proofs.judge.refutes.Given as goal

abbrev pub invariant-loop-game : goal.invariant-loop-game
invariant-loop-game l = (index : ℕ) (game : Game) → index < l.game-index → slice_get l.games index ≡ Some game → IsAnswered l.problem l.games game
