use Rattle.std.proofs.Common.{ℕ, ◌<◌, ◌≤◌, length}
use Rattle.crib_players.specs.Refutations.{HasEachCard}
use Rattle.crib_players.proofs.judge.has_each_card.Given as goal

abbrev pub invariant-loop-turn : goal.invariant-loop-turn
invariant-loop-turn l = (turn : ℕ) → length l.problem.played ≤ turn → turn < l.turn → HasEachCard l.problem l.games l.game turn
