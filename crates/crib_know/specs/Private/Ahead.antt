-- A bound on the visible turns that may still be made. The code needs it to prove that it ends.
use Rattle.std.specs.Prelude.{ℕ}
use Rattle.crib_problem.specs.Private.Ahead.{turns_ahead_at}
use Rattle.crib_know.specs.Knowledge.{Knowledge}

-- the bound for what the owner knows
abbrev pub turns_ahead : Knowledge → ℕ
turns_ahead know = turns_ahead_at know.round
