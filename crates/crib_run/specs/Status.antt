-- The exit statuses.
use Rattle.std.specs.Prelude.{ℕ}
use Rattle.crib_run.specs.declared.status.Status.{Status}
use Rattle.crib_run.specs.declared.status.Status.TheVariants.{Yes, No, Refused, Fault}

-- the number of an exit status
abbrev pub code_of : Status → ℕ
code_of Yes = 0
code_of No = 1
code_of Refused = 2
code_of Fault = 3
