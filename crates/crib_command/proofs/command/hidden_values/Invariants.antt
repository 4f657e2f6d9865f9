use Rattle.std.proofs.Common.{drop}
use Rattle.crib_command.proofs.ValueLemmas.{JoinTo}
use Rattle.crib_command.specs.Command.{commands_of}
use Rattle.crib_command.proofs.command.hidden_values.Given as goal

abbrev pub invariant-loop-name : goal.invariant-loop-name
invariant-loop-name l = JoinTo (commands_of l.fn.program) l.values.items (drop l.name-index l.name-items)
