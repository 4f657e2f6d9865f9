use Rattle.std.proofs.Common.{reverse, take}
use Rattle.crib_problem.specs.Setup.{opening_basis_of}
use Rattle.crib_problem.specs.Private.OpeningTables.{IsAfter}
use Rattle.crib_problem.proofs.turns.OpeningTable.after.Given as goal

abbrev pub invariant-loop-act : goal.invariant-loop-act
invariant-loop-act l = record { after : IsAfter l.table (opening_basis_of l.problem) (reverse (take l.act-index l.acts)) }
