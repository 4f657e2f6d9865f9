use Rattle.std.proofs.Common.{◌≡◌, length, map, take}
use Rattle.crib_plan.specs.Spelling.{leads_to}
use Rattle.crib_plan.proofs.next.letters_to.Given as goal

abbrev pub invariant-loop-index : goal.invariant-loop-index
invariant-loop-index l = record { long : length l.set ≡ 14; so_far : take l.index l.set ≡ map (leads_to l.node) (take l.index l.branches) }
