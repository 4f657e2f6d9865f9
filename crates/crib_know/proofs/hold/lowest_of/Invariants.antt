use Rattle.std.proofs.Common.{◌≡◌, ◌++◌, length, take}
use Rattle.crib_know.proofs.hold.lowest_of.Given as goal

abbrev pub invariant-loop-i : goal.invariant-loop-i
invariant-loop-i g l = record { long : length l.lowest ≡ g.row.N; so_far : take l.i l.lowest ++ l.rest ≡ l.fn.cards }
