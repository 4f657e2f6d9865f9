use Rattle.std.proofs.Common.{◌≡◌}
use Rattle.crib_beaten.specs.Private.Rows.{place}
use Rattle.crib_beaten.proofs.TallyRows.{IsBelow}
use Rattle.crib_beaten.proofs.tally.tally_of.Given as goal

abbrev pub invariant-loop-number : goal.invariant-loop-number
invariant-loop-number g l = record {
  index : l.index ≡ place l.number;
  below : IsBelow l.fn.problem l.fn.plan l.number l.tally.open_deals l.tally.beaten l.tally.rows.items;
}
