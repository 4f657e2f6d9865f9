use Rattle.std.proofs.Common.{◌≡◌, length}
use Rattle.crib_beaten.proofs.Choices.{AreChoices}
use Rattle.crib_bound.specs.Private.Walks.{AreTables}
use Rattle.crib_bound.proofs.OpenDeals.{AreBelow}
use Rattle.crib_bound.proofs.weights.Choices.of.Given as goal

abbrev pub invariant-loop-number : goal.invariant-loop-number
invariant-loop-number g l = record {
  counted : length l.counts ≡ 1820;
  weighed : length l.weights ≡ 29120;
  are : AreChoices l.number l.counts;
  below : AreBelow l.problem l.ladders l.number l.weights;
  tables : AreTables l.problem l.tables.items;
}
