use Rattle.std.proofs.Common.{◌≤◌, ◌<◌, ◌*◌}
use Rattle.crib_deals.specs.Deals.{IsMissing}
use Rattle.crib_deals.specs.Exact.{AreExactly}
use Rattle.crib_deals.specs.Tables.{suit_points}
use Rattle.crib_deals.proofs.table.Table.missing.Given as goal

abbrev pub invariant-loop-suits : goal.invariant-loop-suits
invariant-loop-suits l = record {
  exact : AreExactly (λ dealt. IsMissing l.fn.self l.fn.demand dealt × (suit_points dealt.hold l.fn.self.problem.starter < l.suits)) l.missing;
  few : l.missing ≤ 209920 * l.suits;
}
