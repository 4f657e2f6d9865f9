use Rattle.std.proofs.Common.{sym, ◌∙◌, arith}
use Rattle.std.proofs.lemmas.Bool.{both_ways}
use Rattle.std.proofs.lemmas.Bool.Decides.{nat_tests}
use Rattle.crib_show.proofs.demands.Demand.is_met_by_all.Goals as goal

pub returns-then-is_met : goal.returns-then-is_met
returns-then-is_met c = (
  λ all hand crib few also. grind (arith, nat_tests, c, all, few, also),
  λ all. grind (arith, nat_tests, c, all 0 0 (omega arith) (omega arith)),
)

pub returns-else-is_met : goal.returns-else-is_met
returns-else-is_met c = (
  λ all. absurd cc,
  λ all. absurd (both_ways _ (sym c.is_met.ensures ∙ c.if-is_met.false) (all 29 29 (omega arith) (omega arith))),
)
