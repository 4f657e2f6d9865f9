use Rattle.std.proofs.Common.{ℕ, List, refl, ap, subst, ◌∙◌}
use Rattle.crib_beaten.specs.Beaten.{Decides, counts_of, demand_of}
use Rattle.crib_beaten.specs.Private.Rows.{place}
use Rattle.crib_beaten.proofs.HoldNumbers.{is_choice}
use Rattle.crib_beaten.proofs.tally.OpenDeals.of.Goals as goal

pub returns : goal.returns
returns g c = record {
  setup = c.new.ensures.plays.start.knows.setup;
  same_problem = c.of.ensures;
  decided = λ n small is. subst (λ counts. Decides c.args.problem.now c.args.plan.now counts (demand_of c.demands.result (place n)))
      (ap (λ (cs : List (List ℕ)). counts_of cs (place n)) c.new.ensures.choices ∙ c.requires n small is)
      (c.demands.ensures _ _ c.new.ensures.plays (place n) (is_choice refl small is).small);
}
