use Rattle.crib_bound.proofs.WalkSteps.{end_bound, none_bound}
use Rattle.crib_bound.proofs.walk.Bound.worth_at_end.Goals as goal

pub returns-then-is_met_by_all : goal.returns-then-is_met_by_all
returns-then-is_met_by_all c = λ trail. none_bound

pub returns : goal.returns
returns c = λ trail. end_bound _ _ c.requires.over c.take_missing.ensures (c.demand_at_end-demand.ensures.show c.requires.own)
