use Rattle.crib_bound.proofs.AllPlayers.{suits}
use Rattle.crib_bound.proofs.Bounds as bounds
use Rattle.crib_bound.proofs.Plans as plans
use Rattle.crib_bound.proofs.laws.bound_law.Goals as goal

pub returns : goal.returns
returns c = record {
  player = bounds.player;
  by_ranks = bounds.by_ranks;
  all_players = suits;
  plan = plans.plan;
  plan_by_cards = plans.plan_by_cards;
  same = plans.same;
  no_plan = plans.no_plan;
  no_player = bounds.no_player;
}
