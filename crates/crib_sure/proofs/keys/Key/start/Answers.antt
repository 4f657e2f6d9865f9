use Rattle.std.proofs.Common.{sym, ◌∙◌}
use Rattle.crib_sure.proofs.PlaceByHistory.{place_at_start, follows_at_start}
use Rattle.crib_sure.proofs.keys.Key.start.Goals as goal

pub returns : goal.returns
returns g c = record {
  knows = c.start.ensures;
  place = c.start-2.ensures.place ∙ sym (place_at_start c.args.plan.now c.args.problem.now);
  follows = follows_at_start c.args.plan.now c.args.problem.now;
}
