use Rattle.crib_show.proofs.TargetLemmas.{crib_greatest}
use Rattle.crib_show.proofs.deals.WorstShow.greatest_crib.Goals as goal

pub returns : goal.returns
returns c =
    crib_greatest c.args.self.now c.know_set.ensures c.requires.deal c.high_crib.result c.most_points.result c.high_crib.ensures
    c.most_points.ensures.some c.most_points.ensures.all
