use Rattle.std.proofs.Common.{sym, subst}
use Rattle.crib_show.specs.Private.Counts.{IsCounted}
use Rattle.crib_show.proofs.RankTables.{IsCounted-ranks}
use Rattle.crib_show.proofs.show.points.counts_of_five.Goals as goal

pub returns : goal.returns
returns c = subst (IsCounted c.args.ranks.now) (sym c.count_ranks.ensures.value) (IsCounted-ranks c.args.ranks.now c.count_ranks.ensures.ranks c.told-ranks)
