use Rattle.crib_show.proofs.ExtremesLemmas.{kept_with}
use Rattle.crib_show.proofs.worst.extremes.ExtremesByRanks.meets_all.Goals as goal

pub returns-clause-shows : goal.returns-clause-shows
returns-clause-shows c = record {
  own = c.meet-met.ensures.right.own_right;
  kept = kept_with c.args.worst.now c.args.self.now.kept c.ranks_index-index.result c.meet-met.new.self c.ranks_index-index.ensures
      c.meet-met.ensures.right.kept_right c.requires.shows.kept;
}
