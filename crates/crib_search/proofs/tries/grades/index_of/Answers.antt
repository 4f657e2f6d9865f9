use Rattle.crib_show.proofs.IndexLemmas.{four_counted}
use Rattle.crib_search.proofs.tries.grades.index_of.Goals as goal

pub choice_index-requires : goal.choice_index-requires
choice_index-requires c = rw c.count_ranks.ensures.value (four_counted c.args.ranks.now c.count_ranks.ensures.ranks c.told-ranks)
