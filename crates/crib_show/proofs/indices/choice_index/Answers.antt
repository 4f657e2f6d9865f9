use Rattle.std.proofs.Common.{ap, ◌∙◌, ◌<◌, subst, sym}
use Rattle.crib_show.specs.Indices.{index_among}
use Rattle.crib_show.proofs.IndexLemmas.{index_few}
use Rattle.crib_show.proofs.indices.choice_index.Goals as goal

pub returns-clause-few : goal.returns-clause-few
returns-clause-few c =
    subst (λ n. n < 1820) (sym (c.index_among.ensures.index ∙ ap (index_among 4) c.as_slice.ensures)) (index_few c.args.counts.now c.requires)
