use Rattle.std.proofs.Common.{[], ◌∷◌, ◌++◌, map, ap, ◌∙◌}
use Rattle.crib_cards.specs.Cards.{rank_of}
use Rattle.crib_show.specs.Show.{plain_of_ranks}
use Rattle.crib_show.proofs.KnownCrib.{both_cards}
use Rattle.crib_show.proofs.worst.cribs.plain_with.Goals as goal

-- only the lists of ranks are compared, because points of five unknown ranks compute long
pub returns-clause-value : goal.returns-clause-value
returns-clause-value c =
    let more = c.args.first ∷ c.args.second ∷ [] in
    c.plain_of_ranks.ensures.value
    ∙ ap plain_of_ranks ((λ i. c.rank.ensures.value i ∷ c.rank-2.ensures.value i ∷ c.rank-3.ensures.value i ∷ more)
    ∙ ap (λ cards. rank_of c.args.starter ∷ (map rank_of cards ++ more)) (both_cards c.args.throw.now _ _ c.told-throw))
