use Rattle.std.proofs.Common.{◌≡◌, ◌≤◌, ◌+◌, ◌*◌, ◌/◌, ◌%◌, ◌++◌, ℕ, List, [], ◌∷◌, map, ap, sym, ◌∙◌, arith, rules}
use Rattle.std.proofs.lemmas.List.Elements.{All-replicate}
use Rattle.crib_cards.specs.Cards.{rank_of}
use Rattle.crib_show.specs.Show.{plain_of_ranks}
use Rattle.crib_deals.proofs.ThrowLists.{ranks_of_two}
use Rattle.crib_deals.proofs.throws.cribs_of.Goals as goal

pub loop-index-init : goal.loop-index-init
loop-index-init c = record { long = search rules; each = λ i less. absurd (omega (arith, less)); few = All-replicate (λ crib. crib ≤ 29) 2704 0 (omega arith) }

pub crib_of-requires-clause-plain : goal.crib_of-requires-clause-plain
crib_of-requires-clause-plain c =
    let index : ℕ = 13 * (c.loop-index.index / 208) + c.loop-index.index % 52 / 4 in
    let ranks : (index / 13 + 1 ≡ rank_of c.card_at.result) × (index % 13 + 1 ≡ rank_of c.card_at-in-loop-index.result) =
    (omega (arith, c.card_at.ensures), omega (arith, c.card_at-in-loop-index.ensures)) in
    c.plain_of_cribs-plain.ensures.value index (omega (arith, c.loop-index-test.true))
    ∙ (λ i. plain_of_ranks (rank_of c.args.starter ∷ map rank_of c.args.thrown.now ++ ranks.0 i ∷ ranks.1 i ∷ []))
    ∙ ap (λ (ranks : List ℕ). plain_of_ranks (rank_of c.args.starter ∷ ranks)) (sym (ranks_of_two c.args.thrown.now c.told-thrown _ _ _))

pub crib_of-requires-clause-few : goal.crib_of-requires-clause-few
crib_of-requires-clause-few c = c.plain_of_cribs-plain.ensures.few _ (omega (arith, c.loop-index-test.true))
