use Rattle.std.proofs.Common.{◌≡◌, ◌≤◌, ◌<◌, ◌+◌, ◌/◌, ◌%◌, ◌++◌, ℕ, List, [], ◌∷◌, length, get_or, map, slice_set, inl, inr, ap, ◌∙◌, arith, rules}
use Rattle.std.proofs.lemmas.Bool.{cases_lt}
use Rattle.std.proofs.lemmas.List.{get_or-set_other, get_or-set_same}
use Rattle.std.proofs.lemmas.List.Edits.{fill_by_more}
use Rattle.crib_cards.specs.Cards.{rank_of}
use Rattle.crib_show.specs.Show.{plain_of_ranks}
use Rattle.crib_deals.proofs.ThrowLists.{ranks_of_two}
use Rattle.crib_deals.proofs.throws.plain_of_cribs.Goals as goal

still_few : (points : List ℕ) (i more : ℕ) → i < length points → more ≤ 96 → ((k : ℕ) → k < i → get_or points k 0 ≤ 96) → (k : ℕ) → k < i + 1 →
    get_or (slice_set points i more) k 0 ≤ 96
still_few points i more inside small few k less = elim (cases_lt k i) [
  | inl before ↦ rw (get_or-set_other points i k more 0 (omega (arith, before))) (few k before)
  | inr after ↦ let here : k ≡ i = omega (arith, less, after) in rw (here, get_or-set_same points i more 0 inside) small
]

pub loop-index-preserved : goal.loop-index-preserved
loop-index-preserved c =
    let points = λ (i : ℕ). plain_of_ranks (rank_of c.args.starter ∷ map rank_of c.args.thrown.now ++ (i / 13 + 1) ∷ (i % 13 + 1) ∷ []) in
    let value : c.plain_points.result ≡ points c.loop-index.index =
    c.plain_points.ensures.value
    ∙ (λ i. plain_of_ranks (rank_of c.args.starter ∷ c.rank.ensures.value i ∷ c.rank-in-loop-index.ensures.value i ∷ c.rank_of.ensures i
    ∷ c.rank_of-in-loop-index.ensures i ∷ []))
    ∙ ap (λ (ranks : List ℕ). plain_of_ranks (rank_of c.args.starter ∷ ranks)) (ranks_of_two c.args.thrown.now c.told-thrown _ _ _) in
    record {
      long = search rules;
      each = rw value (fill_by_more points c.loop-index.plain c.loop-index.index 0 (omega (arith, c.loop-index-test.true, c.loop-index.invariant.long))
          c.loop-index.invariant.each);
      few = still_few c.loop-index.plain c.loop-index.index c.plain_points.result (omega (arith, c.loop-index-test.true, c.loop-index.invariant.long))
          c.plain_points.ensures.range c.loop-index.invariant.few;
    }
