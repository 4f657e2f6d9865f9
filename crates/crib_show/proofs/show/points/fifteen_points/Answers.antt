use Rattle.std.proofs.Common.{◌≡◌, ℕ, ◌+◌, ◌*◌, List, [], ◌∷◌, length, get_or, ap, sym, ◌∙◌, arith}
use Rattle.std.proofs.lemmas.Grind.{elements}
use Rattle.crib_cards.specs.Cards.{rank_value}
use Rattle.crib_show.specs.Private.Counts.{fifteens_of_three}
use Rattle.crib_show.specs.Show.{fifteen_points}
use Rattle.crib_show.proofs.FifteenLemmas.{fifteens_among-five, fifteens_among-points}
use Rattle.crib_show.proofs.show.points.fifteen_points.Goals as goal

grouped : (first second third fourth fifth a b c d e n m k l : ℕ) → a ≡ rank_value first → b ≡ rank_value second → c ≡ rank_value third →
    d ≡ rank_value fourth → e ≡ rank_value fifth → n ≡ fifteens_of_three c d e (a + b) → m ≡ fifteens_of_three c d e a → k ≡ fifteens_of_three c d e b →
    l ≡ fifteens_of_three c d e 0 → 2 * (n + m + k + l) ≡ fifteen_points (first ∷ second ∷ third ∷ fourth ∷ fifth ∷ [])
grouped first second third fourth fifth a b c d e n m k l is_a is_b is_c is_d is_e is_n is_m is_k is_l =
    ap (λ n. 2 * n) (regroup n m k l ∙ (λ i. is_n i + is_m i + (is_k i + is_l i))
    ∙ (λ i. fifteens_of_three (is_c i) (is_d i) (is_e i) (is_a i + is_b i) + fifteens_of_three (is_c i) (is_d i) (is_e i) (is_a i)
    + (fifteens_of_three (is_c i) (is_d i) (is_e i) (is_b i) + fifteens_of_three (is_c i) (is_d i) (is_e i) 0))
    ∙ sym (fifteens_among-five first second third fourth fifth))
    ∙ sym (fifteens_among-points (first ∷ second ∷ third ∷ fourth ∷ fifth ∷ []))
  where
    regroup : (n m k l : ℕ) → n + m + k + l ≡ n + m + (k + l)
    regroup n m k l = omega arith

whole : (xs : List ℕ) (v w x y z : ℕ) → length xs ≡ 5 → get_or xs 0 v ∷ get_or xs 1 w ∷ get_or xs 2 x ∷ get_or xs 3 y ∷ get_or xs 4 z ∷ [] ≡ xs
whole xs v w x y z five = grind (arith, elements)

pub returns-clause-value : goal.returns-clause-value
returns-clause-value c =
    grouped _ _ _ _ _ _ _ _ _ _ _ _ _ _ c.value-first.ensures.value c.value-second.ensures.value c.value-third.ensures.value
    c.value-fourth.ensures.value c.value-fifth.ensures.value c.fifteens_of_three.ensures.value c.fifteens_of_three-2.ensures.value
    c.fifteens_of_three-3.ensures.value c.fifteens_of_three-4.ensures.value
    ∙ ap fifteen_points (whole c.args.all.now _ _ _ _ _ c.told-all)
