use Rattle.std.proofs.Common.{◌≡◌, ℕ, ◌*◌, List, [], ◌∷◌, length, get_or, ap, sym, ◌∙◌, arith}
use Rattle.std.proofs.lemmas.Grind.{elements}
use Rattle.crib_cards.specs.Cards.{rank_value}
use Rattle.crib_show.specs.Private.Counts.{fifteens_of_three}
use Rattle.crib_show.specs.Show.{fifteen_points}
use Rattle.crib_show.proofs.FifteenLemmas.{fifteens_among-points, fifteens_among-three}
use Rattle.crib_show.proofs.show.points.three_fifteen_points.Goals as goal

whole : (xs : List ℕ) (v w x : ℕ) → length xs ≡ 3 → get_or xs 0 v ∷ get_or xs 1 w ∷ get_or xs 2 x ∷ [] ≡ xs
whole xs v w x three = grind (arith, elements)

counted : (first second third a b c n : ℕ) → a ≡ rank_value first → b ≡ rank_value second → c ≡ rank_value third → n ≡ fifteens_of_three a b c 0 →
    2 * n ≡ fifteen_points (first ∷ second ∷ third ∷ [])
counted first second third a b c n is_a is_b is_c is_n =
    ap (λ n. 2 * n) (is_n ∙ (λ i. fifteens_of_three (is_a i) (is_b i) (is_c i) 0) ∙ sym (fifteens_among-three 0 first second third))
    ∙ sym (fifteens_among-points (first ∷ second ∷ third ∷ []))

pub returns-clause-value : goal.returns-clause-value
returns-clause-value c =
    counted _ _ _ _ _ _ _ c.value.ensures.value c.value-2.ensures.value c.value-3.ensures.value c.fifteens_of_three.ensures.value
    ∙ ap fifteen_points (whole c.args.ranks.now _ _ _ c.told-ranks)
