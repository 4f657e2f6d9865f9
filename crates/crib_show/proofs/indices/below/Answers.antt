use Rattle.std.proofs.Common.{◌≡◌, ℕ, zero, suc, ◌+◌, ◌*◌, ◌<◌, ◌≤◌, Bool, true, false, eqb, leb, ◌&&◌, List, [], ◌∷◌, drop, get_or}
use Rattle.std.proofs.Common.{map, ◌++◌, get_or-drop, ap, ◌∙◌, subst, refl, arith}
use Rattle.std.specs.List.{range_with_len}
use Rattle.std.proofs.lemmas.Bool.{and_parts, eqb-true, leb-true}
use Rattle.crib_show.specs.Indices.{below, many}
use Rattle.crib_show.proofs.indices.below.Goals as goal

-- whether a list begins with a function's first values, and none of them is above 1,000
abbrev begins : (ℕ → ℕ) → ℕ → List ℕ → Bool
begins value zero xs = true
begins value (suc n) [] = false
begins value (suc n) (x ∷ xs) = (eqb x (value 0) && leb x 1000) && begins (λ i. value (suc i)) n xs

begun_at : (value : ℕ → ℕ) (n : ℕ) (xs : List ℕ) (i : ℕ) → i < n → begins value n xs ≡ true → (get_or xs i 0 ≡ value i) × (get_or xs i 0 ≤ 1000)
begun_at value zero xs i within is = absurd (omega (arith, within))
begun_at value (suc n) [] i within is = absurd cc
begun_at value (suc n) (x ∷ xs) zero within is =
    let here = and_parts _ _ (and_parts _ _ is).0 in (eqb-true _ _ here.0, leb-true _ _ here.1)
begun_at value (suc n) (x ∷ xs) (suc i) within is = begun_at (λ i. value (suc i)) n xs i (omega (arith, within)) (and_parts _ _ is).1

-- whether a list has five values of each of some functions
abbrev has_fives : (ℕ → ℕ → ℕ) → ℕ → List ℕ → Bool
has_fives value zero xs = true
has_fives value (suc n) xs = begins (value 0) 5 xs && has_fives (λ k. value (suc k)) n (drop 5 xs)

five_at : (value : ℕ → ℕ → ℕ) (n : ℕ) (xs : List ℕ) (k i : ℕ) → k < n → i < 5 → has_fives value n xs ≡ true →
    (get_or xs (5 * k + i) 0 ≡ value k i) × (get_or xs (5 * k + i) 0 ≤ 1000)
five_at value zero xs k i few within is = absurd (omega (arith, few))
five_at value (suc n) xs zero i few within is =
    let here : i ≡ 5 * zero + i = omega arith in
    subst (λ k. (get_or xs k 0 ≡ value 0 i) × (get_or xs k 0 ≤ 1000)) here (begun_at (value 0) 5 xs i within (and_parts _ _ is).0)
five_at value (suc n) xs (suc k) i few within is =
    let on : 5 + (5 * k + i) ≡ 5 * suc k + i = omega arith in
    subst (λ x. (x ≡ value (suc k) i) × (x ≤ 1000)) (get_or-drop 5 xs (5 * k + i) 0 ∙ ap (λ k. get_or xs k 0) on)
    (five_at (λ k. value (suc k)) n (drop 5 xs) k i (omega (arith, few)) within (and_parts _ _ is).1)

abbrev fives_of : ℕ → ℕ → List ℕ
fives_of ranks zero = []
fives_of ranks (suc n) = map (below (many ranks)) (range_with_len 0 5) ++ fives_of (suc ranks) n

fewer_at : (cards ranks : ℕ) → cards ≤ 4 → ranks < 13 →
    (get_or (fives_of 0 13) (5 * ranks + cards) 0 ≡ below (many ranks) cards) × (get_or (fives_of 0 13) (5 * ranks + cards) 0 ≤ 1000)
fewer_at cards ranks most few = five_at (λ ranks. below (many ranks)) 13 (fives_of 0 13) ranks cards few (omega (arith, most)) refl

pub returns-clause-value : goal.returns-clause-value
returns-clause-value c = (fewer_at c.args.cards c.args.ranks c.requires.cards c.requires.ranks).0

pub returns-clause-range : goal.returns-clause-range
returns-clause-range c = (fewer_at c.args.cards c.args.ranks c.requires.cards c.requires.ranks).1
