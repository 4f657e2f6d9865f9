-- Lists of the same numbers in another order.
use Rattle.std.proofs.Common.{◌≡◌, ℕ, ◌+◌, suc, min, max, not, ◌&&◌, ◌||◌, eqb, Bool, cond, List, [], ◌∷◌, ◌++◌, length, map, fold, sum_by, count_by}
use Rattle.std.proofs.Common.{refl, sym, ap, ◌∙◌, arith}
use Rattle.std.specs.List.{list_any}
use Rattle.std.proofs.lemmas.List.Sums.{sum_by-cons}
use Rattle.std.proofs.lemmas.Bool.Decides.{nat_tests}
use Rattle.crib_cards.specs.Cards.{ranks}
use Rattle.crib_cards.specs.Sets.{are_distinct, has, rank_counts}
use Rattle.crib_cards.specs.Runs.{greatest_rank, least_rank}
use Rattle.crib_cards.proofs.SetLemmas.{eqb_turned}

pub data Reordered : List ℕ → List ℕ → Type 0 where
  nothing : Reordered [] []
  behind : (x : ℕ) (xs ys : List ℕ) → Reordered xs ys → Reordered (x ∷ xs) (x ∷ ys)
  front : (x y : ℕ) (xs : List ℕ) → Reordered (x ∷ y ∷ xs) (y ∷ x ∷ xs)
  both : (xs ys zs : List ℕ) → Reordered xs ys → Reordered ys zs → Reordered xs zs

pub same_order : (xs : List ℕ) → Reordered xs xs
same_order [] = nothing
same_order (x ∷ xs) = behind x xs xs (same_order xs)

pub last_first : (cards : List ℕ) (last : ℕ) → Reordered (cards ++ last ∷ []) (last ∷ cards)
last_first [] last = same_order (last ∷ [])
last_first (x ∷ cards) last = both _ _ _ (behind x (cards ++ last ∷ []) (last ∷ cards) (last_first cards last)) (front x last cards)

-- the same in the other direction
pub turned : (xs ys : List ℕ) → Reordered xs ys → Reordered ys xs
turned xs ys nothing = nothing
turned xs ys (behind x us vs r) = behind x vs us (turned us vs r)
turned xs ys (front x y us) = front y x us
turned xs ys (both us vs ws r s) = both ws vs us (turned vs ws s) (turned us vs r)

pub length-reordered : (xs ys : List ℕ) → Reordered xs ys → length xs ≡ length ys
length-reordered xs ys nothing = refl
length-reordered xs ys (behind x us vs r) = ap suc (length-reordered us vs r)
length-reordered xs ys (front x y us) = refl
length-reordered xs ys (both us vs ws r s) = length-reordered us vs r ∙ length-reordered vs ws s

pub sum_by-reordered : (f : ℕ → ℕ) (xs ys : List ℕ) → Reordered xs ys → sum_by f xs ≡ sum_by f ys
sum_by-reordered f xs ys nothing = refl
sum_by-reordered f xs ys (behind x us vs r) = sum_by-cons f x us ∙ ap (λ n. f x + n) (sum_by-reordered f us vs r) ∙ sym (sum_by-cons f x vs)
sum_by-reordered f xs ys (front x y us) = omega (arith, sum_by-cons f x (y ∷ us), sum_by-cons f y us, sum_by-cons f y (x ∷ us), sum_by-cons f x us)
sum_by-reordered f xs ys (both us vs ws r s) = sum_by-reordered f us vs r ∙ sum_by-reordered f vs ws s

pub count_by-reordered : (p : ℕ → Bool) (xs ys : List ℕ) → Reordered xs ys → count_by p xs ≡ count_by p ys
count_by-reordered p xs ys r = sum_by-reordered (λ x. cond (p x) 1 0) xs ys r

pub rank_counts-reordered : (xs ys : List ℕ) → Reordered xs ys → rank_counts xs ≡ rank_counts ys
rank_counts-reordered xs ys r = λ i. map (λ rank. count_by-reordered (λ other. eqb other rank) xs ys r i) ranks

pub list_any-reordered : (p : ℕ → Bool) (xs ys : List ℕ) → Reordered xs ys → list_any p xs ≡ list_any p ys
list_any-reordered p xs ys nothing = refl
list_any-reordered p xs ys (behind x us vs r) = ap (λ b. p x || b) (list_any-reordered p us vs r)
list_any-reordered p xs ys (front x y us) = grind (arith, nat_tests)
list_any-reordered p xs ys (both us vs ws r s) = list_any-reordered p us vs r ∙ list_any-reordered p vs ws s

-- a step that may be taken in any order folds to the same
fold-reordered : (f : ℕ → ℕ → ℕ) → ((a x y : ℕ) → f (f a x) y ≡ f (f a y) x) → (a : ℕ) (xs ys : List ℕ) → Reordered xs ys → fold f a xs ≡ fold f a ys
fold-reordered f swap a xs ys nothing = refl
fold-reordered f swap a xs ys (behind x us vs r) = fold-reordered f swap (f a x) us vs r
fold-reordered f swap a xs ys (front x y us) = ap (λ b. fold f b us) (swap a x y)
fold-reordered f swap a xs ys (both us vs ws r s) = fold-reordered f swap a us vs r ∙ fold-reordered f swap a vs ws s

pub greatest_rank-reordered : (xs ys : List ℕ) → Reordered xs ys → greatest_rank xs ≡ greatest_rank ys
greatest_rank-reordered xs ys r = fold-reordered max (λ a x y. omega arith) 0 xs ys r

pub least_rank-reordered : (xs ys : List ℕ) → Reordered xs ys → least_rank xs ≡ least_rank ys
least_rank-reordered xs ys r = fold-reordered min (λ a x y. omega arith) 13 xs ys r

distinct_front : (a b c d : Bool) → (not (a || b) && (not c && d)) ≡ (not (a || c) && (not b && d))
distinct_front a b c d = grind (arith, nat_tests)

pub are_distinct-reordered : (xs ys : List ℕ) → Reordered xs ys → are_distinct xs ≡ are_distinct ys
are_distinct-reordered xs ys nothing = refl
are_distinct-reordered xs ys (behind x us vs r) = λ i. not (list_any-reordered (λ other. eqb other x) us vs r i) && are_distinct-reordered us vs r i
are_distinct-reordered xs ys (front x y us) =
    ap (λ e. not (e || has us x) && (not (has us y) && are_distinct us)) (eqb_turned y x) ∙ distinct_front (eqb x y) (has us x) (has us y) (are_distinct us)
are_distinct-reordered xs ys (both us vs ws r s) = are_distinct-reordered us vs r ∙ are_distinct-reordered vs ws s
