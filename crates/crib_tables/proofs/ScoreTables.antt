-- Lists of scores, and lists side by side.
use Rattle.std.proofs.Common.{◌≡◌, ℕ, zero, suc, ◌+◌, ◌<◌, List, [], ◌∷◌, ◌++◌, length, take, get_or, refl, sym, subst, ◌∙◌, arith, append_assoc}
use Rattle.std.proofs.Common.{length-append}
use Rattle.std.specs.List.{AllZip}
use Rattle.std.proofs.lemmas.List.{append-nil, take_more}
use Rattle.std.proofs.lemmas.Slice.Zip.{all_zipped_more}
use Rattle.crib_tables.specs.Scores.{numbers_from}

-- some numbers of a list of 21 are there, and others are left
pub record AreSoFar (first step : ℕ) (scores : List ℕ) : Type 0 where
  pub left : ℕ
  pub next : ℕ
  pub count : left + step ≡ 21
  pub at : next ≡ first + step
  pub all : scores ++ numbers_from left next ≡ numbers_from 21 first
  pub long : length scores ≡ step

pub no_number : (first : ℕ) → AreSoFar first 0 []
no_number first = record { left = 21; next = first; count = omega arith; at = omega arith; all = refl; long = refl }

next_number : (first step left next : ℕ) (scores : List ℕ) → step < 21 → left + step ≡ 21 → next ≡ first + step →
    scores ++ numbers_from left next ≡ numbers_from 21 first → length scores ≡ step → AreSoFar first (step + 1) (scores ++ next ∷ [])
next_number first step zero next scores below count at all long = absurd (omega (arith, count, below))
next_number first step (suc left) next scores below count at all long = record {
  left = left;
  next = suc next;
  count = omega (arith, count);
  at = omega (arith, at);
  all = append_assoc scores (next ∷ []) (numbers_from left (suc next)) ∙ all;
  long = omega (arith, length-append scores (next ∷ []), long);
}

pub one_number : (first step : ℕ) (scores : List ℕ) → step < 21 → AreSoFar first step scores → AreSoFar first (step + 1) (scores ++ (first + step) ∷ [])
one_number first step scores below so_far =
    subst (λ (number : ℕ). AreSoFar first (step + 1) (scores ++ number ∷ [])) so_far.at
    (next_number first step so_far.left so_far.next scores below so_far.count so_far.at so_far.all so_far.long)

last_number : (first left next : ℕ) (scores : List ℕ) → left ≡ 0 → scores ++ numbers_from left next ≡ numbers_from 21 first → scores ≡ numbers_from 21 first
last_number first zero next scores none all = sym (append-nil scores) ∙ all
last_number first (suc left) next scores none all = absurd (omega (arith, none))

pub all_numbers : (first : ℕ) (scores : List ℕ) → AreSoFar first 21 scores → scores ≡ numbers_from 21 first
all_numbers first scores so_far = last_number first so_far.left so_far.next scores (omega (arith, so_far.count)) so_far.all

-- the items of a list up to an index, each beside one of another list, and then the next two
pub zip_more : {X Y : Type 0} (P : X → Y → Type 0) (xs : List X) (ys : List Y) (i : ℕ) (d : X) (y : Y) → i < length xs → AllZip P (take i xs) ys →
    P (get_or xs i d) y → AllZip P (take (i + 1) xs) (ys ++ y ∷ [])
zip_more P xs ys i d y below are one =
    subst (λ (front : List _). AllZip P front (ys ++ y ∷ [])) (sym (take_more xs i d below)) (all_zipped_more P (take i xs) ys (get_or xs i d) y are one)
