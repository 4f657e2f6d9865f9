-- The points of the fifteens and pairs of some cards, and of the jack among them, count also where other cards are added.
use Rattle.std.proofs.Common.{ℕ, ◌+◌, ◌≤◌, Bool, cond, eqb, ◌&&◌, ◌||◌, List, [], ◌∷◌, ◌++◌, map, sum_by, sym, subst, ◌≡◌, arith}
use Rattle.std.proofs.Common.{length, get_or}
use Rattle.std.specs.List.{list_any}
use Rattle.std.proofs.lemmas.List.{map-append}
use Rattle.std.proofs.lemmas.List.Folds.{list_any-append}
use Rattle.std.proofs.lemmas.Bool.Decides.{nat_tests}
use Rattle.std.proofs.lemmas.Grind.{elements}
use Rattle.crib_cards.specs.Cards.{jack, rank_of, suit_of}
use Rattle.crib_show.specs.Show.{choices, crib_points, fifteen_points, is_fifteen, is_pair, jack_points, pair_points}
use Rattle.crib_show.proofs.Choices.{sum_by-choices}

no_cards : (f : List ℕ → ℕ) (ys : List ℕ) → f [] ≤ sum_by f (choices ys)
no_cards f [] = omega arith
no_cards f (y ∷ ys) = omega (arith, no_cards f ys, sum_by-choices f y ys)

more_choices : (f : List ℕ → ℕ) (xs ys : List ℕ) → sum_by f (choices xs) ≤ sum_by f (choices (xs ++ ys))
more_choices f [] ys = let some = no_cards f ys in omega (arith, some)
more_choices f (x ∷ xs) ys =
    omega (arith, more_choices (λ chosen. f (x ∷ chosen)) xs ys, more_choices f xs ys, sum_by-choices f x xs, sum_by-choices f x (xs ++ ys))

-- a throw, by its two cards
pub both_cards : (throw : List ℕ) (v w : ℕ) → length throw ≡ 2 → get_or throw 0 v ∷ get_or throw 1 w ∷ [] ≡ throw
both_cards throw v w two = grind (arith, elements)

-- each crib has the points of the starter and the owner's throw
pub known_in_crib : (starter : ℕ) (throw theirs : List ℕ) →
    fifteen_points (map rank_of (starter ∷ throw)) + pair_points (map rank_of (starter ∷ throw)) + jack_points throw starter ≤
    crib_points (throw ++ theirs) starter
unfolding crib_points
known_in_crib starter throw theirs =
    let known : List ℕ = map rank_of (starter ∷ throw) in
    let all : List ℕ = map rank_of (starter ∷ throw ++ theirs) in
    let whole : all ≡ known ++ map rank_of theirs = map-append rank_of (starter ∷ throw) theirs in
    let fifteens = more_choices (λ chosen. cond (is_fifteen chosen) 1 0) known (map rank_of theirs) in
    let pairs = more_choices (λ chosen. cond (is_pair chosen) 1 0) known (map rank_of theirs) in
    let is_right : ℕ → Bool = λ card. eqb (rank_of card) jack && eqb (suit_of card) (suit_of starter) in
    omega (
      arith,
      subst (λ ranks. fifteen_points known ≤ fifteen_points ranks) (sym whole) (omega (arith, fifteens)),
      subst (λ ranks. pair_points known ≤ pair_points ranks) (sym whole) (omega (arith, pairs)),
      subst (λ b. jack_points throw starter ≤ cond b 1 0) (sym (list_any-append is_right throw theirs))
          (either (list_any is_right throw) (list_any is_right theirs)),
    )
  where
    either : (one other : Bool) → cond one 1 0 ≤ cond (one || other) 1 0
    either one other = grind (arith, nat_tests)
