-- A test of each rank, in order.
use Rattle.std.proofs.Common.{◌≡◌, ℕ, ◌+◌, ◌-◌, ◌<◌, ◌≤◌, suc, Bool, true, false, ◌&&◌, ap, ◌∙◌, arith}
use Rattle.std.specs.List.{list_all, range_with_len}
use Rattle.std.proofs.lemmas.Bool.{and_left}

-- whether a test holds of each rank from a number on
abbrev pub holds_from : (ℕ → Bool) → ℕ → Bool
holds_from p number = list_all p (range_with_len number (14 - number))

module _ (p : ℕ → Bool) (number : ℕ) where
  one_first : number < 14 → holds_from p number ≡ (p number && holds_from p (number + 1))
  one_first less = let more : 14 - number ≡ suc (14 - (number + 1)) = omega (arith, less) in ap (λ n. list_all p (range_with_len number n)) more

  pub holds_on : number < 14 → p number ≡ true → holds_from p number ≡ holds_from p (number + 1)
  holds_on less here = one_first less ∙ ap (λ (b : Bool). b && holds_from p (number + 1)) here

  pub fails_here : number < 14 → p number ≡ false → holds_from p number ≡ false
  fails_here less here = one_first less ∙ and_left _ _ here

  pub holds_past : 14 ≤ number → holds_from p number ≡ true
  holds_past past = let none : 14 - number ≡ 0 = omega (arith, past) in ap (λ n. list_all p (range_with_len number n)) none
