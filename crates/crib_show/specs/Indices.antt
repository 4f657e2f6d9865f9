-- The index of four ranks among all choices of four.
use Rattle.std.specs.Prelude.{◌≡◌, ℕ, zero, suc, ◌+◌, ◌-◌, List, [], ◌∷◌, length, sum, cond, nat_eq}

-- the sum of a function's values at all numbers below n
abbrev pub below : (ℕ → ℕ) → ℕ → ℕ
below f zero = 0
below f (suc n) = below f n + f n

-- how many choices there are of some cards by rank, from a number of ranks
abbrev pub many : ℕ → ℕ → ℕ
many zero cards = cond (nat_eq cards 0) 1 0
many (suc ranks) cards = below (many ranks) (suc cards)

-- the index of rank counts among all choices of a number of cards. Choices with more cards of the first rank, and so
-- fewer of the others, come before it; the further ranks decide in the same way
abbrev pub index_among : ℕ → List ℕ → ℕ
index_among cards [] = 0
index_among cards (count ∷ counts) = below (many (length counts)) (cards - count) + index_among (cards - count) counts

-- the rank counts of four cards: thirteen counts whose sum is 4
pub record AreFour (ranks : List ℕ) : Type 0 where
  pub four : sum ranks ≡ 4
  pub thirteen : length ranks ≡ 13
