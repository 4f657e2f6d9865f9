-- Reading several values: one from each word of a line, or one from each line.
use Rattle.std.specs.Prelude.{ℕ, zero, suc, ◌+◌, List, [], ◌∷◌, Result, Ok}
use Rattle.crib_text.specs.Refusals.{Refusal}
use Rattle.crib_text.specs.Reading.{◌>>=◌, Rest, value_at}

-- the values of some words, from left to right, or the refusal of the first word that spells no value
unfoldable pub each_in : {A : Type 0} → (List ℕ → Result A ℕ) → List (List ℕ) → Result (List A) ℕ
each_in read [] = Ok []
each_in read (word ∷ words) = do
  value ← read word
  values ← each_in read words
  Ok (value ∷ values)

-- a number of values, one from each line, and the lines after them. How a line is read may depend on its place, which
-- is counted from the given one
unfoldable pub values_at
    : {A : Type 0} → (ℕ → List (List ℕ) → Result A ℕ) → ℕ → ℕ → Rest → Result (List A × Rest) Refusal
values_at read place zero rest = Ok ([], rest)
values_at read place (suc left) rest = do
  value ← value_at (read place) rest
  values ← values_at read (place + 1) left value.1
  Ok (value.0 ∷ values.0, values.1)
