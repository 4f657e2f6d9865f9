-- Choices of four ranks.
use Rattle.std.specs.Prelude.{ℕ, ◌+◌, ◌/◌, ◌%◌, nat_le, Bool, true, ◌&&◌, List, [], ◌∷◌}

-- the four ranks with a number
abbrev pub ranks_of_number : ℕ → List ℕ
ranks_of_number number =
    (number / 2197 + 1) ∷ (number / 169 % 13 + 1) ∷ (number / 13 % 13 + 1) ∷ (number % 13 + 1) ∷ []

-- whether no rank of a list is above the next one
abbrev pub are_in_order : List ℕ → Bool
are_in_order [] = true
are_in_order (rank ∷ []) = true
are_in_order (rank ∷ next ∷ ranks) = nat_le rank next && are_in_order (next ∷ ranks)
