-- List indices.
use Rattle.std.specs.Prelude.{◌≡◌, ℕ, ◌<◌, ◌^◌, Bool, List, ◌++◌, length}
use Rattle.std.specs.List.{position_or_len}

-- `after` extends `before`
pub record IsMore {X : Type 0} (before after : List X) : Type 0 where
  pub more : List X
  pub parts : after ≡ before ++ more

-- the index of the first item that passes a test, below 2^32
pub record IsNumber {X : Type 0} (test : X → Bool) (xs : List X) (number : ℕ) : Type 0 where
  pub first : number ≡ position_or_len test xs
  pub within : number < length xs
  pub small : number < 2 ^ 32
