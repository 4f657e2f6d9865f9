-- What the writers of texts append.
use Rattle.std.specs.Prelude.{◌≡◌, ℕ, ◌+◌, ◌≤◌, List, ◌++◌, vec_len, vec_capacity}
use Rattle.std.specs.declared.vec.Vec.{Vec}

-- a writer appended this text, which has at most so many bytes, and the capacity is no smaller than before
pub record Appended {A : Type 0} (old new : Vec ℕ A) (text : List ℕ) (most : ℕ) : Type 0 where
  pub items : new.items ≡ old.items ++ text
  pub room : vec_capacity old ≤ vec_capacity new
  pub len : vec_len new ≤ vec_len old + most
