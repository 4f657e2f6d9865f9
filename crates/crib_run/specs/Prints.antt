-- Bytes that are put on a page piece by piece.
use Rattle.std.specs.Prelude.{◌≡◌, ℕ, ◌<◌, Bool, true, false, List, Option, length, take}
use Rattle.std.specs.Io.KnownBytes.{Appends}
use Rattle.crib_text.specs.Device.{HasFailed, HasNotFallen}

-- a device took all of some bytes
pub record TakesAll (bytes : List ℕ) (old new : Option (List ℕ)) (before after : ℕ) : Type 0 where
  pub whole : Appends old new bytes
  pub counted : HasNotFallen before after

-- a device failed after a proper beginning of some bytes
pub record FailsWithin (bytes : List ℕ) (old new : Option (List ℕ)) (before after : ℕ) : Type 0 where
  pub sent : ℕ
  pub less : sent < length bytes
  pub part : Appends old new (take sent bytes)
  pub failed : HasFailed before after

-- the state of a page: its device, the bytes there, if they are known, its failed calls, and whether the page is cut
pub record Stand : Type 0 where
  pub name : ℕ
  pub contents : Option (List ℕ)
  pub faults : ℕ
  pub is_cut : Bool

-- what bytes change on a page, by whether it was cut and is cut. On a cut page they change nothing
abbrev pub Changes : Bool → Bool → List ℕ → Stand → Stand → Type 0
Changes true cut bytes old new = new ≡ old
Changes false true bytes old new = FailsWithin bytes old.contents new.contents old.faults new.faults
Changes false false bytes old new = TakesAll bytes old.contents new.contents old.faults new.faults

-- bytes are put on a page: all of them, or a proper beginning, and then the page is cut. A cut page takes nothing
pub record Prints (bytes : List ℕ) (old new : Stand) : Type 0 where
  pub same : new.name ≡ old.name
  pub put : Changes old.is_cut new.is_cut bytes old new
