-- What it means that an input is read to its end, and that it isn't.
use Rattle.std.specs.Prelude.{◌≡◌, ◌<◌, ◌≤◌, ℕ, List, Option, IfSome, length, vec_len}
use Rattle.std.specs.declared.vec.Vec.{Vec}
use Rattle.std.specs.Io.KnownBytes.{IsAtEnd}
use Rattle.crib_text.specs.Device.{HasFailed}
use Rattle.crib_text.specs.declared.fault.TextCause.{TextCause}
use Rattle.crib_text.specs.declared.fault.TextCause.TheVariants.{TooLong, ReadFault, NoMemory}

-- the text is all that was left of the input, nothing is left now, and the text has at most 8,388,608 bytes
pub record HasRead {A : Type 0} (old new : Option (List ℕ)) (text : Vec ℕ A) : Type 0 where
  pub bytes : IfSome old (λ input. text.items ≡ input)
  pub end : IsAtEnd new
  pub short : vec_len text ≤ 8388608

-- the cause is one of three, and what it says of the input and of the reader's failed calls holds
abbrev pub IsUnread : Option (List ℕ) → ℕ → ℕ → TextCause → Type 0
IsUnread input old new TooLong = IfSome input (λ all. 8388608 < length all)
IsUnread input old new ReadFault = HasFailed old new
IsUnread input old new NoMemory = Unit {0}
IsUnread input old new cause = ⊥
