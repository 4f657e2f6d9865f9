-- The result of reading lines if the reader may move on before it refuses.
use Rattle.std.specs.Prelude.{◌≡◌, Result, Ok, Err}
use Rattle.crib_text.specs.Refusals.{Refusal}
use Rattle.crib_text.specs.Reading.{Rest}

-- what a reader returned is the result of reading: a value with the lines left, or a refusal. After a refusal the lines
-- may be any
abbrev pub Takes : {X Y E : Type 0} → (X → Y) → (E → Refusal) → Result (Y × Rest) Refusal → Rest → Result X E → Type 0
Takes view refusal read new (Ok value) = read ≡ Ok (view value, new)
Takes view refusal read new (Err fault) = read ≡ Err (refusal fault)
