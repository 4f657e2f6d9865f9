-- The bytes of an answer's text.
use Rattle.std.specs.Prelude.{ℕ, List}
use Rattle.crib_run.specs.declared.text.Text.{Text}
use Rattle.crib_run.specs.declared.text.Text.TheVariants as texts

-- the bytes of a text, whether it is allocated or not
unfoldable pub text_bytes : {A : Type 0} → Text A → List ℕ
text_bytes (texts.Short text) = text.items
text_bytes (texts.Section text) = text.items
