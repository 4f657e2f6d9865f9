-- How many bytes a line takes, and a text of some lines.
use Rattle.std.proofs.Common.{◌≡◌, ℕ, ◌+◌, true, List, [], ◌∷◌, ◌++◌, length, codes, ap, ◌∙◌, arith}
use Rattle.std.proofs.lemmas.Grind.{flat_map-append}
use Rattle.std.proofs.lemmas.List.{length-append}
use Rattle.crib_text.specs.Spelling.{line_bytes, line_text, lines_text}
use Rattle.crib_text.proofs.SpellingLemmas.{are_words}

-- each word takes one byte more, for the space or the LF behind it
abbrev pub words_length : List (List ℕ) → ℕ
words_length [] = 0
words_length (word ∷ words) = length word + 1 + words_length words

first_and_more : (word : List ℕ) (words : List (List ℕ)) → length (line_text (word ∷ words)) ≡ words_length (word ∷ words)
first_and_more word [] = omega (arith, length-append word (codes "\n"))
first_and_more word (next ∷ words) = omega (
  arith,
  length-append (line_bytes (word ∷ next ∷ words)) (codes "\n"),
  length-append word (codes " " ++ line_bytes (next ∷ words)),
  length-append (line_bytes (next ∷ words)) (codes "\n"),
  first_and_more next words,
)

pub length-line_text : (words : List (List ℕ)) → are_words words ≡ true → length (line_text words) ≡ words_length words
length-line_text [] some = absurd cc
length-line_text (word ∷ words) some = first_and_more word words

pub length-lines_text : (lines more : List (List (List ℕ))) → length (lines_text (lines ++ more)) ≡ length (lines_text lines) + length (lines_text more)
length-lines_text lines more = ap length (flat_map-append line_text lines more) ∙ length-append (lines_text lines) (lines_text more)
