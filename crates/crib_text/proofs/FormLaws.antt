-- What holds of every form: a value has one spelling, which is read again, begins no other one, and is refused as cut short where it isn't whole.
use Rattle.std.proofs.Common.{◌≡◌, ℕ, ◌+◌, List, [], ◌∷◌, ◌++◌, length, map, Result, Ok, Err, refl, sym, ap, ◌∙◌, arith}
use Rattle.std.proofs.lemmas.List.{append-nil}
use Rattle.crib_text.specs.Refusals.{Refusal}
use Rattle.crib_text.specs.Spelling.{line_bytes, lines_text}
use Rattle.crib_text.specs.Words.{lines_of, line_after}
use Rattle.crib_text.specs.Reading.{◌>>=◌, Rest, all_lines}
use Rattle.crib_text.proofs.SpellingLemmas.{lines_of-lines_text, lines_of-text, lines_of-none, all_lines-lines_text}
use Rattle.crib_text.proofs.ReadingLemmas.{ok_is}
use Rattle.crib_text.proofs.SteadyReaders.{from_line, missing, lines_cut, text_cut}
use Rattle.crib_text.proofs.Forms.{IsForm}

module _ {A : Type 0} {read : Rest → Result (A × Rest) Refusal} {lines : A → List (List (List ℕ))} {is : A → Type 0} {most : A → ℕ}
    (form : IsForm read lines is most) where
  -- lines that begin with the spelling of a value are read as it
  pub form_read : (value : A) (rest : Rest) (more : List (List ℕ)) → is value → rest.lines ≡ map line_bytes (lines value) ++ more
      → read rest ≡ Ok (value, from_line (rest.number + length (lines value)) more)
  form_read value rest more is same = ap (λ ls. read (from_line rest.number ls)) same ∙ form.spelled value rest.number more is

  -- so a reader that read a value read this one
  pub form_only : (value got : A) (rest after : Rest) (more : List (List ℕ)) → read rest ≡ Ok (got, after) → is value
      → rest.lines ≡ map line_bytes (lines value) ++ more → (got ≡ value) × (after.lines ≡ more)
  form_only value got rest after more e is same =
      let both = ok_is (got, after) (value, from_line (rest.number + length (lines value)) more) (sym e ∙ form_read value rest more is same) in
      (ap (λ (r : A × Rest). r.0) both, ap (λ (r : A × Rest). r.1.lines) both)

  pub one_spelling : (value : A) (given : List (List ℕ)) (number after : ℕ) → read (from_line number given) ≡ Ok (value, from_line after []) →
      given ≡ map line_bytes (lines value)
  one_spelling value given number after e = (form.found (from_line number given) value (from_line after []) e).1 ∙ append-nil (map line_bytes (lines value))

  pub lines_apart : (value other : A) (more : List (List ℕ)) → is value → is other → map line_bytes (lines value) ++ more ≡ map line_bytes (lines other)
      → (value ≡ other) × (more ≡ [])
  lines_apart value other more is is_other same =
      form_only other value (from_line 1 (map line_bytes (lines value) ++ more)) (from_line (1 + length (lines value)) more) []
      (form.spelled value 1 more is) is_other (same ∙ sym (append-nil (map line_bytes (lines other))))

  pub texts_apart : (value other : A) (more : List ℕ) → is value → is other → lines_text (lines value) ++ more ≡ lines_text (lines other)
      → (value ≡ other) × (more ≡ [])
  texts_apart value other more is is_other same =
      let both = lines_apart value other (lines_of more) is is_other
      (sym (lines_of-lines_text (lines value) more (form.full value is)) ∙ ap lines_of same ∙ lines_of-text (lines other) (form.full other is_other)) in
      (both.0, lines_of-none more both.1)

  pub texts_differ : (value other : A) → is value → is other → lines_text (lines value) ≡ lines_text (lines other) → value ≡ other
  texts_differ value other is is_other same = (texts_apart value other [] is is_other (append-nil (lines_text (lines value)) ∙ same)).0

  pub read_again : (value : A) (after : ℕ) → is value → after ≡ length (lines value) + 1
      → (all_lines (lines_text (lines value)) >>= read) ≡ Ok (value, from_line after [])
  read_again value after is last =
      ap (λ r. r >>= read) (all_lines-lines_text (lines value) (form.full value is))
      ∙ form_read value (from_line 1 (map line_bytes (lines value))) [] is (sym (append-nil (map line_bytes (lines value))))
      ∙ ap (λ n. Ok (value, from_line n [])) (omega (arith, last))

  pub lines_cut_short : (value : A) (number : ℕ) (front : List (List ℕ)) (next : List ℕ) (back : List (List ℕ)) → is value
      → front ++ next ∷ back ≡ map line_bytes (lines value) → read (from_line number front) ≡ Err (missing (number + length front))
  lines_cut_short value number front next back is same =
      lines_cut read number (number + length (lines value)) front next back value form.steady
      (form_read value (from_line number (front ++ next ∷ back)) [] is (same ∙ sym (append-nil (map line_bytes (lines value)))))

  pub text_cut_short : (value : A) (front : List ℕ) (next : ℕ) (back : List ℕ) → is value → front ++ next ∷ back ≡ lines_text (lines value)
      → (all_lines front >>= read) ≡ Err (missing (line_after front))
  text_cut_short value front next back is same =
      text_cut read front next back (length (lines value) + 1) value form.steady
      (ap (λ bytes. all_lines bytes >>= read) same ∙ read_again value (length (lines value) + 1) is refl)
