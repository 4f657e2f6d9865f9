-- Lemmas about the lines of an input.
use Rattle.std.proofs.Common.{rules, ◌≡◌, ℕ, suc, ◌-◌, Bool, true, false, eqb, List, [], ◌∷◌, length, take, drop, refl, sym, ap, ◌∙◌, arith, inl, inr}
use Rattle.std.proofs.lemmas.Bool.{cases_Bool, eqb-true}
use Rattle.std.specs.Prelude.{None, slice_get, ◌==◌}
use Rattle.std.specs.Cmp.Lexicographic.{pointwise}
use Rattle.std.specs.List.{slice_split}
use Rattle.crib_text.specs.Words.{lines_of}
use Rattle.crib_text.proofs.WordLemmas.{is_lf, lines_of-nil, lines_of-lf, lines_of-other}
use Rattle.crib_message.specs.Place.{numbered_line}

-- the last byte, and the bytes before it
abbrev last : ℕ → List ℕ → List ℕ
last byte bytes = drop (length bytes) (byte ∷ bytes)

abbrev ends : ℕ → List ℕ → Bool
ends byte bytes = pointwise eqb (last byte bytes) (10 ∷ [])

pub lines_ended : (byte : ℕ) (bytes : List ℕ) → ends byte bytes ≡ true →
    lines_of (byte ∷ bytes) ≡ slice_split is_lf (take (length bytes) (byte ∷ bytes))
lines_ended byte [] e =
    elim (cases_Bool (is_lf byte)) [
      | inl lf ↦ lines_of-lf byte [] lf ∙ ap (λ (ls : List (List ℕ)). [] ∷ ls) lines_of-nil
      | inr other ↦ absurd (search (rules, e, other))
    ]
lines_ended byte (next ∷ bytes) e =
    elim (cases_Bool (is_lf byte)) [
      | inl lf ↦ let more = lines_ended next bytes e in lines_of-lf byte (next ∷ bytes) lf ∙ rw (lf, more) refl
      | inr other ↦ let more = lines_ended next bytes e in lines_of-other byte (next ∷ bytes) other ∙ rw (other, more) refl
    ]

pub lines_open : (byte : ℕ) (bytes : List ℕ) → ends byte bytes ≡ false → lines_of (byte ∷ bytes) ≡ slice_split is_lf (byte ∷ bytes)
lines_open byte [] e =
    elim (cases_Bool (is_lf byte)) [
      | inl lf ↦ absurd (search (rules, e, lf))
      | inr other ↦ lines_of-other byte [] other ∙ rw (other, lines_of-nil) refl
    ]
lines_open byte (next ∷ bytes) e =
    elim (cases_Bool (is_lf byte)) [
      | inl lf ↦ let more = lines_open next bytes e in lines_of-lf byte (next ∷ bytes) lf ∙ rw (lf, more) refl
      | inr other ↦ let more = lines_open next bytes e in lines_of-other byte (next ∷ bytes) other ∙ rw (other, more) refl
    ]

-- a text that ends with LF, and is cut before it
pub lines_stripped : (bytes text : List ℕ) → (length bytes ≡ 0 → ⊥) →
    pointwise eqb (drop (length bytes - 1) bytes) (10 ∷ []) ≡ true → text ≡ take (length bytes - 1) bytes →
    lines_of bytes ≡ slice_split is_lf text
lines_stripped [] text some e is = absurd (some refl)
lines_stripped (byte ∷ bytes) text some e is =
    let less : suc (length bytes) - 1 ≡ length bytes = omega arith in
    let ended : ends byte bytes ≡ true = ap (λ n. pointwise eqb (drop n (byte ∷ bytes)) (10 ∷ [])) (sym less) ∙ e in
    lines_ended byte bytes ended ∙ ap (λ n. slice_split is_lf (take n (byte ∷ bytes))) (sym less) ∙ ap (slice_split is_lf) (sym is)

-- a text that does not end with LF
pub lines_whole : (bytes : List ℕ) → (length bytes ≡ 0 → ⊥) → pointwise eqb (drop (length bytes - 1) bytes) (10 ∷ []) ≡ false →
    lines_of bytes ≡ slice_split is_lf bytes
lines_whole [] some e = absurd (some refl)
lines_whole (byte ∷ bytes) some e =
    let less : suc (length bytes) - 1 ≡ length bytes = omega arith in
    lines_open byte bytes (ap (λ n. pointwise eqb (drop n (byte ∷ bytes)) (10 ∷ [])) (sym less) ∙ e)

pub line_none : (bytes : List ℕ) (number : ℕ) → true ≡ (length bytes == 0) → None ≡ numbered_line bytes number
line_none [] number none =
    elim (cases_Bool (number == 0)) [ inl e ↦ rw e refl | inr e ↦ rw (e, lines_of-nil) refl ]
line_none (byte ∷ bytes) number none =
    let zero_length = eqb-true (length (byte ∷ bytes)) 0 (sym none) in
    absurd (omega (arith, zero_length))

pub line_zero : (bytes : List ℕ) (number : ℕ) → number ≡ 0 → None ≡ numbered_line bytes number
line_zero bytes number e = rw e refl

pub line_some : (bytes : List ℕ) (number : ℕ) (lines : List (List ℕ)) → (number ≡ 0 → ⊥) → lines_of bytes ≡ lines →
    slice_get lines (number - 1) ≡ numbered_line bytes number
line_some bytes number lines some is =
    elim (cases_Bool (number == 0)) [
      | inl e ↦ absurd (some (eqb-true number 0 e))
      | inr e ↦ rw (e, is) refl
    ]
