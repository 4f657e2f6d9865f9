-- Lemmas about the text of a message, which is appended piece by piece.
use Rattle.std.proofs.Common.{arith, ◌≡◌, ◌≤◌, ℕ, leb, ◌&&◌, ◌++◌, List, [], ◌∷◌, true, inl, inr}
use Rattle.std.proofs.lemmas.Bool.{and_from, and_parts, both_ways, cases_Bool, eqb-true, le-leb, leb-true, or_cases}
use Rattle.std.specs.Char.{is_ascii_alphabetic}
use Rattle.std.specs.List.{filter, list_any}
use Rattle.std.proofs.Common.{refl, sym, ap, ◌∙◌, append_assoc, codes, false, flat_map, length}
use Rattle.std.specs.Prelude.{Some, None, MatchOption, ◌==◌}
use Rattle.crib_text.specs.Refusals.{Refusal}
use Rattle.crib_text.specs.Spelling.{line_feed}
use Rattle.crib_message.specs.Message.{IsExcerpt, carets, is_plain, marks_below}
use Rattle.crib_message.specs.Place.{numbered_line}

-- four pieces, one after another
pub four_added : (old first second third : List ℕ) (a b c d last : List ℕ) → first ≡ old ++ a → second ≡ first ++ b →
    third ≡ second ++ c → last ≡ third ++ d → last ≡ old ++ (a ++ (b ++ (c ++ d)))
four_added old first second third a b c d last e f g h = h ∙ rw (g, f, e) (simp append_assoc)

-- seven pieces
pub seven_added : (old w1 w2 w3 w4 w5 w6 a b c d e f g last : List ℕ) → w1 ≡ old ++ a → w2 ≡ w1 ++ b → w3 ≡ w2 ++ c → w4 ≡ w3 ++ d →
    w5 ≡ w4 ++ e → w6 ≡ w5 ++ f → last ≡ w6 ++ g → last ≡ old ++ (a ++ (b ++ (c ++ (d ++ (e ++ (f ++ g))))))
seven_added old w1 w2 w3 w4 w5 w6 a b c d e f g last h1 h2 h3 h4 h5 h6 h7 = h7 ∙ rw (h6, h5, h4, h3, h2, h1) (simp append_assoc)

-- a sentence, LF, and the excerpt
pub said : (old first second last sentence excerpt : List ℕ) → first ≡ old ++ sentence → second ≡ first ++ line_feed ∷ [] →
    last ≡ second ++ excerpt → last ≡ old ++ (sentence ++ line_feed ∷ excerpt)
said old first second last sentence excerpt e f g = g ∙ rw (f, e) (simp append_assoc)

pub said_alone : (old first last sentence : List ℕ) → first ≡ old ++ sentence → last ≡ first ++ line_feed ∷ [] →
    last ≡ old ++ (sentence ++ line_feed ∷ [])
said_alone old first last sentence e f = f ∙ rw e (append_assoc old sentence (line_feed ∷ []))

-- letters are plain bytes, so a sentence keeps them
plain_between : (least greatest byte : ℕ) → 32 ≤ least → greatest ≤ 126 → (leb least byte && leb byte greatest) ≡ true → is_plain byte ≡ true
plain_between least greatest byte low high e =
    let parts = and_parts (leb least byte) (leb byte greatest) e in
    let from = leb-true least byte parts.0 in
    let to = leb-true byte greatest parts.1 in
    and_from (leb 32 byte) (leb byte 126) (le-leb 32 byte (omega (arith, low, from))) (le-leb byte 126 (omega (arith, high, to)))

plain_letter : (byte : ℕ) → is_ascii_alphabetic byte ≡ true → is_plain byte ≡ true
plain_letter byte letter =
    elim (or_cases (leb 65 byte && leb byte 90) (leb 97 byte && leb byte 122) letter) [
      | inl capital ↦ plain_between 65 90 byte (omega arith) (omega arith) capital
      | inr small ↦ plain_between 97 122 byte (omega arith) (omega arith) small
    ]

pub still_worded : (bytes : List ℕ) → list_any is_ascii_alphabetic bytes ≡ true → list_any is_ascii_alphabetic (filter is_plain bytes) ≡ true
still_worded [] none = none
still_worded (byte ∷ bytes) any =
    elim (cases_Bool (is_ascii_alphabetic byte)) [
      | inl letter ↦ rw (plain_letter byte letter, letter) refl
      | inr other ↦
          let rest = still_worded bytes (rw other at any) in
          elim (cases_Bool (is_plain byte)) [
            | inl plain ↦ rw (plain, other) rest
            | inr shown ↦ rw shown rest
          ]
    ]

-- the excerpt of the line that the input has
pub shows_line : (input line excerpt : List ℕ) (refusal : Refusal) → numbered_line input refusal.line ≡ Some line → IsExcerpt refusal line excerpt →
    MatchOption (numbered_line input refusal.line) (excerpt ≡ []) (λ bytes. IsExcerpt refusal bytes excerpt)
shows_line input line excerpt refusal e is = rw e is

pub shows_none : (input excerpt : List ℕ) (refusal : Refusal) → numbered_line input refusal.line ≡ None → excerpt ≡ [] →
    MatchOption (numbered_line input refusal.line) (excerpt ≡ []) (λ bytes. IsExcerpt refusal bytes excerpt)
shows_none input excerpt refusal e is = rw e is

pub nothing_added : (bytes : List ℕ) → bytes ≡ bytes ++ []
nothing_added [] = refl
nothing_added (byte ∷ bytes) = ap (λ (xs : List ℕ). byte ∷ xs) (nothing_added bytes)

-- the carets below no bytes, and below some
pub caret_of_none : (bytes : List ℕ) → true ≡ (length bytes == 0) → codes "^" ≡ carets bytes
caret_of_none [] none = refl
caret_of_none (byte ∷ bytes) none = absurd (omega (arith, eqb-true (length (byte ∷ bytes)) 0 (sym none)))

pub carets_of_some : (bytes : List ℕ) → false ≡ (length bytes == 0) → flat_map (marks_below 94) bytes ≡ carets bytes
carets_of_some [] some = absurd (both_ways true (sym some) refl)
carets_of_some (byte ∷ bytes) some = refl
