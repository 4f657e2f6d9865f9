-- Worked examples of refusals, of what a reader returns and leaves, of lines as a caller sees them, and of devices.
use Rattle.std.specs.Prelude.{◌≡◌, refl, ◌+◌, ℕ, List, [], ◌∷◌, map, drop, Result, Ok, Err, codes}
use Rattle.std.specs.declared.io.ErrorKind.TheVariants.{Interrupted, UnexpectedEof}
use Rattle.std.proofs.Common.{arith, rules, ap, sym, subst, ◌∙◌, inl, inr}
use Rattle.crib_text.specs.Words.{lines_of, words_of}
use Rattle.crib_text.specs.Counted.{counted_faults, counted_inner}
use Rattle.crib_text.specs.Device.{CountsFailure, HasFailed, HasNotFallen, glitch_for, next_count}
use Rattle.crib_text.specs.Lines.{IsAt, IsLineOf, line_of, line_start, lines_start, rest_of, source_of, token_start, word_of}
use Rattle.crib_text.specs.Reading.{Gives, Reads, Rest}
use Rattle.crib_text.specs.Refusals.{Refusal, cause_number, text_refusal}
use Rattle.crib_text.specs.Transfer.{IsReadingFault}
use Rattle.crib_text.specs.declared.text.lines.Lines as lines
use Rattle.crib_text.specs.declared.text.line.Line as line
use Rattle.crib_text.specs.declared.text.line.Token as token
use Rattle.crib_text.specs.declared.devices.device.Glitch.TheVariants.{Again, Failed}
use Rattle.crib_text.specs.declared.fault.Fault.{Fault}
use Rattle.crib_text.specs.declared.fault.TextCause.{TextCause}
use Rattle.crib_text.specs.declared.fault.TextCause.TheVariants.{BadByte, TooLong, CutShort, BadLine, BadCard}
use Rattle.crib_text.specs.declared.fault.TextCause.TheVariants.{BadNumber, BadVersion, Trailing, ReadFault, NoMemory}

-- ---- refusals and their numbers, in the order of docs/FORMATS.md
pub numbers_of_causes : map cause_number
    (BadByte ∷ TooLong ∷ CutShort ∷ BadLine ∷ BadCard ∷ BadNumber ∷ BadVersion ∷ Trailing ∷ ReadFault ∷ NoMemory ∷ [])
    ≡ 1 ∷ 2 ∷ 3 ∷ 4 ∷ 5 ∷ 6 ∷ 7 ∷ 8 ∷ 9 ∷ 11 ∷ []
numbers_of_causes = refl

abbrev at : ℕ → TextCause → Fault TextCause
at line cause = record { line = line; cause = cause }

pub line_before_number : text_refusal (at 7 BadCard) ≡ record { line = 7; number = 5 }
line_before_number = refl

-- an input that is too long, that can't be read, and for which memory runs out
pub reading_faults : IsReadingFault (at 0 TooLong) × IsReadingFault (at 0 ReadFault) × IsReadingFault (at 0 NoMemory)
reading_faults = search rules

-- a bad byte is no such fault, and a reading fault is at no line
pub no_reading_faults : ¬ IsReadingFault (at 0 BadByte) × ¬ IsReadingFault (at 1 ReadFault)
no_reading_faults = (λ is. elim is.cause [ inl e ↦ cc | inr (inl e) ↦ cc | inr (inr e) ↦ cc ], λ is. absurd (omega arith))

-- ---- what a reader returned, and what it left
abbrev two_lines_from_4 : Rest
two_lines_from_4 = record { number = 4; lines = codes "a" ∷ codes "b" ∷ [] }

abbrev one_line_from_5 : Rest
one_line_from_5 = record { number = 5; lines = codes "b" ∷ [] }

abbrev word_after : Rest → Result (List ℕ × Rest) Refusal
word_after rest = Ok (codes "a", one_line_from_5)

abbrev refused_at_4 : Rest → Result (List ℕ × Rest) Refusal
refused_at_4 rest = Err (record { line = 4; number = 4 })

abbrev line_or_0 : {A : Type 0} → Result A Refusal → ℕ
line_or_0 (Ok value) = 0
line_or_0 (Err refusal) = refusal.line

abbrev number_left : Result (List ℕ × Rest) Refusal → ℕ
number_left (Ok value) = value.1.number
number_left (Err refusal) = 0

abbrev word_read : (Rest → Result (List ℕ × Rest) Refusal) → Rest → Result (List ℕ) (Fault TextCause) → Type 0
word_read read left returned = Reads (λ word. word) text_refusal read two_lines_from_4 left returned

-- a reader that read moves on, and one that refused does not
pub reads : word_read word_after one_line_from_5 (Ok (codes "a")) × word_read refused_at_4 two_lines_from_4 (Err (at 4 BadLine))
reads = (refl, (refl, refl))

-- a reader that stays or moves where it must not, and a refusal at another line
pub reads_not : ¬ word_read word_after two_lines_from_4 (Ok (codes "a")) × ¬ word_read refused_at_4 one_line_from_5 (Err (at 4 BadLine))
    × ¬ word_read refused_at_4 two_lines_from_4 (Err (at 5 BadLine))
reads_not = (
  λ is. absurd (omega (arith, ap number_left is)),
  λ is. absurd (omega (arith, ap (λ (rest : Rest). rest.number) is.1)),
  λ is. absurd (omega (arith, ap line_or_0 is.0)),
)

pub gives : Gives (λ (n : ℕ). n + 1) text_refusal (Ok 5) (Ok 6) × Gives (λ (n : ℕ). n) text_refusal (Err (at 4 BadCard)) (Err (record { line = 4; number = 5 }))
gives = (refl, refl)

pub gives_not : ¬ Gives (λ (n : ℕ). n + 1) (λ (n : ℕ). n) (Ok 5) (Err 5)
    × ¬ Gives (λ (n : ℕ). n) text_refusal (Err (at 4 BadCard)) (Err (record { line = 3; number = 5 }))
gives_not = (λ is. cc, λ is. absurd (omega (arith, ap line_or_0 is)))

-- ---- lines, as a caller sees them: the text is of three lines, the second of which begins at byte 2
pub second_line_is_next : (text : lines.Lines) → text.source.now ≡ codes "a\nb c\na\n" → text.at ≡ 2 → (rest_of text).lines ≡ codes "b c" ∷ codes "a" ∷ []
unfolding rest_of lines_of
second_line_is_next text bytes at = ap (λ bytes. lines_of (drop text.at bytes)) bytes ∙ ap (λ at. lines_of (drop at (codes "a\nb c\na\n"))) at

-- the number of the next line, the text, and the place in bytes
pub lines_seen : (text : lines.Lines) → ((rest_of text).number ≡ text.number) × (source_of text ≡ text.source.now) × (lines_start text ≡ text.at)
unfolding rest_of source_of lines_start
lines_seen text = (refl, refl, refl)

pub line_has_words : (l : line.Line) → l.bytes.now ≡ codes "b c" → (line_of l).words ≡ codes "b" ∷ codes "c" ∷ []
unfolding line_of words_of
line_has_words l e = ap words_of e

pub line_seen : (l : line.Line) → ((line_of l).number ≡ l.number) × (line_start l ≡ l.start)
unfolding line_of line_start
line_seen l = (refl, refl)

pub word_seen : (word : token.Token) → (word_of word ≡ word.bytes.now) × (token_start word ≡ word.start)
unfolding word_of token_start
word_seen word = (refl, refl)

-- "b c" are three bytes at place 2 of a text of six, and at no other place. The last three bytes begin at place 3
pub places : IsAt (codes "a\nb c\n") 2 (codes "b c") × IsAt (codes "a\nb c\n") 3 (codes " c\n")
places = (record { within = omega arith; same = refl }, record { within = omega arith; same = refl })

-- neither three bytes nor none are past the end
pub no_places : ¬ IsAt (codes "a\nb c\n") 4 (codes "c\n\n") × ¬ IsAt (codes "a\n") 3 [] × ¬ IsAt (codes "a\nb c\n") 1 (codes "b c")
no_places = (λ is. absurd (omega arith), λ is. absurd (omega arith), λ is. cc)

pub line_at_2 : (l : line.Line) → l.start ≡ 2 → IsAt (codes "a\nb c\n") 2 l.bytes.now → IsLineOf (codes "a\nb c\n") l
unfolding IsLineOf
line_at_2 l e is = subst (λ start. IsAt (codes "a\nb c\n") start l.bytes.now) (sym e) is

-- ---- devices: 18,446,744,073,709,551,615 is the greatest count of failures
pub counts : map next_count (0 ∷ 7 ∷ 18446744073709551614 ∷ 18446744073709551615 ∷ [])
    ≡ 1 ∷ 8 ∷ 18446744073709551615 ∷ 18446744073709551615 ∷ []
counts = refl

-- a failure counts, and a success does not
pub counts_failures : CountsFailure {T = ℕ} {E = ℕ} 3 4 (Err 0) × CountsFailure {T = ℕ} {E = ℕ} 3 3 (Ok 0)
counts_failures = (refl, refl)

pub counts_nothing_else : ¬ CountsFailure {T = ℕ} {E = ℕ} 3 3 (Err 0) × ¬ CountsFailure {T = ℕ} {E = ℕ} 3 4 (Ok 0)
counts_nothing_else = (λ is. cc, λ is. cc)

pub failed : HasFailed 3 4 × HasFailed 18446744073709551615 18446744073709551615
failed = (λ below. omega arith, λ below. omega arith)

-- once below the greatest count, and after it
pub failed_never : ¬ HasFailed 18446744073709551614 18446744073709551614 × ¬ HasFailed 18446744073709551615 3
failed_never = (λ is. absurd (omega arith), λ is. absurd (omega arith))

-- nothing is said of a count at its greatest
pub stayed : HasNotFallen 3 3 × HasNotFallen 18446744073709551616 18446744073709551615
stayed = (λ below. omega arith, λ below. omega arith)

pub fell : HasNotFallen 18446744073709551615 18446744073709551614 → ⊥
fell is = absurd (omega arith)

pub glitches : map glitch_for (Interrupted ∷ UnexpectedEof ∷ []) ≡ Again ∷ Failed ∷ []
glitches = refl

pub parts_of_a_counted_reader : (counted_inner {T = ℕ} (record { inner = 5; faults = 7 }) ≡ 5) × (counted_faults {T = ℕ} (record { inner = 5; faults = 7 }) ≡ 7)
parts_of_a_counted_reader = (refl, refl)
