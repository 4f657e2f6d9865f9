-- Lemmas about readers that read the first lines as they read all lines: where the first lines end too early, the text is cut short.
use Rattle.std.proofs.Common.{rules}
use Rattle.std.proofs.Common.{◌≡◌, ℕ, ◌+◌, ◌≤◌, true, false, List, [], ◌∷◌, ◌++◌, length, Result, Ok, Err, refl, sym, ap, ◌∙◌, arith, inl, inr}
use Rattle.std.specs.Prelude.{◌⊎◌}
use Rattle.std.specs.List.{list_all}
use Rattle.std.proofs.lemmas.Bool.{cases_Bool, and_parts}
use Rattle.std.proofs.lemmas.List.Folds.{list_all-append}
use Rattle.crib_text.specs.Refusals.{Refusal, cut_short}
use Rattle.crib_text.specs.Words.{lines_of, words_of, is_text_byte, is_ended, line_after}
use Rattle.crib_text.specs.Reading.{◌>>=◌, Rest, Line, text_check, all_lines, words_in, first_line, line_at, in_line, value_at}
use Rattle.crib_text.proofs.WordLemmas.{some_line}
use Rattle.crib_text.proofs.LineLaws.{cut_lines, lines_law, no_feed_law}
use Rattle.crib_text.proofs.ByteLemmas.{checked, lines_count, lines_count-ended}
use Rattle.crib_text.proofs.LineLemmas.{line_at-nil}
use Rattle.crib_text.proofs.ReadingLemmas.{bind_ok, ok_is, pair_is, value_at-line}

-- the lines that are left, from this number on
abbrev pub from_line : ℕ → List (List ℕ) → Rest
from_line number lines = record { number = number; lines = lines }

-- the refusal of a line that is missing
abbrev pub missing : ℕ → Refusal
missing line = record { line = line; number = cut_short }

-- ---- readers of lines

-- what a reader returns of all lines, it returns of the first ones alone, and it leaves some of them
pub record IsKept {A : Type 0} (read : Rest → Result (A × Rest) Refusal) (number : ℕ) (front back : List (List ℕ)) (value : A) (after : Rest) : Type 0 where
  pub left : List (List ℕ)
  pub lines : after.lines ≡ left ++ back
  pub counted : after.number + length left ≡ number + length front
  pub same : read (from_line number front) ≡ Ok (value, from_line after.number left)

-- a reader that does so, or refuses the first lines as cut short
pub record IsSteady {A : Type 0} (read : Rest → Result (A × Rest) Refusal) : Type 0 where
  pub cut : (number : ℕ) (front back : List (List ℕ)) (value : A) (after : Rest) → read (from_line number (front ++ back)) ≡ Ok (value, after)
      → IsKept read number front back value after ⊎ (read (from_line number front) ≡ Err (missing (number + length front)))

pub steady_ok : {A : Type 0} (value : A) → IsSteady (λ rest. Ok (value, rest))
steady_ok {A = A} value = search rules

-- one such reader after another is such a reader. The second one may ask for what the first one reads
pub steady_after : {A B : Type 0} (read : Rest → Result (A × Rest) Refusal) (next : A × Rest → Result (B × Rest) Refusal) → IsSteady read →
    ((value : A) (rest after : Rest) → read rest ≡ Ok (value, after) → IsSteady (λ rest. next (value, rest)))
    → IsSteady (λ rest. read rest >>= next)
steady_after {A = A} {B = B} read next one other = record {
  cut = λ number front back value after e.
      let a = bind_ok (read (from_line number (front ++ back))) next (value, after) e in
      elim (one.cut number front back a.0.0 a.0.1 a.1) [
        | inr short ↦ inr (ap (λ (r : Result (A × Rest) Refusal). r >>= next) short)
        | inl kept ↦
            let mid = a.0.1.number in
            let later : next (a.0.0, from_line mid (kept.left ++ back)) ≡ Ok (value, after) = ap (λ (ls : List (List ℕ)). next (a.0.0, from_line mid ls))
            (sym kept.lines) ∙ a.2 in
            let here : (read (from_line number front) >>= next) ≡ next (a.0.0, from_line mid kept.left) =
            ap (λ (r : Result (A × Rest) Refusal). r >>= next) kept.same in
            elim ((other a.0.0 (from_line number (front ++ back)) a.0.1 a.1).cut mid kept.left back value after later) [
              | inl more ↦ inl (record { left = more.left; lines = more.lines; counted = more.counted ∙ kept.counted; same = here ∙ more.same })
              | inr short ↦ inr (here ∙ short ∙ ap (λ (n : ℕ). Err (missing n)) kept.counted)
            ]
      ];
}

pub steady_then : {A B : Type 0} (read : Rest → Result (A × Rest) Refusal) (next : A × Rest → Result (B × Rest) Refusal) → IsSteady read →
    ((value : A) → IsSteady (λ rest. next (value, rest)))
    → IsSteady (λ rest. read rest >>= next)
steady_then read next one other = steady_after read next one (λ value rest after e. other value)

-- a value, with the lines that are left
abbrev give : {A : Type 0} → Rest → A → Result (A × Rest) Refusal
give rest value = Ok (value, rest)

-- the value of one line, read in one step or in two
one_line : {A : Type 0} (r : Result Line Refusal) (read : List (List ℕ) → Result A ℕ) (rest : Rest)
    → ((r >>= λ (line : Line). give rest line) >>= λ (next : Line × Rest). in_line next.0.number (read next.0.words) >>= give next.1)
    ≡ ((r >>= λ (line : Line). in_line line.number (read line.words)) >>= give rest)
one_line (Ok line) read rest = refl
one_line (Err refused) read rest = refl

value_of_line : {A : Type 0} (read : List (List ℕ) → Result A ℕ) (number : ℕ) (first : List ℕ) (lines : List (List ℕ))
    → value_at read (from_line number (first ∷ lines)) ≡ ((words_in number (words_of first) >>= λ (line : Line). in_line line.number (read line.words)) >>=
    give (from_line (number + 1) lines))
unfolding value_at line_at first_line
value_of_line read number first lines = one_line (words_in number (words_of first)) read (from_line (number + 1) lines)

pub steady_value : {A : Type 0} (read : List (List ℕ) → Result A ℕ) → IsSteady (value_at read)
steady_value {A = A} read = record { cut = λ number front back value after e. by_front number front back value after e }
  where
    by_front : (number : ℕ) (front back : List (List ℕ)) (value : A) (after : Rest) → value_at read (from_line number (front ++ back)) ≡ Ok (value, after)
        → IsKept (value_at read) number front back value after ⊎ (value_at read (from_line number front) ≡ Err (missing (number + length front)))
    by_front number [] back value after e =
        let here : number ≡ number + length {A = List ℕ} [] = omega arith in
        inr (value_at-line read (from_line number []) (missing number) (line_at-nil number) ∙ ap (λ (n : ℕ). Err (missing n)) here)
    by_front number (first ∷ front) back value after e =
        let told : Result A Refusal = words_in number (words_of first) >>= λ (line : Line). in_line line.number (read line.words) in
        let a = bind_ok told (give (from_line (number + 1) (front ++ back))) (value, after) (sym (value_of_line read number first (front ++ back)) ∙ e) in
        let is = pair_is a.0 value (from_line (number + 1) (front ++ back)) after (ok_is (a.0, from_line (number + 1) (front ++ back)) (value, after) a.2) in
        let counted : number + 1 + length front ≡ number + length (first ∷ front) = omega arith in
        inl (record {
          left = front;
          lines = ap (λ (r : Rest). r.lines) (sym is.1);
          counted = ap (λ (r : Rest). r.number + length front) (sym is.1) ∙ counted;
          same = value_of_line read number first front ∙ ap (λ (r : Result A Refusal). r >>= give (from_line (number + 1) front)) (a.1 ∙ ap Ok is.0)
              ∙ ap (λ (r : Rest). Ok (value, from_line r.number front)) is.1;
        })

-- if all lines are read to their end, the first ones alone are refused as cut short
pub lines_cut : {A : Type 0} (read : Rest → Result (A × Rest) Refusal) (number last : ℕ) (front : List (List ℕ)) (next : List ℕ) (back : List (List ℕ))
    (value : A) → IsSteady read
    → read (from_line number (front ++ next ∷ back)) ≡ Ok (value, from_line last []) → read (from_line number front) ≡ Err (missing (number + length front))
lines_cut read number last front next back value steady e =
    elim (steady.cut number front (next ∷ back) value (from_line last []) e) [ inl kept ↦ absurd (some_left kept.left kept.lines) | inr short ↦ short ]
  where
    some_left : (left : List (List ℕ)) → [] ≡ left ++ next ∷ back → ⊥
    some_left [] e = cc
    some_left (first ∷ left) e = cc

-- ---- texts

-- a text goes on after an LF: its lines are those before and those after it
ended_front : (front more : List ℕ) → is_ended front ≡ true → lines_of (front ++ more) ≡ lines_of front ++ lines_of more
ended_front front more e = ap (λ text. lines_of (text ++ more)) (sym (lines_law front e)) ∙ cut_lines (lines_of front) more (no_feed_law front)

-- bytes that are read as lines: no byte is bad, and these are the lines
lines_read : (bytes : List ℕ) (rest : Rest) → all_lines bytes ≡ Ok rest → (list_all is_text_byte bytes ≡ true) × (from_line 1 (lines_of bytes) ≡ rest)
unfolding all_lines
lines_read bytes rest e =
    let a = bind_ok (text_check bytes) _ rest e in
    ((checked bytes a.1).0, ok_is (from_line 1 (lines_of bytes)) rest a.2)

not_ended : (bytes : List ℕ) → list_all is_text_byte bytes ≡ true → is_ended bytes ≡ false → all_lines bytes ≡ Err (missing (line_after bytes))
unfolding all_lines text_check
not_ended bytes all open_end = rw (all, open_end, lines_count bytes open_end) refl

is_text : (bytes : List ℕ) → list_all is_text_byte bytes ≡ true → is_ended bytes ≡ true → all_lines bytes ≡ Ok (from_line 1 (lines_of bytes))
unfolding all_lines text_check
is_text bytes all ended = rw (all, ended) refl

-- a list of lines that is not empty has a first line
first_of : (lines : List (List ℕ)) → 1 ≤ length lines → (first : List ℕ) × (rest : List (List ℕ)) × (lines ≡ first ∷ rest)
first_of [] some = absurd (omega arith)
first_of (line ∷ lines) some = (line, lines, refl)

-- each proper beginning of a text that is read to its end is refused as cut short, at the line of the first byte that is missing
pub text_cut : {A : Type 0} (read : Rest → Result (A × Rest) Refusal) (front : List ℕ) (next : ℕ) (back : List ℕ) (last : ℕ) (value : A) → IsSteady read
    → (all_lines (front ++ next ∷ back) >>= read) ≡ Ok (value, from_line last []) → (all_lines front >>= read) ≡ Err (missing (line_after front))
text_cut {A = A} read front next back last value steady e =
    let a = bind_ok (all_lines (front ++ next ∷ back)) read (value, from_line last []) e in
    let whole = lines_read (front ++ next ∷ back) a.0 a.1 in
    let good = (and_parts (list_all is_text_byte front) (list_all is_text_byte (next ∷ back)) (sym (list_all-append is_text_byte front (next ∷ back))
    ∙ whole.0)).0 in
    elim (cases_Bool (is_ended front)) [
      | inl ended ↦
          let line = first_of (lines_of (next ∷ back)) (some_line next back) in
          let lines : lines_of front ++ line.0 ∷ line.1 ≡ lines_of (front ++ next ∷ back) = ap (λ (ls : List (List ℕ)). lines_of front ++ ls) (sym line.2)
          ∙ sym (ended_front front (next ∷ back) ended) in
          let all : read (from_line 1 (lines_of front ++ line.0 ∷ line.1)) ≡ Ok (value, from_line last []) =
          ap (λ (ls : List (List ℕ)). read (from_line 1 ls)) lines ∙ ap read whole.1 ∙ a.2 in
          ap (λ (r : Result Rest Refusal). r >>= read) (is_text front good ended) ∙ lines_cut read 1 last (lines_of front) line.0 line.1 value steady all
          ∙ ap (λ (n : ℕ). Err (missing n)) (lines_count-ended front ended)
      | inr open_end ↦ ap (λ (r : Result Rest Refusal). r >>= read) (not_ended front good open_end)
    ]
