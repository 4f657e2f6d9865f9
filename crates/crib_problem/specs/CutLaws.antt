-- The beginning of a problem, by lines or by bytes, is refused as cut short.
use Rattle.std.specs.Prelude.{◌≡◌, ℕ, ◌+◌, List, ◌∷◌, ◌++◌, length, map, Err}
use Rattle.crib_text.specs.Refusals.{cut_short}
use Rattle.crib_text.specs.Spelling.{line_bytes}
use Rattle.crib_text.specs.Words.{line_after}
use Rattle.crib_text.specs.Reading.{◌>>=◌, all_lines}
use Rattle.crib_problem.specs.Setup.{Setup, IsSetup}
use Rattle.crib_problem.specs.Spelling.{problem_lines, problem_text}
use Rattle.crib_problem.specs.Reading.{problem_at}

-- the first lines of a problem, but not all of them, are refused as cut short, at the line that is missing
abbrev pub LinesCutLaw : Type 0
LinesCutLaw =
    (problem : Setup) (number : ℕ) (front : List (List ℕ)) (next : List ℕ) (back : List (List ℕ)) → IsSetup problem →
    front ++ next ∷ back ≡ map line_bytes (problem_lines problem) →
    problem_at (record { number = number; lines = front }) ≡
    Err (record { line = number + length front; number = cut_short })

-- each proper beginning of the text of a problem is refused as cut short, at the line of the first missing byte
abbrev pub TextCutLaw : Type 0
TextCutLaw =
    (problem : Setup) (front : List ℕ) (next : ℕ) (back : List ℕ) → IsSetup problem →
    front ++ next ∷ back ≡ problem_text problem →
    (all_lines front >>= problem_at) ≡ Err (record { line = line_after front; number = cut_short })
