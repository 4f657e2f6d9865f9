-- Where a line is. The sections of an input follow each other, each with as many lines as it announces.
use Rattle.std.specs.Prelude.{ℕ, ◌+◌, ◌-◌, ◌==◌, nat_le, List, [], ◌∷◌, Option, None, slice_get, codes, bytes_eq}
use Rattle.std.specs.Prelude.{if◌then◌else◌, unwrap_or}
use Rattle.crib_text.specs.Words.{lines_of, words_of, number_read}
use Rattle.crib_input.specs.declared.sections.Sections.{Sections}
use Rattle.crib_input.specs.declared.sections.Sections.TheVariants as inputs
use Rattle.crib_message.specs.declared.scene.Spot.{Spot}
use Rattle.crib_message.specs.declared.scene.Section.{Section}
use Rattle.crib_message.specs.declared.scene.Section.TheVariants.{Problem, Plan, Game, Turns, After}

-- the line of an input with this number, from 1, without its LF, if there is one
abbrev pub numbered_line : List ℕ → ℕ → Option (List ℕ)
numbered_line input number = if number == 0 then None else slice_get (lines_of input) (number - 1)

-- the bytes of a line, and none if the input has no such line
abbrev pub text_at : List ℕ → ℕ → List ℕ
text_at input number = unwrap_or (numbered_line input number) []

-- the number that is the second word of a line, and 0 if it has none there
abbrev pub announced : List ℕ → ℕ → ℕ
announced input number =
    unwrap_or (number_read (unwrap_or (slice_get (words_of (text_at input number)) 1) [])) 0

-- the lines with which a section begins: of a problem up to `goal`, or `played` if it is of version 2, and of the
-- others up to `nodes`, `acts` and `turns`. The last one announces how many follow; a goal announces none
abbrev pub first_lines : List ℕ → Section → ℕ
first_lines input Problem = if bytes_eq (text_at input 1) (codes "problem 2") then 8 else 7
first_lines input Plan = 2
first_lines input Game = 4
first_lines input Turns = 1
first_lines input After = 0

-- the lines of a section that begins behind this many lines
abbrev pub lines_behind : List ℕ → ℕ → Section → ℕ
lines_behind input before section =
    first_lines input section + announced input (before + first_lines input section)

-- the spot of a line: its section, of those that begin behind this many lines, and its number there, from 1
unfoldable pub spot_behind : List ℕ → ℕ → ℕ → List Section → Spot
spot_behind input line before [] = record { section = After; number = line - before }
spot_behind input line before (section ∷ others) =
    if nat_le line (before + lines_behind input before section)
    then record { section = section; number = line - before }
    else spot_behind input line (before + lines_behind input before section) others

-- the sections that an input has to have, in their order
abbrev pub sections_in : Sections → List Section
sections_in inputs.Problem = Problem ∷ []
sections_in inputs.Question = Problem ∷ Plan ∷ []
sections_in inputs.Played = Problem ∷ Game ∷ []
sections_in inputs.PlayedUnder = Problem ∷ Plan ∷ Game ∷ []
sections_in inputs.Turns = Problem ∷ Plan ∷ Turns ∷ []

-- the spot of a line of an input
abbrev pub spot_in : Sections → List ℕ → ℕ → Spot
spot_in sections input line = spot_behind input line 0 (sections_in sections)
