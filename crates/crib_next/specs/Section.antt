-- The turns since a problem as lines: how they are spelled, and what lines are read as.
use Rattle.std.specs.Prelude.{◌≤◌, ℕ, List, length, Result, codes}
use Rattle.std.specs.List.{AllByRecursion}
use Rattle.crib_cards.specs.declared.moves.Act.{Act}
use Rattle.crib_text.specs.Refusals.{Refusal}
use Rattle.crib_text.specs.Reading.{◌>>=◌, Rest, value_at}
use Rattle.crib_text.specs.Forms.{values_at}
use Rattle.crib_text.specs.Spelling.{lines_text}
use Rattle.crib_problem.specs.Reading.{acts_count_in, act_in, most_acts}
use Rattle.crib_problem.specs.Setup.{IsMove}
use Rattle.crib_problem.specs.Spelling.{acts_lines}

-- turns that have a spelling: at most 32, whose cards are of the pack
pub record AreTurns (turns : List Act) : Type 0 where
  pub few : length turns ≤ most_acts
  pub moves : AllByRecursion (λ (act : Act). IsMove act.what) turns

-- the lines of some turns, each as its words
unfoldable pub turns_lines : List Act → List (List (List ℕ))
turns_lines turns = acts_lines (codes "turns") turns

-- the text of some turns
unfoldable pub turns_text : List Act → List ℕ
turns_text turns = lines_text (turns_lines turns)

-- the turns that the next lines spell, or the first refusal
unfoldable pub turns_at : Rest → Result (List Act × Rest) Refusal
turns_at rest = do
  count ← value_at (acts_count_in (codes "turns")) rest
  values_at (λ number. act_in) 0 count.0 count.1
