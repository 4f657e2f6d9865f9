-- The words of outcomes, and of what is counted in a show.
use Rattle.std.specs.Prelude.{ℕ, Bool, List, Option, Some, None, codes, if◌then◌else◌}
use Rattle.crib_show.specs.declared.show.outcomes.Outcome.{Outcome}
use Rattle.crib_show.specs.declared.show.outcomes.Outcome.TheVariants.{Reached, Lost, Short}

-- the word for what is counted: a hand or the crib
abbrev pub show_word : Bool → List ℕ
show_word crib = if crib then codes "crib" else codes "hand"

-- the word for the outcome, or open if the deal is not done
abbrev pub outcome_word : Option Outcome → List ℕ
outcome_word None = codes "open"
outcome_word (Some Reached) = codes "reached"
outcome_word (Some Lost) = codes "lost"
outcome_word (Some Short) = codes "short"
