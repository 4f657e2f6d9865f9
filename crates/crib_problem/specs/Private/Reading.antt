-- A set of cards, compared with a list of cards, and the lines of a problem from its starter on.
use Rattle.std.specs.Prelude.{◌≡◌, ℕ, List, [], ◌∷◌, Result, Ok, codes}
use Rattle.crib_cards.specs.Cards.{IsCard}
use Rattle.crib_cards.specs.Sets.{has}
use Rattle.crib_cards.specs.declared.sides.Side.{Side}
use Rattle.crib_cards.specs.declared.sides.Scores.{Scores}
use Rattle.crib_text.specs.Refusals.{Refusal}
use Rattle.crib_text.specs.Reading.{◌>>=◌, Rest, value_at}
use Rattle.crib_problem.specs.declared.problem.Version.{Version}
use Rattle.crib_problem.specs.Setup.{Setup, setup_by}
use Rattle.crib_problem.specs.Reading.{starter_in, cards_in_line, goal_in}

-- a set has the same cards of the pack as a list
pub record IsSetOf (set listed : List ℕ) : Type 0 where
  pub same : (card : ℕ) → IsCard card → has set card ≡ has listed card

-- the problem that the four lines of the cards and the goal are read as, with no opening, and the lines after them
unfoldable pub cards_and_goal_at : Version → Side → Scores → Rest → Result (Setup × Rest) Refusal
cards_and_goal_at version dealer scores rest = do
  starter ← value_at starter_in rest
  hold ← value_at (cards_in_line (codes "hold") 4 (starter.0 ∷ [])) starter.1
  thrown ← value_at (cards_in_line (codes "throw") 2 (starter.0 ∷ hold.0)) hold.1
  goal ← value_at (goal_in version scores.owner) thrown.1
  Ok (setup_by version dealer scores starter.0 hold.0 thrown.0 goal.0 [], goal.1)
