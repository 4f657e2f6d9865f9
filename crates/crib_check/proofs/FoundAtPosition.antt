-- What the walk finds at a position follows from what it finds after it.
use Rattle.std.proofs.Common.{◌≡◌, ◌⊎◌, ℕ, ◌+◌, List, ◌∷◌, Option, Some, None, refl, sym, subst, inl, inr}
use Rattle.crib_cards.specs.Letters.{IsLetter, letter_index}
use Rattle.crib_cards.specs.declared.letters.Letter.{Letter}
use Rattle.crib_cards.specs.declared.moves.Move.{Move}
use Rattle.crib_play.specs.declared.turns.Turn.TheVariants as turns
use Rattle.crib_play.specs.History.{Event, Own, Theirs}
use Rattle.crib_problem.specs.Setup.{Setup}
use Rattle.crib_plan.specs.declared.plan.Node.{Node}
use Rattle.crib_know.specs.Hidden.{IsKnown}
use Rattle.crib_sure.specs.declared.keys.Key.{Key}
use Rattle.crib_check.specs.declared.failure.Failure.{Failure}
use Rattle.crib_check.specs.declared.trails.Event.{Event as TrailEvent}
use Rattle.crib_check.specs.Private.Found.{IsFoundBelow, IsFoundFrom, IsSettledBelow}
use Rattle.crib_sure.specs.Positions.{StandsAt, MayTakeAt}
use Rattle.crib_check.specs.Private.Positions.{IsSettled}
use Rattle.crib_check.proofs.WalkConclusions.{own_first, theirs_first, settled_own, below_more}

module _ {problem : Setup} {plan : List Node} {key next : Key} {history : List Event} (trail : List TrailEvent) where
  -- after the owner's move
  pub own_found : (what : Move) (found : Option Failure) → StandsAt problem plan key history → MayTakeAt plan key what →
      ((h : List Event) → StandsAt problem plan key h → StandsAt problem plan next (Own what ∷ h)) →
      IsFoundFrom problem plan next (Own what ∷ history) trail found → IsFoundFrom problem plan key history trail found
  own_found what None stands may goes settled = settled_own what may goes settled
  own_found what (Some failure) stands may goes stopped =
      record { room = stopped.room; first = λ game is. own_first stands what may (stopped.first game is) }

  -- after a letter of the opponent
  pub theirs_found : (letter : Letter) (found : Option Failure) → StandsAt problem plan key history → key.know.round.asked ≡ turns.Opponent → IsLetter letter →
      ((h : List Event) → StandsAt problem plan key h → StandsAt problem plan next (Theirs letter ∷ h)) →
      IsFoundFrom problem plan next (Theirs letter ∷ history) trail found → IsSettledBelow problem plan key (letter_index letter) →
      IsFoundBelow problem plan key (letter_index letter + 1) history trail found
  theirs_found letter None stands asked is_letter goes settled below =
      below_more letter is_letter refl below (λ h stands can. settled (Theirs letter ∷ h) (goes h stands))
  theirs_found letter (Some failure) stands asked is_letter goes stopped below =
      record { room = stopped.room; first = λ game is_of. theirs_first stands asked letter is_letter below (stopped.first game is_of) }

-- after some letters, where the position is settled if they are
pub found_from : (problem : Setup) (plan : List Node) (key : Key) (index : ℕ) (history : List Event) (trail : List TrailEvent) (found : Option Failure) →
    (found ≡ None → IsSettledBelow problem plan key index → IsSettled problem plan key) → IsFoundBelow problem plan key index history trail found →
    IsFoundFrom problem plan key history trail found
found_from problem plan key index history trail None settles is = settles refl is
found_from problem plan key index history trail (Some failure) settles is = is

-- a table with one more settled position
pub one_more_settled : {problem : Setup} {plan : List Node} {key : Key} {history : List Event} (held before : Key → Type 0) →
    StandsAt problem plan key history → (IsKnown key.know → (other : Key) → IsKnown other.know → held other → before other ⊎ (other ≡ key)) →
    ((other : Key) → before other → IsSettled problem plan other) → IsSettled problem plan key → (other : Key) → held other → IsSettled problem plan other
one_more_settled {problem} {plan} held before stands step settled here other is theirs at =
    elim (step (known_by stands) other (known_by at) is) [
      | inl old ↦ settled other old theirs at
      | inr e ↦ let S : Key → Type 0 = λ k. IsSettled problem plan k in (subst S (sym e) here) theirs at
    ]
  where
    known_by : {k : Key} {h : List Event} → StandsAt problem plan k h → IsKnown k.know
    known_by s = record { problem = problem; history = _; knows = s.knows }
