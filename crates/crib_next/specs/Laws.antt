-- The laws of what comes next.
use Rattle.std.specs.Prelude.{◌≡◌, ◌≢◌, ℕ, List, [], ◌++◌, reverse, Ok, Some, IsTrue}
use Rattle.crib_cards.specs.Sets.{has}
use Rattle.crib_cards.specs.declared.moves.Act.{Act}
use Rattle.crib_play.specs.Fitting.{fits_at}
use Rattle.crib_play.specs.declared.turns.Turn.TheVariants as turn
use Rattle.crib_problem.specs.Setup.{Setup, IsSetup}
use Rattle.crib_plan.specs.declared.plan.Node.{Node}
use Rattle.crib_plan.specs.Places.{stated_card}
use Rattle.crib_know.specs.Knowledge.{asked_now, count_after, own_left}
use Rattle.crib_sure.specs.Sure.{IsSure}
use Rattle.crib_next.specs.Section.{AreTurns}
use Rattle.crib_next.specs.Next.{history_with, next_from, place_with}
use Rattle.crib_next.specs.declared.next.NextTurn.TheVariants.{Play, Stuck}

-- whoever plays a sure plan is never stuck
abbrev pub SureLaw : Type 0
SureLaw =
    (problem : Setup) (plan : List Node) (line : ℕ) (turns : List Act) → IsSetup problem → AreTurns turns →
    IsSure problem plan → next_from problem plan line [] turns ≢ Ok Stuck

-- a card may be played after some turns: it is the owner's turn, the plan states the card, and the owner holds it and
-- it fits
pub record MayPlayAfter (problem : Setup) (plan : List Node) (before : List Act) (card : ℕ) : Type 0 where
  pub asked : asked_now problem (history_with problem before) ≡ turn.Owner
  pub stated : stated_card plan (place_with problem plan before) ≡ Some card
  pub held : IsTrue (has (own_left problem (history_with problem before)) card)
  pub fits : IsTrue (fits_at (count_after problem (history_with problem before)) card)

-- if a card comes next, it may be played after the turns
abbrev pub CardLaw : Type 0
CardLaw =
    (problem : Setup) (plan : List Node) (line : ℕ) (turns : List Act) (card : ℕ) →
    next_from problem plan line [] turns ≡ Ok (Play card) → MayPlayAfter problem plan (reverse turns) card
