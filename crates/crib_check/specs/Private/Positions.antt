-- Statements about the games that go on from a position of the walk of the code.
use Rattle.std.specs.Prelude.{◌≡◌, ◌≢◌, List, IsTrue, IsFalse}
use Rattle.crib_cards.specs.Order.{is_before}
use Rattle.crib_cards.specs.declared.sides.Dealt.{Dealt}
use Rattle.crib_play.specs.Standing.{Standing}
use Rattle.crib_show.specs.Outcome.{outcome_of}
use Rattle.crib_show.specs.declared.show.outcomes.Outcome.TheVariants.{Reached}
use Rattle.crib_game.specs.Private.Judging.{full_at}
use Rattle.crib_play.specs.History.{Event}
use Rattle.crib_problem.specs.Setup.{Setup}
use Rattle.crib_plan.specs.declared.plan.Node.{Node}
use Rattle.crib_know.specs.Hidden.{AgreesWith}
use Rattle.crib_game.specs.declared.section.game.Game.{Game}
use Rattle.crib_game.specs.declared.following.ending.Ending.{Ending}
use Rattle.crib_game.specs.Replay.{acts_back}
use Rattle.crib_cards.specs.Deals.{deal_numbers, is_in_pack_order}
use Rattle.crib_sure.specs.declared.keys.Key.{Key}
use Rattle.crib_check.specs.Failing.{IsFailing, comes_before, is_suited}
use Rattle.crib_sure.specs.Positions.{StandsAt}
use Rattle.crib_sure.specs.Private.Histories.{Extends, history_of_game}

-- no failing game goes on from a history
abbrev pub HoldsFrom : Setup → List Node → List Event → Type 0
HoldsFrom problem plan history =
    (game : Game) (result : Ending) → IsFailing problem plan game result → Extends history (history_of_game game) → ⊥

-- a position is settled: no failing game goes on from a history that it represents
abbrev pub IsSettled : Setup → List Node → Key → Type 0
IsSettled problem plan key =
    (history : List Event) → StandsAt problem plan key history → HoldsFrom problem plan history

-- the first failing game of those that go on from a history
pub record IsFirstFrom (problem : Setup) (plan : List Node) (history : List Event) (game : Game) (result : Ending)
    : Type 0 where
  pub failing : IsFailing problem plan game result
  pub extends : Extends history (history_of_game game)
  pub in_pack_order : IsTrue (is_in_pack_order game.opp)
  pub in_suit_order : IsTrue (is_suited problem game.opp.hold (acts_back game))
  pub first : (other : Game) (others_ending : Ending) → IsFailing problem plan other others_ending →
      Extends history (history_of_game other) → IsFalse (comes_before other game)

-- with the scores of this state, each deal that agrees with a history has the outcome Reached
abbrev pub AllReach : Setup → List Event → Standing → Type 0
AllReach problem history table =
    (dealt : Dealt) → AgreesWith problem history dealt → outcome_of (full_at problem dealt table) ≡ Reached

-- with the scores of this state, the first deal, by its card numbers, that agrees with a history and does not have
-- the outcome Reached
pub record IsFirstShortfall (problem : Setup) (history : List Event) (table : Standing) (dealt : Dealt) : Type 0 where
  pub agrees : AgreesWith problem history dealt
  pub fails : outcome_of (full_at problem dealt table) ≢ Reached
  pub in_order : IsTrue (is_in_pack_order dealt)
  pub first : (other : Dealt) → AgreesWith problem history other → outcome_of (full_at problem other table) ≢ Reached →
      IsFalse (is_before (deal_numbers other) (deal_numbers dealt))
