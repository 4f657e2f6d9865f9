-- Deals that beat a plan, and demands that decide which of the open deals do. The opening is the visible turns that the
-- problem lists as played.
use Rattle.std.specs.Prelude.{◌≡◌, ℕ, ◌≤◌, nat_lt, Bool, List, [], map, get_or, IsTrue, IsFalse}
use Rattle.crib_cards.specs.Cards.{rank_of}
use Rattle.crib_cards.specs.Sets.{count_at, rank_counts}
use Rattle.crib_cards.specs.declared.letters.Letter.{Letter}
use Rattle.crib_cards.specs.declared.letters.Letter.TheVariants.{Seen, Go}
use Rattle.crib_cards.specs.declared.sides.Dealt.{Dealt}
use Rattle.crib_show.specs.Show.{hand_points}
use Rattle.crib_show.specs.declared.demands.Demand.{Demand}
use Rattle.crib_problem.specs.Setup.{Setup}
use Rattle.crib_plan.specs.declared.plan.Node.{Node}
use Rattle.crib_know.specs.Knowledge.{Knowledge, played_events}
use Rattle.crib_know.specs.Hidden.{IsOpen, passes_counts}
use Rattle.crib_sure.specs.Positions.{StandsAt}
use Rattle.crib_sure.specs.Shows.{meets}
use Rattle.crib_game.specs.declared.section.game.Game.{Game}
use Rattle.crib_game.specs.declared.following.ending.Ending.{Ending}
use Rattle.crib_beaten.specs.declared.plays.Plays.{Plays}
use Rattle.crib_check.specs.Failing.{IsFailing}

-- a deal beats a plan: it is the deal of some failing game
pub record Beats (problem : Setup) (plan : List Node) (dealt : Dealt) : Type 0 where
  pub game : Game
  pub result : Ending
  pub failing : IsFailing problem plan game result
  pub of_deal : game.opp ≡ dealt

-- a demand decides which deals beat a plan, among the open deals whose hold has so many cards of each rank: those that
-- meet it do not beat the plan, and the others do
pub record Decides (problem : Setup) (plan : List Node) (counts : List ℕ) (demand : Demand) : Type 0 where
  pub met : (dealt : Dealt) → IsOpen problem dealt → rank_counts (map rank_of dealt.hold) ≡ counts →
      IsTrue (meets problem demand dealt) → ¬ Beats problem plan dealt
  pub missed : (dealt : Dealt) → IsOpen problem dealt → rank_counts (map rank_of dealt.hold) ≡ counts →
      IsFalse (meets problem demand dealt) → Beats problem plan dealt

-- how many cards of each rank the choice at an index has
abbrev pub counts_of : List (List ℕ) → ℕ → List ℕ
counts_of choices index = get_or choices index []

-- the demand at an index
abbrev pub demand_of : List Demand → ℕ → Demand
demand_of demands index = get_or demands index (record { hand = 0; total = 0; crib = 0 })

-- whether a hold with these counts may show a letter: it has a card left for it, or passes the test after a go
abbrev pub may_show : Knowledge → Knowledge → Letter → List ℕ → Bool
may_show before after (Seen rank) counts = nat_lt (count_at before.ranks_seen rank) (count_at counts rank)
may_show before after Go counts = passes_counts after.least after.ranks_seen counts

-- the games of a problem that follow a plan, as the code has them: with the position after the opening and the points
-- of the owner's hand
pub record ArePlays {A : Type 0} (problem : Setup) (plan : List Node) (plays : Plays A) : Type 0 where
  pub same_problem : plays.problem.now ≡ problem
  pub same_plan : plays.plan.now ≡ plan
  pub start : StandsAt problem plan plays.start (played_events problem)
  pub points : plays.own_hand ≡ hand_points problem.hold problem.starter
  pub few : plays.own_hand ≤ 102
