-- How many holes are sure: at all, and with each turn of the owner that may come next. The opening is the visible turns
-- that the problem lists as played.
use Rattle.std.specs.Prelude.{◌≡◌, ◌⊎◌, ℕ, ◌+◌, ◌-◌, ◌<◌, ◌≤◌, filter}
use Rattle.std.specs.List.{AllZip}
use Rattle.crib_cards.specs.Sides.{game_hole}
use Rattle.crib_cards.specs.declared.moves.Act.{Act}
use Rattle.crib_cards.specs.declared.sides.Scores.{Scores}
use Rattle.crib_play.specs.Filled.{filled_record}
use Rattle.crib_play.specs.History.{history_letters}
use Rattle.crib_play.specs.Score.{scores_after}
use Rattle.crib_problem.specs.declared.problem.Goal.TheVariants as goal
use Rattle.crib_problem.specs.declared.problem.Version.TheVariants.{Two}
use Rattle.crib_problem.specs.Setup.{Setup, IsSetup, start_of}
use Rattle.crib_know.specs.Knowledge.{played_events}
use Rattle.crib_search.specs.Winnable.{IsWinnable}
use Rattle.crib_leads.specs.Leads.{may_come}
use Rattle.crib_tables.specs.declared.holes.Holes.{Holes}
use Rattle.crib_tables.specs.declared.holes.TurnHoles.{TurnHoles}
use Rattle.crib_tables.specs.Turns.{IsSureTurn, own_turns}

-- the problem with another goal: so many holes
abbrev pub with_holes : Setup → ℕ → Setup
with_holes problem holes = record problem { version = Two; goal = goal.Holes holes }

-- the scores after the opening
abbrev pub opening_scores : Setup → Scores
opening_scores problem =
    scores_after (start_of problem) (filled_record (start_of problem) (history_letters (played_events problem)))

-- the owner has pegged so many holes in the opening
abbrev pub ArePegged : Setup → ℕ → Type 0
ArePegged problem holes = problem.scores.owner + holes ≤ (opening_scores problem).owner

-- so many holes are pegged in the opening, or they are possible as the goal, and with this goal something is sure
abbrev pub AreSureBy : (Setup → Type 0) → Setup → ℕ → Type 0
AreSureBy IsSure problem holes =
    ArePegged problem holes ⊎ (IsSetup (with_holes problem holes) × IsSure (with_holes problem holes))

-- so many holes are sure: they are pegged, or a plan is sure for them
abbrev pub AreSureHoles : Setup → ℕ → Type 0
AreSureHoles problem holes = AreSureBy IsWinnable problem holes

-- so many holes are sure with a turn next: they are pegged, or the turn is sure for them
abbrev pub AreSureWith : Act → Setup → ℕ → Type 0
AreSureWith act problem holes = AreSureBy (λ other. IsSureTurn other act) problem holes

-- so many holes are sure, and no more of those that are left to hole 121
pub record AreMost (AreSure : ℕ → Type 0) (problem : Setup) (holes : ℕ) : Type 0 where
  pub sure : AreSure holes
  pub left : holes ≤ game_hole - problem.scores.owner
  pub most : (more : ℕ) → holes < more → more ≤ game_hole - problem.scores.owner → ¬ AreSure more

-- the most holes that are sure with a turn next
abbrev pub AreMostWith : Setup → Act → TurnHoles → Type 0
AreMostWith problem act turn = (turn.act ≡ act) × AreMost (AreSureWith act problem) problem turn.holes

-- the scores after the opening, the most holes that are sure, and the most with each turn that may come next
pub record AreHoles (problem : Setup) (holes : Holes) : Type 0 where
  pub pegs : holes.pegs ≡ opening_scores problem
  pub most : AreMost (AreSureHoles problem) problem holes.holes
  pub turns : AllZip (AreMostWith problem) (filter (may_come problem) (own_turns problem)) holes.turns.items
