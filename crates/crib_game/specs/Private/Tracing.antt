-- How the code follows a plan: by its place, the round, and the cards that the owner has left.
use Rattle.std.specs.Prelude.{◌≡◌, ℕ, Bool, not, ◌&&◌, List, Option}
use Rattle.std.specs.List.{list_any}
use Rattle.crib_cards.specs.Start.{pone_of}
use Rattle.crib_cards.specs.declared.moves.Act.{Act}
use Rattle.crib_cards.specs.declared.sides.Dealt.{Dealt}
use Rattle.crib_cards.specs.declared.sides.Side.TheVariants.{Owner}
use Rattle.crib_play.specs.Record.{count_of}
use Rattle.crib_play.specs.Score.{asks}
use Rattle.crib_play.specs.Fitting.{fits_at}
use Rattle.crib_play.specs.Standing.{Standing}
use Rattle.crib_plan.specs.declared.plan.Next.{Next}
use Rattle.crib_plan.specs.declared.plan.Node.{Node}
use Rattle.crib_problem.specs.Setup.{Setup, start_of}
use Rattle.crib_game.specs.declared.following.ending.Ending.{Ending}
use Rattle.crib_game.specs.Replay.{outcome_if_done}
use Rattle.crib_game.specs.Following.{is_playable_at, place_of}
use Rattle.crib_game.specs.Private.Judging.{is_over, full_at}
use Rattle.crib_game.specs.Private.Walking.{record_after}
use Rattle.crib_game.specs.Followed.{ending_without}

-- whether the owner is stuck in a round: the owner is to move and a card of theirs fits, but no card is stated that
-- they hold and that fits
abbrev pub is_stuck_at : Standing → List ℕ → Option ℕ → Bool
is_stuck_at table cards stated =
    asks table.asked Owner && list_any (fits_at (count_of table.pile)) cards
    && not (is_playable_at (count_of table.pile) cards stated)

-- the ending of a game, by its round, the cards that the owner has left, and the stated card
abbrev pub ending_at : Setup → Dealt → Standing → List ℕ → Option ℕ → Ending
ending_at problem dealt table cards stated =
    ending_without (outcome_if_done (is_over table.asked) (full_at problem dealt table))
    (is_stuck_at table cards stated)

-- a plan and its place after some acts. The plan is the same as before them
pub record IsPlanAfter (first plan : List Node) (place : Next) (problem : Setup) (before : List Act) : Type 0 where
  pub same : plan ≡ first
  pub place_is : place ≡ place_of first problem.played (pone_of (start_of problem)) (record_after problem before)
