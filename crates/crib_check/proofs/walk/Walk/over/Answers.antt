use Rattle.std.proofs.Common.{rules, ◌≡◌}
use Rattle.crib_show.specs.Outcome.{outcome_of}
use Rattle.crib_game.specs.Followed.{ending_with}
use Rattle.crib_game.specs.Private.Judging.{full_at}
use Rattle.crib_check.specs.Private.Trails.{later_of_trail}
use Rattle.crib_check.specs.Private.Walks.{history_at}
use Rattle.crib_check.proofs.TrailLengths.{game_room}
use Rattle.crib_check.proofs.NamedGames.{over_named}
use Rattle.crib_check.proofs.WalkConclusions.{settled_over}
use Rattle.crib_check.proofs.WalkSteps.{failed, stays}
use Rattle.crib_check.proofs.walk.Walk.over.Goals as goal

pub returns-in-Some : goal.returns-in-Some
returns-in-Some g c =
    let walk = c.args.self.now in
    let stands = c.requires.here.here in
    let ending : c.of.result ≡ ending_with (outcome_of (full_at walk.problem.now c.in-Some.dealt c.args.key.now.know.round)) = search rules in
    failed (assumption) (λ none. cc) (record {
      room = game_room c.args.key.now.know walk.problem.now walk.trail.items stands.knows;
      first = λ game is. over_named (later_of_trail walk.trail.items) stands game (rw is.deal is.acts) c.requires.over (rw is.deal ending)
          (rw is.deal (c.in-Some.ensures.first (history_at walk) stands.knows));
    })

pub returns-in_default : goal.returns-in_default
returns-in_default g c =
    stays (assumption) (rw c.requires.here.none (settled_over c.requires.over (rw c.in_default.is at c.first_shortfall.ensures.first)))
