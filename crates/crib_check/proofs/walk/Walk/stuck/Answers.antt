use Rattle.crib_check.specs.Private.Trails.{later_of_trail}
use Rattle.crib_check.specs.Private.Walks.{history_at}
use Rattle.crib_check.proofs.TrailLengths.{game_room}
use Rattle.crib_check.proofs.NamedGames.{stuck_named}
use Rattle.crib_check.proofs.WalkSteps.{failed}
use Rattle.crib_check.proofs.walk.Walk.stuck.Goals as goal

pub returns : goal.returns
returns g c =
    let walk = c.args.self.now in
    let stands = c.requires.here.here in
    failed (assumption) (λ none. cc) (record {
      room = game_room c.args.key.now.know walk.problem.now walk.trail.items stands.knows;
      first = λ game is. stuck_named (later_of_trail walk.trail.items) stands game (rw is.deal is.acts) c.requires.stuck
          (rw is.deal (c.some_deal.ensures walk.problem.now (history_at walk) stands.knows));
    })
