use Rattle.std.proofs.Common.{◌≡◌, ◌≤◌, List, ap, arith}
use Rattle.crib_play.specs.History.{Event}
use Rattle.crib_problem.specs.Setup.{Setup}
use Rattle.crib_know.specs.Knowledge.{Knowledge, knowledge_after, played_events}
use Rattle.crib_know.specs.Hidden.{KnowsAfter}
use Rattle.crib_know.specs.Private.Ahead.{turns_ahead}
use Rattle.crib_bound.proofs.WalkSteps.{start_room, start_strategy}
use Rattle.crib_bound.proofs.walk.worth_if.Goals as goal

few_turns : {know : Knowledge} {problem : Setup} {history : List Event} → KnowsAfter know problem history → turns_ahead know ≤ 27
few_turns {know} {problem} {history} knows =
    let same : turns_ahead know ≡ turns_ahead (knowledge_after problem history) = ap turns_ahead knows.knowledge in grind (arith, same)

pub returns-clause-strategy : goal.returns-clause-strategy
returns-clause-strategy g c =
    start_strategy _ _ c.requires.begun c.parts_of_all-amounts.ensures (rw c.start-path.ensures at c.worth_at.ensures.worth)
    (rw c.as_slice.ensures.value c.requires.open)

pub worth_at-requires : goal.worth_at-requires
worth_at-requires g c =
    let turns = few_turns c.requires.begun in
    record {
      own = rw (c.hold.ensures, c.starter.ensures) at c.hand_points.ensures.value;
      history = played_events c.args.problem.now;
      knows = c.requires.begun;
      small = c.each_index.ensures.small;
      room = start_room c.each_index.ensures.long turns c.requires.room;
      short = rw c.start-path.ensures (omega (arith, turns));
    }
