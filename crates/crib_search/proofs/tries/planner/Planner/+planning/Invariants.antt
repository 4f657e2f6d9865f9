use Rattle.std.proofs.Common.{◌≡◌, ◌+◌, ◌*◌, length, take}
use Rattle.crib_know.specs.Private.Ahead.{turns_ahead}
use Rattle.crib_search.specs.Finder.{letters}
use Rattle.crib_search.specs.Private.Nodes.{IsMore}
use Rattle.crib_search.specs.Private.States.{StatesAfter}
use Rattle.crib_search.proofs.PlannedPlaces.{ArePlanned}
use Rattle.crib_search.proofs.tries.planner.Planner.+planning.Given as goal

abbrev pub decreases-place_at : goal.decreases-place_at
decreases-place_at g l = 40 * turns_ahead l.know.now + 39

abbrev pub decreases-own_place : goal.decreases-own_place
decreases-own_place g l = 40 * turns_ahead l.know.now + 38

abbrev pub decreases-place_with : goal.decreases-place_with
decreases-place_with g l = 40 * turns_ahead l.know.now

abbrev pub invariant-their_place-loop-index : goal.invariant-their_place-loop-index
invariant-their_place-loop-index g l = record {
  kept : IsMore l.fn.self.nodes l.self.nodes;
  count : length l.nexts.items ≡ l.index;
  planned : ArePlanned l.self.nodes (StatesAfter l.problem l.know) (take l.index letters) l.nexts.items;
}

abbrev pub decreases-their_place : goal.decreases-their_place
decreases-their_place g l = 40 * turns_ahead l.know.now + 38

abbrev pub decreases-place_after : goal.decreases-place_after
decreases-place_after g l = 40 * turns_ahead l.know.now
