use Rattle.std.proofs.Common.{◌≡◌, ◌*◌, ◌+◌, ◌<◌, ℕ, get_or, length}
use Rattle.crib_cards.specs.Cards.{rank_of}
use Rattle.crib_bound.proofs.Keepers.{IsTried}
use Rattle.crib_bound.proofs.cases.Cases.+cases.Given as goal

abbrev pub decreases-least_in : goal.decreases-least_in
decreases-least_in g l = 3 * l.depth

abbrev pub decreases-least_of_cards : goal.decreases-least_of_cards
decreases-least_of_cards g l = 3 * l.depth + 2

abbrev pub decreases-least_with : goal.decreases-least_with
decreases-least_with g l = 3 * l.depth + 1

abbrev pub invariant-least_of_cards-loop-at : goal.invariant-least_of_cards-loop-at
invariant-least_of_cards-loop-at g l = record {
  kept : l.room.fixed.items ≡ l.fn.room.fixed.items;
  ready : length l.room.spare.items ≡ length l.fn.room.spare.items;
  tried : (place : ℕ) → place < l.at →
      IsTried l.self.problem.now l.self.parts l.fn.room.fixed.items l.trail.items (rank_of (get_or l.self.problem.now.hold place 0)) l.least;
}
