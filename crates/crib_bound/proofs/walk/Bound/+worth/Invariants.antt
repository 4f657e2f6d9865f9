use Rattle.std.proofs.Common.{◌≡◌, ◌*◌, ◌+◌, ◌<◌, ◌≤◌, ℕ, get_or, length, false, true}
use Rattle.crib_cards.specs.Sets.{has}
use Rattle.crib_know.specs.Private.Ahead.{turns_ahead}
use Rattle.crib_bound.specs.Private.Walks.{IsBoundAt, with_parts}
use Rattle.crib_bound.proofs.WalkSteps.{AreBarred, AreWalked, SomeAllowed}
use Rattle.crib_bound.proofs.walk.Bound.+worth.Given as goal

abbrev pub decreases-worth_at : goal.decreases-worth_at
decreases-worth_at g l = 3 * turns_ahead l.know.now + 2

abbrev pub decreases-worth_by_own : goal.decreases-worth_by_own
decreases-worth_by_own g l = 3 * turns_ahead l.know.now + 1

abbrev pub decreases-worth_by_theirs : goal.decreases-worth_by_theirs
decreases-worth_by_theirs g l = 3 * turns_ahead l.know.now + 1

abbrev pub decreases-worth_after : goal.decreases-worth_after
decreases-worth_after g l = 3 * turns_ahead l.know.now

abbrev pub invariant-worth_by_own-loop-card : goal.invariant-worth_by_own-loop-card
invariant-worth_by_own-loop-card g l = record {
  held : (card : ℕ) → has l.rest card ≡ true → has l.know.own_left card ≡ true;
  done : AreWalked l.self l.know l.path.trail.items l.indices l.fn.amounts (with_parts l.indices l.kept (length l.indices) l.fn.amounts) l.rest l.least;
  barred : l.is_barred ≡ true → AreBarred l.self l.know l.path.trail.items l.rest;
  some : l.is_barred ≡ false → SomeAllowed l.self l.know l.path.trail.items;
  same : l.amounts ≡ l.fn.amounts;
  below : (place : ℕ) → place < length l.indices → get_or l.kept place 0 ≤ get_or l.fn.amounts (get_or l.indices place 0) 0;
  kept_room : length l.kept ≡ length l.indices;
  left_room : length l.left ≡ length l.indices;
  room : length l.spare + 3 * length l.indices ≡ length l.fn.spare;
}

abbrev pub decreases-worth_by_own-loop-card : goal.decreases-worth_by_own-loop-card
decreases-worth_by_own-loop-card g l = length l.rest

abbrev pub invariant-worth_by_theirs-loop-place : goal.invariant-worth_by_theirs-loop-place
invariant-worth_by_theirs-loop-place g l = record {
  so_far : IsBoundAt l.self l.know l.path.trail.items l.indices l.fn.amounts l.amounts l.sum;
  room : length l.spare ≡ length l.fn.spare;
}
