use Rattle.std.proofs.Common.{◌≡◌, ◌≤◌, ◌-◌, ℕ, get_or, length}
use Rattle.crib_bound.specs.Private.Walks.{AreGivenBackAt}
use Rattle.crib_bound.proofs.walk.Bound.give_back.Given as goal

abbrev pub invariant-loop-at : goal.invariant-loop-at
invariant-loop-at g l = record {
  few : l.rest ≤ l.most;
  back : AreGivenBackAt l.self l.indices l.fn.parts l.parts (l.most - l.rest);
  less : (place most : ℕ) → get_or l.fn.parts place 0 ≤ most → get_or l.other place 0 ≤ most → get_or l.parts place 0 ≤ most;
  room : length l.parts ≡ length l.fn.parts;
}
