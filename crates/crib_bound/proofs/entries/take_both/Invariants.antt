use Rattle.std.proofs.Common.{◌≡◌, ◌<◌, ◌≤◌, ℕ, get_or, length, min}
use Rattle.crib_bound.proofs.entries.take_both.Given as goal

abbrev pub invariant-loop-at : goal.invariant-loop-at
invariant-loop-at l = record {
  both : (place : ℕ) → place < l.at → get_or l.parts place 0 ≡ min (get_or l.fn.parts place 0) (get_or l.other place 0);
  ahead : (place : ℕ) → l.at ≤ place → get_or l.parts place 0 ≡ get_or l.fn.parts place 0;
  room : length l.parts ≡ length l.fn.parts;
}
