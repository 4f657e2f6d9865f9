use Rattle.std.proofs.Common.{◌≡◌, ◌<◌, ℕ, get_or, length}
use Rattle.crib_bound.proofs.entries.read_parts.Given as goal

abbrev pub invariant-loop-at : goal.invariant-loop-at
invariant-loop-at l = record {
  read : (place : ℕ) → place < l.at → get_or l.parts place 0 ≡ get_or l.amounts (get_or l.indices place 0) 0;
  room : length l.parts ≡ length l.fn.parts;
}
