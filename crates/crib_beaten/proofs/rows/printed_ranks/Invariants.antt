use Rattle.std.proofs.Common.{◌≡◌, ◌+◌, ◌≤◌, drop}
use Rattle.crib_beaten.specs.Terms.{printed_ranks}
use Rattle.crib_beaten.proofs.rows.printed_ranks.Given as goal

abbrev pub invariant-loop-flag : goal.invariant-loop-flag
invariant-loop-flag l = record {
  whole : l.printed + printed_ranks l.neighbours (drop l.flag-index l.slot) ≡ printed_ranks 0 l.slot;
  few : l.printed + l.neighbours ≤ l.flag-index;
}
