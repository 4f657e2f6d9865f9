use Rattle.std.proofs.Common.{◌≡◌, ◌<◌, ◌+◌, ◌*◌, ◌/◌, ◌%◌, ℕ, length, get_or}
use Rattle.crib_deals.specs.Throws.{is_below, partners}
use Rattle.crib_deals.proofs.throws.partners_below.Given as goal

abbrev pub invariant-loop-card : goal.invariant-loop-card
invariant-loop-card l = record {
  long : length l.counts ≡ 1612;
  each : (i : ℕ) → i < 31 * l.card → get_or l.counts i 0 ≡ partners (is_below l.fn.points (i % 31)) (i / 31) l.fn.cards;
}

abbrev pub invariant-loop-limit : goal.invariant-loop-limit
invariant-loop-limit l = record {
  long : length l.counts ≡ 1612;
  each : (i : ℕ) → i < 31 * l.initial.card + l.limit → get_or l.counts i 0 ≡ partners (is_below l.fn.points (i % 31)) (i / 31) l.fn.cards;
}
