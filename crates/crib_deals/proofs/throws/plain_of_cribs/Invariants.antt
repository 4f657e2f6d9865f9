use Rattle.std.proofs.Common.{◌≡◌, ◌<◌, ◌≤◌, ◌+◌, ◌/◌, ◌%◌, ◌++◌, ℕ, [], ◌∷◌, length, map, get_or}
use Rattle.crib_cards.specs.Cards.{rank_of}
use Rattle.crib_show.specs.Show.{plain_of_ranks}
use Rattle.crib_deals.proofs.throws.plain_of_cribs.Given as goal

abbrev pub invariant-loop-index : goal.invariant-loop-index
invariant-loop-index l = record {
  long : length l.plain ≡ 169;
  each : (i : ℕ) → i < l.index →
      get_or l.plain i 0 ≡ plain_of_ranks (rank_of l.fn.starter ∷ map rank_of l.fn.thrown ++ (i / 13 + 1) ∷ (i % 13 + 1) ∷ []);
  few : (i : ℕ) → i < l.index → get_or l.plain i 0 ≤ 96;
}
