use Rattle.std.proofs.Common.{◌≡◌, ◌<◌, ◌≤◌, ℕ, get_or, []}
use Rattle.crib_beaten.specs.Terms.{IsNarrow, columns, meets_term}
use Rattle.crib_beaten.specs.Private.Figures.{AreAtMost, beaten_where}
use Rattle.crib_beaten.proofs.rows.best_of.Given as goal

abbrev pub invariant-loop-term : goal.invariant-loop-term
invariant-loop-term l = record {
  counted : 0 < l.best.deals → l.best.deals ≡ beaten_where (meets_term l.best.term) l.left;
  narrow : 0 < l.best.deals → IsNarrow l.best.term;
  most : (k : ℕ) → k < l.term-index → columns (get_or l.tried k []) ≤ 24 → beaten_where (meets_term (get_or l.tried k [])) l.left ≤ l.best.deals;
  bounded : (bound : ℕ) → AreAtMost l.tried l.left bound → l.best.deals ≤ bound;
}
