use Rattle.std.proofs.Common.{◌≡◌, ◌≤◌, ◌<◌, ℕ, suc, ◌+◌, min, Bool, true, false, cond, List, ◌∷◌, length, get_or, drop}
use Rattle.std.proofs.Common.{refl, ap, ◌∙◌, arith, add-one, drop-cons, drop_of_length-le}
use Rattle.crib_beaten.specs.Terms.{printed_ranks}
use Rattle.crib_beaten.proofs.rows.printed_ranks.Goals as goal
use Rattle.crib_beaten.proofs.rows.printed_ranks.Goals.{then-flag, else-flag}

first : (flag : Bool) (rest : List Bool) (n : ℕ) →
    printed_ranks n (flag ∷ rest) ≡ cond flag (printed_ranks (n + 1) rest) (min n 2 + printed_ranks 0 rest)
unfolding printed_ranks
first true rest n = refl
first false rest n = refl

next : (slot : List Bool) (i n : ℕ) → i < length slot → printed_ranks n (drop i slot)
    ≡ cond (get_or slot i false) (printed_ranks (n + 1) (drop (i + 1) slot)) (min n 2 + printed_ranks 0 (drop (i + 1) slot))
next slot i n less =
    ap (printed_ranks n) (drop-cons slot i false less) ∙ rw (add-one i) (first (get_or slot i false) (drop (suc i) slot) n)

ended : (slot : List Bool) (i n : ℕ) → length slot ≤ i → printed_ranks n (drop i slot) ≡ min n 2
unfolding printed_ranks
ended slot i n less = rw (drop_of_length-le slot less) refl

pub loop-flag-preserved : goal.loop-flag-preserved
loop-flag-preserved c =
    let here = next c.args.slot.now c.loop-flag.flag-index c.loop-flag.neighbours
    (omega (arith, c.loop-flag-test.true, c.told-slot)) in elim c.if-flag.branch [
      | then-flag w ↦ record {
        whole = let here = rw w.if-flag.true at here in
            rw (w.printed-is, w.neighbours-is) (omega (arith, here, c.loop-flag.invariant.whole));
        few = rw (w.printed-is, w.neighbours-is) (omega (arith, c.loop-flag.invariant.few));
      }
      | else-flag w ↦ record {
        whole = let here = rw w.if-flag.false at here in
            rw (w.printed-is, w.neighbours-is) (omega (arith, here, w.min-printed.ensures, c.loop-flag.invariant.whole));
        few = rw (w.printed-is, w.neighbours-is) (omega (arith, w.min-printed.ensures, c.loop-flag.invariant.few));
      }
    ]

pub returns-clause-value : goal.returns-clause-value
returns-clause-value c =
    let rest = ended c.args.slot.now c.loop-flag.flag-index c.loop-flag.neighbours
    (omega (arith, c.loop-flag-test.false, c.told-slot)) in
    omega (arith, rest, c.min.ensures, c.loop-flag.invariant.whole)
