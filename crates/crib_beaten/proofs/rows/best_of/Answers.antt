use Rattle.std.proofs.Common.{◌≡◌, ◌≤◌, ◌<◌, ℕ, ◌+◌, Bool, List, [], get_or, arith, ⊎_elim}
use Rattle.std.proofs.lemmas.Bool.{cases_lt}
use Rattle.crib_beaten.specs.declared.tally.RanksTally.{RanksTally}
use Rattle.crib_beaten.specs.Terms.{columns, meets_term}
use Rattle.crib_beaten.specs.Private.Figures.{beaten_where}
use Rattle.crib_beaten.proofs.rows.best_of.Goals as goal
use Rattle.crib_beaten.proofs.rows.best_of.Goals.{then-deals-best+then-columns_of-le-WIDEST, else-deals-best}
use Rattle.crib_beaten.proofs.rows.best_of.Goals.{else-deals-best-via-then-deals-best+else-columns_of-le-WIDEST, else-deals-best-via-else-deals-best}

-- a term has at most so many deals, if it is not too wide
abbrev HasAtMost : List (List (List Bool)) → List RanksTally → ℕ → ℕ → Type 0
HasAtMost tried left most k = columns (get_or tried k []) ≤ 24 → beaten_where (meets_term (get_or tried k [])) left ≤ most

next : (tried : List (List (List Bool))) (left : List RanksTally) (i old new : ℕ) →
    ((k : ℕ) → k < i → HasAtMost tried left old k) → old ≤ new → HasAtMost tried left new i → (k : ℕ) → k < i + 1 → HasAtMost tried left new k
next tried left i old new before more here k less few =
    ⊎_elim (λ (earlier : k < i). let most = before k earlier few in omega (arith, most, more))
    (λ (later : i ≤ k). let same : i ≡ k = omega (arith, later, less) in (rw same at here) few) (cases_lt k i)

pub loop-term-init : goal.loop-term-init
loop-term-init c = record {
  counted = λ some. absurd (omega (arith, some));
  narrow = λ some. absurd (omega (arith, some));
  most = λ k less few. absurd (omega (arith, less));
  bounded = λ bound are. omega arith;
}

pub loop-term-preserved : goal.loop-term-preserved
loop-term-preserved c =
    let was = c.loop-term.invariant in elim c.if-deals-best.branch [
      | then-deals-best+then-columns_of-le-WIDEST w ↦
          let few : columns (get_or c.args.tried.now c.loop-term.term-index []) ≤ 24 =
          omega (arith, w.columns_of.ensures.value, w.if-columns_of-le-WIDEST.true) in
          record {
            counted = rw w.best-is (λ some. c.deals_of-deals.ensures);
            narrow = rw w.best-is (λ some. record { slots = w.columns_of.ensures.slots; few = few });
            most = rw w.best-is (next c.args.tried.now c.args.left.now c.loop-term.term-index c.loop-term.best.deals c.deals_of-deals.result was.most
                (omega (arith, w.if-deals-best.true)) (λ few. omega (arith, c.deals_of-deals.ensures)));
            bounded = rw w.best-is (λ bound are.
                let most = are c.loop-term.term-index c.loop-term-test.true few in omega (arith, most, c.deals_of-deals.ensures));
          }
      | else-deals-best w ↦
          let here : HasAtMost c.args.tried.now c.args.left.now c.loop-term.best.deals c.loop-term.term-index = elim w.else-deals-best.branch [
            | else-deals-best-via-then-deals-best+else-columns_of-le-WIDEST w' ↦
                λ few. absurd (omega (arith, few, w'.columns_of.ensures.value, w'.if-columns_of-le-WIDEST.false))
            | else-deals-best-via-else-deals-best w' ↦ λ few. omega (arith, w'.if-deals-best.false, c.deals_of-deals.ensures)
          ] in record {
            counted = rw w.best-is was.counted;
            narrow = rw w.best-is was.narrow;
            most = rw w.best-is (next c.args.tried.now c.args.left.now c.loop-term.term-index c.loop-term.best.deals c.loop-term.best.deals was.most
                (omega arith) here);
            bounded = rw w.best-is was.bounded;
          }
    ]
