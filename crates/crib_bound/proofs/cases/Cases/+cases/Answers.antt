use Rattle.std.proofs.Common.{◌≡◌, ◌∙◌, ◌≤◌, ℕ, ap, length, max, refl, arith, rules}
use Rattle.std.proofs.Math.Nat.{min-le_left, min-le_right}
use Rattle.std.proofs.lemmas.List.{get_or_default}
use Rattle.crib_cards.specs.Cards.{rank_of}
use Rattle.crib_bound.specs.declared.path.Fixed.{Fixed}
use Rattle.crib_bound.proofs.Keepers.{covered, tried_again, tried_too}
use Rattle.crib_bound.proofs.cases.Cases.+cases.Goals as goal

max_most : (one other most : ℕ) → one ≤ most → other ≤ most → max one other ≤ most
max_most one other most here there = omega (arith, here, there)

pub least_in-returns-in_ok-least-in-Some-clause-bounds : goal.least_in-returns-in_ok-least-in-Some-clause-bounds
least_in-returns-in_ok-least-in-Some-clause-bounds g t c plan count keeps exact =
    rw c.max.ensures (max_most _ _ _ (c.in_ok-value.ensures.bounds plan count keeps exact)
    (c.in_ok-least-in-Some.ensures.bounds plan count (rw c.in_ok-value.ensures.kept keeps) exact))

pub least_of_cards-loop-at-init : goal.least_of_cards-loop-at-init
least_of_cards-loop-at-init g t c = record { kept = refl; ready = refl; tried = λ place inside. absurd (omega (arith, inside)) }

pub least_of_cards-least_with-requires : goal.least_of_cards-least_with-requires
least_of_cards-least_with-requires g t c κs within = (
  omega (arith, c.decreases),
  (
    within,
    record {
      begun = c.requires.begun;
      counted = c.requires.counted;
      long = c.loop-at.invariant.ready ∙ c.requires.long;
    },
  ),
)

pub least_of_cards-loop-at-preserved-then-is_again : goal.least_of_cards-loop-at-preserved-then-is_again
least_of_cards-loop-at-preserved-then-is_again g t c =
    let earlier = rw c.hold-hold.ensures at (c.is_again.ensures c.if-is_again.true) in
    record {
      kept = c.loop-at.invariant.kept;
      ready = c.loop-at.invariant.ready;
      tried = tried_again c.loop-at.invariant.tried earlier.0 earlier.1 earlier.2;
    }

pub least_of_cards-loop-at-preserved : goal.least_of_cards-loop-at-preserved
least_of_cards-loop-at-preserved g t c =
    let one : Fixed = record { trail = c.copy_of.result; rank = c.rank-rank.result } in
    let long : length c.hold-hold.result ≡ 4 = search (rules, arith) in
    let item = get_or_default c.hold-hold.result c.loop-at.at c.index-hold-at.result 0 (omega (arith, long, c.loop-at-test.true)) in
    record {
      kept = c.in_ok-value.ensures.kept ∙ c.loop-at.invariant.kept;
      ready = c.least_with.ensures.ready ∙ c.loop-at.invariant.ready;
      tried = tried_too c.loop-at.invariant.tried (rw c.min-least.ensures (min-le_left c.loop-at.least c.in_ok-value.value)) (record {
        one = one;
        there = c.copy_of.ensures;
        rank_is = rw (← c.hold-hold.ensures) (c.rank-rank.ensures.value ∙ ap rank_of item);
        bounds = λ plan count keeps exact.
            let less : c.min-least.result ≤ c.in_ok-value.value = rw c.min-least.ensures (min-le_right c.loop-at.least c.in_ok-value.value) in
            omega (arith, less, c.in_ok-value.ensures.bounds plan count (rw c.loop-at.invariant.kept keeps) exact);
      });
    }

pub least_of_cards-returns-in_err-value-clause-ready : goal.least_of_cards-returns-in_err-value-clause-ready
least_of_cards-returns-in_err-value-clause-ready g t c = c.least_with.ensures.ready ∙ c.loop-at.invariant.ready

pub least_of_cards-returns-then-value-self-clause-kept : goal.least_of_cards-returns-then-value-self-clause-kept
least_of_cards-returns-then-value-self-clause-kept g t c = c.in_ok-value.ensures.kept ∙ c.loop-at.invariant.kept

pub least_of_cards-returns-then-value-self-clause-ready : goal.least_of_cards-returns-then-value-self-clause-ready
least_of_cards-returns-then-value-self-clause-ready g t c = c.least_with.ensures.ready ∙ c.loop-at.invariant.ready

pub least_of_cards-returns-clause-bounds : goal.least_of_cards-returns-clause-bounds
least_of_cards-returns-clause-bounds g t c =
    let long : length c.args.self.now.problem.now.hold ≡ 4 = search (rules, arith) in
    covered _ _ _ c.args.trail.now.items _ (omega (arith, long))
    (λ place inside. c.loop-at.invariant.tried place (omega (arith, inside, long, c.loop-at-test.false)))

pub least_with-returns-clause-bounds : goal.least_with-returns-clause-bounds
least_with-returns-clause-bounds g t c = rw c.in_ok-push.ensures.items at c.in_ok-value.ensures.bounds
