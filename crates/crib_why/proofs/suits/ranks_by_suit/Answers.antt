use Rattle.std.proofs.Common.{◌≡◌, false, length, ap, refl, sym, subst, ◌∙◌, arith, List, ℕ, ◌-◌, ◌++◌, ◌∷◌, []}
use Rattle.std.specs.List.{range_with_len}
use Rattle.std.proofs.lemmas.Bool.{both_ways}
use Rattle.std.proofs.lemmas.List.FromFn.{length-range_with_len}
use Rattle.crib_why.specs.Answer.{AreThose, IsBySuit}
use Rattle.crib_why.proofs.BySuit.{few_found, next_number, no_number, none_more, one_more}
use Rattle.crib_why.proofs.suits.ranks_by_suit.Goals as goal
use Rattle.crib_why.proofs.suits.ranks_by_suit.Goals.{in-Some+in_ok-is_by_suit+then-branch, in-Some+in_ok-is_by_suit+else-branch, in_default}

pub loop-number-init : goal.loop-number-init
loop-number-init g c = rw c.new-ranks.ensures (no_number (IsBySuit c.args.problem.now))

pub push-requires : goal.push-requires
push-requires g c =
    let few = few_found (IsBySuit c.args.problem.now) (range_with_len 1 (c.loop-number.number - 1)) c.loop-number.ranks.items c.loop-number.invariant in
    let long = length-range_with_len 1 (c.loop-number.number - 1) in
    (omega arith, omega (arith, few, long, c.loop-number-test.true))

pub loop-number-preserved : goal.loop-number-preserved
loop-number-preserved g c =
    let is : ℕ → Type 0 = IsBySuit c.args.problem.now in
    let before : List ℕ = range_with_len 1 (c.loop-number.number - 1) in
    let old : List ℕ = c.loop-number.ranks.items in
    next_number is c.loop-number.number _ c.loop-number.auto.number (elim c.match-new.branch [
      | in-Some+in_ok-is_by_suit+then-branch w ↦
          rw w.ranks-is
          (subst (AreThose is (before ++ c.loop-number.number ∷ []))
          (sym (w.push.ensures.items ∙ ap (λ (rank : ℕ). old ++ rank ∷ []) w.in-Some.ensures.value))
          (one_more is before old c.loop-number.number c.loop-number.invariant
          (subst is w.in-Some.ensures.value (w.in_ok-is_by_suit.ensures.0 w.if-branch.true))))
      | in-Some+in_ok-is_by_suit+else-branch w ↦
          rw w.ranks-is
          (none_more is before old c.loop-number.number c.loop-number.invariant
          (λ yes. both_ways w.in_ok-is_by_suit.field-0 w.if-branch.false (w.in_ok-is_by_suit.ensures.1 (subst is (sym w.in-Some.ensures.value) yes))))
      | in_default w ↦ absurd (both_ways false refl (w.in_default.ensures.valid.1 (c.loop-number.auto.number, omega (arith, c.loop-number-test.true))))
    ])

pub returns : goal.returns
returns g c =
    let end : c.loop-number.number - 1 ≡ 13 = omega (arith, c.loop-number-test.false, c.loop-number.auto.number-end) in
    subst (λ (most : ℕ). AreThose (IsBySuit c.args.problem.now) (range_with_len 1 most) c.loop-number.ranks.items) end c.loop-number.invariant
