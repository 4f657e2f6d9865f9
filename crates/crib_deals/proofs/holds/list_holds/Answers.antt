use Rattle.std.proofs.Common.{◌≡◌, ◌<◌, ◌+◌, ◌*◌, ◌&&◌, None, refl, sym, ◌∙◌, arith}
use Rattle.std.proofs.lemmas.List.{get_or_default}
use Rattle.crib_deals.specs.Private.Holds.{join, pair_at}
use Rattle.crib_deals.proofs.ListedHolds.{hold_at, listed_all, listed_held, listed_none, listed_other, listed_skip, none_joined, not_held, some_joined}
use Rattle.crib_deals.proofs.holds.list_holds.Goals as goal
use Rattle.crib_deals.proofs.holds.list_holds.Goals.{in-Some-join+then-has_all, in-Some-join+else-has_all, in_default-join}

pub loop-front-init : goal.loop-front-init
loop-front-init c = record { listed = rw c.new-holds.ensures (listed_none c.args.know.now c.args.cribs.now c.args.ranks.now) }

pub loop-front-preserved-in_default : goal.loop-front-preserved-in_default
loop-front-preserved-in_default c =
    let front = c.loop-front.front-index in
    let small : front < 16 = omega (arith, c.loop-front-test.true) in
    let none : pair_at c.args.cribs.now.unseen c.args.ranks.now 0 front ≡ None =
    sym (c.pairs_at-fronts.ensures front small)
    ∙ get_or_default c.pairs_at-fronts.result front None c.front-item.result (omega (arith, c.type_inv.front-items, small)) ∙ c.in_default.is in
    let next : 16 * front + 16 ≡ 16 * (front + 1) = omega arith in
    record {
      listed = rw next at (listed_skip c.args.know.now c.args.cribs.now c.args.ranks.now c.fixed-fixed.result c.fixed-fixed.ensures front small
          c.loop-front.holds.items none c.loop-front.invariant.listed 16 (omega arith));
    }

pub loop-back-init : goal.loop-back-init
loop-back-init c =
    let none : 16 * c.loop-front.front-index ≡ 16 * c.loop-front.front-index + 0 = omega arith in
    record { listed = rw none at c.loop-front.invariant.listed }

pub loop-back-preserved : goal.loop-back-preserved
loop-back-preserved c =
    let front = c.loop-front.front-index in
    let back = c.loop-back.back-index in
    let small : (front < 16) × (back < 16) × (16 * front + back < 256) =
    (omega (arith, c.loop-front-test.true), omega (arith, c.loop-back-test.true), omega (arith, c.loop-front-test.true, c.loop-back-test.true)) in
    let joined : join (pair_at c.args.cribs.now.unseen c.args.ranks.now 0 front) (pair_at c.args.cribs.now.unseen c.args.ranks.now 2 back) ≡ c.join.result =
    (λ i. join ((sym (c.pairs_at-fronts.ensures front small.0)
    ∙ get_or_default c.pairs_at-fronts.result front None c.front-item.result (omega (arith, c.type_inv.front-items, small)) ∙ c.in-Some.is) i)
    ((sym (c.pairs_at-backs.ensures back small.1) ∙ get_or_default c.pairs_at-backs.result back None c.back-item.result
    (omega (arith, c.type_inv.back-items, small))) i))
    ∙ sym c.join.ensures in
    let next : 16 * front + back + 1 ≡ 16 * front + (back + 1) = omega arith in
    elim c.match-join.branch [
      | in-Some-join+then-has_all w ↦
          let is = some_joined c.args.cribs.now.unseen c.args.ranks.now front back small.1 w.in-Some-join.hold (joined ∙ w.in-Some-join.is) in
          record {
            listed = rw (w.holds-is, w.push.ensures.items, ← next)
                (listed_held c.args.know.now c.args.cribs.now c.args.ranks.now c.fixed-fixed.result c.fixed-fixed.ensures small.2 is.0 c.loop-back.holds.items
                c.requires.ranks c.told-ranks c.requires.passing (λ i. is.1 i && (sym w.has_all.ensures ∙ w.if-has_all.true) i) c.loop-back.invariant.listed);
          }
      | in-Some-join+else-has_all w ↦
          let is = some_joined c.args.cribs.now.unseen c.args.ranks.now front back small.1 w.in-Some-join.hold (joined ∙ w.in-Some-join.is) in
          record {
            listed = rw (w.holds-is, ← next)
                (listed_other c.args.know.now c.args.cribs.now c.args.ranks.now c.fixed-fixed.result c.fixed-fixed.ensures small.2 is.0
                c.loop-back.holds.items (λ i. is.1 i && (sym w.has_all.ensures ∙ w.if-has_all.false) i) c.loop-back.invariant.listed);
          }
      | in_default-join w ↦ record {
        listed = rw (w.holds-is, ← next) (listed_other c.args.know.now c.args.cribs.now c.args.ranks.now c.fixed-fixed.result c.fixed-fixed.ensures small.2 refl
            c.loop-back.holds.items (not_held c.args.cribs.now.unseen c.fixed-fixed.result (hold_at c.args.ranks.now (16 * front + back))
            (none_joined c.args.cribs.now.unseen c.args.ranks.now front back small.1 (joined ∙ w.in_default-join.is))) c.loop-back.invariant.listed);
      }
    ]

pub loop-front-preserved : goal.loop-front-preserved
loop-front-preserved c =
    let whole : 16 * c.loop-front.front-index + c.loop-back.back-index ≡ 16 * (c.loop-front.front-index + 1) =
    omega (arith, c.loop-back.auto.back-index-end, c.loop-back-test.false) in
    record { listed = rw whole at c.loop-back.invariant.listed }

pub returns-clause-listed : goal.returns-clause-listed
returns-clause-listed c =
    let whole : 16 * c.loop-front.front-index ≡ 256 = omega (arith, c.loop-front.auto.front-index-end, c.loop-front-test.false) in
    listed_all c.args.know.now c.args.cribs.now c.args.ranks.now c.loop-front.holds.items (rw whole at c.loop-front.invariant.listed)
