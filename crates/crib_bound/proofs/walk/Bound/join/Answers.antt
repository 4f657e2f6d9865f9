use Rattle.std.proofs.Common.{get_or, length, arith}
use Rattle.std.proofs.Math.Nat.{min-le_left, min-le_right}
use Rattle.crib_bound.proofs.Taken.{back_lowered, kept_lowered}
use Rattle.crib_bound.proofs.PutParts.{with_less}
use Rattle.crib_bound.proofs.walk.Bound.join.Goals as goal

pub returns-then-value-least-clause-kept : goal.returns-then-value-least-clause-kept
returns-then-value-least-clause-kept g c = λ amounts long.
    back_lowered (c.give_back.ensures.back amounts long)
    (λ index. with_less c.args.indices.now amounts c.requires.small long _ _ (length c.args.indices.now) index (omega arith) (λ place inside.
    let is = c.take_both.ensures.both place (omega (arith, inside, c.give_back.ensures.room, c.requires.kept_room)) in
    let less = min-le_left (get_or c.give_back.new.parts place 0) (get_or c.args.left.now place 0) in
    omega (arith, is, less))) (omega (arith, c.give_back.ensures.few, c.if-value-least.true))

pub returns-then-value-least-clause-left : goal.returns-then-value-least-clause-left
returns-then-value-least-clause-left g c = λ amounts long.
    kept_lowered (λ index. with_less c.args.indices.now amounts c.requires.small long _ _ (length c.args.indices.now) index (omega arith) (λ place inside.
    let is = c.take_both.ensures.both place (omega (arith, inside, c.give_back.ensures.room, c.requires.kept_room)) in
    let less = min-le_right (get_or c.give_back.new.parts place 0) (get_or c.args.left.now place 0) in
    omega (arith, is, less)))

pub returns-clause-kept : goal.returns-clause-kept
returns-clause-kept g c = λ amounts long.
    kept_lowered (λ index. with_less c.args.indices.now amounts c.requires.small long _ _ (length c.args.indices.now) index (omega arith) (λ place inside.
    let is = c.take_both-2.ensures.both place (omega (arith, inside, c.requires.kept_room)) in
    let less = min-le_left (get_or c.args.kept.now place 0) (get_or c.give_back-2.new.parts place 0) in
    omega (arith, is, less)))

pub returns-clause-left : goal.returns-clause-left
returns-clause-left g c = λ amounts long.
    back_lowered (c.give_back-2.ensures.back amounts long)
    (λ index. with_less c.args.indices.now amounts c.requires.small long _ _ (length c.args.indices.now) index (omega arith) (λ place inside.
    let is = c.take_both-2.ensures.both place (omega (arith, inside, c.requires.kept_room)) in
    let less = min-le_right (get_or c.args.kept.now place 0) (get_or c.give_back-2.new.parts place 0) in
    omega (arith, is, less))) (omega (arith, c.give_back-2.ensures.few, c.if-value-least.false))
