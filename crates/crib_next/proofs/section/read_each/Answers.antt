use Rattle.std.proofs.Common.{length, ap, arith}
use Rattle.std.proofs.lemmas.Result.{err_from_is_err_and}
use Rattle.crib_text.specs.Lines.{rest_of}
use Rattle.crib_text.proofs.Forms.{values_none, values_more, values_stop, values_done}
use Rattle.crib_problem.specs.Reading.{act_in}
use Rattle.crib_next.proofs.section.read_each.Goals as goal

pub returns-in_err-read_turn : goal.returns-in_err-read_turn
returns-in_err-read_turn c =
    let p = err_from_is_err_and c.from_residual.result c.from_residual.ensures.1 in
    rw (p.1, p.2) (values_stop (λ number. act_in) _ c.args.count c.loop.counter _ _ _ (omega arith) c.in_err-read_turn.ensures c.loop.invariant.so_far)

pub loop-init : goal.loop-init
loop-init c = record {
  len = ap length c.new-turns.ensures;
  so_far = rw c.new-turns.ensures (values_none (λ number. act_in) c.args.count (rest_of c.args.lines.now));
}

pub loop-preserved : goal.loop-preserved
loop-preserved c =
    let more = values_more (λ number. act_in) _ c.args.count c.loop.counter _ _ _ _ (omega arith) c.in_ok-read_turn.ensures c.loop.invariant.so_far in
    record { len = omega (arith, c.loop.invariant.len, c.push.ensures.len); so_far = rw c.push.ensures.items more }

pub returns : goal.returns
returns c = values_done (λ number. act_in) _ c.args.count c.loop.counter _ _ (omega arith) c.loop.invariant.so_far
