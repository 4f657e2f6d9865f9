use Rattle.std.proofs.Common.{arith}
use Rattle.std.proofs.lemmas.Result.{err_from_is_err_and}
use Rattle.crib_text.specs.Lines.{line_of}
use Rattle.crib_problem.specs.Reading.{actor_in}
use Rattle.crib_problem.proofs.ActLemmas.{act_in-actor, act_in-move, act_in-ok}
use Rattle.crib_problem.proofs.notation.act_of.Goals as goal

pub returns-in_err-side : goal.returns-in_err-side
unfolding actor_in
returns-in_err-side c =
    let p = err_from_is_err_and c.from_residual.result c.from_residual.ensures.1 in
    rw (p.1, p.2) (act_in-actor (line_of c.args.line.now).words c.word_at.result.now _ (omega arith)
    c.word_at.ensures c.in_err-side.ensures)

pub returns-in_err-what : goal.returns-in_err-what
unfolding actor_in
returns-in_err-what c =
    let p = err_from_is_err_and c.from_residual-in_err-what.result c.from_residual-in_err-what.ensures.1 in
    rw (p.1, p.2) (act_in-move (line_of c.args.line.now).words c.word_at.result.now c.word_at-2.result.now c.in_ok-side.side
    (omega arith) c.word_at.ensures c.word_at-2.ensures c.in_ok-side.ensures _ c.in_err-what.ensures)

pub returns : goal.returns
unfolding actor_in
returns c =
    act_in-ok (line_of c.args.line.now).words c.word_at.result.now c.word_at-2.result.now c.in_ok-side.side
    (omega arith) c.word_at.ensures c.word_at-2.ensures c.in_ok-side.ensures _ c.in_ok-what.ensures
