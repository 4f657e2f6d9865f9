use Rattle.std.proofs.lemmas.Result.{err_from_is_err_and}
use Rattle.crib_text.specs.Lines.{line_of, rest_of}
use Rattle.crib_text.proofs.ReadingLemmas.{value_at-line, value_at-err, value_at-ok}
use Rattle.crib_problem.specs.Reading.{act_in}
use Rattle.crib_next.proofs.section.read_turn.Goals as goal

pub returns-in_err-line : goal.returns-in_err-line
returns-in_err-line c =
    let p = err_from_is_err_and c.from_residual.result c.from_residual.ensures.1 in
    rw (p.1, p.2) (value_at-line act_in (rest_of c.args.lines.now) _ c.in_err-line.ensures.exact.0)

pub returns-in-Ok : goal.returns-in-Ok
returns-in-Ok c =
    value_at-ok act_in (rest_of c.args.lines.now) (rest_of c.next_line.new.self) (line_of c.in_ok-line.line) c.in-Ok.act c.in_ok-line.ensures.exact
    c.in-Ok.ensures

pub returns-in-Err : goal.returns-in-Err
returns-in-Err c =
    rw c.fault_in.ensures (value_at-err act_in (rest_of c.args.lines.now) (rest_of c.next_line.new.self) (line_of c.in_ok-line.line) _
    c.in_ok-line.ensures.exact c.in-Err.ensures)
