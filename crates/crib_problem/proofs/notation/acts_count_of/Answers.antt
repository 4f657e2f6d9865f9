use Rattle.std.proofs.Common.{refl, arith}
use Rattle.std.proofs.lemmas.Bool.{le-leb}
use Rattle.std.proofs.lemmas.Result.{err_from_is_err_and}
use Rattle.crib_text.specs.Lines.{line_of}
use Rattle.crib_text.proofs.SectionLemmas.{only_word-drop}
use Rattle.crib_problem.specs.Reading.{acts_count_in}
use Rattle.crib_problem.proofs.notation.acts_count_of.Goals as goal

pub returns-in_err-check_keyword-clause-count : goal.returns-in_err-check_keyword-clause-count
unfolding acts_count_in
returns-in_err-check_keyword-clause-count c =
    let p = err_from_is_err_and c.from_residual.result c.from_residual.ensures.1 in rw (p.1, p.2, c.in_err-check_keyword.ensures.exact) refl

pub returns-in_err-count-clause-count : goal.returns-in_err-count-clause-count
unfolding acts_count_in
returns-in_err-count-clause-count c =
    let p = err_from_is_err_and c.from_residual-in_err-count.result c.from_residual-in_err-count.ensures.1 in
    let word = only_word-drop (line_of c.args.line.now).words _ c.in_ok-check_keyword.ensures.len c.word_at.ensures in
    rw (p.1, p.2, c.in_ok-check_keyword.ensures.exact, word, c.in_err-count.ensures) refl

pub returns-clause-count : goal.returns-clause-count
unfolding acts_count_in
returns-clause-count c =
    let word = only_word-drop (line_of c.args.line.now).words _ c.in_ok-check_keyword.ensures.len c.word_at.ensures in
    rw (c.in_ok-check_keyword.ensures.exact, word, c.in_ok-count.ensures, le-leb c.in_ok-count.count 32 (omega arith)) refl
