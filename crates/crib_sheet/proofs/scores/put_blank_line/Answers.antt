use Rattle.std.proofs.Common.{sym, ◌∙◌}
use Rattle.crib_sheet.proofs.scores.put_blank_line.Goals as goal

pub returns-then-some_are_impossible : goal.returns-then-some_are_impossible
returns-then-some_are_impossible g c = rw (sym c.some_are_impossible.ensures ∙ c.if-some_are_impossible.true) c.put.ensures
