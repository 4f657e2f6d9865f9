use Rattle.std.proofs.Common.{rules}
use Rattle.crib_run.proofs.Printing.{as_text, more}
use Rattle.crib_sheet.specs.LeadsText.{own_line}
use Rattle.crib_sheet.proofs.leads.put_own_line.Goals as goal

pub returns : goal.returns
unfolding own_line
returns g c =
    as_text (more (more (more (more c.put_move.ensures c.put.ensures) c.put_own_words.ensures) c.put_stop.ensures) c.put-2.ensures) (search rules)
