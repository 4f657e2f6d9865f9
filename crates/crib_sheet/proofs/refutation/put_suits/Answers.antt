use Rattle.crib_run.proofs.Printing.{as_text, more}
use Rattle.crib_sheet.proofs.SuitsTexts.{line_with}
use Rattle.crib_sheet.proofs.refutation.put_suits.Goals as goal

pub returns-in-len1-up : goal.returns-in-len1-up
returns-in-len1-up g c =
    as_text (more (more c.put-in-len1-up.ensures c.put_ranks.ensures) c.put-in-len1-up-2.ensures)
    (line_with c.args.ranks.now c.in-len1-up.len_at_least)
