use Rattle.crib_run.proofs.Printing.{as_text, more}
use Rattle.crib_sheet.proofs.ScoreLines.{turns_from}
use Rattle.crib_sheet.proofs.scores.put_turns_line.Goals as goal

pub returns-in-len1-up : goal.returns-in-len1-up
returns-in-len1-up g c =
    as_text (more (more (more c.put.ensures c.put_turn.ensures) c.put_more_turns.ensures) c.put-in-len1-up.ensures)
    (turns_from c.args.acts.now c.act-item.result c.in-len1-up.len_at_least c.act-item.is)
