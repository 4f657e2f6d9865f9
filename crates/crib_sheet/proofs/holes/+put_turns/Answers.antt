use Rattle.crib_run.proofs.Printing.{as_text, more, nothing}
use Rattle.crib_sheet.proofs.HolesLines.{turns_alone, turns_beside}
use Rattle.crib_sheet.proofs.holes.+put_turns.Goals as goal

pub returns-in-empty-others : goal.returns-in-empty-others
returns-in-empty-others g t c = as_text (nothing _) (turns_alone c.args.turns.now c.args.others.now c.in-empty-others.len_below)

pub returns-in-len1-up-others : goal.returns-in-len1-up-others
returns-in-len1-up-others g t c =
    as_text (more c.put_turn.ensures c.put_turns.ensures)
    (turns_beside c.args.turns.now c.args.others.now c.turn-item.result c.other-item.result _ _ c.in-len1-up.len_at_least
    c.in-len1-up-others.len_at_least c.turn-item.is c.other-item.is)
