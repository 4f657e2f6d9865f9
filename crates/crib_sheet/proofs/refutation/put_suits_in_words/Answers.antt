use Rattle.crib_run.proofs.Printing.{as_text, more}
use Rattle.crib_sheet.proofs.SuitsTexts.{sentences_with, sentences_without}
use Rattle.crib_sheet.proofs.refutation.put_suits_in_words.Goals as goal

pub returns-in-empty : goal.returns-in-empty
returns-in-empty g c = as_text c.put.ensures (sentences_without c.args.ranks.now c.in-empty.len_below)

pub returns-in-len1-up : goal.returns-in-len1-up
returns-in-len1-up g c =
    as_text (more (more (more c.put.ensures c.put-in-len1-up.ensures) c.put_ranks.ensures) c.put-in-len1-up-2.ensures)
    (sentences_with c.args.ranks.now c.in-len1-up.len_at_least)
