use Rattle.std.proofs.Common.{rules}
use Rattle.crib_run.proofs.Printing.{as_text, more}
use Rattle.crib_sheet.specs.Scores.{above_text}
use Rattle.crib_sheet.proofs.scores.put_above.Goals as goal

pub returns : goal.returns
unfolding above_text
returns g c =
    as_text (more (more (more (more (more c.put.ensures c.put_cards_line.ensures) c.put_turns_line.ensures) c.put-2.ensures) c.put_blank_line.ensures)
    c.put-3.ensures)
    (rw (
      c.as_slice.ensures.value,
      c.count_words.ensures.value,
      c.sides_words.ensures.value,
      c.is_empty.ensures,
      c.is_empty-2.ensures,
      c.played-acts.ensures.value,
    )
    (search rules))
