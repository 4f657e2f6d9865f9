use Rattle.std.proofs.Common.{rules}
use Rattle.crib_run.proofs.Printing.{as_text, more}
use Rattle.crib_sheet.proofs.GameSections.{section_is}
use Rattle.crib_sheet.proofs.refutation.put_section.Goals as goal

pub returns : goal.returns
returns g c =
    as_text (more (more (more (more (more (more (more c.put.ensures c.put_cards.ensures) c.put-2.ensures) c.put_cards-2.ensures) c.put-3.ensures)
    c.put_len.ensures) c.put-4.ensures) c.put_acts.ensures)
    (section_is c.args.game.now _ _ _ _ (search rules) (search rules) (search rules) (search rules))
