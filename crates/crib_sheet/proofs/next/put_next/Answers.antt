use Rattle.std.proofs.Common.{rules}
use Rattle.crib_run.proofs.Printing.{as_text, more}
use Rattle.crib_sheet.specs.Next.{next_text}
use Rattle.crib_sheet.proofs.next.put_next.Goals as goal

pub returns-in-Play : goal.returns-in-Play
unfolding next_text
returns-in-Play g c = rw c.in-Play.is (as_text (more (more c.put.ensures c.put_card.ensures) c.put-in-Play.ensures) (search rules))
