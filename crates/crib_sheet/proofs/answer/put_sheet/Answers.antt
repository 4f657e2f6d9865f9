use Rattle.crib_run.proofs.Printing.{as_text}
use Rattle.crib_sheet.proofs.answer.put_sheet.Goals as goal

pub returns-in-Try : goal.returns-in-Try
returns-in-Try g c = rw c.in-Try.is (as_text c.put.ensures c.as_slice.ensures.output)
