use Rattle.std.proofs.Common.{rules}
use Rattle.crib_run.proofs.Printing.{as_text, more}
use Rattle.crib_why_sheet.specs.WhyText.{columns_text}
use Rattle.crib_why_sheet.proofs.page.put_columns.Goals as goal

pub returns-in_default : goal.returns-in_default
unfolding columns_text
returns-in_default g c = as_text c.put.ensures (search rules)

pub returns : goal.returns
unfolding columns_text
returns g c =
    rw c.in-Some.is (rw (c.as_slice-play.ensures.value, c.as_slice.ensures.value) at
    (more (more (more (more c.put_left.ensures c.put-2.ensures) c.put_left-2.ensures) c.put-3.ensures) c.put_spread.ensures))
