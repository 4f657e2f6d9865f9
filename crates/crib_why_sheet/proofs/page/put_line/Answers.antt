use Rattle.crib_run.proofs.Printing.{more}
use Rattle.crib_why_sheet.specs.WhyText.{line_text}
use Rattle.crib_why_sheet.proofs.page.put_line.Goals as goal

pub returns : goal.returns
unfolding line_text
returns g c = more c.put_columns.ensures c.put.ensures
