use Rattle.crib_run.proofs.Printing.{more}
use Rattle.crib_why_sheet.specs.WhyText.{spread_text}
use Rattle.crib_why_sheet.proofs.page.put_spread.Goals as goal

pub returns : goal.returns
unfolding spread_text
returns g c = more (more c.put_range.ensures c.put.ensures) c.put_range-2.ensures
