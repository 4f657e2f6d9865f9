use Rattle.std.proofs.Common.{arith}
use Rattle.crib_run.proofs.Printing.{piece}
use Rattle.crib_why_sheet.specs.WhyText.{line_text}
use Rattle.crib_why_sheet.proofs.page.put_each.Goals as goal

pub loop-line-preserved : goal.loop-line-preserved
loop-line-preserved g c = piece (line_text c.args.plays c.args.helds) _ _ _ (omega arith) c.line-item.is c.loop-line.invariant c.put_line.ensures
