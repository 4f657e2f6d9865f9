use Rattle.std.proofs.Common.{rules}
use Rattle.crib_run.proofs.Printing.{as_text, more}
use Rattle.crib_sheet.specs.PlanHead.{position_text}
use Rattle.crib_sheet.proofs.verdict.head.put_position.Goals as goal

pub returns : goal.returns
unfolding position_text
returns g c = as_text (more (more c.put_heading.ensures c.put_turns.ensures) c.put_now.ensures) (search rules)
