use Rattle.std.proofs.Common.{arith}
use Rattle.crib_run.proofs.Printing.{piece}
use Rattle.crib_sheet.specs.LeadsText.{their_line}
use Rattle.crib_sheet.proofs.leads.put_theirs.Goals as goal

pub loop-lead-preserved : goal.loop-lead-preserved
loop-lead-preserved g c = piece their_line _ _ _ (omega arith) c.lead-item.is c.loop-lead.invariant c.put_their_line.ensures
