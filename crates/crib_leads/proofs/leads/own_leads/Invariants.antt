use Rattle.std.proofs.Common.{length}
use Rattle.crib_leads.proofs.Entries.{AreSoFar}
use Rattle.crib_leads.proofs.leads.own_leads.Given as goal

abbrev pub invariant-loop-card : goal.invariant-loop-card
invariant-loop-card g l = AreSoFar l.problem l.rest l.leads.items

abbrev pub decreases-loop-card : goal.decreases-loop-card
decreases-loop-card g l = length l.rest
