use Rattle.crib_leads.proofs.EndingLeads.{sure_law, verdict_law}
use Rattle.crib_leads.proofs.laws.lead_law.Goals as goal

pub returns : goal.returns
returns c = record { sure = sure_law; verdict = verdict_law }
