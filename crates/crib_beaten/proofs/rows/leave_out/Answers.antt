use Rattle.std.proofs.Common.{not, rules}
use Rattle.arrayvec.proofs.ArrayVecLemmas.{filter-from_retain}
use Rattle.crib_beaten.specs.declared.tally.RanksTally.{RanksTally}
use Rattle.crib_beaten.specs.Terms.{meets_term}
use Rattle.crib_beaten.proofs.rows.leave_out.Goals as goal

pub returns : goal.returns
returns c =
    filter-from_retain _ (λ (row : RanksTally). not (meets_term c.args.term.now row.ranks)) _ (λ x b f' y called. search rules) _ _
    c.retain.ensures.filtered
