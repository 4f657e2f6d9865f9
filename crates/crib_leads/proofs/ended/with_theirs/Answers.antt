use Rattle.std.proofs.Common.{sym, subst}
use Rattle.crib_know.specs.Knowledge.{Knowledge}
use Rattle.crib_know.specs.Hidden.{KnowsAfter}
use Rattle.crib_leads.proofs.ended.with_theirs.Goals as goal

pub returns : goal.returns
returns c = λ problem history knows.
    c.saw.ensures problem history (subst (λ (know : Knowledge). KnowsAfter know problem history) (sym c.copy-next.ensures) knows)
