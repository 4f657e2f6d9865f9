use Rattle.std.proofs.Common.{sym, subst}
use Rattle.std.proofs.lemmas.Bool.{both_ways}
use Rattle.crib_know.specs.Knowledge.{Knowledge}
use Rattle.crib_know.specs.Hidden.{KnowsAfter}
use Rattle.crib_leads.proofs.EndedTurns.{own_can}
use Rattle.crib_leads.proofs.ended.with_own.Goals as goal

pub returns-then-not-can_do : goal.returns-then-not-can_do
returns-then-not-can_do c = λ problem history knows possible.
    both_ways c.can_do.result c.if-not-can_do.true
    (c.can_do.ensures.1 (own_can c.args.know.now problem history c.args.what.now knows possible))

pub returns : goal.returns
returns c = λ problem history knows.
    c.did.ensures problem history (subst (λ (know : Knowledge). KnowsAfter know problem history) (sym c.copy-next.ensures) knows)
