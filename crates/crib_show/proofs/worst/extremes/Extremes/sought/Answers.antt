use Rattle.std.proofs.Common.{◌≤◌, subst, sym}
use Rattle.crib_show.proofs.FewPoints.{few_hidden_crib}
use Rattle.crib_show.specs.Worst.{hidden_crib}
use Rattle.crib_show.specs.declared.worst.listing.Sought.{Sought}
use Rattle.crib_show.proofs.worst.extremes.Extremes.sought.Goals as goal
use Rattle.crib_show.proofs.worst.extremes.Extremes.sought.Goals.{then-demand-own, else-demand-own}

pub returns-else-demand-lt204-clause-within : goal.returns-else-demand-lt204-clause-within
returns-else-demand-lt204-clause-within c = λ dealt agrees.
    let crib = hidden_crib c.args.worst.now dealt in
    let few = few_hidden_crib c.know_set.ensures c.requires.own_right dealt agrees in
    elim c.if-demand-own.branch [
      | then-demand-own w ↦ subst (λ (s : Sought). (s.least ≤ crib) × (crib ≤ s.most)) (sym w.sought-is) (w.least_crib.ensures.least.all dealt agrees, few)
      | else-demand-own w ↦ subst (λ (s : Sought). (s.least ≤ crib) × (crib ≤ s.most)) (sym w.sought-is) (c.requires.own_right.crib dealt.throw, few)
    ]
