use Rattle.std.proofs.Common.{arith, refl}
use Rattle.std.proofs.lemmas.Bool.Decides.{nat_tests}
use Rattle.crib_show.proofs.FewPoints.{few_hidden_crib, few_hidden_hand}
use Rattle.crib_show.proofs.worst.extremes.Extremes.meet.Goals as goal

pub returns-then-demand-ge204-clause-all : goal.returns-then-demand-ge204-clause-all
returns-then-demand-ge204-clause-all c = (
  λ true dealt agrees.
      let hand = few_hidden_hand c.know_set.ensures c.requires.own_right dealt agrees in
      let crib = few_hidden_crib c.know_set.ensures c.requires.own_right dealt agrees in
      let most = c.greatest_hand-hand.ensures.greatest.all dealt agrees in
      grind (arith, nat_tests, hand, crib, most, c.if-hand-demand.false, c.if-demand-eq0.true, c.if-demand-ge204.true),
  λ all. refl,
)
