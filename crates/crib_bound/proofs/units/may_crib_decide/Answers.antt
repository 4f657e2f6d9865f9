use Rattle.std.proofs.Common.{◌≡◌, ◌≤◌, true, [], sym, ap, ◌∙◌, arith}
use Rattle.std.proofs.lemmas.Bool.Decides.{nat_tests}
use Rattle.crib_cards.specs.declared.sides.Scores.{Scores}
use Rattle.crib_play.specs.Standing.{Standing}
use Rattle.crib_problem.specs.Setup.{is_stop, target_of}
use Rattle.crib_know.specs.Knowledge.{Knowledge}
use Rattle.crib_bound.proofs.HoldUnits.{by_least, by_pone, by_stop}
use Rattle.crib_bound.proofs.units.may_crib_decide.Goals as goal

pub returns-in-Opponent : goal.returns-in-Opponent
returns-in-Opponent c = λ no_stop.
    by_pone c.target-target.ensures.setup (sym c.dealer.ensures ∙ c.in-Opponent.is) (sym c.is_to_stop-is_to_stop.ensures ∙ no_stop)

pub returns-then-not-is_to_stop : goal.returns-then-not-is_to_stop
returns-then-not-is_to_stop c = λ reaches.
    let knows = ap (λ (know : Knowledge). know.round.scores.owner) c.start.ensures.knowledge in
    let round = ap (λ (round : Standing). round.scores.owner) c.round.ensures in
    let score_is = ap (λ (s : Scores). s.owner) c.scores-opening.ensures.value in
    let before = ap (λ (s : Scores). s.owner) c.scores-before.ensures in
    let target = c.target-target.ensures.value in
    let most = c.target-target.ensures.range in
    let few : target_of c.args.problem.now ≤ 121 = omega (arith, target, most) in
    let own = (c.new-own.ensures [] []).own in
    by_least c.target-target.ensures.setup (sym c.dealer.ensures ∙ c.in-Owner.is) few c.max-pegged.result c.new-own.result.own.crib
    (rw (c.thrown.ensures, c.starter.ensures) at own.crib)
    (λ score past point. grind (arith, nat_tests, knows, round, score_is, before, past, point))
    (grind (arith, nat_tests, reaches, target, rw (c.hold.ensures, c.starter.ensures) at own.hand))

pub returns-else-not-is_to_stop : goal.returns-else-not-is_to_stop
returns-else-not-is_to_stop c = λ none.
    let stop : is_stop c.args.problem.now.goal ≡ true = grind (arith, nat_tests, none, c.is_to_stop-is_to_stop.ensures) in
    by_stop c.target-target.ensures.setup (sym c.dealer.ensures ∙ c.in-Owner.is) stop
