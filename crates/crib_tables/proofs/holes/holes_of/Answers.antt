use Rattle.std.proofs.Common.{List, ap, arith, refl, subst, sym, ◌∙◌}
use Rattle.crib_cards.specs.declared.moves.Act.{Act}
use Rattle.crib_play.specs.Standing.{Standing}
use Rattle.crib_know.specs.Knowledge.{Knowledge}
use Rattle.crib_tables.proofs.SureHoles.{AreSoFar, all_turns, five_turns, no_turn, own_at, turn_more, turn_skip, with_plan, with_turn}
use Rattle.crib_tables.proofs.SureTurns.{turns_are_own}
use Rattle.crib_tables.proofs.holes.holes_of.Goals as goal
use Rattle.crib_tables.proofs.holes.holes_of.Goals.{then-may_come+in_ok-most, else-may_come}

pub loop-act-init : goal.loop-act-init
loop-act-init g c = rw c.new-turns.ensures (no_turn c.args.problem.now c.own_turns-acts.result)

pub most_holes-requires-then-may_come-clause-own : goal.most_holes-requires-then-may_come-clause-own
most_holes-requires-then-may_come-clause-own g c =
    own_at c.own_turns-acts.result c.loop-act.act-index c.act-item.result (omega (arith, c.loop-act-test.true, c.type_inv.act-items))
    (rw c.own_turns-acts.ensures (turns_are_own c.args.problem.now))

pub loop-act-preserved : goal.loop-act-preserved
loop-act-preserved g c = elim c.if-may_come.branch [
  | then-may_come+in_ok-most w ↦ rw (w.turns-is, w.push.ensures.items)
      (turn_more c.args.problem.now c.own_turns-acts.result c.loop-act.turns.items c.loop-act.act-index c.act-item.result
      (omega (arith, c.loop-act-test.true, c.type_inv.act-items)) c.loop-act.invariant _ (sym c.may_come.ensures ∙ w.if-may_come.true)
      (refl, with_turn c.args.problem.now _ w.in_ok-most.most w.in_ok-most.ensures))
  | else-may_come w ↦ rw w.turns-is
      (turn_skip c.args.problem.now c.own_turns-acts.result c.loop-act.turns.items c.loop-act.act-index c.act-item.result
      (omega (arith, c.loop-act-test.true, c.type_inv.act-items)) c.loop-act.invariant (sym c.may_come.ensures ∙ w.if-may_come.false))
]

pub returns : goal.returns
returns g c = record {
  pegs = c.scores-pegs.ensures.value ∙ ap (λ (round : Standing). round.scores) c.round.ensures
      ∙ ap (λ (know : Knowledge). know.round.scores) c.start-know.ensures.knowledge;
  most = with_plan c.args.problem.now c.in_ok-holes.holes c.in_ok-holes.ensures;
  turns = all_turns c.args.problem.now _ c.loop-act.turns.items c.loop-act.act-index
      (let five = five_turns c.args.problem.now c.start-know.ensures.setup.held in omega (arith, five, c.loop-act-test.false))
      (subst (λ (acts : List Act). AreSoFar c.args.problem.now acts c.loop-act.turns.items c.loop-act.act-index) c.own_turns-acts.ensures
      c.loop-act.invariant);
}
