use Rattle.std.proofs.Common.{ℕ, List, ap, arith, subst, ◌∙◌}
use Rattle.std.specs.List.{AllZip}
use Rattle.std.proofs.lemmas.List.{take_all}
use Rattle.crib_cards.specs.declared.sides.Scores.{Scores}
use Rattle.crib_know.specs.Knowledge.{Knowledge}
use Rattle.crib_tables.proofs.ScoreTables.{zip_more}
use Rattle.crib_tables.specs.Scores.{IsRow, scores_around}
use Rattle.crib_tables.proofs.scores.scores_of.Goals as goal

pub scores_around-columns-requires : goal.scores_around-columns-requires
scores_around-columns-requires g c = rw c.scores.ensures c.start.ensures.setup.opponent_score

pub scores_around-owners-requires : goal.scores_around-owners-requires
scores_around-owners-requires g c = rw c.scores-2.ensures c.start.ensures.setup.owner_score

pub loop-owner-preserved : goal.loop-owner-preserved
loop-owner-preserved g c = (
  rw c.push.ensures.items
      (zip_more (IsRow c.args.problem.now c.scores_around-columns.result.items) c.as_slice-owner-items.result.now c.loop-owner.rows.items
      c.loop-owner.owner-index _ c.in_ok-row.row (omega (arith, c.loop-owner-test.true)) c.loop-owner.invariant.0
      (rw c.as_slice.ensures.value at c.in_ok-row.ensures)),
  omega (arith, c.push.ensures.len, c.loop-owner.invariant.1),
)

pub returns : goal.returns
returns g c = record {
  turn = c.turn-turn.ensures ∙ ap (λ (know : Knowledge). know.round.asked) c.start.ensures.knowledge;
  columns = c.scores_around-columns.ensures.value ∙ ap (λ (scores : Scores). scores_around scores.opponent) c.scores.ensures;
  rows = subst (λ (owners : List ℕ). AllZip (IsRow c.args.problem.now c.scores_around-columns.result.items) owners c.loop-owner.rows.items)
      (c.as_slice-owner-items.ensures.value ∙ c.scores_around-owners.ensures.value ∙ ap (λ (scores : Scores). scores_around scores.owner) c.scores-2.ensures)
      (rw (take_all c.loop-owner.owner-index c.as_slice-owner-items.result.now c.loop-owner-test.false) at c.loop-owner.invariant.0);
}
