use Rattle.std.proofs.Common.{ℕ, inl, inr, refl, sym, subst, arith}
use Rattle.std.proofs.lemmas.Bool.{cases_eq, cases_lt}
use Rattle.crib_players.specs.Refutations.{HasEachCard}
use Rattle.crib_players.proofs.Judged.{none_after}
use Rattle.crib_players.proofs.judge.has_each_card.Goals as goal

pub loop-turn-preserved : goal.loop-turn-preserved
loop-turn-preserved c = λ turn late before. elim (cases_eq turn c.loop-turn.turn) [
  | inl here ↦
      let H : ℕ → Type 0 = λ turn. HasEachCard c.args.problem.now c.args.games.now c.args.game.now turn in
      subst H (sym here) (c.has_each_card_at.ensures.0 c.if-not-has_each_card_at.false)
  | inr other ↦ c.loop-turn.invariant turn late (omega (arith, before, other))
]

pub returns : goal.returns
returns c = (
  λ _ turn late. elim (cases_lt turn c.loop-turn.turn) [
    | inl before ↦ c.loop-turn.invariant turn late before
    | inr past ↦
        let over = c.loop-turn-test.false in
        let long = c.len-turn-end.ensures.value in
        none_after c.args.problem.now c.args.games.now c.args.game.now c.args.report.now turn c.requires (omega (arith, past, over, long))
  ],
  λ _. refl,
)
