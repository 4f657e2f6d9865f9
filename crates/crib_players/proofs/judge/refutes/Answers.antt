use Rattle.std.proofs.Common.{◌≡◌, ◌<◌, ◌==◌, ℕ, Bool, true, not, length, inl, inr, sym, ap, ◌∙◌, subst, refl, arith}
use Rattle.std.specs.Prelude.{slice_get}
use Rattle.std.proofs.lemmas.Bool.{both_ways, cases_eq}
use Rattle.std.proofs.lemmas.Bool.Decides.{nat_tests}
use Rattle.std.proofs.lemmas.Option.{same_Some, slice_get_read, slice_get_within}
use Rattle.crib_game.specs.declared.section.game.Game.{Game}
use Rattle.crib_players.specs.Private.Judging.{IsAnswered}
use Rattle.crib_players.proofs.Judged.{answered, refutes_from}
use Rattle.crib_players.proofs.judge.refutes.Goals as goal

pub returns-then-not-is_answered : goal.returns-then-not-is_answered
returns-then-not-is_answered c =
    let games = c.args.games.now in
    let game = c.game-item.result in
    let among = slice_get_read games (length games) c.loop-game.game-index game refl c.loop-game-test.true c.game-item.is in
    record {
      exact = (
        λ no. absurd (both_ways _ refl no),
        λ refutes. absurd (both_ways c.is_answered.result c.if-not-is_answered.true
            (c.is_answered.ensures.1 (answered c.args.problem.now games c.loop-game.game-index game among refutes))),
      );
    }

pub loop-game-preserved : goal.loop-game-preserved
loop-game-preserved c = λ index game before among. elim (cases_eq index c.loop-game.game-index) [
  | inl here ↦
      let games = c.args.games.now in
      let item = c.game-item.result in
      let at = slice_get_read games (length games) c.loop-game.game-index item refl c.loop-game-test.true c.game-item.is in
      let same : item ≡ game = same_Some item game (sym at ∙ ap (slice_get games) (sym here) ∙ among) in
      let A : Game → Type 0 = λ game. IsAnswered c.args.problem.now games game in
      subst A same (c.is_answered.ensures.0 c.if-not-is_answered.false)
  | inr other ↦ c.loop-game.invariant index game (omega (arith, before, other)) among
]

some_games : (count : ℕ) (empty : Bool) → empty ≡ (count == 0) → not empty ≡ true → 0 < count
some_games count empty is e = grind (arith, nat_tests, is, e)

not_empty : (count : ℕ) (empty : Bool) → empty ≡ (count == 0) → 0 < count → not empty ≡ true
not_empty count empty is some = grind (arith, nat_tests, is, some)

pub returns : goal.returns
returns c =
    let games = c.args.games.now in
    let over = c.loop-game-test.false in
    record {
      exact = (
        λ some. refutes_from c.args.problem.now games (some_games (length games) c.is_empty.result c.is_empty.ensures some)
            (λ index game among. (
            let inside = slice_get_within games index game among in
            c.loop-game.invariant index game (omega (arith, inside, over)) among
            )),
        λ refutes. (
            let first = refutes.some in
            not_empty (length games) c.is_empty.result c.is_empty.ensures (slice_get_within games 0 first.0 first.1)
            ),
      );
    }
