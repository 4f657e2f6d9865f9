use Rattle.std.proofs.Common.{[], ◌∷◌, sym, ap, subst, ◌∙◌, arith}
use Rattle.std.proofs.lemmas.List.{length-map, length-reverse}
use Rattle.crib_cards.specs.declared.sides.Dealt.{Dealt}
use Rattle.crib_play.specs.History.{event_of}
use Rattle.crib_problem.specs.Setup.{played_back}
use Rattle.crib_know.specs.Knowledge.{played_events}
use Rattle.crib_sure.specs.Private.Suits.{acts_in_suits}
use Rattle.crib_check.specs.Private.Positions.{IsFirstShortfall}
use Rattle.crib_check.proofs.MissedGames.{all_reached, missed_with}
use Rattle.crib_check.proofs.TrailLengths.{history_short}
use Rattle.crib_check.proofs.ends.missed_game.Goals as goal

pub first_shortfall-requires-clause-known : goal.first_shortfall-requires-clause-known
first_shortfall-requires-clause-known c = (_, c.requires.knows)

pub game_with-requires : goal.game_with-requires
game_with-requires c =
    let short = history_short _ _ _ c.requires.knows in
    omega (arith, short, length-map (played_back c.args.problem.now) event_of, length-reverse c.args.problem.now.played)

pub returns-in_default : goal.returns-in_default
returns-in_default c =
    all_reached c.args.problem.now (event_of c.args.act.now ∷ played_events c.args.problem.now) c.requires.knows
    (rw c.in_default.is at (c.first_shortfall.ensures.first _ c.requires.knows))

pub returns : goal.returns
returns c =
    let problem = c.args.problem.now in
    let same = c.game_with.ensures.deal in
    missed_with problem c.args.act.now c.requires.knows c.requires.over c.game_with.result
    (subst (IsFirstShortfall problem (event_of c.args.act.now ∷ played_events problem) c.args.know.now.round) (sym same)
    (rw c.in-Some.is at (c.first_shortfall.ensures.first _ c.requires.knows)))
    (c.game_with.ensures.acts ∙ ap (λ (dealt : Dealt). acts_in_suits dealt.hold (played_back problem) (event_of c.args.act.now ∷ [])) (sym same))
