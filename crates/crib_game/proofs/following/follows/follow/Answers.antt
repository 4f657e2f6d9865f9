use Rattle.std.proofs.Common.{rules, ap, ◌∙◌}
use Rattle.crib_plan.specs.Places.{stated_card}
use Rattle.crib_game.specs.Replay.{record_of}
use Rattle.crib_game.proofs.FollowGames.{follow_record, follow_ending, not_followed}
use Rattle.crib_game.proofs.following.follows.follow.Goals as goal

pub returns-in_err-walk-clause-refused : goal.returns-in_err-walk-clause-refused
returns-in_err-walk-clause-refused g c =
    let refused = not_followed c.args.problem.now c.args.plan.now c.args.game.now _ c.judge.ensures.setup c.in_err-walk.ensures.refused in
    search (rules, refused)

pub returns-clause-follows : goal.returns-clause-follows
returns-clause-follows g c =
    let judged = c.in_ok-walk.ensures.judged in (
      record_of c.args.problem.now c.args.game.now,
      follow_record c.args.problem.now c.args.plan.now c.args.game.now c.judge.ensures.setup judged.six judged.clear,
    )

pub returns-clause-exact : goal.returns-clause-exact
returns-clause-exact g c =
    follow_ending c.args.problem.now c.args.plan.now c.args.game.now c.in_ok-walk.walk c.ending.result c.card_at.result c.judge.ensures.setup
    c.in_ok-walk.ensures.judged (c.card_at.ensures.card ∙ ap (stated_card c.args.plan.now) c.in_ok-walk.ensures.followed.place_is) c.ending.ensures
