use Rattle.std.proofs.Common.{rules, ◌∙◌}
use Rattle.crib_game.specs.Replay.{by_rules, game_fault, record_of, report_of}
use Rattle.crib_game.proofs.GameFaults.{accepted_is, record_is, not_recorded}
use Rattle.crib_game.proofs.Reports.{report_is}
use Rattle.crib_game.proofs.replaying.replays.replay.Goals as goal

pub returns-in_err-walk-clause-refused : goal.returns-in_err-walk-clause-refused
returns-in_err-walk-clause-refused c =
    let refused = not_recorded c.args.problem.now c.args.game.now _ c.judge.ensures.setup c.in_err-walk.ensures.refused in search (rules, refused)

pub returns-clause-legal : goal.returns-clause-legal
returns-clause-legal c =
    let problem = c.args.problem.now in
    let game = c.args.game.now in
    let judged = c.in_ok-walk.ensures.judged in
    (record_of problem game, record_is (by_rules problem) problem game c.judge.ensures.setup judged.six (λ _ none. none) judged.clear)

pub returns-clause-exact : goal.returns-clause-exact
returns-clause-exact c =
    let problem = c.args.problem.now in
    let game = c.args.game.now in
    let judged = c.in_ok-walk.ensures.judged in
    accepted_is (game_fault problem game) _ (report_of problem game) judged.clear
    ((λ i. record {
      rows = c.judge.new.follower.rows;
      show = record { items = c.end-show.ensures.show i };
      scores = c.scores.ensures.value i;
      over = c.end-show.ensures.outcome i;
    })
    ∙ report_is problem game c.in_ok-walk.walk.round c.judge.new.follower.rows.items judged.after.stands c.in_ok-walk.ensures.followed)
