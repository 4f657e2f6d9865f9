use Rattle.std.proofs.Common.{sym, ap, ◌∙◌}
use Rattle.std.proofs.lemmas.Bool.{both_ways}
use Rattle.crib_game.specs.declared.replaying.report.Report.{Report}
use Rattle.crib_players.specs.Private.Judging.{is_miss}
use Rattle.crib_players.proofs.Missed.{missed_from, missed_to, report_is}
use Rattle.crib_players.proofs.judge.is_answered.Goals as goal

pub returns-then-is_miss : goal.returns-then-is_miss
returns-then-is_miss c =
    let problem = c.args.problem.now in
    let game = c.args.game.now in
    let legal = c.in-Ok.ensures.legal in
    let same = ap (λ (report : Report). is_miss report.over) (report_is problem game c.in-Ok.report c.in-Ok.ensures.exact) in
    let missed = missed_from problem game c.in-Ok.ensures.setup legal.0 legal.1 (sym same ∙ sym c.is_miss.ensures ∙ c.if-is_miss.true) in (
      λ all. (missed, c.has_each_card.ensures.0 all),
      λ is. c.has_each_card.ensures.1 is.1,
    )

pub returns-else-is_miss : goal.returns-else-is_miss
returns-else-is_miss c =
    let problem = c.args.problem.now in
    let game = c.args.game.now in
    let same = ap (λ (report : Report). is_miss report.over) (report_is problem game c.in-Ok.report c.in-Ok.ensures.exact) in (
      λ yes. absurd (both_ways c.is_miss.result c.if-is_miss.false yes),
      λ is. c.is_miss.ensures ∙ same ∙ missed_to problem game c.in-Ok.ensures.setup is.0,
    )
