use Rattle.std.proofs.Common.{◌≡◌, ℕ, List, ◌++◌, append_assoc, codes}
use Rattle.crib_game.specs.Replay.{replay_result}
use Rattle.crib_run.proofs.Printing.{as_text, more}
use Rattle.crib_sheet.specs.PlanHead.{failing_line, failing_text, game_lines, why_text}
use Rattle.crib_sheet.proofs.verdict.head.put_head.Goals as goal

regroup : (line game why end : List ℕ) → ((line ++ game) ++ why) ++ end ≡ line ++ game ++ why ++ end
regroup line game why end = simp append_assoc

pub returns-in-Holds : goal.returns-in-Holds
returns-in-Holds g c = rw c.in-Holds.is (more c.put_position.ensures c.put.ensures)

pub returns-in-Fails : goal.returns-in-Fails
unfolding failing_text
returns-in-Fails g c =
    let problem = c.args.sheet.now.problem in
    let plan = c.args.sheet.now.plan in
    let ending = c.in-Fails.ending in
    let game = c.in-Fails.game in
    let failing = as_text {b = failing_text problem plan ending game}
    (more (more (more c.put-in-Fails.ensures c.put_game.ensures) c.put_why.ensures) c.put-in-Fails-2.ensures)
    (rw c.failing_words.ensures.value
    (regroup (failing_line ending) (game_lines problem game (replay_result problem game)) (why_text problem plan ending game) (codes "\nThe plan:\n\n"))) in
    rw c.in-Fails.is (more (more (more c.put_position.ensures c.put_beating.ensures) c.put_best.ensures) failing)
