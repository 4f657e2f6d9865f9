use Rattle.std.proofs.Common.{length, rules}
use Rattle.crib_run.proofs.Printing.{as_text, more}
use Rattle.crib_game_sheet.specs.Heading.{goal_line, heading_text, opening_line, own_line, scores_line}
use Rattle.crib_game_sheet.proofs.heading.put_heading.Goals as goal

pub returns : goal.returns
unfolding heading_text scores_line own_line goal_line
returns g c =
    let problem = c.args.problem.now in
    let scores = as_text {b = scores_line problem}
    (more (more (more (more (more (more (more c.put.ensures c.put_role.ensures) c.put-2.ensures) c.put_small.ensures)
    c.put_other_score.ensures) c.put-3.ensures) c.put_card.ensures) c.put-4.ensures) (search rules) in
    let own = as_text {b = own_line problem}
    (more (more (more (more c.put-5.ensures c.put_cards.ensures) c.put-6.ensures) c.put_cards-2.ensures) c.put-7.ensures) (search rules) in
    let wanted = as_text {b = goal_line problem.dealer problem.goal}
    (more (more c.put-8.ensures c.put_goal.ensures) c.put-9.ensures) (search rules) in
    let opening = as_text {b = opening_line (length problem.played)} c.put_opening.ensures (search rules) in
    more (more (more scores own) wanted) opening
