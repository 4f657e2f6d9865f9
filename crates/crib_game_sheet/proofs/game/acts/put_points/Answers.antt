use Rattle.crib_run.proofs.Printing.{more, none_left, nothing}
use Rattle.crib_game_sheet.specs.GameText.{points_text}
use Rattle.crib_game_sheet.proofs.game.acts.put_points.Goals as goal

pub returns-in_default : goal.returns-in_default
unfolding points_text
returns-in_default g c = rw (none_left c.args.reasons.now c.in_default.ensures.cases) (nothing _)

pub returns-in-Card : goal.returns-in-Card
unfolding points_text
returns-in-Card g c =
    rw (c.in-Some.ensures.cases.0, c.in-Card.is)
    (more (more (more (more (more c.put.ensures c.put_small.ensures) c.put-2.ensures) c.put_reason.ensures) c.put_others.ensures) (nothing _))

pub returns-in-Go : goal.returns-in-Go
unfolding points_text
returns-in-Go g c =
    rw (c.in-Some.ensures.cases.0, c.in-Go.is)
    (more (more (more (more (more c.put.ensures c.put_small.ensures) c.put-2.ensures) c.put_reason.ensures) c.put_others.ensures)
    (more (more c.put-in-Go.ensures c.put_role.ensures) c.put-in-Go-2.ensures))
