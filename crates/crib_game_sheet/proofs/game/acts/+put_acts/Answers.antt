use Rattle.crib_run.proofs.Printing.{more}
use Rattle.crib_game_sheet.specs.GameText.{act_line, act_lines}
use Rattle.crib_game_sheet.proofs.game.acts.+put_acts.Goals as goal

pub returns : goal.returns
unfolding act_lines act_line
returns g t c =
    rw (c.in-Some.ensures.cases.0, c.in-Some-split_first.ensures.cases.0) (rw (c.last_after-last.ensures, c.as_slice.ensures.value) at
    (more (more (more c.put_act.ensures c.put_points.ensures) c.put.ensures) c.put_acts.ensures))
