use Rattle.crib_run.proofs.Printing.{more}
use Rattle.crib_game_sheet.specs.GameText.{act_text, score_text}
use Rattle.crib_game_sheet.proofs.game.acts.put_act.Goals as goal

pub returns : goal.returns
unfolding act_text score_text
returns g c =
    let scores = (more (more (more c.put-4.ensures c.put_right-3.ensures) c.put-5.ensures) c.put_right-4.ensures) in
    more (more (more (more (more (more (more c.put_right.ensures c.put.ensures) c.put_role_column.ensures) c.put-2.ensures) c.put_move.ensures)
    c.put-3.ensures) c.put_right-2.ensures) scores
