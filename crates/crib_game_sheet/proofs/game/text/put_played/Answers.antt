use Rattle.crib_run.proofs.Printing.{more}
use Rattle.crib_game_sheet.specs.GameText.{dealt_line, played_text}
use Rattle.crib_game_sheet.proofs.game.text.put_played.Goals as goal

pub returns : goal.returns
unfolding played_text dealt_line
returns g c =
    let dealt =
    (more (more (more (more (more (more c.put.ensures c.put_role.ensures) c.put-2.ensures) c.put_cards.ensures) c.put-3.ensures)
    c.put_cards-2.ensures) c.put-4.ensures) in
    rw (c.other.ensures, c.dealer-dealer.ensures, c.as_slice.ensures.value, c.as_slice-2.ensures.value, c.goal.ensures) at
    (more (more (more (more (more dealt c.put-5.ensures) c.put_rows.ensures) c.put_show.ensures) c.put_outcome.ensures) c.put_pegged.ensures)
