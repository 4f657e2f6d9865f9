use Rattle.std.proofs.Common.{rules}
use Rattle.crib_run.proofs.Printing.{as_text, more}
use Rattle.crib_game_sheet.specs.GameText.{combination_lines, counted_cards, counted_combinations, counted_name, counted_points, counted_text}
use Rattle.crib_game_sheet.proofs.game.counted.put_counted.Goals as goal

pub returns : goal.returns
unfolding counted_text counted_name counted_points
returns g c =
    let name = as_text {b = counted_name c.args.problem.now (counted_cards c.args.problem.now c.args.dealt.now c.args.row.now) c.args.row.now}
    (more (more (more (more (more (more (more c.put.ensures c.put_role.ensures) c.put-2.ensures) c.put-3.ensures) c.put-4.ensures)
    c.put_cards.ensures) c.put-5.ensures) c.put_card.ensures) (search rules) in
    let points =
    (more (more (more (more (more (more c.put-6.ensures c.put_how_many.ensures) c.put-7.ensures) c.put_small.ensures) c.put-8.ensures)
    c.put_small-2.ensures) c.put-9.ensures) in
    let found = as_text {b = combination_lines (counted_combinations c.args.problem.now c.args.dealt.now c.args.row.now)} c.put_combinations.ensures
    (search rules) in
    more (more name points) found
