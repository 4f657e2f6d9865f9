use Rattle.std.proofs.Common.{◌≡◌, length, rules}
use Rattle.crib_run.proofs.Printing.{none_left}
use Rattle.crib_game_sheet.proofs.game.counted.put_combinations.Goals as goal

pub returns-then-is_empty : goal.returns-then-is_empty
returns-then-is_empty g c =
    let none : length c.args.found.now ≡ 0 = search rules in
    rw (none_left c.args.found.now none) c.put.ensures
