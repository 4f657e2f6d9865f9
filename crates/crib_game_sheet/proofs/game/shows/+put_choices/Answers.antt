use Rattle.std.proofs.Common.{arith}
use Rattle.std.proofs.lemmas.Grind.{common_steps}
use Rattle.crib_game_sheet.specs.Private.Chosen.{combinations_from}
use Rattle.crib_game_sheet.proofs.game.shows.+put_choices.Goals as goal

pub returns-then-counts_as-clause-listed : goal.returns-then-counts_as-clause-listed
unfolding combinations_from
returns-then-counts_as-clause-listed t c = grind (arith, common_steps)

pub returns-else-counts_as-clause-listed : goal.returns-else-counts_as-clause-listed
unfolding combinations_from
returns-else-counts_as-clause-listed t c = grind (arith, common_steps)

pub returns-clause-listed : goal.returns-clause-listed
unfolding combinations_from
returns-clause-listed t c = grind (arith, common_steps)
