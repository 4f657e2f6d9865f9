-- What is sure next: a plan, or a turn of the owner.
use Rattle.std.specs.Prelude.{Option, Some, None}
use Rattle.crib_cards.specs.declared.moves.Act.{Act}
use Rattle.crib_problem.specs.Setup.{Setup}
use Rattle.crib_search.specs.Winnable.{IsWinnable}
use Rattle.crib_tables.specs.Turns.{IsSureTurn}

-- this turn is sure, or a plan is if there is no turn
unfoldable pub IsSureNext : Option Act → Setup → Type 0
IsSureNext None problem = IsWinnable problem
IsSureNext (Some act) problem = IsSureTurn problem act
