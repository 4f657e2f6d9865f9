use Rattle.crib_play.specs.History.{Own}
use Rattle.crib_cards.specs.declared.moves.Move.TheVariants as move
use Rattle.std.proofs.Common.{◌∷◌}
use Rattle.crib_know.proofs.RecordTurns.{agrees_before, possible_led, next_shown}
use Rattle.crib_know.proofs.laws.covering_law.Goals as goal

pub returns-clause-before : goal.returns-clause-before
returns-clause-before c = λ problem event history dealt setup agrees. agrees_before problem setup dealt event history agrees

pub returns-clause-own_play : goal.returns-clause-own_play
returns-clause-own_play c = λ problem history card setup possible. (possible_led problem setup (Own (move.Card card) ∷ history) possible).1

pub returns-clause-own_go : goal.returns-clause-own_go
returns-clause-own_go c = λ problem history setup possible. (possible_led problem setup (Own move.Go ∷ history) possible).1

pub returns-clause-next : goal.returns-clause-next
returns-clause-next c = λ problem dealt turn past setup deal legal visible m. next_shown problem setup dealt turn past deal legal visible m
