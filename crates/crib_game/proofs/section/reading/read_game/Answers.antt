use Rattle.std.proofs.Common.{ap, Ok, sym, ◌∙◌}
use Rattle.crib_text.proofs.FormLaws.{form_read, form_only}
use Rattle.crib_game.proofs.GameForm.{game_form}
use Rattle.crib_game.proofs.section.reading.read_game.Goals as goal

pub returns-clause-found : goal.returns-clause-found
returns-clause-found c = game_form.found _ _ _ c.in_ok-game.ensures

pub returns-clause-only : goal.returns-clause-only
returns-clause-only c = λ game rest is same. ap Ok (form_only game_form game _ _ _ rest c.in_ok-game.ensures is same).0

pub returns-in_err-game-clause-only : goal.returns-in_err-game-clause-only
returns-in_err-game-clause-only c = λ game rest is same.
    (let read = sym (form_read game_form game _ rest is same) ∙ c.in_err-game.ensures in absurd cc)
