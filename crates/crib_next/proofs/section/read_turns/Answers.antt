use Rattle.std.proofs.Common.{ap, List, Ok, sym, ◌∙◌}
use Rattle.crib_cards.specs.declared.moves.Act.{Act}
use Rattle.crib_text.proofs.FormLaws.{form_read, form_only}
use Rattle.crib_next.proofs.TurnsForm.{turns_form}
use Rattle.crib_next.proofs.section.read_turns.Goals as goal

pub returns-clause-found : goal.returns-clause-found
returns-clause-found c = turns_form.found _ _ _ c.in_ok-turns.ensures

pub returns-clause-only : goal.returns-clause-only
returns-clause-only c = λ turns rest is same.
    ap (λ (acts : List Act). Ok (record { items = acts })) (form_only turns_form turns _ _ _ rest c.in_ok-turns.ensures is same).0

pub returns-in_err-turns-clause-only : goal.returns-in_err-turns-clause-only
returns-in_err-turns-clause-only c = λ turns rest is same.
    (let read = sym (form_read turns_form turns _ rest is same) ∙ c.in_err-turns.ensures in absurd cc)
