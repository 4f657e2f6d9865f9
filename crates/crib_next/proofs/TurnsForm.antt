-- The form of the turns since a problem: what is read is spelled so, and what is spelled so is read.
use Rattle.std.proofs.Common.{List, ◌∷◌, length, codes, refl, arith}
use Rattle.crib_cards.specs.declared.moves.Act.{Act}
use Rattle.crib_text.proofs.Forms.{IsForm, line_form, each_line_form, then_form, form_as}
use Rattle.crib_problem.proofs.ActForms.{act_form, count_form}
use Rattle.crib_next.specs.Section.{AreTurns, turns_at, turns_lines}

-- 9 bytes for the line `turns N`, and 7 for each of at most 32 turns
pub turns_form : IsForm turns_at turns_lines AreTurns (λ turns. 233)
unfolding turns_at turns_lines
turns_form =
    form_as (
    then_form _ (λ (turns : List Act). length turns) (line_form (count_form (codes "turns") refl) (λ _. refl)) (λ count.
    each_line_form act_form (λ _. refl) count)
    (λ count turns is are. are.0))
    (λ turns is. record { few = is.0; moves = is.1.1 })
    (λ turns is. (is.few, (refl, is.moves)))
    (λ turns is. refl) (λ turns is. omega (arith, is.few))
