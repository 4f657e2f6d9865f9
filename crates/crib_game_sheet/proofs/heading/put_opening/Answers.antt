use Rattle.std.proofs.Common.{◌≡◌, ℕ, ◌++◌, codes, decimal, arith, refl}
use Rattle.std.proofs.lemmas.Bool.{ne_eqb}
use Rattle.crib_run.proofs.Printing.{as_text, more, nothing}
use Rattle.crib_game_sheet.specs.Heading.{opening_line}
use Rattle.crib_game_sheet.proofs.heading.put_opening.Goals as goal

many_turns : (turns : ℕ) → (turns ≡ 0 → ⊥) → (turns ≡ 1 → ⊥) →
    codes "The first " ++ decimal turns ++ codes " turns were played. Scores and cards are those before them.\n" ≡ opening_line turns
unfolding opening_line
many_turns turns some more = rw (ne_eqb turns 0 some, ne_eqb turns 1 more) refl

pub returns-in-0 : goal.returns-in-0
unfolding opening_line
returns-in-0 g c = rw c.in-0.is (nothing _)

pub returns-in-1 : goal.returns-in-1
unfolding opening_line
returns-in-1 g c = rw c.in-1.is c.put.ensures

pub returns-in_default : goal.returns-in_default
returns-in_default g c =
    as_text (more (more c.put-in_default.ensures c.put_small.ensures) c.put-in_default-2.ensures)
    (many_turns c.args.turns (λ e. omega arith) (λ e. omega arith))
