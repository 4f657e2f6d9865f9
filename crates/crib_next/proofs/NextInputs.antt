-- An accepted input with turns spells what was read of it, and an input that spells turns is read so.
use Rattle.std.proofs.Common.{◌≡◌, ℕ, List, ◌++◌, Ok, refl, sym, ap, ◌∙◌, append_assoc, arith}
use Rattle.std.proofs.lemmas.Grind.{flat_map-append}
use Rattle.crib_cards.specs.declared.moves.Act.{Act}
use Rattle.crib_text.specs.Spelling.{lines_text}
use Rattle.crib_text.specs.Reading.{Rest, end_at}
use Rattle.crib_text.proofs.ReadingLemmas.{bind_ok, ok_is}
use Rattle.crib_problem.specs.Setup.{Setup}
use Rattle.crib_problem.specs.Spelling.{problem_lines, problem_text}
use Rattle.crib_problem.specs.Reading.{problem_at}
use Rattle.crib_problem.proofs.ProblemForm.{problem_form}
use Rattle.crib_plan.specs.declared.plan.Node.{Node}
use Rattle.crib_plan.specs.Spelling.{plan_lines, plan_text}
use Rattle.crib_plan.specs.Reading.{plan_at}
use Rattle.crib_plan.proofs.PlanForm.{plan_form}
use Rattle.crib_input.specs.Input.{input_lines}
use Rattle.crib_input.proofs.Inputs.{IsTaken, input_spells, input_read, both, both_read, both_parts, both_form}
use Rattle.crib_next.specs.Section.{turns_at, turns_lines, turns_text}
use Rattle.crib_next.specs.Input.{SpellsTurns, next_question_at, next_question_of_input}
use Rattle.crib_next.proofs.TurnsForm.{turns_form}

taken : (rest : Rest) (read : Setup × List Node × List Act × ℕ) → next_question_at rest ≡ Ok read
    → IsTaken (both problem_at (both plan_at turns_at)) rest (read.0, (read.1, read.2))
unfolding next_question_at
taken rest read e =
    let a = bind_ok (problem_at rest) _ read e in
    let b = bind_ok (plan_at a.0.1) _ read a.2 in
    let d = bind_ok (turns_at b.0.1) _ read b.2 in
    let f = bind_ok (end_at d.0.1) _ read d.2 in
    let same = ok_is (a.0.0, b.0.0, d.0.0, b.0.1.number) read f.2 in
    let all = both_read problem_at (both plan_at turns_at) rest a.0 ((b.0.0, d.0.0), d.0.1) a.1 (both_read plan_at turns_at a.0.1 b.0 d.0 b.1 d.1) in
    record { left = d.0.1; taken = all ∙ ap (λ (p : Setup × List Node × List Act × ℕ). Ok ((p.0, (p.1, p.2)), d.0.1)) same; none = f.1 }

texts_joined : (problem : Setup) (plan : List Node) (turns : List Act)
    → lines_text (problem_lines problem ++ (plan_lines plan ++ turns_lines turns)) ≡ (problem_text problem ++ plan_text plan) ++ turns_text turns
unfolding problem_text plan_text turns_text
texts_joined problem plan turns = simp (flat_map-append, append_assoc)

-- if a problem, a plan and turns are read, the input spells them
pub question_accepted : (input : List ℕ) (read : Setup × List Node × List Act × ℕ) → next_question_of_input input ≡ Ok read
    → SpellsTurns input read.0 read.1 read.2
unfolding next_question_of_input problem_text plan_text turns_text
question_accepted input read e =
    let a = bind_ok (input_lines input) next_question_at read e in
    let form = both_form problem_form (both_form plan_form turns_form) in
    let said = input_spells form input a.0 (read.0, (read.1, read.2)) a.1 (taken a.0 read a.2) in
    let text = texts_joined read.0 read.1 read.2 in
    record { problem_is = said.0.0; plan_is = said.0.1.0; turns_are = said.0.1.1; text = said.1 ∙ text }

-- if an input spells a problem, a plan and turns, they are read
pub question_spelled : (input : List ℕ) (problem : Setup) (plan : List Node) (turns : List Act) → SpellsTurns input problem plan turns
    → (first : ℕ) × (next_question_of_input input ≡ Ok (problem, plan, turns, first))
unfolding next_question_of_input next_question_at problem_text plan_text turns_text
question_spelled input problem plan turns spelled =
    let form = both_form problem_form (both_form plan_form turns_form) in
    let are = input_read form input (problem, (plan, turns)) (spelled.problem_is, (spelled.plan_is, spelled.turns_are)) (omega (arith, spelled.plan_is.0))
    (spelled.text ∙ sym (texts_joined problem plan turns)) in
    let parts = both_parts problem_at (both plan_at turns_at) are.0 are.2.left problem (plan, turns) are.2.taken in
    let more = both_parts plan_at turns_at parts.0 are.2.left plan turns parts.2 in
    (more.0.number, rw (are.1, parts.1, more.1, more.2, are.2.none) (refl {a = Ok (problem, plan, turns, more.0.number)}))
