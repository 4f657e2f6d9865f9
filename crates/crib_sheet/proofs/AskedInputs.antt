-- What an input spells in which a problem is read, and the plan behind it if there is one.
use Rattle.std.proofs.Common.{◌≡◌, ℕ, List, Option, Some, None, Result, Ok, Err, ap, sym}
use Rattle.crib_text.specs.Refusals.{Refusal}
use Rattle.crib_text.proofs.ReadingLemmas.{ok_is}
use Rattle.crib_problem.specs.Setup.{Setup}
use Rattle.crib_plan.specs.declared.plan.Node.{Node}
use Rattle.crib_input.specs.Input.{problem_of_input, question_of_input}
use Rattle.crib_input.specs.Spelled.{SpellsPlan, SpellsProblem}
use Rattle.crib_input.proofs.Inputs.{problem_spelled, question_spelled}
use Rattle.crib_sheet.specs.Asked.{asked_of_input, plan_or_none}

alone_is : (alone : Result Setup Refusal) (question : Result (Setup × List Node) Refusal) (problem : Setup)
    → plan_or_none alone question ≡ Ok (problem, None) → alone ≡ Ok problem
alone_is (Ok found) question problem e = ap (λ (asked : Setup × Option (List Node)). Ok asked.0) (ok_is (found, None) (problem, None) e)
alone_is (Err refusal) (Ok found) problem e =
    let plan : Some found.1 ≡ None = ap (λ (asked : Setup × Option (List Node)). asked.1) (ok_is (found.0, Some found.1) (problem, None) e) in
    absurd cc
alone_is (Err refusal) (Err first) problem e = absurd cc

behind_is : (alone : Result Setup Refusal) (question : Result (Setup × List Node) Refusal) (problem : Setup) (plan : List Node)
    → plan_or_none alone question ≡ Ok (problem, Some plan) → (question ≡ Ok (problem, plan)) × ((one : Setup) → alone ≡ Ok one → ⊥)
behind_is (Ok found) question problem plan e =
    let none : None ≡ Some plan = ap (λ (asked : Setup × Option (List Node)). asked.1) (ok_is (found, None) (problem, Some plan) e) in
    absurd cc
behind_is (Err refusal) (Ok found) problem plan e =
    let same = ok_is (found.0, Some found.1) (problem, Some plan) e in
    let its : Some found.1 ≡ Some plan = ap (λ (asked : Setup × Option (List Node)). asked.1) same in
    let behind : found.1 ≡ plan = cc in
    (rw (sym behind) (ap (λ (asked : Setup × Option (List Node)). Ok (asked.0, found.1)) same), λ one is. absurd cc)
behind_is (Err refusal) (Err first) problem plan e = absurd cc

neither_is : (alone : Result Setup Refusal) (question : Result (Setup × List Node) Refusal) (refusal : Refusal)
    → plan_or_none alone question ≡ Err refusal → ((one : Setup) → alone ≡ Ok one → ⊥) × ((both : Setup × List Node) → question ≡ Ok both → ⊥)
neither_is (Ok found) question refusal e = absurd cc
neither_is (Err other) (Ok found) refusal e = absurd cc
neither_is (Err other) (Err first) refusal e = (λ one is. absurd cc, λ both is. absurd cc)

-- a problem that is read without a plan is read alone
pub asked_alone : (input : List ℕ) (problem : Setup) → asked_of_input input ≡ Ok (problem, None) → problem_of_input input ≡ Ok problem
asked_alone input problem e = alone_is (problem_of_input input) (question_of_input input) problem e

-- a plan that is read is behind its problem
pub asked_question : (input : List ℕ) (problem : Setup) (plan : List Node) → asked_of_input input ≡ Ok (problem, Some plan)
    → question_of_input input ≡ Ok (problem, plan)
asked_question input problem plan e = (behind_is (problem_of_input input) (question_of_input input) problem plan e).0

-- an input with a plan spells no problem alone
pub asked_not_alone : (input : List ℕ) (problem : Setup) (plan : List Node) (one : Setup) → asked_of_input input ≡ Ok (problem, Some plan)
    → SpellsProblem input one → ⊥
asked_not_alone input problem plan one e spelled =
    (behind_is (problem_of_input input) (question_of_input input) problem plan e).1 one (problem_spelled input one spelled)

-- what is refused spells no problem, alone or with a plan behind it
pub asked_nothing : (input : List ℕ) (refusal : Refusal) (one : Setup) → asked_of_input input ≡ Err refusal
    → (SpellsProblem input one → ⊥) × ((plan : List Node) → SpellsPlan input one plan → ⊥)
asked_nothing input refusal one e =
    let none = neither_is (problem_of_input input) (question_of_input input) refusal e in
    (λ spelled. none.0 one (problem_spelled input one spelled), λ plan spelled. none.1 (one, plan) (question_spelled input one plan spelled))
