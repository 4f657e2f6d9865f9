-- Worked examples of right replies to a problem to try, and of what they guarantee.
use Rattle.std.proofs.Common.{◌≡◌, ◌⊎◌, inl, inr, ap, get_or, ℕ, List, [], ◌∷◌, Ok, Err, Some, arith, codes, refl, subst, sym}
use Rattle.std.specs.Fmt.{digits}
use Rattle.crib_problem.specs.Setup.{Setup}
use Rattle.crib_check.proofs.SureExamples.{ace_or_two_is_sure}
use Rattle.crib_input.proofs.EmptyExamples.{no_problem_in_nothing}
use Rattle.crib_plan.specs.Nodes.{ArePlan, most_nodes}
use Rattle.crib_plan.specs.Spelling.{plan_lines, plan_text}
use Rattle.crib_plan.specs.declared.plan.Next.TheVariants.{End, To}
use Rattle.crib_plan.specs.declared.plan.Node.{Node}
use Rattle.crib_plan.specs.declared.plan.Node.TheVariants.{Play}
use Rattle.crib_search.specs.Finder.{ExceedsLimit, IsFound}
use Rattle.crib_search.specs.Tried.{IsNeverStuck}
use Rattle.crib_search.specs.Winnable.{IsWinnable}
use Rattle.crib_search.proofs.TriedExamples.{stuck_at_the_lead}
use Rattle.crib_problem.proofs.ExampleProblems.{four_twos}
use Rattle.crib_sure.proofs.ExampleOpening.{ace_or_two, at_29}
use Rattle.crib_sure.specs.Sure.{Ends, GoesOn, IsSure}
use Rattle.crib_answer.specs.Meaning.{HasNoPlan, HasSomePlan}
use Rattle.crib_run.specs.declared.status.Status.TheVariants.{Yes, No, Refused, Fault}
use Rattle.crib_run.specs.Reply.{Reply}
use Rattle.crib_input.specs.Spelled.{SpellsProblem}
use Rattle.crib_sheet.specs.Meaning.{SheetMeans, TryMeans}
use Rattle.crib_sheet.specs.Sheet.{AnswersTry, AnswersWithPlan, IsToTry}
use Rattle.crib_sheet.specs.declared.answer.job.SheetJob.TheVariants.{Try}

-- ---- the plan
abbrev two_twos : List Node
two_twos = Play 4 (To 1) ∷ Play 5 End ∷ []

the_sure_plan_is_to_try : IsFound four_twos (Some two_twos) → ¬ ExceedsLimit four_twos 65535 → IsToTry four_twos two_twos Yes
the_sure_plan_is_to_try found small = inl (refl, found, small)

-- at 29 one plan is sure, so no plan is to be tried with the status no
no_plan_is_to_try_with_no : (plan : List Node) → IsToTry at_29 plan No → ⊥
no_plan_is_to_try_with_no plan (inl found) = absurd (let e = found.0 in cc)
no_plan_is_to_try_with_no plan (inr none) = none.1 (record { plan = ace_or_two; sure = ace_or_two_is_sure })

-- no plan that is stuck is one
a_stuck_plan_is_not_to_try : IsToTry four_twos [] No → ⊥
a_stuck_plan_is_not_to_try (inl found) = absurd (let e = found.0 in cc)
a_stuck_plan_is_not_to_try (inr none) = stuck_at_the_lead none.3

-- a look back isn't a plan, and a plan to try is found or has the status no
no_look_back_is_to_try : IsToTry four_twos (Play 4 (To 0) ∷ []) No → ⊥
no_look_back_is_to_try (inl found) = absurd (let e = found.0 in cc)
no_look_back_is_to_try (inr none) = absurd (omega (arith, none.2.1.0))

only_a_found_plan_is_sure : (plan : List Node) → (IsFound at_29 (Some plan) → ⊥) ⊎ ExceedsLimit at_29 65535 → IsToTry at_29 plan Yes → ⊥
only_a_found_plan_is_sure plan (inl never) (inl found) = never found.1
only_a_found_plan_is_sure plan (inr large) (inl found) = found.2 large
only_a_found_plan_is_sure plan other (inr none) = absurd (let e = none.0 in cc)

no_fault_is_to_try : (problem : Setup) (plan : List Node) → IsToTry problem plan Fault → ⊥
no_fault_is_to_try problem plan (inl found) = absurd (let e = found.0 in cc)
no_fault_is_to_try problem plan (inr none) = absurd (let e = none.0 in cc)

-- ---- right replies: the text of the plan, with the status of the plan
a_plan_is_printed : (problem : Setup) → ¬ IsWinnable problem → ArePlan two_twos → IsNeverStuck problem two_twos →
    AnswersTry (Ok problem) (record { output = codes "plan 1\nnodes 2\n0 play 2C 1\n1 play 2D end\n"; status = No })
unfolding plan_text plan_lines digits
a_plan_is_printed problem none valid stated = inl (two_twos, inr (refl, none, valid, stated), refl)

another_status_is_wrong : (problem : Setup) (text : List ℕ) → IsWinnable problem → AnswersTry (Ok problem) (record { output = text; status = No }) → ⊥
another_status_is_wrong problem text some (inl (plan, inl found, same)) = absurd (let e = found.0 in cc)
another_status_is_wrong problem text some (inl (plan, inr none, same)) = none.1 some
another_status_is_wrong problem text some (inr large) = absurd (let e = ap (λ (r : Reply). r.status) large.1 in cc)

what_answers_with_a_plan : (problem : Setup) (answers : List Node → Reply → Type 0) (reply : Reply) →
    ((plan : List Node) → IsToTry problem plan reply.status → answers plan reply → ⊥) →
    (ExceedsLimit problem most_nodes → reply ≡ record { output = codes "fault 50\n"; status = Fault } → ⊥) →
    AnswersWithPlan problem answers reply → ⊥
unfolding digits
what_answers_with_a_plan problem answers reply found large (inl (plan, tried, is)) = found plan tried is
what_answers_with_a_plan problem answers reply found large (inr is) = large is.0 is.1

large_plan_is_a_fault : (problem : Setup) → ExceedsLimit problem most_nodes →
    AnswersTry (Ok problem) (record { output = codes "fault 50\n"; status = Fault })
unfolding digits
large_plan_is_a_fault problem large = inr (large, refl)

refused_problem_has_none : (reply : Reply) → AnswersTry (Err (record { line = 3; number = 21 })) reply →
    reply ≡ record { output = codes "refused line 3: 21\n"; status = Refused }
unfolding digits
refused_problem_has_none reply is = is

-- ---- what each status guarantees
-- the plan that is printed is sure, and is one to try where no plan is; nothing spells no problem
a_sure_plan_is_tried : (input : List ℕ) → SpellsProblem input four_twos → ArePlan two_twos → IsSure four_twos two_twos → GoesOn four_twos two_twos →
    Ends four_twos → SheetMeans Try input (record { output = codes "plan 1\nnodes 2\n0 play 2C 1\n1 play 2D end\n"; status = Yes })
unfolding plan_text plan_lines digits
a_sure_plan_is_tried input spelled valid sure goes ends =
    record { problem = four_twos; plan = two_twos; spelled = spelled; is_plan = valid; plan_is = refl; sure = sure; goes_on = goes; ends = ends }

a_plan_is_tried_where_none_is_sure : (input : List ℕ) (none : HasNoPlan input) → ArePlan two_twos → IsNeverStuck none.problem two_twos →
    TryMeans input (codes "plan 1\nnodes 2\n0 play 2C 1\n1 play 2D end\n") No
unfolding plan_text plan_lines digits
a_plan_is_tried_where_none_is_sure input none valid stated = (none, (two_twos, valid, stated, refl))

no_plan_to_try_where_one_is_sure : (input text : List ℕ) (means : TryMeans input text No) → means.0.problem ≡ at_29 → ⊥
no_plan_to_try_where_one_is_sure input text means same =
    means.0.none (subst IsWinnable (sym same) (record { plan = ace_or_two; sure = ace_or_two_is_sure }))

a_stuck_plan_is_not_printed : (input : List ℕ) (means : TryMeans input (codes "plan 1\nnodes 0\n") No) → means.0.problem ≡ four_twos → means.1.0 ≡ [] → ⊥
a_stuck_plan_is_not_printed input means same none =
    stuck_at_the_lead (subst (λ (plan : List Node). IsNeverStuck four_twos plan) none
    (subst (λ (problem : Setup). IsNeverStuck problem means.1.0) same means.1.2))

no_empty_text_is_tried : (input : List ℕ) → TryMeans input [] No → ⊥
unfolding plan_text plan_lines
no_empty_text_is_tried input means = (let text = means.1.3 in cc)

no_empty_text_is_sure : (input : List ℕ) → TryMeans input [] Yes → ⊥
unfolding plan_text plan_lines
no_empty_text_is_sure input means = (let text = means.plan_is in cc)

nothing_has_no_problem : (text : List ℕ) → TryMeans [] text Refused × (SheetMeans Try [] (record { output = text; status = No }) → ⊥)
    × (((problem : Setup) → ¬ SpellsProblem (codes "aab") problem) → TryMeans (codes "aab") text Refused)
nothing_has_no_problem text = (no_problem_in_nothing, (λ means. no_problem_in_nothing means.0.problem means.0.spelled), λ none. none)

no_try_without_a_problem : (text : List ℕ) → ((problem : Setup) → ¬ SpellsProblem (codes "aab") problem) → TryMeans (codes "aab") text No → ⊥
no_try_without_a_problem text none means = none means.0.problem means.0.spelled

two_faults : (input : List ℕ) → HasSomePlan input → TryMeans input (codes "fault 11\n") Fault × TryMeans input (codes "fault 50\n") Fault
unfolding digits
two_faults input some = (inl refl, inr (some, refl))

no_large_plan_where_none_is_sure : (input : List ℕ) → (HasSomePlan input → ⊥) → TryMeans input (codes "fault 50\n") Fault → ⊥
unfolding digits
no_large_plan_where_none_is_sure input none (inl text) = (let digit : 53 ≡ 49 = ap (λ (bytes : List ℕ). get_or bytes 6 0) text in absurd (omega (arith, digit)))
no_large_plan_where_none_is_sure input none (inr large) = none large.0

no_fault_without_a_line : (input : List ℕ) → TryMeans input [] Fault → ⊥
no_fault_without_a_line input (inl text) = cc
no_fault_without_a_line input (inr large) = (let text = large.1 in cc)
