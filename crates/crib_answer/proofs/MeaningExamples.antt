-- Worked examples of right replies and of what they guarantee, clause by clause.
use Rattle.std.proofs.Common.{arith, ◌≡◌, ◌⊎◌, refl, ap, subst, inl, inr, ℕ, List, [], ◌∷◌, codes, Option, Some, None, Ok}
use Rattle.std.specs.Prelude.{slice_index}
use Rattle.std.specs.Fmt.{digits}
use Rattle.crib_problem.specs.Setup.{Setup}
use Rattle.crib_problem.proofs.ExampleProblems.{four_twos, level}
use Rattle.crib_plan.specs.declared.plan.Next.TheVariants.{To}
use Rattle.crib_plan.specs.declared.plan.Node.{Node}
use Rattle.crib_plan.specs.declared.plan.Node.TheVariants.{Play}
use Rattle.crib_plan.specs.Nodes.{ArePlan, most_nodes}
use Rattle.crib_plan.specs.Spelling.{plan_lines, plan_text}
use Rattle.crib_check.specs.declared.verdict.Verdict.{Verdict}
use Rattle.crib_check.specs.declared.verdict.Verdict.TheVariants.{Holds, Fails}
use Rattle.crib_sure.specs.Sure.{GoesOn, IsSure}
use Rattle.crib_check.specs.Verdicts.{IsRight}
use Rattle.crib_check.proofs.Examples.{AreThese, HasThirtyTurns, in_a_row, of_these, short_plan_is_not_sure, stuck_plan_cannot_go_on}
use Rattle.crib_check.proofs.Examples.{thirty_turns_are_too_many}
use Rattle.crib_search.specs.Finder.{ExceedsLimit, IsFound}
use Rattle.crib_search.specs.Winnable.{IsWinnable}
use Rattle.crib_input.specs.Spelled.{SpellsProblem}
use Rattle.crib_run.specs.declared.status.Status.TheVariants.{Yes, No, Fault}
use Rattle.crib_run.specs.Reply.{Reply}
use Rattle.crib_answer.specs.declared.job.Job.TheVariants.{Check, Follow, Board, Solve}
use Rattle.crib_answer.specs.Answer.{AnswersCheck, AnswersProblem, AnswersSolve}
use Rattle.crib_answer.specs.Meaning.{CheckMeans, HasNoPlan, HasSomePlan, HasSurePlan, IsSolvedBy, SolveMeans, StatusMeans}

-- ---- right replies of `check`: the verdict is right, and the reply is that of the verdict
pub holds_for_a_sure_plan : (problem : Setup) (plan : List Node) → IsSure problem plan →
    AnswersCheck (Ok (problem, plan)) (record { output = codes "holds\n"; status = Yes })
holds_for_a_sure_plan problem plan sure = (Holds, sure, refl)

pub verdict_is_right : (problem : Setup) (plan : List Node) (reply : Reply) → ((verdict : Verdict) → IsRight problem plan verdict → ⊥) →
    AnswersCheck (Ok (problem, plan)) reply → ⊥
verdict_is_right problem plan reply none (verdict, right, same) = none verdict right

pub verdict_is_written : (problem : Setup) (plan : List Node) → AnswersCheck (Ok (problem, plan)) (record { output = []; status = Yes }) → ⊥
verdict_is_written problem plan (Holds, right, same) = (let text = ap (λ (reply : Reply). reply.output) same in cc)
verdict_is_written problem plan (Fails result game, right, same) = (let text = ap (λ (reply : Reply). reply.output) same in cc)

-- ---- right replies of `solve`: what was found, or that it is too large
pub none_is_written : (problem : Setup) → IsFound problem None → (ExceedsLimit problem most_nodes → ⊥) →
    AnswersProblem problem (record { output = codes "none\n"; status = No })
none_is_written problem found few = inl (None, found, few, refl)

pub too_large_is_written : (problem : Setup) → ExceedsLimit problem most_nodes → AnswersProblem problem (record { output = codes "fault 50\n"; status = Fault })
unfolding digits
too_large_is_written problem many = inr (many, refl)

pub something_is_found : (problem : Setup) (reply : Reply) → ((plan : Option (List Node)) → IsFound problem plan → ⊥) →
    (ExceedsLimit problem most_nodes → ⊥) → AnswersProblem problem reply → ⊥
something_is_found problem reply none few (inl found) = none found.0 found.1
something_is_found problem reply none few (inr large) = few large.0

pub nothing_is_written : (problem : Setup) → AnswersProblem problem (record { output = []; status = Yes }) → ⊥
unfolding plan_text plan_lines
nothing_is_written problem (inl (None, found, few, same)) = (let text = ap (λ (reply : Reply). reply.output) same in cc)
nothing_is_written problem (inl (Some plan, found, few, same)) = (let text = ap (λ (reply : Reply). reply.output) same in cc)
nothing_is_written problem (inr large) = (let text = ap (λ (reply : Reply). reply.output) large.1 in cc)

pub replies_to_a_problem : (IsFound level None → (ExceedsLimit level 65535 → ⊥) → AnswersSolve (Ok level) (record { output = codes "none\n"; status = No }))
    × (AnswersSolve (Ok level) (record { output = []; status = Yes }) → ⊥)
replies_to_a_problem = ((λ found few. inl (None, found, few, refl)), nothing_is_written level)

-- ---- a sure plan, typed or found, neither falls short nor is stuck, and no play goes on for thirty turns
pub no_other_plan_is_sure : (input text : List ℕ) (means : StatusMeans Check input (record { output = text; status = Yes })) →
    AreThese means.0.problem means.0.plan four_twos in_a_row ⊎ AreThese means.0.problem means.0.plan four_twos [] → ⊥
no_other_plan_is_sure input text means (inl are) = short_plan_is_not_sure (of_these IsSure means.0.problem means.0.plan _ _ are means.0.sure)
no_other_plan_is_sure input text means (inr are) = stuck_plan_cannot_go_on (of_these GoesOn means.0.problem means.0.plan _ _ are means.0.goes_on)

pub no_other_plan_is_found : (input text : List ℕ) (means : StatusMeans Solve input (record { output = text; status = Yes })) →
    AreThese means.problem means.plan four_twos in_a_row ⊎ AreThese means.problem means.plan four_twos [] ⊎ (means.plan ≡ Play 4 (To 0) ∷ []) → ⊥
no_other_plan_is_found input text means (inl are) = short_plan_is_not_sure (of_these IsSure means.problem means.plan _ _ are means.sure)
no_other_plan_is_found input text means (inr (inl are)) = stuck_plan_cannot_go_on (of_these GoesOn means.problem means.plan _ _ are means.goes_on)
no_other_plan_is_found input text means (inr (inr e)) =
    let is : ArePlan (Play 4 (To 0) ∷ []) = subst ArePlan e means.is_plan in absurd (omega (arith, is.1.0))

pub no_play_has_thirty_turns : (input text : List ℕ) → ((has : HasSurePlan input) → HasThirtyTurns has.problem → ⊥)
    × ((is : IsSolvedBy input text) → HasThirtyTurns is.problem → ⊥)
no_play_has_thirty_turns input text =
    ((λ has. thirty_turns_are_too_many has.problem has.ends), (λ is. thirty_turns_are_too_many is.problem is.ends))

-- ---- no plan, and some plan
pub problem_without_a_plan : (input : List ℕ) (has : HasNoPlan input) → SpellsProblem input has.problem × (((problem : Setup) → IsWinnable problem) → ⊥)
problem_without_a_plan input has = (has.spelled, λ all. has.none (all has.problem))

pub problem_with_some_plan : (input : List ℕ) (has : HasSomePlan input) → SpellsProblem input has.problem
problem_with_some_plan input has = has.spelled

-- ---- what `solve` guarantees
pub too_large_for_some_plan : (input : List ℕ) → HasSomePlan input → SolveMeans input (codes "fault 50\n") Fault
unfolding digits
too_large_for_some_plan input has = inr (has, refl)

pub too_large_without_a_plan : (input : List ℕ) → (HasSomePlan input → ⊥) → SolveMeans input (codes "fault 50\n") Fault → ⊥
unfolding digits
too_large_without_a_plan input none (inl text) = (let digit : 53 ≡ 49 = ap (λ bytes. slice_index bytes 6) text in absurd (omega (arith, digit)))
too_large_without_a_plan input none (inr has) = none has.0

pub doubled_byte_of_a_fault : (input : List ℕ) → SolveMeans input (codes "ffault 50\n") Fault → ⊥
doubled_byte_of_a_fault input (inl text) = (let byte : 102 ≡ 97 = ap (λ bytes. slice_index bytes 1) text in absurd (omega (arith, byte)))
doubled_byte_of_a_fault input (inr has) = (let byte : 102 ≡ 97 = ap (λ bytes. slice_index bytes 1) has.1 in absurd (omega (arith, byte)))

pub doubled_byte_of_holds : (input : List ℕ) → CheckMeans input (codes "hholds\n") Yes → ⊥
doubled_byte_of_holds input means = (let byte : 104 ≡ 111 = ap (λ bytes. slice_index bytes 1) means.1 in absurd (omega (arith, byte)))

-- an empty text is neither `holds` nor `none`, and of the other jobs nothing is guaranteed
pub meaning_by_job : (input text : List ℕ) → (StatusMeans Check input (record { output = []; status = Yes }) → ⊥)
    × (StatusMeans Solve input (record { output = []; status = No }) → ⊥) × StatusMeans Follow [] (record { output = text; status = Yes })
    × StatusMeans Board [] (record { output = text; status = Yes })
meaning_by_job input text = (λ is. (let holds = is.1 in cc), λ is. (let none = is.1 in cc), tt, tt)
