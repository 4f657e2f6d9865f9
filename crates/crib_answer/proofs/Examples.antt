-- Worked examples of what the text and the status of a reply mean.
use Rattle.std.proofs.Common.{arith, ◌≡◌, refl, sym, ap, subst, inl, inr, ℕ, List, [], ◌∷◌, ◌++◌, codes, map, Some, None, Result, Ok, Err}
use Rattle.std.specs.Prelude.{IsOk}
use Rattle.std.specs.Fmt.{digits}
use Rattle.crib_cards.specs.Sets.{set_where}
use Rattle.crib_problem.specs.Setup.{Setup, IsSetup}
use Rattle.crib_problem.specs.Spelling.{problem_text, problem_lines}
use Rattle.crib_problem.proofs.Setups.{setup_from}
use Rattle.crib_plan.specs.declared.plan.Node.{Node}
use Rattle.crib_plan.specs.Nodes.{ArePlan}
use Rattle.crib_plan.specs.Spelling.{plan_text, plan_lines}
use Rattle.crib_show.specs.declared.show.outcomes.Outcome.TheVariants as outcome
use Rattle.crib_game.specs.declared.section.game.Game.{Game}
use Rattle.crib_game.specs.declared.following.ending.Ending.{Ending}
use Rattle.crib_game.specs.declared.following.ending.Ending.TheVariants as ending
use Rattle.crib_game.specs.Spelling.{game_text, game_lines}
use Rattle.crib_text.specs.Refusals.{Refusal, no_memory}
use Rattle.crib_check.specs.declared.verdict.Verdict.TheVariants.{Holds, Fails}
use Rattle.crib_sure.specs.Sure.{Ends}
use Rattle.crib_check.proofs.SureExamples.{ace_or_two_is_sure, ace_or_two_goes_on}
use Rattle.crib_sure.proofs.ExampleOpening.{ace_or_two, at_29}
use Rattle.crib_search.specs.Winnable.{IsWinnable}
use Rattle.crib_answer.specs.declared.job.Job.TheVariants.{Replay, Check, Solve, Board, Follow}
use Rattle.crib_answer.specs.Job.{all_jobs, job_names, job_called, sections_of}
use Rattle.crib_input.specs.declared.sections.Sections.TheVariants as sections
use Rattle.crib_run.specs.declared.status.Status.TheVariants.{Yes, No, Refused, Fault}
use Rattle.crib_run.specs.Reply.{Reply, fault_line, refusal_reply}
use Rattle.crib_answer.specs.Answer.{AnswersCheck, AnswersSolve, AsksForMemory, board_reply, ending_reply, reply_by, report_reply}
use Rattle.crib_answer.specs.Answer.{too_large}
use Rattle.crib_answer.specs.Input.{board_of_input, ending_of_input, report_of_input}
use Rattle.crib_answer.specs.Laws.{IsAccepted, outcome_with}
use Rattle.crib_input.specs.Input.{most_bytes, problem_of_input, question_of_input}
use Rattle.crib_input.specs.Spelled.{SpellsProblem, SpellsPlan}
use Rattle.crib_input.proofs.EmptyExamples.{no_plan_in_nothing, no_problem_in_nothing}
use Rattle.crib_check.specs.Failing.{IsFailing}
use Rattle.crib_answer.specs.Meaning.{HasFailingPlan, HasSurePlan, HasSomePlan, IsSolvedBy, HasNoPlan}
use Rattle.crib_answer.specs.Meaning.{CheckMeans, SolveMeans, StatusMeans, holds_line, fails_line, none_line}

-- ---- the jobs: their names, in the order of the help text, and what their inputs have
pub names_in_order : job_names ≡ codes "check" ∷ codes "solve" ∷ codes "replay" ∷ codes "board" ∷ codes "follow" ∷ []
names_in_order = refl

pub jobs_by_name : map job_called (codes "check" ∷ codes "solve" ∷ codes "replay" ∷ codes "board" ∷ codes "follow" ∷ codes "Check" ∷ codes "ssolve" ∷ [])
    ≡ Ok Check ∷ Ok Solve ∷ Ok Replay ∷ Ok Board ∷ Ok Follow ∷ Err (record {}) ∷ Err (record {}) ∷ []
jobs_by_name = refl

pub sections_by_job : map sections_of all_jobs ≡ sections.Question ∷ sections.Problem ∷ sections.Played ∷ sections.Played ∷ sections.PlayedUnder ∷ []
sections_by_job = refl

-- `replay` never asks for memory
pub replay_asks_for_none : AsksForMemory Replay [] → ⊥
replay_asks_for_none asks = asks

-- the outcome of each ending: a game that is stuck is open
pub outcomes_by_ending : map outcome_with (ending.Open ∷ ending.Stuck ∷ ending.Lost ∷ ending.Short ∷ ending.Reached ∷ [])
    ≡ None ∷ None ∷ Some outcome.Lost ∷ Some outcome.Short ∷ Some outcome.Reached ∷ []
outcomes_by_ending = refl

-- an input has at most 8,388,608 bytes
pub longest_input : most_bytes ≡ 8388608
longest_input = refl

-- ---- the lines
-- no failing game has the ending open or reached, but `follow` writes these words
pub lines_of_endings : map fails_line (ending.Stuck ∷ ending.Lost ∷ ending.Short ∷ ending.Open ∷ ending.Reached ∷ [])
    ≡ codes "fails stuck\n" ∷ codes "fails lost\n" ∷ codes "fails short\n" ∷ codes "fails open\n" ∷ codes "fails reached\n" ∷ []
lines_of_endings = refl

pub other_lines : holds_line ∷ none_line ∷ fault_line no_memory ∷ fault_line too_large ∷ []
    ≡ codes "holds\n" ∷ codes "none\n" ∷ codes "fault 11\n" ∷ codes "fault 50\n" ∷ []
unfolding digits
other_lines = refl

-- ---- the input: an opening of three turns with the count 29, and a plan with a card after an ace and one after a go
abbrev the_problem : List ℕ
the_problem = codes "problem 2\ndealer opponent\nscore 0 0\nstarter 2S\nhold TC 9C 2C AC\nthrow 2D 2H\ngoal holes 2\nplayed 3\nown TC\nopp TD\nown 9C\n"

abbrev the_plan : List ℕ
the_plan = codes "plan 1\nnodes 3\n0 see A:1 g:2\n1 play AC end\n2 play 2C end\n"

at_29_is_a_setup : IsSetup at_29
unfolding set_where
at_29_is_a_setup =
    setup_from at_29 refl (omega arith, omega arith) tt (omega arith) (omega arith, (omega arith, (omega arith, tt))) (((tt, refl), refl), refl)

are_a_plan : ArePlan ace_or_two
are_a_plan = (
  omega arith,
  (
    (refl, ((omega arith, omega arith), (tt, (tt, (tt, (tt, (tt, (tt, (tt, (tt, (tt, (tt, (tt, (tt, ((omega arith, omega arith), tt))))))))))))))),
    ((omega arith, tt), ((omega arith, tt), tt)),
  ),
)

pub problem_alone : SpellsProblem the_problem at_29
unfolding problem_text problem_lines digits
problem_alone = record { problem_is = at_29_is_a_setup; text = refl }

pub problem_and_plan : SpellsPlan (the_problem ++ the_plan) at_29 ace_or_two
unfolding problem_text problem_lines plan_text plan_lines digits
problem_and_plan = record { problem_is = at_29_is_a_setup; plan_is = are_a_plan; text = refl }

-- ---- check. `Ends` is assumed here. check_law states it
pub a_sure_plan_holds : Ends at_29 → StatusMeans Check (the_problem ++ the_plan) (record { output = codes "holds\n"; status = Yes })
a_sure_plan_holds ends = (
  record { problem = at_29; plan = ace_or_two; spelled = problem_and_plan; sure = ace_or_two_is_sure; goes_on = ace_or_two_goes_on; ends = ends },
  refl,
)

pub a_failing_plan_fails : (game : Game) (input : List ℕ) → HasFailingPlan input ending.Short (game_text game) →
    CheckMeans input (codes "fails short\n" ++ game_text game) No
a_failing_plan_fails game input has = (ending.Short, game_text game, has, refl)

pub failing_game_is_written : (input : List ℕ) (result : Ending) → HasFailingPlan input result [] → ⊥
unfolding game_text game_lines
failing_game_is_written input result has = (let text = has.game_is in cc)

-- `holds` and `none` aren't said of an input without a problem
pub nothing_spells_no_problem : (text : List ℕ) → (CheckMeans [] text Yes → ⊥) × (SolveMeans [] text No → ⊥) × (SolveMeans [] text Yes → ⊥)
unfolding problem_text problem_lines
nothing_spells_no_problem text = (
  λ is. (let bytes = is.0.spelled.text in cc),
  λ is. (let bytes = is.0.spelled.text in cc),
  λ is. (let bytes = is.spelled.text in cc),
)

-- no failing plan without a failing game
pub no_failing_plan_without_a_failing_game : (input text : List ℕ) →
    ((problem : Setup) (plan : List Node) (game : Game) → IsFailing problem plan game ending.Short → ⊥) →
    HasFailingPlan input ending.Short text → ⊥
no_failing_plan_without_a_failing_game input text none is = none is.problem is.plan is.game is.failing

pub want_of_memory : (input : List ℕ) → CheckMeans input (codes "fault 11\n") Fault × SolveMeans input (codes "fault 11\n") Fault
unfolding digits
want_of_memory input = (refl, inl refl)

-- ---- solve
pub a_sure_plan_is_written : Ends at_29 → StatusMeans Solve the_problem (record { output = the_plan; status = Yes })
unfolding plan_text plan_lines digits
a_sure_plan_is_written ends =
    record {
      problem = at_29;
      plan = ace_or_two;
      spelled = problem_alone;
      is_plan = are_a_plan;
      plan_is = refl;
      sure = ace_or_two_is_sure;
      goes_on = ace_or_two_goes_on;
      ends = ends;
    }

pub no_text_is_no_plan : (input : List ℕ) → IsSolvedBy input [] → ⊥
unfolding plan_text plan_lines
no_text_is_no_plan input is = (let text = is.plan_is in cc)

pub some_plan_is_sure : (input : List ℕ) → ((problem : Setup) → IsWinnable problem → ⊥) → HasSomePlan input → ⊥
some_plan_is_sure input none is = none is.problem is.some

-- the problem has a sure plan, so it is wrong to say that it has none
pub not_none_where_a_plan_is_sure : (is : HasNoPlan the_problem) → is.problem ≡ at_29 → ⊥
not_none_where_a_plan_is_sure is e = is.none (subst IsWinnable (sym e) (record { plan = ace_or_two; sure = ace_or_two_is_sure }))

pub some_plan_too_large : SolveMeans the_problem (codes "fault 50\n") Fault
unfolding digits
some_plan_too_large = inr (record { problem = at_29; spelled = problem_alone; some = record { plan = ace_or_two; sure = ace_or_two_is_sure } }, refl)

-- ---- each text is written
pub texts_are_written : (input : List ℕ) → (CheckMeans (the_problem ++ the_plan) [] Yes → ⊥) × (CheckMeans input [] No → ⊥) × (CheckMeans input [] Fault → ⊥)
    × (SolveMeans input [] No → ⊥) × (SolveMeans input [] Fault → ⊥)
texts_are_written input = (
  λ means. (let text = means.1 in cc),
  λ means. (let text = means.3 in cc),
  λ means. (let text = means in cc),
  λ means. (let text = means.1 in cc),
  λ means. elim means [ inl text ↦ cc | inr some ↦ let text = some.1 in cc ],
)

-- ---- an empty input is no problem, with or without a plan, and is refused
pub nothing_is_no_problem : (result : Ending) (text : List ℕ) →
    (HasSurePlan [] → ⊥) × (HasFailingPlan [] result text → ⊥) × (HasNoPlan [] → ⊥) × (HasSomePlan [] → ⊥)
    × (StatusMeans Solve [] (record { output = text; status = Yes }) → ⊥) × CheckMeans [] text Refused × SolveMeans [] text Refused
nothing_is_no_problem result text = (
  λ is. no_plan_in_nothing is.problem is.plan is.spelled,
  λ is. no_plan_in_nothing is.problem is.plan is.spelled,
  λ is. no_problem_in_nothing is.problem is.spelled,
  λ is. no_problem_in_nothing is.problem is.spelled,
  λ means. no_problem_in_nothing means.problem means.spelled,
  no_plan_in_nothing,
  no_problem_in_nothing,
)

-- ---- the replies of the other jobs guarantee nothing
pub replay_means_nothing : (text : List ℕ) → StatusMeans Replay [] (record { output = text; status = No })
    × StatusMeans Follow [] (record { output = text; status = No }) × StatusMeans Board [] (record { output = text; status = Yes })
replay_means_nothing text = (tt, tt, tt)

-- ---- an input is accepted if what is read in it is a value
by_no_refusal : {A : Type 0} (reply_for : A → Reply) → ((value : A) → (reply_for value).status ≡ Refused → ⊥) → (read : Result A Refusal) → IsOk read →
    (refusal : Refusal) → refusal_reply refusal ≡ reply_by reply_for read → ⊥
by_no_refusal reply_for never (Ok value) is refusal right = never value (sym (ap (λ (reply : Reply). reply.status) right))
by_no_refusal reply_for never (Err other) is refusal right = absurd cc

pub replay_accepts : (input : List ℕ) → IsOk (report_of_input input) → IsAccepted Replay input
replay_accepts input = by_no_refusal report_reply (λ report e. cc) (report_of_input input)

pub board_accepts : (input : List ℕ) → IsOk (board_of_input input) → IsAccepted Board input
board_accepts input = by_no_refusal board_reply (λ board e. cc) (board_of_input input)

ending_no_refusal : (ending : Ending) → (ending_reply ending).status ≡ Refused → ⊥
ending_no_refusal ending.Reached e = cc
ending_no_refusal ending e = cc

pub follow_accepts : (input : List ℕ) → IsOk (ending_of_input input) → IsAccepted Follow input
follow_accepts input = by_no_refusal ending_reply ending_no_refusal (ending_of_input input)

pub check_accepts : (input : List ℕ) → IsOk (question_of_input input) → IsAccepted Check input
check_accepts input is refusal right = by (question_of_input input) is right
  where
    by : (read : Result (Setup × List Node) Refusal) → IsOk read → AnswersCheck read (refusal_reply refusal) → ⊥
    by (Ok question) is (Holds, right, same) = (let status = ap (λ (reply : Reply). reply.status) same in cc)
    by (Ok question) is (Fails result game, right, same) = (let status = ap (λ (reply : Reply). reply.status) same in cc)
    by (Err other) is right = absurd cc

pub solve_accepts : (input : List ℕ) → IsOk (problem_of_input input) → IsAccepted Solve input
solve_accepts input is refusal right = by (problem_of_input input) is right
  where
    by : (read : Result Setup Refusal) → IsOk read → AnswersSolve read (refusal_reply refusal) → ⊥
    by (Ok problem) is (inl (None, found, few, same)) = (let status = ap (λ (reply : Reply). reply.status) same in cc)
    by (Ok problem) is (inl (Some plan, found, few, same)) = (let status = ap (λ (reply : Reply). reply.status) same in cc)
    by (Ok problem) is (inr large) = (let status = ap (λ (reply : Reply). reply.status) large.1 in cc)
    by (Err other) is right = absurd cc
