-- The laws of the replies, as `specs/Laws` states them.
use Rattle.std.proofs.Common.{◌≡◌, ◌⊎◌, inl, inr, ℕ, eqb, false, cond, List, [], ◌∷◌, ◌++◌, drop, Some, None, Result, Ok, Err, codes, refl}
use Rattle.std.proofs.Common.{sym, ap, ◌∙◌, subst}
use Rattle.std.proofs.lemmas.Bool.{both_ways, eq-eqb}
use Rattle.std.proofs.lemmas.List.{append_cancel_left}
use Rattle.crib_text.specs.Refusals.{Refusal}
use Rattle.crib_problem.specs.Setup.{Setup, IsSetup}
use Rattle.crib_plan.specs.declared.plan.Node.{Node}
use Rattle.crib_plan.specs.Nodes.{most_nodes}
use Rattle.crib_plan.specs.Spelling.{plan_lines, plan_text}
use Rattle.crib_game.specs.declared.section.game.Game.{Game}
use Rattle.crib_game.specs.declared.following.ending.Ending.{Ending}
use Rattle.crib_game.specs.declared.following.ending.Ending.TheVariants as ending
use Rattle.crib_game.specs.Spelling.{game_text}
use Rattle.crib_check.specs.declared.verdict.Verdict.TheVariants.{Holds, Fails}
use Rattle.crib_sure.specs.Sure.{IsSure}
use Rattle.crib_check.specs.Failing.{IsFirstFailing}
use Rattle.crib_check.proofs.VerdictAtStart.{ends, sure_goes_on}
use Rattle.crib_check.proofs.OneFirstGame.{same_law}
use Rattle.crib_search.specs.Finder.{IsFound, ExceedsLimit}
use Rattle.crib_search.proofs.FoundIsPlan.{plan_within}
use Rattle.crib_search.proofs.OneTree.{one_law}
use Rattle.crib_search.proofs.LawProofs.{sure_law, none_law}
use Rattle.crib_answer.specs.declared.job.Job.TheVariants.{Replay, Follow, Check, Solve, Board}
use Rattle.crib_input.specs.Input.{problem_of_input, question_of_input}
use Rattle.crib_run.specs.Reply.{Reply}
use Rattle.crib_run.specs.Reply.{refusal_reply, fault_reply}
use Rattle.crib_answer.specs.Answer.{AnswersCheck, AnswersSolve, verdict_reply, found_reply, too_large}
use Rattle.crib_answer.specs.Laws.{OneReplyLaw, HoldsLaw, FailsLaw, EitherLaw, SureLaw, FailingLaw, PlanLaw, NoneLaw}
use Rattle.crib_answer.specs.Meaning.{holds_line, fails_line, none_line}
use Rattle.crib_input.proofs.Inputs.{problem_accepted, question_accepted, question_spelled}

-- ---- texts differ in their first byte

abbrev pub first_byte : List ℕ → ℕ
first_byte [] = 0
first_byte (byte ∷ bytes) = byte

-- a reply has no text as its output that begins with another byte
pub no_output : {X : Type 0} (reply stated : Reply) (text : List ℕ) → eqb (first_byte stated.output) (first_byte text) ≡ false → reply ≡ stated →
    reply.output ≡ text → X
no_output reply stated text apart is e =
    absurd (both_ways (eqb (first_byte stated.output) (first_byte text)) apart
    (eq-eqb (first_byte stated.output) (first_byte text) (ap (λ (r : Reply). first_byte r.output) (sym is) ∙ ap first_byte e)))

-- ---- the words of endings differ in their second letter

abbrev ending_with : ℕ → Ending
ending_with letter =
    cond (eqb letter 112) ending.Open (cond (eqb letter 116) ending.Stuck
    (cond (eqb letter 111) ending.Lost (cond (eqb letter 104) ending.Short ending.Reached)))

ending_in : (result : Ending) (text : List ℕ) → ending_with (first_byte (drop 7 (fails_line result ++ text))) ≡ result
ending_in ending.Open text = refl
ending_in ending.Stuck text = refl
ending_in ending.Lost text = refl
ending_in ending.Short text = refl
ending_in ending.Reached text = refl

pub same_ending : (one other : Ending) (text more : List ℕ) → fails_line one ++ text ≡ fails_line other ++ more → one ≡ other
same_ending one other text more e = sym (ending_in one text) ∙ ap (λ (bytes : List ℕ). ending_with (first_byte (drop 7 bytes))) e ∙ ending_in other more

-- ---- check

-- a problem and a plan were read, and the plan is sure
record IsHeld (said : Result (Setup × List Node) Refusal) : Type 0 where
  question : Setup × List Node
  asked : said ≡ Ok question
  sure : IsSure question.0 question.1

record IsFailed (said : Result (Setup × List Node) Refusal) (result : Ending) (text : List ℕ) : Type 0 where
  question : Setup × List Node
  game : Game
  asked : said ≡ Ok question
  text_is : text ≡ game_text game
  first : IsFirstFailing question.0 question.1 game result

held_by_output : (said : Result (Setup × List Node) Refusal) (reply : Reply) → AnswersCheck said reply → reply.output ≡ holds_line → IsHeld said
held_by_output (Ok question) reply (Holds, right, is) e = record { question = question; asked = refl; sure = right }
held_by_output (Ok question) reply (Fails result game, right, is) e = no_output reply (verdict_reply (Fails result game)) holds_line refl is e
held_by_output (Err refusal) reply is e = no_output reply (refusal_reply refusal) holds_line refl is e

failed_by_output : (said : Result (Setup × List Node) Refusal) (reply : Reply) (result : Ending) (text : List ℕ) → AnswersCheck said reply
    → reply.output ≡ fails_line result ++ text → IsFailed said result text
failed_by_output (Ok question) reply result text (Holds, right, is) e = no_output reply (verdict_reply Holds) (fails_line result ++ text) refl is e
failed_by_output (Ok question) reply result text (Fails stated game, right, is) e =
    let whole : fails_line stated ++ game_text game ≡ fails_line result ++ text = ap (λ (r : Reply). r.output) (sym is) ∙ e in
    let same : stated ≡ result = same_ending stated result (game_text game) text whole in
    let cut : fails_line result ++ game_text game ≡ fails_line result ++ text = ap (λ (r : Ending). fails_line r ++ game_text game) (sym same) ∙ whole in
    record {
      question = question;
      game = game;
      asked = refl;
      text_is = sym (append_cancel_left (fails_line result) (game_text game) text cut);
      first = subst (λ (r : Ending). IsFirstFailing question.0 question.1 game r) same right;
    }
failed_by_output (Err refusal) reply result text is e = no_output reply (refusal_reply refusal) (fails_line result ++ text) refl is e

pub holds_law : HoldsLaw
holds_law input reply answers e =
    let held = held_by_output (question_of_input input) reply answers e in
    let spelled = question_accepted input held.question held.asked in
    record {
      problem = held.question.0;
      plan = held.question.1;
      spelled = spelled;
      sure = held.sure;
      goes_on = sure_goes_on held.question.0 held.question.1 held.sure;
      ends = ends held.question.0 spelled.problem_is;
    }

pub fails_law : FailsLaw
fails_law input reply result text answers e =
    let failed = failed_by_output (question_of_input input) reply result text answers e in (
      record {
        problem = failed.question.0;
        plan = failed.question.1;
        game = failed.game;
        spelled = question_accepted input failed.question failed.asked;
        game_is = failed.text_is;
        failing = failed.first.failing;
      },
      failed.first,
    )

pub either_law : EitherLaw
either_law input problem plan reply spelled answers = by (rw (question_spelled input problem plan spelled) at answers)
  where
    by : AnswersCheck (Ok (problem, plan)) reply →
        (reply ≡ verdict_reply Holds) ⊎ ((result : Ending) × (game : Game) × (reply ≡ verdict_reply (Fails result game)))
    by (Holds, right, is) = inl is
    by (Fails result game, right, is) = inr (result, game, is)

pub sure_owed : SureLaw
sure_owed input problem plan spelled sure = rw (question_spelled input problem plan spelled) (Holds, sure, refl)

pub failing_owed : FailingLaw
failing_owed input problem plan result game spelled first = rw (question_spelled input problem plan spelled) (Fails result game, first, refl)

-- ---- solve

record IsPlanned (said : Result Setup Refusal) (output : List ℕ) : Type 0 where
  problem : Setup
  plan : List Node
  asked : said ≡ Ok problem
  output_is : output ≡ plan_text plan
  found : IsFound problem (Some plan)
  within : ¬ ExceedsLimit problem most_nodes

record IsUnplanned (said : Result Setup Refusal) : Type 0 where
  problem : Setup
  asked : said ≡ Ok problem
  found : IsFound problem None

planned_by_output : (said : Result Setup Refusal) (reply : Reply) (more : List ℕ) → AnswersSolve said reply → reply.output ≡ codes "plan" ++ more
    → IsPlanned said reply.output
planned_by_output (Ok problem) reply more (inl (Some plan, found, small, is)) e =
    record { problem = problem; plan = plan; asked = refl; output_is = ap (λ (r : Reply). r.output) is; found = found; within = small }
planned_by_output (Ok problem) reply more (inl (None, found, small, is)) e = no_output reply (found_reply None) (codes "plan" ++ more) refl is e
planned_by_output (Ok problem) reply more (inr (large, is)) e = no_output reply (fault_reply too_large) (codes "plan" ++ more) refl is e
planned_by_output (Err refusal) reply more is e = no_output reply (refusal_reply refusal) (codes "plan" ++ more) refl is e

unplanned_by_output : (said : Result Setup Refusal) (reply : Reply) → AnswersSolve said reply → reply.output ≡ none_line → IsUnplanned said
unfolding plan_text plan_lines
unplanned_by_output (Ok problem) reply (inl (Some plan, found, small, is)) e = no_output reply (found_reply (Some plan)) none_line refl is e
unplanned_by_output (Ok problem) reply (inl (None, found, small, is)) e = record { problem = problem; asked = refl; found = found }
unplanned_by_output (Ok problem) reply (inr (large, is)) e = no_output reply (fault_reply too_large) none_line refl is e
unplanned_by_output (Err refusal) reply is e = no_output reply (refusal_reply refusal) none_line refl is e

pub plan_law : PlanLaw
plan_law input reply more answers e =
    let planned = planned_by_output (problem_of_input input) reply more answers e in
    let spelled = problem_accepted input planned.problem planned.asked in
    let sure = sure_law planned.problem planned.plan spelled.problem_is planned.found in
    record {
      problem = planned.problem;
      plan = planned.plan;
      spelled = spelled;
      is_plan = plan_within planned.problem planned.plan spelled.problem_is planned.found planned.within;
      plan_is = planned.output_is;
      sure = sure;
      goes_on = sure_goes_on planned.problem planned.plan sure;
      ends = ends planned.problem spelled.problem_is;
    }

pub no_plan_law : NoneLaw
no_plan_law input reply answers e =
    let unplanned = unplanned_by_output (problem_of_input input) reply answers e in
    let spelled = problem_accepted input unplanned.problem unplanned.asked in
    record { problem = unplanned.problem; spelled = spelled; none = none_law unplanned.problem spelled.problem_is unplanned.found }

-- ---- one reply

one_verdict : (said : Result (Setup × List Node) Refusal) (one other : Reply) → ((question : Setup × List Node) → said ≡ Ok question → IsSetup question.0)
    → AnswersCheck said one → AnswersCheck said other → one ≡ other
one_verdict (Ok question) one other setups a b = a.2 ∙ ap verdict_reply (same_law question.0 question.1 a.0 b.0 (setups question refl) a.1 b.1) ∙ sym b.2
one_verdict (Err refusal) one other setups a b = a ∙ sym b

one_solved : (said : Result Setup Refusal) (one other : Reply) → ((problem : Setup) → said ≡ Ok problem → IsSetup problem) → AnswersSolve said one
    → AnswersSolve said other → one ≡ other
one_solved (Ok problem) one other setups (inl a) (inl b) =
    a.3 ∙ ap found_reply (one_law problem a.0 b.0 (setups problem refl) a.1 b.1) ∙ sym b.3
one_solved (Ok problem) one other setups (inl a) (inr b) = absurd (a.2 b.0)
one_solved (Ok problem) one other setups (inr a) (inl b) = absurd (b.2 a.0)
one_solved (Ok problem) one other setups (inr a) (inr b) = a.1 ∙ sym b.1
one_solved (Err refusal) one other setups a b = a ∙ sym b

pub one_reply_law : OneReplyLaw
one_reply_law Replay input one other a b = a ∙ sym b
one_reply_law Follow input one other a b = a ∙ sym b
one_reply_law Check input one other a b =
    one_verdict (question_of_input input) one other (λ question asked. (question_accepted input question asked).problem_is) a b
one_reply_law Solve input one other a b = one_solved (problem_of_input input) one other (λ problem asked. (problem_accepted input problem asked).problem_is) a b
one_reply_law Board input one other a b = a ∙ sym b
