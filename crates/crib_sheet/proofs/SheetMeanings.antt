-- A reply that a job makes has the meaning that `specs/Meaning` states.
use Rattle.std.proofs.Common.{◌≡◌, inl, inr, ℕ, zero, suc, ◌+◌, ◌<◌, Bool, List, length, Option, Result, Ok, Err, None, Some}
use Rattle.std.proofs.Common.{refl, sym, ap, ◌∙◌, subst}
use Rattle.crib_text.specs.Refusals.{Refusal, no_memory, too_long}
use Rattle.crib_text.specs.Reading.{◌>>=◌}
use Rattle.crib_cards.specs.declared.moves.Act.{Act}
use Rattle.crib_problem.specs.Setup.{IsSetup, Setup}
use Rattle.crib_plan.specs.Nodes.{ArePlan, most_nodes}
use Rattle.crib_plan.specs.Spelling.{plan_text}
use Rattle.crib_plan.specs.declared.plan.Node.{Node}
use Rattle.crib_game.specs.declared.fault.GameFault.{GameFault}
use Rattle.crib_game.specs.declared.section.game.Game.{Game}
use Rattle.crib_game.specs.declared.replaying.report.Report.{Report}
use Rattle.crib_game.specs.Replay.{replay_result}
use Rattle.crib_check.specs.declared.verdict.Verdict.{Verdict}
use Rattle.crib_check.specs.declared.verdict.Verdict.TheVariants.{Holds, Fails}
use Rattle.crib_sure.specs.Sure.{IsSure}
use Rattle.crib_check.specs.Verdicts.{IsRight}
use Rattle.crib_check.proofs.OneFirstGame.{exact_law}
use Rattle.crib_check.proofs.VerdictAtStart.{ends, sure_goes_on}
use Rattle.crib_input.specs.Input.{most_bytes, played_at, played_of_input, problem_alone_at, problem_of_input, question_at, question_of_input}
use Rattle.crib_input.specs.Spelled.{SpellsPlan, SpellsProblem}
use Rattle.crib_sheet.specs.Asked.{asked_of_input}
use Rattle.crib_sheet.proofs.AskedInputs.{asked_alone, asked_not_alone, asked_nothing, asked_question}
use Rattle.crib_input.proofs.Inputs.{problem_accepted, problem_spelled, question_accepted, question_spelled, read_of_long}
use Rattle.crib_input.proofs.GameInputs.{played_accepted}
use Rattle.crib_run.specs.Reply.{IsAnswer, Reply, fault_line, fault_reply, refusal_reply}
use Rattle.crib_run.specs.declared.status.Status.{Status}
use Rattle.crib_run.specs.declared.status.Status.TheVariants.{Fault, No}
use Rattle.crib_run.specs.Run.{HaveMeaning}
use Rattle.crib_answer.specs.Answer.{reply_by, too_large}
use Rattle.crib_answer.specs.Meaning.{HasSurePlan, SolveMeans}
use Rattle.crib_answer.proofs.AnswerMeanings.{found_means, problem_means}
use Rattle.crib_search.specs.Finder.{ExceedsLimit}
use Rattle.crib_search.specs.Tried.{IsNeverStuck}
use Rattle.crib_search.specs.Winnable.{IsWinnable}
use Rattle.crib_search.proofs.FoundIsPlan.{plan_within}
use Rattle.crib_players.proofs.Refuted.{refuted}
use Rattle.crib_answer.specs.Input.{judgement_of, report_of_input}
use Rattle.crib_beaten.specs.Tally.{AreFigures}
use Rattle.crib_beaten.specs.declared.tally.RanksTally.{RanksTally}
use Rattle.crib_beaten.proofs.TallyLaws.{none_is_sure}
use Rattle.crib_next.specs.Input.{next_of_question, next_question_at, next_question_of_input}
use Rattle.crib_next.specs.declared.next.NextTurn.{NextTurn}
use Rattle.crib_next.specs.declared.next.NextTurn.TheVariants as nexts
use Rattle.crib_next.proofs.NextInputs.{question_accepted as next_accepted, question_spelled as next_spelled}
use Rattle.crib_next.proofs.NextLaws.{sure_law}
use Rattle.crib_game_sheet.specs.GameText.{game_sheet_text, sheet_for}
use Rattle.crib_sheet.specs.PlanHead.{failing_text}
use Rattle.crib_sheet.specs.PlanBeaten.{AreBeatingOf, IsBest}
use Rattle.crib_sheet.specs.declared.verdict.beaten.Best.{Best}
use Rattle.crib_beaten.specs.declared.rows.Rows.{Rows}
use Rattle.crib_sheet.specs.Beaten.{beaten_reply}
use Rattle.crib_plan_sheet.proofs.PlanPlays.{sure_is_reached}
use Rattle.crib_sheet.specs.declared.answer.job.SheetJob.{SheetJob}
use Rattle.crib_sheet.specs.declared.answer.job.SheetJob.TheVariants.{Plan, Game as GameJob, Beaten, Try, Refute, Why, Leads, Next, Scores, Holes}
use Rattle.crib_sheet.specs.Sheet.{AnswersBeaten, AnswersLeads, AnswersPlan, AnswersTry, IsSheetOf, IsToTry, SheetAnswers, SheetMakes}
use Rattle.crib_sheet.specs.Sheet.{game_reply, game_sheet_of_input}
use Rattle.crib_sheet.specs.Sheet.{AnswersHoles, AnswersScores, AnswersWhy, SaysWhy, next_reply_to, plan_reply, verdict_status}
use Rattle.crib_sheet.specs.Next.{next_reply}
use Rattle.crib_sheet.specs.Refute.{WhyTexts, refute_texts, why_texts}
use Rattle.crib_sheet.specs.Leads.{HasLeads}
use Rattle.crib_sheet.proofs.MadeSheets.{leads_answers}
use Rattle.crib_sheet.specs.Meaning.{AsksAbout, HasUnsurePlan, LeadsMeans, SaysNext, SheetMeans, TryMeans, WhyMeans}

-- ---- a problem and a plan

abbrev sure_plan : (input : List ℕ) (problem : Setup) (plan : List Node) → SpellsPlan input problem plan → IsSure problem plan → HasSurePlan input
sure_plan input problem plan spelled sure =
    record { problem = problem; plan = plan; spelled = spelled; sure = sure; goes_on = sure_goes_on problem plan sure; ends = ends problem spelled.problem_is }

abbrev unsure_plan : (input : List ℕ) (problem : Setup) (plan : List Node) → SpellsPlan input problem plan → ¬ IsSure problem plan → HasUnsurePlan input
unsure_plan input problem plan spelled unsure = record { problem = problem; plan = plan; spelled = spelled; unsure = unsure }

-- what is refused spells no problem and plan
no_question : (input : List ℕ) (refusal : Refusal) → question_of_input input ≡ Err refusal → (problem : Setup) (plan : List Node)
    → ¬ SpellsPlan input problem plan
no_question input refusal asked problem plan spelled =
    let e : ◌≡◌ {A = Result (Setup × List Node) Refusal} (Ok (problem, plan)) (Err refusal) = sym (question_spelled input problem plan spelled) ∙ asked in
    absurd cc

-- ---- a plan to try

-- a plan to try is a plan
tried_plan : (problem : Setup) (plan : List Node) (status : Status) → IsSetup problem → IsToTry problem plan status → ArePlan plan
tried_plan problem plan status setup (inl found) = plan_within problem plan setup found.1 found.2
tried_plan problem plan status setup (inr unsure) = unsure.2

tried_stated : (problem : Setup) (plan : List Node) (status : Status) → IsToTry problem plan status → status ≡ No → IsNeverStuck problem plan
tried_stated problem plan status (inl found) is = absurd (let e = found.0 in cc)
tried_stated problem plan status (inr unsure) is = unsure.3

-- if the status is no, no plan is sure
none_is_sure_if_no : (problem : Setup) (plan : List Node) (status : Status) → IsToTry problem plan status → status ≡ No → ¬ IsWinnable problem
none_is_sure_if_no problem plan status (inl found) is = absurd (let e = found.0 in cc)
none_is_sure_if_no problem plan status (inr unsure) is = unsure.1

tried_means : (input : List ℕ) (problem : Setup) (plan : List Node) (reply : Reply) → SpellsProblem input problem → IsToTry problem plan reply.status
    → reply.output ≡ plan_text plan → TryMeans input reply.output reply.status
tried_means input problem plan reply spelled (inl found) text = rw (text, found.0) (found_means input problem (Some plan) spelled found.1 found.2)
tried_means input problem plan reply spelled (inr unsure) text =
    rw (text, unsure.0) (record { problem = problem; spelled = spelled; none = unsure.1 }, (plan, unsure.2, unsure.3, refl))

large_means : (input : List ℕ) (problem : Setup) → SpellsProblem input problem → ExceedsLimit problem most_nodes
    → SolveMeans input (fault_line too_large) Fault
large_means input problem spelled large = problem_means input problem (fault_reply too_large) spelled (inr (large, refl))

try_means : (input : List ℕ) (said : Result Setup Refusal) (reply : Reply) → problem_of_input input ≡ said → AnswersTry said reply → SheetMeans Try input reply
try_means input (Ok problem) reply asked (inl (plan, tried, text)) = tried_means input problem plan reply (problem_accepted input problem asked) tried text
try_means input (Ok problem) reply asked (inr large) =
    subst (SheetMeans Try input) (sym large.1) (large_means input problem (problem_accepted input problem asked) large.0)
try_means input (Err refusal) reply asked is = subst (SheetMeans Try input) (sym is) (λ problem spelled.
    let e : Ok problem ≡ Err refusal = sym (problem_spelled input problem spelled) ∙ asked in
    absurd cc)

-- ---- the sheet of a plan

-- an input that asks about a plan spells a problem, and the plan is one
about_problem : (input : List ℕ) (problem : Setup) (plan : List Node) → AsksAbout input problem plan → IsSetup problem
about_problem input problem plan (inl spelled) = spelled.problem_is
about_problem input problem plan (inr alone) = alone.0.problem_is

about_plan : (input : List ℕ) (problem : Setup) (plan : List Node) → AsksAbout input problem plan → ArePlan plan
about_plan input problem plan (inl spelled) = spelled.plan_is
about_plan input problem plan (inr alone) = alone.1

verdict_means : (input : List ℕ) (problem : Setup) (plan : List Node) (verdict : Verdict) (open_deals beaten : ℕ) (hands : Option Rows) (best : Best)
    (apart : ℕ → Bool) → AsksAbout input problem plan
    → (verdict_status verdict ≡ No → SpellsProblem input problem → (¬ IsWinnable problem) × IsNeverStuck problem plan) → IsRight problem plan verdict
    → AreBeatingOf problem plan verdict open_deals beaten hands → IsBest problem best
    → SheetMeans Plan input (plan_reply problem plan verdict open_deals beaten hands best apart)
verdict_means input problem plan Holds open_deals beaten hands best apart asked none right figures bound = record {
  problem = problem;
  plan = plan;
  asked = asked;
  sure = right;
  goes_on = sure_goes_on problem plan right;
  ends = ends problem (about_problem input problem plan asked);
  apart = apart;
  printed = refl;
  reaches = (sure_is_reached apart problem plan (about_plan input problem plan asked)).0 right;
}
verdict_means input problem plan (Fails result game) open_deals beaten hands best apart asked none right figures bound = record {
  problem = problem;
  plan = plan;
  asked = asked;
  unsure = λ sure. let holds : Fails result game ≡ Holds = (exact_law problem plan (Fails result game) right).1 sure in absurd cc;
  none = λ spelled. (none refl spelled).0;
  stated = λ spelled. (none refl spelled).1;
  open_deals = open_deals;
  beaten = beaten;
  hands = hands;
  figures = figures;
  best = best;
  is_best = bound;
  middle = failing_text problem plan result game;
  apart = apart;
  printed = refl;
}

sheet_means : (input : List ℕ) (problem : Setup) (plan : List Node) (reply : Reply) → AsksAbout input problem plan
    → (reply.status ≡ No → SpellsProblem input problem → (¬ IsWinnable problem) × IsNeverStuck problem plan) → IsSheetOf problem plan reply
    → SheetMeans Plan input reply
sheet_means input problem plan reply asked none (verdict, open_deals, beaten, hands, best, apart, right, figures, bound, is) =
    subst (SheetMeans Plan input) (sym is)
    (verdict_means input problem plan verdict open_deals beaten hands best apart asked (λ same. none (ap (λ (r : Reply). r.status) is ∙ same))
    right figures bound)

plan_means : (input : List ℕ) (said : Result (Setup × Option (List Node)) Refusal) (reply : Reply) → asked_of_input input ≡ said → AnswersPlan said reply
    → SheetMeans Plan input reply
plan_means input (Ok (problem, Some plan)) reply asked answers =
    sheet_means input problem plan reply (inl (question_accepted input (problem, plan) (asked_question input problem plan asked)))
    (λ same alone. absurd (asked_not_alone input problem plan problem asked alone)) answers
plan_means input (Ok (problem, None)) reply asked (inl (plan, tried, answers)) =
    let spelled = problem_accepted input problem (asked_alone input problem asked) in
    sheet_means input problem plan reply (inr (spelled, tried_plan problem plan reply.status spelled.problem_is tried))
    (λ same alone. (none_is_sure_if_no problem plan reply.status tried same, tried_stated problem plan reply.status tried same)) answers
plan_means input (Ok (problem, None)) reply asked (inr large) =
    subst (SheetMeans Plan input) (sym large.1)
    (large_means input problem (problem_accepted input problem (asked_alone input problem asked)) large.0)
plan_means input (Err refusal) reply asked is = subst (SheetMeans Plan input) (sym is) (λ problem. asked_nothing input refusal problem asked)

-- ---- a game

-- a game has the sheet of its report, or the refusal of its replay
judged_means : (input : List ℕ) (problem : Setup) (game : Game) (first : ℕ) (report : Result Report GameFault)
    → played_of_input input ≡ Ok (problem, game, first) → replay_result problem game ≡ report
    → report_of_input input ≡ judgement_of game first report
    → SheetMeans GameJob input (reply_by game_reply (judgement_of game first (sheet_for problem game report)))
judged_means input problem game first (Ok report) asked replayed read =
    record { problem = problem; game = game; spelled = played_accepted input (problem, game, first) asked; sheet = ap (sheet_for problem game) replayed }
judged_means input problem game first (Err fault) asked replayed read = record { refusal = _; refused = read; line = refl }

played_means : (input : List ℕ) (said : Result (Setup × Game × ℕ) Refusal) → played_of_input input ≡ said
    → SheetMeans GameJob input (reply_by game_reply (said >>= λ (problem, game, first). judgement_of game first (game_sheet_text problem game)))
unfolding report_of_input
played_means input (Ok (problem, game, first)) asked =
    judged_means input problem game first (replay_result problem game) asked refl
    (ap (λ r. r >>= λ (problem, game, first). judgement_of game first (replay_result problem game)) asked)
played_means input (Err refusal) asked =
    record { refusal = refusal; refused = ap (λ r. r >>= λ (problem, game, first). judgement_of game first (replay_result problem game)) asked; line = refl }

game_means : (input : List ℕ) (reply : Reply) → reply ≡ reply_by game_reply (game_sheet_of_input input) → SheetMeans GameJob input reply
unfolding game_sheet_of_input
game_means input reply is = subst (SheetMeans GameJob input) (sym is) (played_means input (played_of_input input) refl)

-- ---- which deals beat a plan

counted_means : (input : List ℕ) (problem : Setup) (plan : List Node) (open_deals beaten : ℕ) (rows : List RanksTally)
    → SpellsPlan input problem plan → AreFigures problem plan open_deals beaten rows → SheetMeans Beaten input (beaten_reply open_deals beaten rows)
counted_means input problem plan open_deals zero rows spelled right = (
  sure_plan input problem plan spelled ((none_is_sure problem plan open_deals zero rows spelled.problem_is right).0 refl),
  record { open_deals = open_deals; beaten = zero; rows = rows; right = right; printed = refl },
)
counted_means input problem plan open_deals (suc others) rows spelled right = (
  unsure_plan input problem plan spelled
      (λ sure. let e : suc others ≡ zero = (none_is_sure problem plan open_deals (suc others) rows spelled.problem_is right).1 sure in absurd cc),
  record { open_deals = open_deals; beaten = suc others; rows = rows; right = right; printed = refl },
)

beaten_means : (input : List ℕ) (said : Result (Setup × List Node) Refusal) (reply : Reply) → question_of_input input ≡ said
    → AnswersBeaten said reply → SheetMeans Beaten input reply
beaten_means input (Ok question) reply asked answers =
    subst (SheetMeans Beaten input) (sym answers.4)
    (counted_means input question.0 question.1 answers.0 answers.1 answers.2 (question_accepted input question asked) answers.3)
beaten_means input (Err refusal) reply asked is = subst (SheetMeans Beaten input) (sym is) (no_question input refusal asked)

-- ---- why no plan is sure

module _ (job : SheetJob) (texts : Setup → WhyTexts) (input : List ℕ)
    (means : (reply : Reply) → WhyMeans texts input reply.output reply.status → SheetMeans job input reply) where
  says_means : (problem : Setup) (reply : Reply) → SpellsProblem input problem → SaysWhy (texts problem) problem reply → SheetMeans job input reply
  says_means problem reply spelled (inl sure) =
      subst (SheetMeans job input) (sym sure.1) (means _ (record { problem = problem; spelled = spelled; some = sure.0 }, refl))
  says_means problem reply spelled (inr (inl (games, refutes, few, is))) =
      subst (SheetMeans job input) (sym is) (means _ (inl (record {
        problem = problem;
        spelled = spelled;
        games = games;
        refutes = refutes;
        few = few;
        nobody = λ player. refuted problem games player spelled.problem_is refutes;
        printed = refl;
      })))
  says_means problem reply spelled (inr (inr (ranks, none, somebody, right, is))) =
      subst (SheetMeans job input) (sym is) (means _ (inr (record {
        none = record { problem = problem; spelled = spelled; none = none };
        somebody = somebody;
        ranks = ranks;
        right = right;
        printed = refl;
      })))

  why_means : (said : Result Setup Refusal) (reply : Reply) → problem_of_input input ≡ said → AnswersWhy texts said reply → SheetMeans job input reply
  why_means (Ok problem) reply asked says = says_means problem reply (problem_accepted input problem asked) says
  why_means (Err refusal) reply asked is = subst (SheetMeans job input) (sym is) (means _ (λ problem spelled.
      let e : Ok problem ≡ Err refusal = sym (problem_spelled input problem spelled) ∙ asked in
      absurd cc))

-- ---- what may be played next

leads_has : (input : List ℕ) (problem : Setup) (reply : Reply) → SpellsProblem input problem → HasLeads problem reply → SheetMeans Leads input reply
leads_has input problem reply spelled has =
    subst (SheetMeans Leads input) (sym has.written) (by_status _ _ (subst (HasLeads problem) has.written has) (leads_answers has.own has.theirs))
  where
    by_status : (text : List ℕ) (status : Status) → HasLeads problem (record { output = text; status = status }) → IsAnswer status →
        LeadsMeans input text status
    by_status text status has (inl is) = rw is (problem, spelled, subst (λ (s : Status). HasLeads problem (record { output = text; status = s })) is has)
    by_status text status has (inr is) = rw is (problem, spelled, subst (λ (s : Status). HasLeads problem (record { output = text; status = s })) is has)

leads_means : (input : List ℕ) (said : Result Setup Refusal) (reply : Reply) → problem_of_input input ≡ said → AnswersLeads said reply
    → SheetMeans Leads input reply
leads_means input (Ok problem) reply asked (inl has) = leads_has input problem reply (problem_accepted input problem asked) has
leads_means input (Ok problem) reply asked (inr large) =
    subst (SheetMeans Leads input) (sym large.1) (inr (problem, problem_accepted input problem asked, large.0, refl))
leads_means input (Err refusal) reply asked is = subst (SheetMeans Leads input) (sym is) (λ problem spelled.
    let e : Ok problem ≡ Err refusal = sym (problem_spelled input problem spelled) ∙ asked in
    absurd cc)

-- ---- what comes next

module _ (input : List ℕ) (problem : Setup) (plan : List Node) (turns : List Act) (first : ℕ)
    (asked : next_question_of_input input ≡ Ok (problem, plan, turns, first)) where
  says_next : (next : NextTurn) → next_of_question (problem, plan, turns, first) ≡ Ok next → SaysNext input (next_reply problem plan turns next).output
  says_next next is = record {
    problem = problem;
    plan = plan;
    turns = turns;
    spelled = next_accepted input (problem, plan, turns, first) asked;
    line = first + 1;
    next = next;
    right = is;
    printed = refl;
  }

  next_means : (next : NextTurn) → next_of_question (problem, plan, turns, first) ≡ Ok next → SheetMeans Next input (next_reply problem plan turns next)
  unfolding says_next
  next_means nexts.Stuck is = (
    says_next nexts.Stuck is,
    refl,
    λ sure. (
        let spelled = next_accepted input (problem, plan, turns, first) asked in
        sure_law problem plan (first + 1) turns spelled.problem_is spelled.turns_are sure is
        ),
  )
  next_means (nexts.Play card) is = (says_next (nexts.Play card) is, λ e. let same : ◌≡◌ {A = NextTurn} (nexts.Play card) nexts.Stuck = e in absurd cc)
  next_means nexts.Go is = (says_next nexts.Go is, λ e. let same : ◌≡◌ {A = NextTurn} nexts.Go nexts.Stuck = e in absurd cc)
  next_means nexts.Wait is = (says_next nexts.Wait is, λ e. let same : ◌≡◌ {A = NextTurn} nexts.Wait nexts.Stuck = e in absurd cc)
  next_means nexts.Over is = (says_next nexts.Over is, λ e. let same : ◌≡◌ {A = NextTurn} nexts.Over nexts.Stuck = e in absurd cc)

-- what was read of an input with turns, and what was not, by the refusal
refused_turns : (input : List ℕ) (read : Result (Setup × List Node × List Act × ℕ) Refusal) (refusal : Refusal) → next_question_of_input input ≡ read
    → (read >>= next_of_question) ≡ Err refusal → SheetMeans Next input (refusal_reply refusal)
refused_turns input read refusal asked is = λ problem plan turns spelled.
    let found = next_spelled input problem plan turns spelled in
    let said : next_of_question (problem, plan, turns, found.0) ≡ Err refusal = ap (λ r. r >>= next_of_question) (sym found.1 ∙ asked) ∙ is in
    (found.0 + 1, λ next ok. let wrong : ◌≡◌ {A = Result NextTurn Refusal} (Ok next) (Err refusal) = sym ok ∙ said in absurd cc)

turns_mean : (input : List ℕ) (read : Result (Setup × List Node × List Act × ℕ) Refusal) (next : Result NextTurn Refusal) (reply : Reply)
    → next_question_of_input input ≡ read → (read >>= next_of_question) ≡ next → reply ≡ next_reply_to read → SheetMeans Next input reply
turns_mean input (Ok (problem, plan, turns, first)) (Ok next) reply asked is answers =
    subst (SheetMeans Next input) (sym (answers ∙ ap (reply_by (next_reply problem plan turns)) is)) (next_means input problem plan turns first asked next is)
turns_mean input (Ok (problem, plan, turns, first)) (Err refusal) reply asked is answers =
    subst (SheetMeans Next input) (sym (answers ∙ ap (reply_by (next_reply problem plan turns)) is)) (refused_turns input _ refusal asked is)
turns_mean input (Err refusal) next reply asked is answers = subst (SheetMeans Next input) (sym answers) (refused_turns input (Err refusal) refusal asked refl)

-- ---- at which scores turns are sure

scores_mean : (input : List ℕ) (said : Result Setup Refusal) (reply : Reply) → problem_of_input input ≡ said → AnswersScores said reply
    → SheetMeans Scores input reply
scores_mean input (Ok problem) reply asked (table, right, is) =
    subst (SheetMeans Scores input) (sym is)
    (record { problem = problem; spelled = problem_accepted input problem asked; table = table; right = right; printed = refl })
scores_mean input (Err refusal) reply asked is = subst (SheetMeans Scores input) (sym is) (λ problem spelled.
    let e : Ok problem ≡ Err refusal = sym (problem_spelled input problem spelled) ∙ asked in
    absurd cc)

-- ---- how many holes are sure

holes_mean : (input : List ℕ) (said : Result Setup Refusal) (reply : Reply) → problem_of_input input ≡ said → AnswersHoles said reply
    → SheetMeans Holes input reply
holes_mean input (Ok problem) reply asked (holes, others, right, there, is) =
    subst (SheetMeans Holes input) (sym is) (problem, problem_accepted input problem asked, (holes, others, right, there, refl))
holes_mean input (Err refusal) reply asked is = subst (SheetMeans Holes input) (sym is) (λ problem spelled.
    let e : Ok problem ≡ Err refusal = sym (problem_spelled input problem spelled) ∙ asked in
    absurd cc)

-- ---- each job

memory_means : (job : SheetJob) (input : List ℕ) → SheetMeans job input (fault_reply no_memory)
memory_means Plan input = inl refl
memory_means Try input = inl refl
memory_means Leads input = inl refl
memory_means _ input = refl

makes_means : (job : SheetJob) (input : List ℕ) (reply : Reply) → SheetMakes job input reply → SheetMeans job input reply
makes_means Plan input reply (inl answers) = plan_means input (asked_of_input input) reply refl answers
makes_means GameJob input reply (inl is) = game_means input reply is
makes_means Beaten input reply (inl answers) = beaten_means input (question_of_input input) reply refl answers
makes_means Try input reply (inl answers) = try_means input (problem_of_input input) reply refl answers
makes_means Refute input reply (inl answers) = why_means Refute (λ problem. refute_texts) input (λ reply is. is) (problem_of_input input) reply refl answers
makes_means Why input reply (inl answers) = why_means Why why_texts input (λ reply is. is) (problem_of_input input) reply refl answers
makes_means Leads input reply (inl answers) = leads_means input (problem_of_input input) reply refl answers
makes_means Next input reply (inl is) = turns_mean input (next_question_of_input input) _ reply refl refl is
makes_means Scores input reply (inl answers) = scores_mean input (problem_of_input input) reply refl answers
makes_means Holes input reply (inl answers) = holes_mean input (problem_of_input input) reply refl answers
makes_means job input reply (inr want) = subst (SheetMeans job input) (sym want.1) (memory_means job input)

-- each job refuses an input that is too long
long_answers : (job : SheetJob) (input : List ℕ) → most_bytes < length input
    → SheetAnswers job input (refusal_reply (record { line = 0; number = too_long }))
unfolding problem_of_input question_of_input played_of_input game_sheet_of_input next_question_of_input
long_answers Plan input long = rw (read_of_long problem_alone_at input long, read_of_long question_at input long) refl
long_answers GameJob input long = rw (read_of_long played_at input long) refl
long_answers Try input long = rw (read_of_long problem_alone_at input long) refl
long_answers Refute input long = rw (read_of_long problem_alone_at input long) refl
long_answers Why input long = rw (read_of_long problem_alone_at input long) refl
long_answers Leads input long = rw (read_of_long problem_alone_at input long) refl
long_answers Next input long = rw (read_of_long next_question_at input long) refl
long_answers Scores input long = rw (read_of_long problem_alone_at input long) refl
long_answers Holes input long = rw (read_of_long problem_alone_at input long) refl
long_answers _ input long = rw (read_of_long question_at input long) refl

pub job_means : (job : SheetJob) → HaveMeaning (SheetMakes job) (SheetMeans job)
job_means job =
    record { answers = makes_means job; long = λ input long. makes_means job input _ (inl (long_answers job input long)); memory = memory_means job }
