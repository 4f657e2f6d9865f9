-- What the readers and the writers of sheets return is a right reply of the job to the input.
use Rattle.std.proofs.Common.{◌≡◌, ◌≤◌, ◌⊎◌, inl, inr, ℕ, zero, suc, Bool, List, [], ◌∷◌, Ok, Err, length, refl, ap}
use Rattle.std.proofs.Common.{true, false, ◌∙◌, Option, Some, None, subst, sym}
use Rattle.std.specs.Prelude.{IfErr, MatchResult, Result}
use Rattle.crib_text.specs.Refusals.{no_memory}
use Rattle.crib_cards.specs.declared.moves.Act.{Act}
use Rattle.crib_problem.specs.Setup.{Setup}
use Rattle.crib_plan.specs.declared.plan.Node.{Node}
use Rattle.crib_game.specs.declared.fault.GameFault.{GameFault}
use Rattle.crib_game.specs.declared.section.game.Game.{Game}
use Rattle.crib_game.specs.Refusals.{game_refusal}
use Rattle.crib_check.specs.declared.verdict.Verdict.{Verdict}
use Rattle.crib_check.specs.declared.verdict.Verdict.TheVariants.{Holds, Fails}
use Rattle.crib_check.specs.Verdicts.{IsRight}
use Rattle.crib_check.proofs.OneFirstGame.{exact_law}
use Rattle.crib_input.specs.declared.refusal.Refusal.{Refusal as Refused}
use Rattle.crib_input.specs.declared.reason.FaultCause.TheVariants.{NoMemory, TooLarge}
use Rattle.crib_input.specs.declared.reason.Reason.{Reason}
use Rattle.crib_input.specs.declared.reason.Reason.TheVariants as reasons
use Rattle.crib_input.specs.Input.{played_of_input, problem_of_input, question_of_input}
use Rattle.crib_input.specs.Refusals.{FitsFault, refusal_of}
use Rattle.crib_input.proofs.Inputs.{counted}
use Rattle.crib_next.specs.Input.{next_of_question, next_question_of_input}
use Rattle.crib_next.specs.declared.next.NextTurn.{NextTurn}
use Rattle.crib_next.specs.declared.next.NextTurn.TheVariants as nexts
use Rattle.crib_sheet.specs.Asked.{asked_of_input}
use Rattle.crib_sheet.proofs.AskedInputs.{asked_alone, asked_question}
use Rattle.crib_run.specs.declared.status.Status.TheVariants.{Yes, No}
use Rattle.crib_run.specs.Reply.{IsAnswer, IsOutcome, Reply, fault_reply, reason_reply, refusal_reply}
use Rattle.crib_sheet.specs.declared.answer.job.SheetJob.TheVariants.{Plan, Game as GameJob, Beaten, Try}
use Rattle.crib_sheet.specs.declared.answer.job.SheetJob.TheVariants.{Refute, Why as WhyJob, Leads as LeadsJob, Next, Scores, Holes}
use Rattle.crib_game.specs.declared.replaying.report.Report.{Report}
use Rattle.crib_game.specs.Replay.{replay_result}
use Rattle.crib_game_sheet.specs.GamePlay.{game_reasons}
use Rattle.crib_game_sheet.specs.GameText.{sheet_of}
use Rattle.crib_sheet.specs.PlanBeaten.{AreBeatingOf, IsBest}
use Rattle.crib_sheet.specs.declared.verdict.beaten.Best.{Best}
use Rattle.crib_plan.specs.Spelling.{plan_text}
use Rattle.crib_beaten.specs.Tally.{AreFigures}
use Rattle.crib_beaten.specs.declared.rows.Rows.{Rows}
use Rattle.crib_beaten.specs.declared.tally.RanksTally.{RanksTally}
use Rattle.crib_sheet.specs.Beaten.{beaten_reply, beaten_status}
use Rattle.std.specs.Prelude.{if◌then◌else◌}
use Rattle.std.specs.List.{list_all, list_any}
use Rattle.crib_leads.specs.declared.leads.Lead.{Lead}
use Rattle.crib_sheet.specs.Leads.{HasLeads}
use Rattle.crib_sheet.specs.LeadsText.{has_sure, leads_status}
use Rattle.crib_sheet.specs.Private.Tries.{IsNoLeads, IsTried, IsUntried, tried_status}
use Rattle.crib_players.specs.Refutations.{Refutes}
use Rattle.crib_sheet.specs.declared.refutation.InWords.{InWords}
use Rattle.crib_sheet.specs.Next.{next_reply, next_status}
use Rattle.crib_sheet.specs.Refute.{refute_reply, rows_text, suits_sentences, sure_sentence, words_reply}
use Rattle.crib_why.specs.Answer.{AreBySuit, HasFewGames, IsRightWhy, SomeIsSure}
use Rattle.crib_search.specs.Winnable.{IsWinnable}
use Rattle.crib_why.specs.declared.why.Why.{Why}
use Rattle.crib_why.specs.declared.why.Why.TheVariants as why
use Rattle.crib_sheet.specs.Holes.{HasHoles}
use Rattle.crib_sheet.specs.Scores.{scores_text}
use Rattle.crib_tables.specs.Scores.{AreScores}
use Rattle.crib_tables.specs.declared.scores.ScoreTable.{ScoreTable}
use Rattle.crib_sheet.specs.Sheet.{AnswersWithPlan, IsSheetOf, IsToTry, SheetMakes, game_reply, game_sheet_of_input, plan_reply, verdict_status}

-- ---- a plan

pub plan_answers : (verdict : Verdict) → IsAnswer (verdict_status verdict)
plan_answers Holds = inl refl
plan_answers (Fails result game) = inr refl

pub sheet_made : (problem : Setup) (plan : List Node) (verdict : Verdict) (open_deals beaten : ℕ) (hands : Option Rows) (best : Best) (apart : ℕ → Bool)
    (reply : Reply) → IsRight problem plan verdict → AreBeatingOf problem plan verdict open_deals beaten hands → IsBest problem best
    → reply ≡ plan_reply problem plan verdict open_deals beaten hands best apart → IsSheetOf problem plan reply ⊎ (reply ≡ fault_reply no_memory)
sheet_made problem plan verdict open_deals beaten hands best apart reply right figures bound is =
    inl (verdict, open_deals, beaten, hands, best, apart, right, figures, bound, is)

-- the sheet of a plan that is spelled
pub typed_made : (input : List ℕ) (problem : Setup) (behind : Option (List Node)) (plan : List Node) (reply : Reply)
    → asked_of_input input ≡ Ok (problem, behind) → behind ≡ Some plan → IsSheetOf problem plan reply ⊎ (reply ≡ fault_reply no_memory)
    → SheetMakes Plan input reply
typed_made input problem behind plan reply asked same (inl is) = inl (rw (asked, same) is)
typed_made input problem behind plan reply asked same (inr want) =
    inr (inl (counted input (problem, plan) (asked_question input problem plan (asked ∙ ap (λ (b : Option (List Node)). Ok (problem, b)) same))), want)

-- the sheet of a plan to try
pub found_made : (input : List ℕ) (problem : Setup) (behind : Option (List Node)) (reply : Reply) → asked_of_input input ≡ Ok (problem, behind)
    → behind ≡ None → AnswersWithPlan problem (IsSheetOf problem) reply ⊎ (reply ≡ fault_reply no_memory) → SheetMakes Plan input reply
found_made input problem behind reply asked same (inl is) = inl (rw (asked, same) is)
found_made input problem behind reply asked same (inr want) =
    inr (inr (rw (asked_alone input problem (asked ∙ ap (λ (b : Option (List Node)). Ok (problem, b)) same)) refl), want)

-- ---- reasons that are no refusals

pub fits_large : {B : Type 0} (reason : Reason) → (reason ≡ reasons.Fault NoMemory) ⊎ ((reason ≡ reasons.Fault TooLarge) × B) → FitsFault None reason
fits_large reason (inl want) = subst (FitsFault None) (sym want) tt
fits_large reason (inr large) = subst (FitsFault None) (sym large.0) tt

pub fits_memory : {A : Type 0} (P : A → Type 0) (result : Result A Reason) → MatchResult result P (λ reason. reason ≡ reasons.Fault NoMemory)
    → IfErr result (FitsFault None)
fits_memory P (Ok value) is = tt
fits_memory P (Err reason) want = subst (FitsFault None) (sym want) tt

-- ---- a game

pub game_refused : (input : List ℕ) (refusal : Refused) → played_of_input input ≡ Err (refusal_of refusal)
    → SheetMakes GameJob input (reason_reply (reasons.Refused refusal))
unfolding game_sheet_of_input
game_refused input refusal asked = inl (rw asked refl)

pub game_judged : (input : List ℕ) (problem : Setup) (game : Game) (first : ℕ) (fault : GameFault) (refusal : Refused)
    → played_of_input input ≡ Ok (problem, game, first) → replay_result problem game ≡ Err fault
    → refusal_of refusal ≡ game_refusal first (length game.acts.items) fault → SheetMakes GameJob input (reason_reply (reasons.Refused refusal))
unfolding game_sheet_of_input
game_judged input problem game first fault refusal asked judged is = inl (rw (asked, judged) (ap refusal_reply is))

pub game_made : (input : List ℕ) (problem : Setup) (game : Game) (first : ℕ) (report : Report) → played_of_input input ≡ Ok (problem, game, first)
    → replay_result problem game ≡ Ok report
    → SheetMakes GameJob input (game_reply (sheet_of problem game.opp report (game_reasons problem game)))
unfolding game_sheet_of_input
game_made input problem game first report asked replayed = inl (rw (asked, replayed) refl)

-- ---- which deals beat a plan

pub beaten_without_memory : (input : List ℕ) (question : Setup × List Node) → question_of_input input ≡ Ok question
    → SheetMakes Beaten input (reason_reply (reasons.Fault NoMemory))
beaten_without_memory input question asked = inr (counted input question asked, refl)

pub beaten_answers : (beaten : ℕ) → IsAnswer (beaten_status beaten)
beaten_answers zero = inl refl
beaten_answers (suc others) = inr refl

pub beaten_made : (input : List ℕ) (question : Setup × List Node) (open_deals beaten : ℕ) (rows : List RanksTally)
    → question_of_input input ≡ Ok question → AreFigures question.0 question.1 open_deals beaten rows
    → SheetMakes Beaten input (beaten_reply open_deals beaten rows)
beaten_made input question open_deals beaten rows asked right =
    inl (rw asked (open_deals, beaten, rows, right, refl))

-- ---- a plan to try

to_try : (problem : Setup) (plan : List Node) (sure : Bool) → IsTried problem plan sure
    → IsToTry problem plan (tried_status sure)
to_try problem plan true tried = inl (refl, tried.found refl, tried.small)
to_try problem plan false tried = inr (refl, tried.none refl, tried.valid, tried.stated)

pub try_made : (input : List ℕ) (problem : Setup) (plan : List Node) (sure : Bool) (reply : Reply) → problem_of_input input ≡ Ok problem
    → IsTried problem plan sure
    → (reply ≡ record { output = plan_text plan; status = tried_status sure }) ⊎ (reply ≡ fault_reply no_memory) → SheetMakes Try input reply
try_made input problem plan sure reply asked tried (inl is) = inl (rw (asked, is) (inl (plan, to_try problem plan sure tried, refl)))
try_made input problem plan sure reply asked tried (inr want) = inr (rw asked refl, want)

pub untried_sheet : (problem : Setup) (answers : List Node → Reply → Type 0) (reason : Reason) → IsUntried problem reason
    → AnswersWithPlan problem answers (reason_reply reason) ⊎ (reason_reply reason ≡ fault_reply no_memory)
untried_sheet problem answers reason (inl want) = inr (rw want refl)
untried_sheet problem answers reason (inr large) = inl (inr (large.1, rw large.0 refl))

pub try_unmade : (input : List ℕ) (problem : Setup) (reason : Reason) → problem_of_input input ≡ Ok problem → IsUntried problem reason
    → SheetMakes Try input (reason_reply reason)
try_unmade input problem reason asked (inl want) = inr (rw asked refl, rw want refl)
try_unmade input problem reason asked (inr large) = inl (rw asked (inr (large.1, rw large.0 refl)))

-- the sheet of a plan to try has its status
sheet_status : (problem : Setup) (plan : List Node) (sure : Bool) (verdict : Verdict) → IsTried problem plan sure → IsRight problem plan verdict
    → verdict_status verdict ≡ tried_status sure
sheet_status problem plan true Holds tried right = refl
sheet_status problem plan true (Fails result game) tried right =
    let holds : Fails result game ≡ Holds = (exact_law problem plan (Fails result game) right).1 (tried.holds refl) in
    absurd cc
sheet_status problem plan false Holds tried right = absurd (tried.none refl (record { plan = plan; sure = right }))
sheet_status problem plan false (Fails result game) tried right = refl

pub tried_sheet : (problem : Setup) (plan : List Node) (sure : Bool) (reply : Reply) → IsTried problem plan sure
    → IsSheetOf problem plan reply ⊎ (reply ≡ fault_reply no_memory)
    → AnswersWithPlan problem (IsSheetOf problem) reply ⊎ (reply ≡ fault_reply no_memory)
tried_sheet problem plan sure reply tried (inl sheet) =
    let status = ap (λ (r : Reply). r.status) sheet.9 ∙ sheet_status problem plan sure sheet.0 tried sheet.6 in
    inl (inl (plan, subst (IsToTry problem plan) (sym status) (to_try problem plan sure tried), sheet))
tried_sheet problem plan sure reply tried (inr want) = inr want

-- ---- why no plan is sure

pub why_without_memory : (input : List ℕ) (problem : Setup) → problem_of_input input ≡ Ok problem
    → SheetMakes Refute input (reason_reply (reasons.Fault NoMemory))
why_without_memory input problem asked = inr (rw asked refl, refl)

pub words_without_memory : (input : List ℕ) (problem : Setup) → problem_of_input input ≡ Ok problem
    → SheetMakes WhyJob input (reason_reply (reasons.Fault NoMemory))
words_without_memory input problem asked = inr (rw asked refl, refl)

pub why_answers : {A : Type 0} (answer : Why A) → IsAnswer (refute_reply answer).status
why_answers why.Sure = inl refl
why_answers (why.Refuted games) = inr refl
why_answers (why.BySuits ranks) = inr refl

pub why_made : {A : Type 0} (input : List ℕ) (problem : Setup) (answer : Why A) → problem_of_input input ≡ Ok problem → IsRightWhy problem answer
    → HasFewGames answer → SheetMakes Refute input (refute_reply answer)
why_made input problem why.Sure asked right few = inl (rw asked (inl (right, refl)))
why_made input problem (why.Refuted games) asked right few = inl (rw asked (inr (inl (games.items, right, few, refl))))
why_made input problem (why.BySuits ranks) asked right few = inl (rw asked (inr (inr (ranks.items, right.0, right.1, right.2, refl))))

pub why_outcome : {A : Type 0} (input : List ℕ) (problem : Setup) (result : Result (Why A) Reason) → problem_of_input input ≡ Ok problem
    → MatchResult result (λ why. IsRightWhy problem why × HasFewGames why) (λ reason. reason ≡ reasons.Fault NoMemory)
    → IsOutcome refute_reply (SheetMakes Refute input) result
why_outcome input problem (Ok answer) asked both = (why_answers answer, why_made input problem answer asked both.0 both.1)
why_outcome input problem (Err reason) asked is = rw is (why_without_memory input problem asked)

-- the same in words, for each of the three answers
pub sure_in_words : (input : List ℕ) (problem : Setup) → problem_of_input input ≡ Ok problem → IsWinnable problem
    → SheetMakes WhyJob input (record { output = sure_sentence; status = Yes })
sure_in_words input problem asked winnable = inl (rw asked (inl (winnable, refl)))

pub refuted_in_words : {A : Type 0} (input : List ℕ) (problem : Setup) (games : List Game) (result : Result (InWords A) Reason)
    → problem_of_input input ≡ Ok problem → Refutes problem games → length games ≤ 24
    → MatchResult result (λ words. words_reply words ≡ record { output = rows_text problem games; status = No }) (λ reason. reason ≡ reasons.Fault NoMemory)
    → IsOutcome words_reply (SheetMakes WhyJob input) result
refuted_in_words input problem games (Ok words) asked refutes few is =
    (inr (ap (λ (r : Reply). r.status) is), inl (rw asked (inr (inl (games, refutes, few, is)))))
refuted_in_words input problem games (Err reason) asked refutes few is = rw is (words_without_memory input problem asked)

pub suits_in_words : (input : List ℕ) (problem : Setup) (ranks : List ℕ) → problem_of_input input ≡ Ok problem
    → ¬ IsWinnable problem → SomeIsSure problem → AreBySuit problem ranks
    → SheetMakes WhyJob input (record { output = suits_sentences ranks; status = No })
suits_in_words input problem ranks asked none some right = inl (rw asked (inr (inr (ranks, none, some, right, refl))))

-- ---- what may be played next

yes_or_no : (is_good : Bool) → IsAnswer (if is_good then Yes else No)
yes_or_no true = inl refl
yes_or_no false = inr refl

pub leads_answers : (own theirs : List Lead) → IsAnswer (leads_status own theirs)
leads_answers [] theirs = yes_or_no (list_all has_sure theirs)
leads_answers (lead ∷ leads) theirs = yes_or_no (list_any has_sure (lead ∷ leads))

pub leads_made : (input : List ℕ) (problem : Setup) (reply : Reply) → problem_of_input input ≡ Ok problem → HasLeads problem reply
    → SheetMakes LeadsJob input reply
leads_made input problem reply asked has = inl (rw asked (inl has))

pub leads_unmade : (input : List ℕ) (problem : Setup) (reason : Reason) → problem_of_input input ≡ Ok problem → IsNoLeads problem reason
    → SheetMakes LeadsJob input (reason_reply reason)
leads_unmade input problem reason asked (inl want) = inr (rw asked refl, rw want refl)
leads_unmade input problem reason asked (inr large) = inl (rw asked (inr (large.1, rw large.0 refl)))

-- ---- what comes next

pub next_answers : (next : NextTurn) → IsAnswer (next_status next)
next_answers (nexts.Play card) = inl refl
next_answers nexts.Stuck = inr refl
next_answers other = inl refl

module _ (input : List ℕ) (problem : Setup) (plan : List Node) (turns : List Act) (first : ℕ)
    (asked : next_question_of_input input ≡ Ok (problem, plan, turns, first)) where
  pub next_made : (next : NextTurn) → next_of_question (problem, plan, turns, first) ≡ Ok next → SheetMakes Next input (next_reply problem plan turns next)
  next_made next is = inl (rw (asked, is) refl)

  pub next_refused : (refusal : Refused) → next_of_question (problem, plan, turns, first) ≡ Err (refusal_of refusal) →
      SheetMakes Next input (reason_reply (reasons.Refused refusal))
  next_refused refusal is = inl (rw (asked, is) refl)

-- ---- at which scores turns are sure

pub scores_without_memory : (input : List ℕ) (problem : Setup) → problem_of_input input ≡ Ok problem
    → SheetMakes Scores input (reason_reply (reasons.Fault NoMemory))
scores_without_memory input problem asked = inr (rw asked refl, refl)

pub scores_made : (input : List ℕ) (problem : Setup) (table : ScoreTable) → problem_of_input input ≡ Ok problem → AreScores problem table
    → SheetMakes Scores input (record { output = scores_text problem table; status = Yes })
scores_made input problem table asked right = inl (rw asked (table, right, refl))

-- ---- how many holes are sure

pub holes_without_memory : (input : List ℕ) (problem : Setup) → problem_of_input input ≡ Ok problem
    → SheetMakes Holes input (reason_reply (reasons.Fault NoMemory))
holes_without_memory input problem asked = inr (rw asked refl, refl)

pub holes_made : (input : List ℕ) (problem : Setup) (reply : Reply) → problem_of_input input ≡ Ok problem → HasHoles problem reply
    → SheetMakes Holes input reply
holes_made input problem reply asked right = inl (rw asked right)
