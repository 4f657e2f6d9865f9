-- Worked examples of right replies and of what they guarantee, clause by clause.
use Rattle.std.proofs.Common.{◌≡◌, ◌⊎◌, ◌∙◌, refl, sym, ap, subst, arith, inl, inr, ℕ}
use Rattle.std.proofs.Common.{true, false, Bool, List, [], ◌++◌, codes, get_or, Option, Some, None}
use Rattle.std.proofs.Common.{Ok, Err, ◌∷◌}
use Rattle.std.proofs.lemmas.Bool.{both_ways}
use Rattle.std.specs.Fmt.{digits}
use Rattle.crib_text.specs.Refusals.{Refusal}
use Rattle.crib_cards.specs.declared.sides.Side.TheVariants.{Owner}
use Rattle.crib_problem.specs.Setup.{Setup}
use Rattle.crib_problem.proofs.ExampleProblems.{aces, four_twos, plays}
use Rattle.crib_sure.proofs.ExampleOpening.{ace_or_two, at_29}
use Rattle.crib_game.proofs.ExampleGames.{game_with}
use Rattle.crib_game.specs.declared.following.ending.Ending.TheVariants as ending
use Rattle.crib_check.proofs.Examples.{AreThese, HasThirtyTurns, all_acts, falls_short, in_a_row, of_these, short_plan_is_not_sure, stuck_plan_cannot_go_on}
use Rattle.crib_check.proofs.Examples.{thirty_turns_are_too_many}
use Rattle.crib_search.proofs.TriedExamples.{stuck_at_the_lead}
use Rattle.crib_deals.specs.Exact.{AreExactly}
use Rattle.crib_beaten.specs.Beaten.{Beats}
use Rattle.crib_beaten.proofs.TermExamples.{in_none}
use Rattle.crib_game_sheet.specs.Heading.{heading_text, scores_line}
use Rattle.crib_plan_sheet.proofs.PlanPlayExamples.{twos, twos_fall_short}
use Rattle.crib_input.proofs.EmptyExamples.{no_game_in_nothing}
use Rattle.crib_plan.specs.declared.plan.Next.TheVariants.{End, To}
use Rattle.crib_plan.specs.declared.plan.Node.{Node}
use Rattle.crib_plan.specs.declared.plan.Node.TheVariants.{Play}
use Rattle.crib_search.specs.Finder.{ExceedsLimit}
use Rattle.crib_game.specs.declared.section.game.Game.{Game}
use Rattle.crib_game.specs.declared.following.ending.Ending.TheVariants.{Short}
use Rattle.crib_check.specs.declared.verdict.Verdict.TheVariants.{Holds, Fails}
use Rattle.crib_sure.specs.Sure.{GoesOn, IsSure}
use Rattle.crib_search.specs.Tried.{IsNeverStuck}
use Rattle.crib_search.specs.Winnable.{IsWinnable}
use Rattle.crib_plan.specs.Nodes.{ArePlan}
use Rattle.crib_input.specs.Spelled.{SpellsPlan, SpellsProblem}
use Rattle.crib_input.proofs.InputReaders.{read_count, read_played, read_problem, read_question, refused}
use Rattle.crib_next.specs.Input.{next_question_at, next_question_of_input}
use Rattle.crib_run.specs.declared.status.Status.{Status}
use Rattle.crib_run.specs.declared.status.Status.TheVariants.{Yes, No, Refused, Fault}
use Rattle.crib_run.specs.Reply.{Reply}
use Rattle.crib_answer.specs.Input.{report_of_input}
use Rattle.crib_answer.specs.Meaning.{HasSomePlan}
use Rattle.crib_game_sheet.specs.GameText.{game_sheet_text}
use Rattle.crib_sheet.specs.Asked.{asked_of_input, plan_or_none}
use Rattle.crib_sheet.specs.PlanHead.{failing_text, position_text, sure_text}
use Rattle.crib_sheet.specs.PlanBeaten.{IsBest, beating_text, best_text}
use Rattle.crib_sheet.specs.declared.verdict.beaten.Best.{Best}
use Rattle.crib_beaten.specs.declared.rows.Rows.{Rows}
use Rattle.crib_plan_sheet.specs.PlanPage.{page_text, plan_page}
use Rattle.crib_plan_sheet.specs.PlanPlay.{ReachesGoal}
use Rattle.crib_plan_sheet.specs.PlanSheet.{Over, sheet_with}
use Rattle.crib_sheet.specs.declared.answer.job.SheetJob.TheVariants.{Plan, Game as GameJob, Beaten, Try, Refute, Why}
use Rattle.crib_sheet.specs.declared.answer.job.SheetJob.TheVariants.{Leads, Next, Scores, Holes}
use Rattle.crib_sheet.specs.Meaning.{AsksAbout, GameMeans, IsRefusedByReplay, PlanMeans, SheetMeans}
use Rattle.crib_sheet.specs.Sheet.{AnswersPlan, IsSheetOf, IsToTry, SheetAnswers, SheetAsksForMemory, SheetMakes, game_sheet_of_input, plan_reply}

-- ---- the sections: a problem of seven lines, the beginning of a plan, and a game with a card that isn't held
abbrev problem_section : List ℕ
problem_section = codes "problem 1\ndealer opponent\nscore 0 0\nstarter KD\nhold 2C 2D 2H 2S\nthrow 4C 6D\ngoal holes 13\n"

abbrev with_a_bad_node : List ℕ
with_a_bad_node = problem_section ++ codes "plan 1\nnodes 1\nx\n"

abbrev with_a_bad_game : List ℕ
with_a_bad_game = problem_section ++ codes "game 1\nhold AC AD AH AS\nthrow 3C 3D\nacts 1\nown KC\n"

abbrev refused_reply : List ℕ → Reply
refused_reply output = record { output = output; status = Refused }

abbrev fault_11 : Reply
fault_11 = record { output = codes "fault 11\n"; status = Fault }

abbrev two_twos : List Node
two_twos = Play 4 (To 1) ∷ Play 5 End ∷ []

-- ---- right replies
refused_sections :
    (game_sheet_of_input with_a_bad_game ≡ refused 12 41)
    × SheetAnswers Plan with_a_bad_node (refused_reply (codes "refused line 10: 4\n"))
    × SheetAnswers GameJob with_a_bad_game (refused_reply (codes "refused line 12: 41\n"))
unfolding read_played read_question game_sheet_of_input digits
refused_sections = (refl, refl, refl)

-- six jobs read a problem alone
refused_behind_a_problem :
    SheetAnswers Try with_a_bad_node (refused_reply (codes "refused line 8: 8\n"))
    × SheetAnswers Refute with_a_bad_node (refused_reply (codes "refused line 8: 8\n"))
    × SheetAnswers Why with_a_bad_node (refused_reply (codes "refused line 8: 8\n"))
    × SheetAnswers Leads with_a_bad_node (refused_reply (codes "refused line 8: 8\n"))
    × SheetAnswers Scores with_a_bad_node (refused_reply (codes "refused line 8: 8\n"))
    × SheetAnswers Holes with_a_bad_node (refused_reply (codes "refused line 8: 8\n"))
unfolding read_problem digits
refused_behind_a_problem = (refl, refl, refl, refl, refl, refl)

refused_node : SheetAnswers Beaten with_a_bad_node (refused_reply (codes "refused line 10: 4\n"))
unfolding read_question digits
refused_node = refl

refused_turns : SheetAnswers Next with_a_bad_node (refused_reply (codes "refused line 10: 4\n"))
unfolding next_question_of_input next_question_at read_question digits
refused_turns = refl

-- a problem alone is read; with a line after it that begins no plan, it is refused
what_is_read : (problem : Setup) (plan : List Node) (refusal other : Refusal) →
    (plan_or_none (Ok problem) (Err refusal) ≡ Ok (problem, None))
    × (plan_or_none (Err refusal) (Ok (problem, plan)) ≡ Ok (problem, Some plan))
    × (plan_or_none (Err refusal) (Err other) ≡ Err other)
    × (asked_of_input [] ≡ refused 1 3)
    × (asked_of_input with_a_bad_node ≡ refused 10 4)
unfolding read_question
what_is_read problem plan refusal other = (refl, refl, refl, refl, refl)

a_problem_alone_is_read : asked_of_input problem_section ≡ refused 8 3 → ⊥
unfolding read_question
a_problem_alone_is_read e = absurd cc

-- four twos in a row fall short with four aces: the plan isn't sure, some deals beat it, and each plan is beaten by as many at most
aces_beat_it : Beats four_twos in_a_row aces
aces_beat_it = record { game = all_acts; result = ending.Short; failing = falls_short; of_deal = refl }

aces_are_counted : (beaten : ℕ) → AreExactly (Beats four_twos in_a_row) beaten → beaten ≡ 0 → ⊥
aces_are_counted beaten exact none = in_none aces exact.deals ((exact.each aces).1 (refl, aces_beat_it)) (exact.counted ∙ none)

replies_to_twos : (reply : Reply) (answers : AnswersPlan (Ok (four_twos, Some in_a_row)) reply) →
    (reply.status ≡ Yes) ⊎ (answers.2 ≡ 0) ⊎ ((answers.2 ≡ 8) × (answers.4.least ≡ 9)) → ⊥
replies_to_twos reply (Holds, open_deals, beaten, hands, best, apart, sure, figures, is_best, same) wrong = short_plan_is_not_sure sure
replies_to_twos reply (Fails result game, open_deals, beaten, hands, best, apart, right, figures, is_best, same) (inl sure) =
    let status : No ≡ Yes = sym (ap (λ (r : Reply). r.status) same) ∙ sure in absurd cc
replies_to_twos reply (Fails result game, open_deals, beaten, hands, best, apart, right, figures, is_best, same) (inr (inl none)) =
    aces_are_counted beaten figures.are_beaten none
replies_to_twos reply (Fails result game, open_deals, beaten, hands, best, apart, right, figures, is_best, same) (inr (inr few)) =
    absurd (omega (arith, is_best.plans in_a_row beaten figures.are_beaten, few.0, few.1))

not_empty : (first : ℕ) (bytes : List ℕ) → [] ≡ first ∷ bytes → ⊥
not_empty first bytes text = cc

no_reply_without_a_text : (plan : List Node) (status : Status) → AnswersPlan (Ok (four_twos, Some plan)) (record { output = []; status = status }) → ⊥
unfolding position_text heading_text scores_line
no_reply_without_a_text plan status (Holds, open_deals, beaten, hands, best, apart, right, figures, is_best, same) =
    not_empty _ _ (ap (λ (reply : Reply). reply.output) same)
no_reply_without_a_text plan status (Fails result game, open_deals, beaten, hands, best, apart, right, figures, is_best, same) =
    not_empty _ _ (ap (λ (reply : Reply). reply.output) same)

-- of a problem alone: a plan that is found may have too many nodes, and no sheet has the status of a fault
large_plan_of_a_problem : ExceedsLimit four_twos 65535 → AnswersPlan (Ok (four_twos, None)) (record { output = codes "fault 50\n"; status = Fault })
unfolding digits
large_plan_of_a_problem large = inr (large, refl)

no_sheet_is_a_fault : AnswersPlan (Ok (four_twos, None)) (record { output = []; status = Fault }) → ⊥
unfolding digits
no_sheet_is_a_fault (inl (plan, inl found, is)) = absurd (let e = found.0 in cc)
no_sheet_is_a_fault (inl (plan, inr none, is)) = absurd (let e = none.0 in cc)
no_sheet_is_a_fault (inr large) = (let text = ap (λ (reply : Reply). reply.output) large.1 in cc)

sheet_of_a_problem : (reply : Reply) → IsToTry four_twos two_twos reply.status → IsSheetOf four_twos two_twos reply → AnswersPlan (Ok (four_twos, None)) reply
sheet_of_a_problem reply tried is = inl (two_twos, tried, is)

sure_plan_is_written : (problem : Setup) (plan : List Node) (open_deals beaten : ℕ) (hands : Option Rows) (apart : ℕ → Bool) → IsSure problem plan →
    AnswersPlan (Ok (problem, Some plan)) (plan_reply problem plan Holds open_deals beaten hands (record { found = None; least = 0; is_for_all = false }) apart)
sure_plan_is_written problem plan open_deals beaten hands apart sure =
    let best : IsBest problem (record { found = None; least = 0; is_for_all = false }) = record {
      found = tt;
      plans = λ other count exact. omega arith;
      players = λ all. absurd cc;
    } in
    (Holds, open_deals, beaten, hands, record { found = None; least = 0; is_for_all = false }, apart, sure, tt, best, refl)

replies_of_verdicts : (problem : Setup) (plan : List Node) (game : Game) (open_deals beaten : ℕ) (hands : Option Rows) (best : Best) (apart : ℕ → Bool) →
    (plan_reply problem [] Holds open_deals beaten hands best apart
    ≡ record { output = sure_text problem ++ page_text true (record { first = Over; paragraphs = [] }); status = Yes })
    × (plan_reply problem plan (Fails Short game) open_deals beaten hands best apart
    ≡ record {
      output = (position_text problem ++ beating_text open_deals beaten hands ++ best_text beaten best ++ failing_text problem plan Short game)
          ++ plan_page false apart plan;
      status = No;
    })
unfolding sheet_with plan_page
replies_of_verdicts problem plan game open_deals beaten hands best apart = (refl, refl)

refused_plan_is_written : (reply : Reply) → AnswersPlan (Err (record { line = 3; number = 21 })) reply → reply ≡ refused_reply (codes "refused line 3: 21\n")
unfolding digits
refused_plan_is_written reply is = is

-- ---- memory: `plan` may ask for it once the number of nodes is read, as `beaten` may, or the problem alone, and `game` never
plan_asks_for_memory :
    SheetAsksForMemory Plan with_a_bad_node × SheetAsksForMemory Beaten with_a_bad_node
    × SheetMakes Plan with_a_bad_node fault_11
    × SheetMakes Plan with_a_bad_node (refused_reply (codes "refused line 10: 4\n"))
unfolding read_count read_question digits
plan_asks_for_memory = (inl refl, refl, inr (inl refl, refl), inl refl)

problem_asks_for_memory : SheetAsksForMemory Plan problem_section × SheetAsksForMemory Try problem_section × SheetAsksForMemory Refute problem_section
    × SheetAsksForMemory Why problem_section × SheetAsksForMemory Leads problem_section × SheetAsksForMemory Scores problem_section
    × SheetAsksForMemory Holes problem_section × SheetAsksForMemory Next with_a_bad_node
unfolding read_problem read_count
problem_asks_for_memory = (inr refl, refl, refl, refl, refl, refl, refl, refl)

never_asks : (input : List ℕ) → SheetAsksForMemory Plan (problem_section ++ codes "plan 1\n")
    ⊎ SheetAsksForMemory Beaten (problem_section ++ codes "plan 1\n") ⊎ SheetAsksForMemory GameJob input → ⊥
unfolding read_count
never_asks input (inl (inl asks)) = absurd (both_ways false refl asks)
never_asks input (inl (inr asks)) = absurd (both_ways false refl asks)
never_asks input (inr (inl asks)) = absurd (both_ways false refl asks)
never_asks input (inr (inr asks)) = asks

-- the others ask for it if there is a problem alone, and `next` if there is a number of nodes
asks_for_none : (SheetAsksForMemory Try with_a_bad_node → ⊥) × (SheetAsksForMemory Refute with_a_bad_node → ⊥)
    × (SheetAsksForMemory Why with_a_bad_node → ⊥) × (SheetAsksForMemory Leads with_a_bad_node → ⊥) × (SheetAsksForMemory Scores with_a_bad_node → ⊥)
    × (SheetAsksForMemory Holes with_a_bad_node → ⊥) × (SheetAsksForMemory Next problem_section → ⊥)
unfolding read_problem read_count
asks_for_none = (refused, refused, refused, refused, refused, refused, refused)
  where
    refused : false ≡ true → ⊥
    refused = both_ways false refl

game_never_runs_out_of_memory : SheetMakes GameJob with_a_bad_game fault_11 → ⊥
unfolding read_played game_sheet_of_input digits
game_never_runs_out_of_memory (inl right) = (let status : Fault ≡ Refused = ap (λ (reply : Reply). reply.status) right in absurd cc)
game_never_runs_out_of_memory (inr memory) = memory.0

fault_is_written : SheetMakes Plan with_a_bad_node (record { output = []; status = Fault }) →
    SheetAnswers Plan with_a_bad_node (record { output = []; status = Fault })
fault_is_written (inl right) = right
fault_is_written (inr memory) = (let text = ap (λ (reply : Reply). reply.output) memory.1 in absurd cc)

-- ---- a plan is spelled behind the problem, or it is any plan of a problem alone
asked_about : (input : List ℕ) → (SpellsPlan input four_twos two_twos → AsksAbout input four_twos two_twos)
    × (SpellsProblem input four_twos → ArePlan two_twos → AsksAbout input four_twos two_twos)
asked_about input = (inl, λ spelled is. inr (spelled, is))

-- a node that leads back is no plan
not_about_a_way_back : (input : List ℕ) → (SpellsPlan input four_twos (Play 4 (To 0) ∷ []) → ⊥) → AsksAbout input four_twos (Play 4 (To 0) ∷ []) → ⊥
not_about_a_way_back input never (inl spelled) = never spelled
not_about_a_way_back input never (inr asks) = absurd (omega (arith, asks.1.1.0.1.0))

-- ---- what `plan` says of a sure plan: none that falls short, that states no card or whose sheet falls short, and no play of thirty turns
wrong_sure_sheets : (input text : List ℕ) (means : SheetMeans Plan input (record { output = text; status = Yes })) →
    AreThese means.problem means.plan four_twos in_a_row ⊎ AreThese means.problem means.plan four_twos []
    ⊎ ((means.problem ≡ four_twos) × (sheet_with means.apart means.plan ≡ twos)) → ⊥
wrong_sure_sheets input text means (inl are) = short_plan_is_not_sure (of_these IsSure means.problem means.plan _ _ are means.sure)
wrong_sure_sheets input text means (inr (inl are)) = stuck_plan_cannot_go_on (of_these GoesOn means.problem means.plan _ _ are means.goes_on)
wrong_sure_sheets input text means (inr (inr are)) =
    twos_fall_short (subst (λ sheet. ReachesGoal four_twos sheet) are.1
    (subst (λ setup. ReachesGoal setup (sheet_with means.apart means.plan)) are.0 means.reaches))

no_play_has_thirty_turns : (input text : List ℕ) (means : SheetMeans Plan input (record { output = text; status = Yes })) →
    HasThirtyTurns means.problem → ⊥
no_play_has_thirty_turns input text means = thirty_turns_are_too_many means.problem means.ends

-- ---- what it says of a plan that is not sure: it isn't, and none is if a problem alone was typed; the figures are right, and the plan is not stuck
wrong_unsure_sheets : (input text : List ℕ) (means : SheetMeans Plan input (record { output = text; status = No })) → IsSure at_29 ace_or_two →
    AreThese means.problem means.plan at_29 ace_or_two ⊎ ((means.problem ≡ at_29) × SpellsProblem input means.problem)
    ⊎ (AreThese means.problem means.plan four_twos [] × SpellsProblem input means.problem)
    ⊎ (AreThese means.problem means.plan four_twos in_a_row × (means.beaten ≡ 0))
    ⊎ ((means.beaten ≡ 8) × (means.best.least ≡ 9)) → ⊥
wrong_unsure_sheets input text means sure (inl are) = of_these (λ setup plan. ¬ IsSure setup plan) means.problem means.plan _ _ are means.unsure sure
wrong_unsure_sheets input text means sure (inr (inl (same, alone))) =
    subst (λ setup. ¬ IsWinnable setup) same (means.none alone) (record { plan = ace_or_two; sure = sure })
wrong_unsure_sheets input text means sure (inr (inr (inl (are, alone)))) =
    stuck_at_the_lead (of_these IsNeverStuck means.problem means.plan _ _ are (means.stated alone))
wrong_unsure_sheets input text means sure (inr (inr (inr (inl (are, none))))) =
    aces_are_counted means.beaten (of_these (λ setup plan. AreExactly (Beats setup plan) means.beaten) means.problem means.plan _ _ are
    means.figures.are_beaten) none
wrong_unsure_sheets input text means sure (inr (inr (inr (inr few)))) =
    absurd (omega (arith, means.is_best.plans means.plan means.beaten means.figures.are_beaten, few.0, few.1))

no_sheet_without_a_text : (input : List ℕ) → (SheetMeans Plan input (record { output = []; status = Yes }) → ⊥)
    × (SheetMeans Plan input (record { output = []; status = No }) → ⊥)
unfolding position_text heading_text scores_line
no_sheet_without_a_text input = ((λ means. not_empty _ _ means.printed), (λ means. not_empty _ _ means.printed))

-- ---- what `game` says: the sheet of a game that is replayed, or the line with which `replay` refuses one that plays KC of another
wrong_game_sheets : (input text : List ℕ) → (SheetMeans GameJob [] (record { output = text; status = Yes }) → ⊥)
    × ((means : SheetMeans GameJob input (record { output = text; status = Yes })) → means.problem ≡ four_twos →
    means.game ≡ game_with aces (plays Owner 48 ∷ []) → ⊥)
wrong_game_sheets input text = (
  λ means. no_game_in_nothing means.problem means.game means.spelled,
  λ means same e. (
      let sheet = subst (λ game. game_sheet_text four_twos game ≡ Ok text) e (subst (λ setup. game_sheet_text setup means.game ≡ Ok text) same means.sheet)
      in absurd cc
      ),
)

refused_by_replay : (text : List ℕ) → SheetMeans GameJob with_a_bad_game (refused_reply (codes "refused line 12: 41\n"))
    × (SheetMeans GameJob (problem_section ++ codes "game 1\nhold AC AD AH AS\nthrow 3C 3D\nacts 0\n") (refused_reply text) → ⊥)
unfolding read_played report_of_input digits
refused_by_replay text = (record { refusal = record { line = 12; number = 41 }; refused = refl; line = refl }, λ means. (let is = means.refused in absurd cc))

line_of_replay : (input : List ℕ) → IsRefusedByReplay input [] → ⊥
line_of_replay input is = (let text = is.line in cc)

-- ---- what is spelled is not refused, and each fault has its line
spelled_is_not_refused : (input text : List ℕ) → SpellsProblem input four_twos ⊎ SpellsPlan input four_twos two_twos →
    SheetMeans Plan input (refused_reply text) → ⊥
spelled_is_not_refused input text (inl spelled) means = (means four_twos).0 spelled
spelled_is_not_refused input text (inr spelled) means = (means four_twos).1 two_twos spelled

no_fault_without_its_line : (input : List ℕ) → PlanMeans input [] Fault ⊎ GameMeans input [] Fault → ⊥
no_fault_without_its_line input (inl (inl text)) = cc
no_fault_without_its_line input (inl (inr text)) = (let e = text.1 in cc)
no_fault_without_its_line input (inr text) = cc

-- a large plan is a fault only if the input has a problem alone, for which some plan is sure
faults_of_a_plan : (input : List ℕ) → HasSomePlan input → PlanMeans input (codes "fault 11\n") Fault × PlanMeans input (codes "fault 50\n") Fault
unfolding digits
faults_of_a_plan input some = (inl refl, inr (some, refl))

other : ◌≡◌ {A = ℕ} 53 49 → ⊥
other digit = absurd cc

no_large_plan_is_typed : (input : List ℕ) → ((problem : Setup) → SpellsProblem input problem → ⊥) → PlanMeans input (codes "fault 50\n") Fault → ⊥
unfolding digits
no_large_plan_is_typed input none (inl text) = other (ap (λ (bytes : List ℕ). get_or bytes 6 0) text)
no_large_plan_is_typed input none (inr large) = none large.0.problem large.0.spelled
