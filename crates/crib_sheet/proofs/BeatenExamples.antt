-- Worked examples of what the figures of the deals that beat a plan guarantee.
use Rattle.std.proofs.Common.{◌≡◌, ◌⊎◌, inl, inr, ℕ, List, [], ◌∷◌, Ok, Err, codes, refl, ap, ◌∙◌}
use Rattle.std.specs.Fmt.{digits}
use Rattle.crib_problem.specs.Setup.{Setup}
use Rattle.crib_plan.specs.declared.plan.Node.{Node}
use Rattle.crib_problem.proofs.ExampleProblems.{four_twos, aces}
use Rattle.crib_problem.specs.Spelling.{problem_lines, problem_text}
use Rattle.crib_input.specs.Spelled.{SpellsPlan}
use Rattle.crib_sure.specs.Sure.{Ends, GoesOn, IsSure}
use Rattle.crib_sure.proofs.ExampleOpening.{ace_or_two, at_29}
use Rattle.crib_check.proofs.Examples.{AreThese, of_these, stuck_plan_is_not_sure}
use Rattle.crib_beaten.proofs.TermExamples.{aces_beat_it, in_none, unheld}
use Rattle.crib_beaten.specs.Tally.{AreFigures}
use Rattle.crib_beaten.specs.declared.tally.RanksTally.{RanksTally}
use Rattle.crib_run.specs.declared.status.Status.TheVariants.{Yes, No, Refused, Fault}
use Rattle.crib_run.specs.Reply.{Reply}
use Rattle.crib_sheet.specs.Beaten.{beaten_reply, beaten_text, row_line}
use Rattle.crib_sheet.specs.Meaning.{SheetMeans}
use Rattle.crib_sheet.specs.Sheet.{AnswersBeaten}
use Rattle.crib_sheet.specs.declared.answer.job.SheetJob.TheVariants.{Beaten}

abbrev of_fives : RanksTally
of_fives = record { ranks = 5 ∷ 5 ∷ 5 ∷ 11 ∷ []; open_deals = 3280; beaten = 820 }

-- ---- right replies
-- four aces beat a plan that states a card that isn't held, so they are counted
aces_beat_the_plan : (open_deals beaten : ℕ) (rows : List RanksTally) → AreFigures four_twos unheld open_deals beaten rows → beaten ≡ 0 → ⊥
aces_beat_the_plan open_deals beaten rows are none =
    in_none aces are.are_beaten.deals ((are.are_beaten.each aces).1 (refl, aces_beat_it)) (are.are_beaten.counted ∙ none)

figures_of_aces : (reply : Reply) (answers : AnswersBeaten (Ok (four_twos, unheld)) reply) → answers.1 ≡ 0 → ⊥
figures_of_aces reply answers = aces_beat_the_plan answers.0 answers.1 answers.2 answers.3

figures_are_written : AnswersBeaten (Ok (four_twos, unheld)) (record { output = []; status = No }) → ⊥
unfolding beaten_text
figures_are_written answers = (let text = ap (λ (reply : Reply). reply.output) answers.4 in cc)

right_figures_are_an_answer : (problem : Setup) (plan : List Node) (open_deals beaten : ℕ) (rows : List RanksTally) →
    AreFigures problem plan open_deals beaten rows → AnswersBeaten (Ok (problem, plan)) (beaten_reply open_deals beaten rows)
right_figures_are_an_answer problem plan open_deals beaten rows right = (open_deals, beaten, rows, right, refl)

refused_plan_has_no_tally : (reply : Reply) → AnswersBeaten (Err (record { line = 3; number = 21 })) reply →
    reply ≡ record { output = codes "refused line 3: 21\n"; status = Refused }
unfolding digits
refused_plan_has_no_tally reply is = is

-- ---- what each status guarantees
-- yes: of no plan that is stuck at the lead
wrong_if_sure : (input text : List ℕ) (means : SheetMeans Beaten input (record { output = text; status = Yes })) →
    AreThese means.0.problem means.0.plan four_twos [] → ⊥
wrong_if_sure input text means are = stuck_plan_is_not_sure (of_these IsSure means.0.problem means.0.plan _ _ are means.0.sure)

-- no: of no sure plan; and four aces beat the plan of a card that isn't held
wrong_if_unsure : (input text : List ℕ) (means : SheetMeans Beaten input (record { output = text; status = No })) →
    (AreThese means.0.problem means.0.plan at_29 ace_or_two × IsSure at_29 ace_or_two)
    ⊎ (AreThese means.0.problem means.0.plan four_twos unheld × (means.1.beaten ≡ 0)) → ⊥
wrong_if_unsure input text means (inl (are, sure)) =
    of_these (λ setup plan. ¬ IsSure setup plan) means.0.problem means.0.plan _ _ are means.0.unsure sure
wrong_if_unsure input text means (inr (are, none)) =
    aces_beat_the_plan _ _ _ (of_these (λ setup plan. AreFigures setup plan means.1.open_deals means.1.beaten means.1.rows) means.0.problem means.0.plan
    _ _ are means.1.right) none

an_empty_text_has_no_figures : (input : List ℕ) → SheetMeans Beaten input (record { output = []; status = Yes })
    ⊎ SheetMeans Beaten input (record { output = []; status = No }) → ⊥
unfolding beaten_text
an_empty_text_has_no_figures input (inl means) = (let text = means.1.printed in cc)
an_empty_text_has_no_figures input (inr means) = (let text = means.1.printed in cc)

-- 820 of 3,280 deals with 5 5 5 J, and no others
said_of_29 : (input : List ℕ) → SpellsPlan input four_twos unheld → ¬ IsSure four_twos unheld →
    AreFigures four_twos unheld 122175900 820 (of_fives ∷ []) → SheetMeans Beaten input (record {
      output = codes "beaten 820 of 122175900\n555J 820 of 3280\n";
      status = No;
    })
unfolding beaten_text row_line digits
said_of_29 input spelled unsure right = (
  record { problem = four_twos; plan = unheld; spelled = spelled; unsure = unsure },
  record { open_deals = 122175900; beaten = 820; rows = of_fives ∷ []; right = right; printed = refl },
)

said_if_sure : (input : List ℕ) → SpellsPlan input at_29 ace_or_two → IsSure at_29 ace_or_two → GoesOn at_29 ace_or_two → Ends at_29 →
    AreFigures at_29 ace_or_two 121738020 0 [] → SheetMeans Beaten input (record { output = codes "beaten 0 of 121738020\n"; status = Yes })
unfolding beaten_text digits
said_if_sure input spelled sure goes_on ends right = (
  record { problem = at_29; plan = ace_or_two; spelled = spelled; sure = sure; goes_on = goes_on; ends = ends },
  record { open_deals = 121738020; beaten = 0; rows = []; right = right; printed = refl },
)

-- what spells no plan is refused, and only a failed allocation is a fault
no_plan : (problem : Setup) (plan : List Node) → SpellsPlan (codes "aab") problem plan → ⊥
unfolding problem_text problem_lines
no_plan problem plan spelled = (let text = spelled.text in cc)

refused_without_a_plan : (text : List ℕ) → SheetMeans Beaten (codes "aab") (record { output = text; status = Refused })
refused_without_a_plan text = no_plan

no_figures_without_a_plan : (text : List ℕ) → SheetMeans Beaten (codes "aab") (record { output = text; status = Yes })
    ⊎ SheetMeans Beaten (codes "aab") (record { output = text; status = No }) → ⊥
no_figures_without_a_plan text (inl means) = no_plan means.0.problem means.0.plan means.0.spelled
no_figures_without_a_plan text (inr means) = no_plan means.0.problem means.0.plan means.0.spelled

no_fault_without_a_line : (input : List ℕ) → SheetMeans Beaten input (record { output = []; status = Fault }) → ⊥
no_fault_without_a_line input text = cc
