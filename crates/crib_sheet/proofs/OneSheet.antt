-- Two right replies to one input are equal, as `specs/Laws` states it.
use Rattle.std.proofs.Common.{◌≡◌, false, List, Option, Some, None, Result, Ok, Err, refl, sym, ap, ap₂, ◌∙◌}
use Rattle.std.proofs.lemmas.Bool.{both_ways}
use Rattle.crib_text.specs.Refusals.{Refusal}
use Rattle.crib_problem.specs.Setup.{Setup}
use Rattle.crib_plan.specs.declared.plan.Node.{Node}
use Rattle.crib_beaten.proofs.TallyLaws.{one_tally}
use Rattle.crib_tables.specs.declared.holes.Holes.{Holes}
use Rattle.crib_tables.specs.declared.scores.ScoreTable.{ScoreTable}
use Rattle.crib_tables.proofs.OneTable.{one_holes, one_table}
use Rattle.crib_input.specs.Input.{problem_of_input, question_of_input}
use Rattle.crib_run.specs.Reply.{Reply}
use Rattle.crib_run.specs.declared.status.Status.TheVariants.{Yes}
use Rattle.crib_sheet.specs.declared.answer.job.SheetJob.TheVariants.{Plan, Game as GameJob, Beaten, Try, Refute, Why, Leads, Next, Scores, Holes as HolesJob}
use Rattle.crib_sheet.specs.Beaten.{beaten_reply}
use Rattle.crib_sheet.specs.Holes.{AreAtZero, at_zero, holes_reply}
use Rattle.crib_sheet.specs.Laws.{OneSheetLaw}
use Rattle.crib_sheet.specs.Scores.{scores_text}
use Rattle.crib_sheet.specs.Sheet.{AnswersBeaten, AnswersHoles, AnswersScores}

one_beaten : (said : Result (Setup × List Node) Refusal) (one other : Reply) → AnswersBeaten said one → AnswersBeaten said other → one ≡ other
one_beaten (Ok question) one other (open_deals, beaten, rows, right, is) (also_open, also_beaten, also_rows, also, same) =
    let figures = one_tally question.0 question.1 open_deals beaten rows also_open also_beaten also_rows right also in
    is ∙ (λ i. beaten_reply (figures.0 i) (figures.1 i) (figures.2 i)) ∙ sym same
one_beaten (Err refusal) one other a b = a ∙ sym b

one_scores : (said : Result Setup Refusal) (one other : Reply) → AnswersScores said one → AnswersScores said other → one ≡ other
one_scores (Ok problem) one other (table, right, is) (also_table, also, same) =
    is ∙ ap (λ (its : ScoreTable). record { output = scores_text problem its; status = Yes }) (one_table problem table also_table right also) ∙ sym same
one_scores (Err refusal) one other a b = a ∙ sym b

one_at_zero : (problem : Setup) (one other : Option Holes) → AreAtZero problem one → AreAtZero problem other → one ≡ other
one_at_zero problem None None a b = refl
one_at_zero problem None (Some other) a b = absurd (a b.0)
one_at_zero problem (Some one) None a b = absurd (b a.0)
one_at_zero problem (Some one) (Some other) a b = ap (λ (holes : Holes). Some holes) (one_holes (at_zero problem) one other a.1 b.1)

one_of_holes : (said : Result Setup Refusal) (one other : Reply) → AnswersHoles said one → AnswersHoles said other → one ≡ other
one_of_holes (Ok problem) one other (holes, others, right, there, is) (also_holes, also_others, also, also_there, same) =
    is ∙ ap₂ (holes_reply problem) (one_holes problem holes also_holes right also) (one_at_zero problem others also_others there also_there) ∙ sym same
one_of_holes (Err refusal) one other a b = a ∙ sym b

pub one_sheet : OneSheetLaw
one_sheet GameJob input one other only a b = a ∙ sym b
one_sheet Beaten input one other only a b = one_beaten (question_of_input input) one other a b
one_sheet Next input one other only a b = a ∙ sym b
one_sheet Scores input one other only a b = one_scores (problem_of_input input) one other a b
one_sheet HolesJob input one other only a b = one_of_holes (problem_of_input input) one other a b
one_sheet Plan input one other only a b = absurd (both_ways false refl only)
one_sheet Try input one other only a b = absurd (both_ways false refl only)
one_sheet Refute input one other only a b = absurd (both_ways false refl only)
one_sheet Why input one other only a b = absurd (both_ways false refl only)
one_sheet Leads input one other only a b = absurd (both_ways false refl only)
