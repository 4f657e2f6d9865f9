-- Worked examples of the jobs, and of what a sheet means.
use Rattle.std.proofs.Common.{◌≡◌, ◌⊎◌, inl, inr, ℕ, true, false, List, [], ◌∷◌, ◌++◌, Ok, Err, codes, map, refl, None}
use Rattle.std.specs.Fmt.{digits}
use Rattle.crib_check.specs.declared.verdict.Verdict.TheVariants.{Holds, Fails}
use Rattle.crib_sure.specs.Sure.{Ends, GoesOn, IsSure}
use Rattle.crib_problem.proofs.ExampleProblems.{four_twos}
use Rattle.crib_sure.proofs.ExampleOpening.{ace_or_two, at_29}
use Rattle.crib_game.specs.declared.section.game.Game.{Game}
use Rattle.crib_problem.specs.Setup.{Setup}
use Rattle.crib_plan.specs.declared.plan.Node.{Node}
use Rattle.crib_game.specs.declared.fault.GameFault.TheVariants.{NotHeld}
use Rattle.crib_text.specs.declared.fault.TextCause.TheVariants.{BadCard}
use Rattle.crib_game.specs.declared.following.ending.Ending.TheVariants.{Short}
use Rattle.crib_input.specs.Spelled.{SpellsPlan, SpellsProblem}
use Rattle.crib_input.specs.declared.refusal.Cause.TheVariants as causes
use Rattle.crib_input.specs.declared.reason.Reason.TheVariants as reasons
use Rattle.crib_input.specs.declared.sections.Sections.TheVariants.{Problem, Question, Played, Turns}
use Rattle.crib_run.specs.declared.status.Status.TheVariants.{Yes, No, Refused, Fault}
use Rattle.crib_input.proofs.EmptyExamples.{no_plan_in_nothing, no_problem_in_nothing}
use Rattle.crib_game_sheet.specs.Heading.{goal_line, heading_text, opening_line, own_line, scores_line}
use Rattle.crib_run.specs.Pieces.{other_score}
use Rattle.crib_plan_sheet.specs.PlanNow.{now_line}
use Rattle.crib_plan_sheet.specs.PlanPage.{legend_text, page_text, plan_page}
use Rattle.crib_plan_sheet.specs.PlanPlay.{ReachesGoal}
use Rattle.crib_plan_sheet.specs.PlanSheet.{sheet_with}
use Rattle.crib_plan_sheet.specs.PlanText.{label, paragraph_text, rank_words, sheet_text}
use Rattle.crib_sheet.specs.PlanBeaten.{AreBeating, IsLeast, beating_text, best_text}
use Rattle.crib_sheet.specs.PlanHead.{position_text, turn_line}
use Rattle.crib_sheet.specs.declared.answer.job.SheetJob.TheVariants.{Plan, Game as GameJob, Beaten, Try, Refute, Why}
use Rattle.crib_sheet.specs.declared.answer.job.SheetJob.TheVariants.{Leads, Next, Scores, Holes}
use Rattle.crib_sheet.specs.Job.{job_called, sections_of}
use Rattle.crib_sheet.specs.Sheet.{game_reply, verdict_status}
use Rattle.crib_sheet.specs.Told.{SheetTells}
use Rattle.crib_sheet.specs.Meaning.{AsksAbout, BeatenMeans, GameMeans, PlanMeans, SheetMeans}

-- ---- the jobs, what they read, and the statuses of their replies
jobs_and_statuses : (game : Game) →
    (map job_called (codes "plan" ∷ codes "game" ∷ codes "beaten" ∷ codes "try" ∷ codes "refute" ∷ codes "why" ∷ codes "check" ∷ codes "pplan" ∷ [])
    ≡ Ok Plan ∷ Ok GameJob ∷ Ok Beaten ∷ Ok Try ∷ Ok Refute ∷ Ok Why ∷ Err (record {}) ∷ Err (record {}) ∷ [])
    × (map job_called (codes "leads" ∷ codes "next" ∷ codes "scores" ∷ codes "holes" ∷ []) ≡ Ok Leads ∷ Ok Next ∷ Ok Scores ∷ Ok Holes ∷ [])
    × (map sections_of (Plan ∷ GameJob ∷ Beaten ∷ Try ∷ Refute ∷ Why ∷ Leads ∷ Next ∷ Scores ∷ Holes ∷ [])
    ≡ Question ∷ Played ∷ Question ∷ Problem ∷ Problem ∷ Problem ∷ Problem ∷ Turns ∷ Problem ∷ Problem ∷ [])
    × (map verdict_status (Holds ∷ Fails Short game ∷ []) ≡ Yes ∷ No ∷ [])
    × (game_reply (codes "a") ≡ record { output = codes "a"; status = Yes })
jobs_and_statuses game = (refl, refl, refl, refl, refl)

-- an input without a game may be refused for a word that is no card, and not for an act of a game
reasons_without_a_game : (input : List ℕ) → SheetTells Plan input (reasons.Refused (record { line = 5; cause = causes.Text BadCard }))
    × (SheetTells Plan input (reasons.Refused (record { line = 16; cause = causes.Game (NotHeld 2) })) → ⊥)
reasons_without_a_game input = (refl, λ fits. cc)

-- ---- what a sheet means. What crib_check shows of the two plans is assumed here
a_sure_plan : (input : List ℕ) → SpellsPlan input at_29 ace_or_two → IsSure at_29 ace_or_two → GoesOn at_29 ace_or_two → Ends at_29 →
    ReachesGoal at_29 (sheet_with (λ node. false) ace_or_two) → SheetMeans Plan input (record {
      output = codes "You are the pone at 0, and the dealer is at 0. The starter is 2S.\nYou hold TC 9C 2C AC and threw 2D 2H.\n"
          ++ codes "You want 2 holes or more in this deal.\nThe first 3 turns were played. Scores and cards are those before them.\n"
          ++ codes "  pone TC\n  dealer TD\n  pone 9C\nYou are at 0 now, and the dealer is at 2. You still hold 2C AC.\n"
          ++ codes "This plan is sure: it reaches your goal against every hand and every play.\n\nlook:\n    A  : AC\n    go : 2C\n"
          ++ legend_text true;
      status = Yes;
    })
unfolding digits heading_text scores_line other_score own_line goal_line opening_line position_text turn_line now_line beating_text best_text plan_page
    page_text sheet_text sheet_with paragraph_text rank_words label
a_sure_plan input spelled sure goes_on ends reaches = record {
  problem = at_29;
  plan = ace_or_two;
  asked = inl spelled;
  sure = sure;
  goes_on = goes_on;
  ends = ends;
  apart = λ node. false;
  printed = refl;
  reaches = reaches;
}

a_stuck_plan : (input : List ℕ) → SpellsPlan input four_twos [] → ¬ SpellsProblem input four_twos → ¬ IsSure four_twos [] →
    AreBeating four_twos [] 122175900 820 None → IsLeast four_twos 7 → SheetMeans Plan input (record {
      output = codes "You are the pone at 0, and the dealer is at 0. The starter is KD.\nYou hold 2C 2D 2H 2S and threw 4C 6D.\n"
          ++ codes "You want 13 holes or more in this deal.\nThis plan is not sure. It reaches your goal with 122,175,080 of the\n"
          ++ codes "122,175,900 deals that they may have, whatever they play. With the other\n820 they can beat it.\n"
          ++ codes "Every plan is beaten by at least 7 deals.\nThe plan:\n\nThe plan states no card.\n"
          ++ legend_text false;
      status = No;
    })
unfolding digits heading_text scores_line other_score own_line goal_line opening_line position_text turn_line now_line beating_text best_text plan_page
    page_text sheet_text sheet_with paragraph_text rank_words label
a_stuck_plan input spelled typed unsure figures is_least = record {
  problem = four_twos;
  plan = [];
  asked = inl spelled;
  unsure = unsure;
  none = λ alone. absurd (typed alone);
  stated = λ alone. absurd (typed alone);
  open_deals = 122175900;
  beaten = 820;
  hands = None;
  figures = figures;
  best = record { found = None; least = 7; is_for_all = false };
  is_best = record { found = tt; plans = is_least; players = λ all. absurd cc };
  middle = codes "The plan:\n\n";
  apart = λ node. false;
  printed = refl;
}

nothing_asked : (problem : Setup) (plan : List Node) → AsksAbout [] problem plan → ⊥
nothing_asked problem plan (inl spelled) = no_plan_in_nothing problem plan spelled
nothing_asked problem plan (inr spelled) = no_problem_in_nothing problem spelled.0

no_plan_of_nothing : (text : List ℕ) → (PlanMeans [] text Yes → ⊥) × (PlanMeans [] text No → ⊥) × (BeatenMeans [] text Yes → ⊥)
    × (BeatenMeans [] text No → ⊥)
no_plan_of_nothing text = (
  λ means. nothing_asked means.problem means.plan means.asked,
  λ means. nothing_asked means.problem means.plan means.asked,
  λ means. no_plan_in_nothing means.0.problem means.0.plan means.0.spelled,
  λ means. no_plan_in_nothing means.0.problem means.0.plan means.0.spelled,
)

nothing_is_refused : (text : List ℕ) → PlanMeans [] text Refused × BeatenMeans [] text Refused
nothing_is_refused text = (λ problem. (λ spelled. no_problem_in_nothing problem spelled, no_plan_in_nothing problem), no_plan_in_nothing)

without_memory : (input : List ℕ) →
    PlanMeans input (codes "fault 11\n") Fault × GameMeans input (codes "fault 11\n") Fault × BeatenMeans input (codes "fault 11\n") Fault
unfolding digits
without_memory input = (inl refl, refl, refl)

a_game_is_never_no : (input text : List ℕ) → GameMeans input text No → ⊥
a_game_is_never_no input text means = means
