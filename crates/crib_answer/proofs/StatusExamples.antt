-- Worked examples of what replies to whole inputs guarantee, and of reasons. That a section can be spelled and that a plan is sure is assumed here.
use Rattle.std.proofs.Common.{◌≡◌, refl, inr, ℕ, List, [], ◌∷◌, ◌++◌, codes, map, Some, None}
use Rattle.std.specs.Fmt.{digits}
use Rattle.crib_problem.specs.Setup.{IsSetup}
use Rattle.crib_problem.specs.Spelling.{problem_text, problem_lines}
use Rattle.crib_problem.proofs.ExampleProblems.{four_twos}
use Rattle.crib_plan.specs.Nodes.{ArePlan}
use Rattle.crib_plan.specs.Spelling.{plan_text, plan_lines}
use Rattle.crib_text.specs.declared.fault.TextCause.TheVariants.{BadCard}
use Rattle.crib_board.specs.Board.{right_in, row_line, row_lines, score_columns, track_line, track_lines}
use Rattle.crib_game.specs.Spelling.{game_text, game_lines}
use Rattle.crib_game.specs.declared.fault.GameFault.TheVariants.{NotHeld, Strays}
use Rattle.crib_game.specs.declared.following.ending.Ending.TheVariants as ending
use Rattle.crib_sure.specs.Sure.{Ends, GoesOn, IsSure}
use Rattle.crib_sure.proofs.ExampleOpening.{ace_or_two, at_29}
use Rattle.crib_check.proofs.Examples.{no_acts, stuck_at_once}
use Rattle.crib_search.specs.Winnable.{IsWinnable}
use Rattle.crib_input.specs.declared.refusal.Cause.TheVariants as causes
use Rattle.crib_input.specs.declared.reason.FaultCause.TheVariants.{NoMemory}
use Rattle.crib_input.specs.declared.reason.Reason.TheVariants as reasons
use Rattle.crib_input.proofs.InputReaders.{read_played, read_played_under}
use Rattle.crib_answer.specs.declared.job.Job.TheVariants.{Replay, Check, Solve, Board, Follow}
use Rattle.crib_answer.specs.Meaning.{CheckMeans, SolveMeans, StatusMeans}
use Rattle.crib_answer.specs.Told.{Tells, game_fault_in}
use Rattle.crib_run.specs.declared.status.Status.TheVariants.{Yes, No, Refused, Fault}

-- ---- two problems and their plans: one with an opening, and one with four twos, whose plan has no node
abbrev opened : List ℕ
opened = codes "problem 2\ndealer opponent\nscore 0 0\nstarter 2S\nhold TC 9C 2C AC\nthrow 2D 2H\ngoal holes 2\nplayed 3\nown TC\nopp TD\nown 9C\n"

abbrev plan_of_opened : List ℕ
plan_of_opened = codes "plan 1\nnodes 3\n0 see A:1 g:2\n1 play AC end\n2 play 2C end\n"

abbrev twos : List ℕ
twos = codes "problem 1\ndealer opponent\nscore 0 0\nstarter KD\nhold 2C 2D 2H 2S\nthrow 4C 6D\ngoal holes 13\n"

-- ---- what `check` guarantees
a_sure_plan_holds : IsSetup at_29 → ArePlan ace_or_two → IsSure at_29 ace_or_two → GoesOn at_29 ace_or_two → Ends at_29 →
    StatusMeans Check (opened ++ plan_of_opened) (record { output = codes "holds\n"; status = Yes })
unfolding problem_text problem_lines plan_text plan_lines digits
a_sure_plan_holds setup are sure goes_on ends = (
  record {
    problem = at_29;
    plan = ace_or_two;
    spelled = record { problem_is = setup; plan_is = are; text = refl };
    sure = sure;
    goes_on = goes_on;
    ends = ends;
  },
  refl,
)

a_stuck_plan_fails : IsSetup four_twos → ArePlan [] → StatusMeans Check (twos ++ codes "plan 1\nnodes 0\n")
    (record { output = codes "fails stuck\ngame 1\nhold AC AD AH AS\nthrow 3C 3D\nacts 0\n"; status = No })
unfolding problem_text problem_lines plan_text plan_lines game_text game_lines digits
a_stuck_plan_fails setup are = (
  ending.Stuck,
  codes "game 1\nhold AC AD AH AS\nthrow 3C 3D\nacts 0\n",
  record {
    problem = four_twos;
    plan = [];
    game = no_acts;
    spelled = record { problem_is = setup; plan_is = are; text = refl };
    game_is = refl;
    failing = stuck_at_once;
  },
  refl,
)

spelled_plan_is_not_refused : IsSetup four_twos → ArePlan [] → CheckMeans (twos ++ codes "plan 1\nnodes 0\n") (codes "refused line 1: 4\n") Refused → ⊥
unfolding problem_text problem_lines plan_text plan_lines digits
spelled_plan_is_not_refused setup are none = none four_twos [] (record { problem_is = setup; plan_is = are; text = refl })

-- ---- what `solve` guarantees
a_sure_plan_is_printed : IsSetup at_29 → ArePlan ace_or_two → IsSure at_29 ace_or_two → GoesOn at_29 ace_or_two → Ends at_29 →
    StatusMeans Solve opened (record { output = plan_of_opened; status = Yes })
unfolding problem_text problem_lines plan_text plan_lines digits
a_sure_plan_is_printed setup are sure goes_on ends =
    record {
      problem = at_29;
      plan = ace_or_two;
      spelled = record { problem_is = setup; text = refl };
      is_plan = are;
      plan_is = refl;
      sure = sure;
      goes_on = goes_on;
      ends = ends;
    }

none_is_printed : IsSetup four_twos → (IsWinnable four_twos → ⊥) → StatusMeans Solve twos (record { output = codes "none\n"; status = No })
unfolding problem_text problem_lines digits
none_is_printed setup none = (record { problem = four_twos; spelled = record { problem_is = setup; text = refl }; none = none }, refl)

a_plan_is_too_large : IsSetup at_29 → IsWinnable at_29 → StatusMeans Solve opened (record { output = codes "fault 50\n"; status = Fault })
unfolding problem_text problem_lines digits
a_plan_is_too_large setup some = inr (record { problem = at_29; spelled = record { problem_is = setup; text = refl }; some = some }, refl)

spelled_problem_is_not_refused : IsSetup four_twos → SolveMeans twos (codes "refused line 1: 4\n") Refused → ⊥
unfolding problem_text problem_lines digits
spelled_problem_is_not_refused setup none = none four_twos (record { problem_is = setup; text = refl })

-- ---- reasons
abbrev lead_of : List ℕ → List ℕ
lead_of card = codes "game 1\nhold AC AD AH AS\nthrow 3C 3D\nacts 1\nown " ++ card ++ codes "\n"

abbrev two_first : List ℕ
two_first = codes "plan 1\nnodes 1\n0 play 2C end\n"

-- a king that isn't held, a two that is, nothing, and a game behind a plan that it strays from
faults_of_games :
    (map (game_fault_in Replay) ((twos ++ lead_of (codes "KC")) ∷ (twos ++ lead_of (codes "2C")) ∷ [] ∷ []) ≡ Some (NotHeld 1) ∷ None ∷ None ∷ [])
    × (map (game_fault_in Board) ((twos ++ lead_of (codes "KC")) ∷ (twos ++ lead_of (codes "2C")) ∷ [] ∷ []) ≡ Some (NotHeld 1) ∷ None ∷ None ∷ [])
    × (map (game_fault_in Follow) ((twos ++ two_first ++ lead_of (codes "2D")) ∷ (twos ++ two_first ++ lead_of (codes "2C")) ∷ [] ∷ [])
    ≡ Some (Strays 1) ∷ None ∷ None ∷ [])
    × (map (λ job. game_fault_in job (twos ++ lead_of (codes "KC"))) (Check ∷ Solve ∷ Follow ∷ []) ≡ None ∷ None ∷ None ∷ [])
unfolding read_played read_played_under digits right_in score_columns row_line row_lines track_line track_lines
faults_of_games = (refl, refl, refl, refl)

-- of a king that isn't held no other card or act is the reason, nor a word that is no card
reasons_for_a_king :
    Tells Replay (twos ++ lead_of (codes "KC")) (reasons.Refused (record { line = 12; cause = causes.Game (NotHeld 1) }))
    × Tells Board (twos ++ lead_of (codes "KC")) (reasons.Fault NoMemory)
    × (Tells Board (twos ++ lead_of (codes "KC")) (reasons.Refused (record { line = 13; cause = causes.Game (NotHeld 2) })) → ⊥)
    × (Tells Replay (twos ++ lead_of (codes "KC")) (reasons.Refused (record { line = 12; cause = causes.Text BadCard })) → ⊥)
    × (Tells Solve (twos ++ lead_of (codes "KC")) (reasons.Refused (record { line = 12; cause = causes.Game (NotHeld 1) })) → ⊥)
    × (Tells Follow (twos ++ two_first ++ lead_of (codes "2D")) (reasons.Refused (record { line = 15; cause = causes.Game (NotHeld 1) })) → ⊥)
unfolding read_played read_played_under
reasons_for_a_king = (refl, tt, (λ is. cc), (λ is. cc), (λ is. cc), (λ is. cc))
