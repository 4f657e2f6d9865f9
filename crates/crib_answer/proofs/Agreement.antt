-- The answers of one job agree with those of another.
use Rattle.std.proofs.Common.{◌≡◌, ◌⊎◌, ℕ, List, [], ◌∷◌, ◌++◌, codes, Option, Some, None, Result, Ok, Err, inl, inr, refl, sym, ap, ◌∙◌}
use Rattle.std.specs.Prelude.{◌↔◌, Bool, true, false}
use Rattle.crib_cards.specs.declared.sides.Scores.{Scores}
use Rattle.crib_text.specs.Refusals.{Refusal}
use Rattle.crib_text.specs.Reading.{◌>>=◌}
use Rattle.crib_show.specs.declared.show.outcomes.Outcome.{Outcome}
use Rattle.crib_show.specs.declared.show.outcomes.Outcome.TheVariants as outcome
use Rattle.crib_problem.specs.Setup.{Setup, hands_of, start_of}
use Rattle.crib_problem.specs.Spelling.{problem_text}
use Rattle.crib_game.specs.declared.following.ending.Ending.{Ending}
use Rattle.crib_game.specs.declared.following.ending.Ending.TheVariants as ending
use Rattle.crib_game.specs.declared.fault.GameFault.{GameFault}
use Rattle.crib_game.specs.declared.section.game.Game.{Game}
use Rattle.crib_game.specs.declared.replaying.report.Report.{Report}
use Rattle.crib_game.specs.declared.replaying.report.Row.{Row}
use Rattle.crib_game.specs.Followed.{ending_of, ending_without, follow_fault}
use Rattle.crib_game.specs.Following.{is_stuck}
use Rattle.crib_game.specs.Replay.{game_fault, outcome_after, record_of, report_of, replay_result, unless_fault}
use Rattle.crib_game.specs.Spelling.{game_text}
use Rattle.crib_game.proofs.FollowLawProofs.{answer_law}
use Rattle.crib_game.proofs.GameFaults.{no_fault_is}
use Rattle.crib_game.proofs.RecordedGames.{recorded_game}
use Rattle.crib_game.proofs.Reports.{report_ends, rows_of_game}
use Rattle.crib_board.specs.Board.{board_for, board_of}
use Rattle.crib_check.proofs.FailureEndings.{failing_followed, six_is}
use Rattle.crib_run.specs.declared.status.Status.TheVariants.{Yes, Refused}
use Rattle.crib_input.specs.Input.{played_of_input}
use Rattle.crib_input.specs.Spelled.{SpellsGame}
use Rattle.crib_answer.specs.Input.{judgement_of, report_of_input, ending_of_input, board_of_input}
use Rattle.crib_run.specs.Reply.{Reply}
use Rattle.crib_run.specs.Reply.{refusal_reply}
use Rattle.crib_answer.specs.Answer.{board_reply, ending_reply, ending_status, reply_by, report_reply}
use Rattle.crib_answer.specs.Laws.{FailedGameLaw, FollowedGameLaw, FoundPlanLaw, SameRefusalLaw, SameReportLaw, outcome_with}
use Rattle.crib_answer.specs.Reported.{IsReported, last_scores}
use Rattle.crib_answer.proofs.JudgedInputs.{board_spelled, ending_accepted, ending_spelled, report_accepted, report_spelled}
use Rattle.crib_answer.proofs.Replies.{fails_law, no_output, plan_law, same_ending, sure_owed}

-- ---- a plan that is found

pub found_plan_law : FoundPlanLaw
found_plan_law input reply more answers e =
    let is = plan_law input reply more answers e in
    sure_owed (input ++ reply.output) is.problem is.plan
    (record { problem_is = is.spelled.problem_is; plan_is = is.is_plan; text = λ i. is.spelled.text i ++ is.plan_is i }) is.sure

-- ---- the game in which a plan fails

pub failed_game_law : FailedGameLaw
failed_game_law input reply result text answers e =
    let failed = (fails_law input reply result text answers e).0 in
    let problem = failed.problem in
    let plan = failed.plan in
    let game = failed.game in
    let of_game = failed.failing.of_game.of_game in
    let setup = failed.spelled.problem_is in
    let read = ending_spelled (input ++ text) problem plan game result (record {
      problem_is = setup;
      plan_is = failed.spelled.plan_is;
      game_is = recorded_game problem game failed.failing.played setup (six_is problem game.opp of_game.deal) of_game;
      text = λ i. failed.spelled.text i ++ failed.game_is i;
    }) (failing_followed problem plan setup game result failed.failing) in
    ap (reply_by ending_reply) (sym read)

-- ---- the report of a game

rows_end : (first : Scores) (rows : List Row) (row : Row) → last_scores first (rows ++ row ∷ []) ≡ row.scores
rows_end first [] row = refl
rows_end first (other ∷ rows) row = rows_end other.scores rows row

scores_end : (first : Scores) (report : Report) →
    ((report.rows.items ≡ []) × (report.scores ≡ first))
    ⊎ ((front : List Row) × (row : Row) × (report.rows.items ≡ front ++ row ∷ []) × (report.scores ≡ row.scores)) →
    report.scores ≡ last_scores first report.rows.items
scores_end first report (inl none) = none.1 ∙ ap (last_scores first) (sym none.0)
scores_end first report (inr some) = some.3 ∙ sym (rows_end first some.0 some.1) ∙ ap (last_scores first) (sym some.2)

-- an input that spells a problem and a game with a report
reported : (input : List ℕ) (problem : Setup) (game : Game) → SpellsGame input problem game → replay_result problem game ≡ Ok (report_of problem game) →
    IsReported input problem game
reported input problem game spelled e = record {
  report = report_of problem game;
  spelled = spelled;
  acts = rows_of_game problem game;
  scores = scores_end problem.scores (report_of problem game) (report_ends problem game spelled.problem_is);
  replayed = ap (reply_by report_reply) (sym (report_spelled input problem game (report_of problem game) spelled e));
  drawn = ap (reply_by board_reply) (sym (board_spelled input problem game (board_of problem (report_of problem game)) spelled (ap (board_for problem) e)));
}

-- ---- replay and board

-- two results that were read: both are values, or both are the same refusal
abbrev AreAlike : {A B : Type 0} → Result A Refusal → Result B Refusal → Type 0
AreAlike (Ok value) (Ok other) = Unit {0}
AreAlike (Ok value) (Err refusal) = ⊥
AreAlike (Err refusal) (Ok value) = ⊥
AreAlike (Err refusal) (Err other) = refusal ≡ other

alike_then : {A B C : Type 0} (read : Result A Refusal) (one : A → Result B Refusal) (other : A → Result C Refusal) →
    ((value : A) → AreAlike (one value) (other value)) → AreAlike (read >>= one) (read >>= other)
alike_then (Ok value) one other alike = alike value
alike_then (Err refusal) one other alike = refl

alike_judged : (problem : Setup) (game : Game) (first : ℕ) (replayed : Result Report GameFault) →
    AreAlike (judgement_of game first replayed) (judgement_of game first (board_for problem replayed))
alike_judged problem game first (Ok report) = tt
alike_judged problem game first (Err fault) = refl

alike_read : (input : List ℕ) → AreAlike (report_of_input input) (board_of_input input)
unfolding report_of_input board_of_input
alike_read input =
    alike_then (played_of_input input) _ _ (λ played. alike_judged played.0 played.1 played.2 (replay_result played.0 played.1))

same_refused : (read : Result Report Refusal) (board : Result (List ℕ) Refusal) (refusal : Refusal) → AreAlike read board →
    (refusal_reply refusal ≡ reply_by report_reply read) ↔ (refusal_reply refusal ≡ reply_by board_reply board)
same_refused (Ok report) (Ok board) refusal alike = (refused_yes (report_reply report) refl, refused_yes (board_reply board) refl)
  where
    refused_yes : {X : Type 0} (reply : Reply) → reply.status ≡ Yes → refusal_reply refusal ≡ reply → X
    refused_yes reply accepted e = let none : Refused ≡ Yes = ap (λ (r : Reply). r.status) e ∙ accepted in absurd cc
same_refused (Ok report) (Err other) refusal alike = absurd alike
same_refused (Err one) (Ok board) refusal alike = absurd alike
same_refused (Err one) (Err other) refusal alike = (λ e. e ∙ ap refusal_reply alike, λ e. e ∙ ap refusal_reply (sym alike))

pub same_refusal_law : SameRefusalLaw
same_refusal_law input refusal = same_refused (report_of_input input) (board_of_input input) refusal (alike_read input)

replayed_report : (read : Result Report Refusal) (reply : Reply) (more : List ℕ) → reply ≡ reply_by report_reply read → reply.output ≡ codes "play" ++ more →
    (report : Report) × (read ≡ Ok report)
replayed_report (Ok report) reply more is e = (report, refl)
replayed_report (Err refusal) reply more is e = no_output reply (refusal_reply refusal) (codes "play" ++ more) refl is e

-- a report that is read is that of the game
is_report_of : (fault : Option GameFault) (value report : Report) → ◌≡◌ {A = Result Report GameFault} (unless_fault fault value) (Ok report) →
    ◌≡◌ {A = Result Report GameFault} (unless_fault fault value) (Ok value)
is_report_of None value report e = refl
is_report_of (Some fault) value report e = absurd cc

pub same_report_law : SameReportLaw
same_report_law input reply more answers e =
    let read = replayed_report (report_of_input input) reply more answers e in
    let has = report_accepted input read.0 read.1 in
    let is = is_report_of (game_fault has.0 has.1) (report_of has.0 has.1) read.0 has.3 in
    (has.0, has.1, reported input has.0 has.1 has.2 is)

-- ---- a game that is followed

followed_ending : (read : Result Ending Refusal) (result : Ending) → ending_reply result ≡ reply_by ending_reply read → read ≡ Ok result
followed_ending (Ok given) result e = ap Ok (same_ending given result [] [] (ap (λ (r : Reply). (codes "fails " ++ r.output) ++ []) (sym e)))
followed_ending (Err refusal) result e = absurd (never_refused result (ap (λ (r : Reply). r.status) e))
  where
    never_refused : (one : Ending) → ending_status one ≡ Refused → ⊥
    never_refused ending.Reached e = cc
    never_refused one e = cc

-- the ending of a record is that of its outcome
outcome_is : (over : Option Outcome) (stuck : Bool) → over ≡ outcome_with (ending_without over stuck)
outcome_is (Some outcome.Reached) stuck = refl
outcome_is (Some outcome.Lost) stuck = refl
outcome_is (Some outcome.Short) stuck = refl
outcome_is None true = refl
outcome_is None false = refl

-- the ending of a game that is followed
ending_is : (fault : Option GameFault) (value result : Ending) → ◌≡◌ {A = Result Ending GameFault} (unless_fault fault value) (Ok result) → value ≡ result
ending_is None value result e = cc
ending_is (Some fault) value result e = absurd cc

pub followed_game_law : FollowedGameLaw
unfolding reported
followed_game_law input result answers =
    let read = followed_ending (ending_of_input input) result answers in
    let has = ending_accepted input result read in
    let problem = has.0 in
    let plan = has.1 in
    let game = has.2 in
    let setup = has.3.problem_is in
    let stands = answer_law problem plan game result setup has.3.game_is.six has.4 in
    let none = no_fault_is problem game (record_of problem game) setup stands.of_game.of_game in
    let spelled : SpellsGame (problem_text problem ++ game_text game) problem game =
    record { problem_is = setup; game_is = has.3.game_is; text = refl } in
    let replayed = ap (λ (fault : Option GameFault). unless_fault fault (report_of problem game)) none in
    let over = outcome_after problem game.opp (record_of problem game) in
    let stuck = is_stuck plan problem.played (start_of problem) (hands_of problem game.opp) (record_of problem game) in
    let same = ending_is (follow_fault problem plan game) (ending_of problem plan game.opp (record_of problem game)) result has.4 in (
      problem,
      plan,
      game,
      has.3,
      reported (problem_text problem ++ game_text game) problem game spelled replayed,
      outcome_is over stuck ∙ ap outcome_with same,
    )
