-- A proper beginning of an accepted input is refused as cut short by each job.
use Rattle.std.proofs.Common.{◌≡◌, ℕ, List, ◌∷◌, ◌++◌, Result, Ok, Err, refl, sym, ap, subst}
use Rattle.crib_text.specs.Refusals.{Refusal}
use Rattle.crib_text.specs.Words.{line_after}
use Rattle.crib_text.specs.Reading.{◌>>=◌}
use Rattle.crib_text.proofs.ReadingLemmas.{bind_ok}
use Rattle.crib_text.proofs.SteadyReaders.{missing}
use Rattle.crib_input.specs.Input.{problem_of_input, question_of_input, played_of_input, played_under_of_input}
use Rattle.crib_input.proofs.CutShortInputs.{CutsShort, problem_cut, question_cut, played_cut, played_under_cut}
use Rattle.crib_answer.specs.declared.job.Job.TheVariants.{Replay, Follow, Check, Solve, Board}
use Rattle.crib_run.specs.Reply.{Reply, refusal_reply}
use Rattle.crib_answer.specs.Answer.{AnswersCheck, AnswersSolve, reply_by, report_reply, ending_reply, board_reply}
use Rattle.crib_answer.specs.Input.{board_of_input, ending_of_input, report_of_input}
use Rattle.crib_answer.specs.Laws.{CutShortLaw}

-- a game is judged only where it was read
judged_cut : {A C : Type 0} (read : List ℕ → Result A Refusal) (judge : A → Result C Refusal) → CutsShort read → CutsShort (λ bytes. read bytes >>= judge)
judged_cut read judge cuts front next back value e =
    let a = bind_ok (read (front ++ next ∷ back)) judge value e in
    ap (λ r. r >>= judge) (cuts front next back a.0 a.1)

report_cut : CutsShort report_of_input
unfolding report_of_input
report_cut = judged_cut played_of_input _ played_cut

board_cut : CutsShort board_of_input
unfolding board_of_input
board_cut = judged_cut played_of_input _ played_cut

ending_cut : CutsShort ending_of_input
unfolding ending_of_input
ending_cut = judged_cut played_under_of_input _ played_under_cut

-- what is read has a value, if no refusal is a right reply to it
value_in : {A : Type 0} (Right : Result A Refusal → Reply → Type 0) → ((refusal : Refusal) → Right (Err refusal) (refusal_reply refusal))
    → (read : Result A Refusal) → ((refusal : Refusal) → ¬ Right read (refusal_reply refusal)) → (value : A) × (read ≡ Ok value)
value_in Right refuses (Ok value) accepted = (value, refl)
value_in Right refuses (Err refusal) accepted = absurd (accepted refusal (refuses refusal))

-- a beginning of an input that is accepted is refused as cut short
cut_of : {A : Type 0} (Right : Result A Refusal → Reply → Type 0) → ((refusal : Refusal) → Right (Err refusal) (refusal_reply refusal))
    → (read : List ℕ → Result A Refusal) → CutsShort read → (front : List ℕ) (next : ℕ) (back : List ℕ)
    → ((refusal : Refusal) → ¬ Right (read (front ++ next ∷ back)) (refusal_reply refusal))
    → Right (read front) (refusal_reply (missing (line_after front)))
cut_of Right refuses read cuts front next back accepted =
    let whole = value_in Right refuses (read (front ++ next ∷ back)) accepted in
    subst (λ said. Right said (refusal_reply (missing (line_after front)))) (sym (cuts front next back whole.0 whole.1)) (refuses (missing (line_after front)))

pub cut_short_law : CutShortLaw
cut_short_law Replay = cut_of (λ said reply. reply ≡ reply_by report_reply said) (λ refusal. refl) report_of_input report_cut
cut_short_law Follow = cut_of (λ said reply. reply ≡ reply_by ending_reply said) (λ refusal. refl) ending_of_input ending_cut
cut_short_law Check = cut_of AnswersCheck (λ refusal. refl) question_of_input question_cut
cut_short_law Solve = cut_of AnswersSolve (λ refusal. refl) problem_of_input problem_cut
cut_short_law Board = cut_of (λ said reply. reply ≡ reply_by board_reply said) (λ refusal. refl) board_of_input board_cut
