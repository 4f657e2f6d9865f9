-- A proper beginning of an input from which something is read is refused as cut short.
use Rattle.std.proofs.Common.{◌≡◌, ℕ, ◌≤◌, List, [], ◌∷◌, ◌++◌, length, Result, Ok, Err, refl, ap, ◌∙◌, arith, length-append}
use Rattle.crib_text.specs.Refusals.{Refusal}
use Rattle.crib_text.specs.Words.{line_after}
use Rattle.crib_text.specs.Reading.{◌>>=◌, Rest, all_lines}
use Rattle.crib_text.proofs.ReadingLemmas.{bind_ok}
use Rattle.crib_text.proofs.SteadyReaders.{from_line, missing, text_cut}
use Rattle.crib_text.proofs.Forms.{IsForm}
use Rattle.crib_problem.specs.Reading.{problem_at}
use Rattle.crib_problem.proofs.ProblemForm.{problem_form}
use Rattle.crib_plan.specs.Reading.{plan_at}
use Rattle.crib_plan.proofs.PlanForm.{plan_form}
use Rattle.crib_game.specs.Reading.{game_at}
use Rattle.crib_game.proofs.GameForm.{game_form}
use Rattle.crib_input.specs.Input.{most_bytes, input_lines, problem_alone_at, problem_of_input, question_at, question_of_input}
use Rattle.crib_input.specs.Input.{played_at, played_of_input, played_under_at, played_under_of_input}
use Rattle.crib_input.proofs.Inputs.{IsTaken, pair_of, both, both_form, whole_input, short_input, at_end, problem_taken, question_taken}
use Rattle.crib_input.proofs.GameInputs.{played_taken, played_under_taken}

-- what is read of a beginning is the refusal that it is cut short. The line is that of the first missing byte
abbrev pub IsCutShort : {C : Type 0} → List ℕ → Result C Refusal → Type 0
IsCutShort front read = read ≡ Err (missing (line_after front))

-- each proper beginning of an input from which `read` reads a value is refused as cut short
abbrev pub CutsShort : {C : Type 0} → (List ℕ → Result C Refusal) → Type 0
CutsShort {C = C} read = (front : List ℕ) (next : ℕ) (back : List ℕ) (value : C) → read (front ++ next ∷ back) ≡ Ok value → IsCutShort front (read front)

-- a reader refuses what the reader of its sections refuses
abbrev Refuses : {A C : Type 0} → (Rest → Result A Refusal) → (Rest → Result C Refusal) → Type 0
Refuses sections read = (rest : Rest) (refusal : Refusal) → sections rest ≡ Err refusal → read rest ≡ Err refusal

-- the same where the sections are two, and the reader goes on after the first one
refuses_both : {A B C : Type 0} (first : Rest → Result (A × Rest) Refusal) (second : Rest → Result (B × Rest) Refusal) (go : A × Rest → Result C Refusal)
    (rest : Rest) (refusal : Refusal) → ((a : A × Rest) → second a.1 ≡ Err refusal → go a ≡ Err refusal) → both first second rest ≡ Err refusal
    → (first rest >>= go) ≡ Err refusal
refuses_both {A = A} {B = B} first second go rest refusal later e = by_first (first rest) e
  where
    by_second : (a : A) (r : Result (B × Rest) Refusal) → (r >>= pair_of a) ≡ Err refusal → r ≡ Err refusal
    by_second a (Ok b) e = absurd cc
    by_second a (Err other) e = let same : other ≡ refusal = cc in ap Err same

    by_first : (r : Result (A × Rest) Refusal) → (r >>= λ a. second a.1 >>= pair_of a.0) ≡ Err refusal → (r >>= go) ≡ Err refusal
    by_first (Ok a) e = later a (by_second a.0 (second a.1) e)
    by_first (Err other) e = let same : other ≡ refusal = cc in ap Err same

-- a proper beginning of an input from which a reader of some sections reads a value
cut : {A C : Type 0} {sections : Rest → Result (A × Rest) Refusal} {lines : A → List (List (List ℕ))} {is : A → Type 0} {most : A → ℕ}
    → IsForm sections lines is most → (read : Rest → Result C Refusal)
    → ((rest : Rest) (got : C) → read rest ≡ Ok got → (value : A) × IsTaken sections rest value) → Refuses sections read
    → CutsShort (λ input. input_lines input >>= read)
cut {sections = sections} form read takes refuses front next back got e =
    let a = bind_ok (input_lines (front ++ next ∷ back)) read got e in
    let whole = whole_input (front ++ next ∷ back) a.0 a.1 in
    let all = takes a.0 got a.2 in
    let left = all.1.left in
    let to_end : sections a.0 ≡ Ok (all.0, from_line left.number []) = all.1.taken
    ∙ ap (λ ls. Ok (all.0, from_line left.number ls)) (at_end left all.1.none) in
    let missed = text_cut sections front next back left.number all.0 form.steady (rw whole.lines to_end) in
    let few : length front ≤ most_bytes = omega (arith, length-append front (next ∷ back), whole.few) in
    rw (short_input front few) (by_lines (all_lines front) missed)
  where
    by_lines : (r : Result Rest Refusal) → (r >>= sections) ≡ Err (missing (line_after front)) → (r >>= read) ≡ Err (missing (line_after front))
    by_lines (Ok rest) e = refuses rest (missing (line_after front)) e
    by_lines (Err other) e = let same : other ≡ missing (line_after front) = cc in ap Err same

-- ---- each input

pub problem_cut : CutsShort problem_of_input
unfolding problem_of_input problem_alone_at
problem_cut = cut problem_form problem_alone_at (λ rest problem e. (problem, problem_taken rest problem e)) (λ rest refusal e. rw e refl)

pub question_cut : CutsShort question_of_input
unfolding question_of_input question_at
question_cut =
    cut (both_form problem_form plan_form) question_at (λ rest question e. (question, question_taken rest question e))
    (λ rest refusal. refuses_both problem_at plan_at _ rest refusal (λ problem e. rw e refl))

pub played_cut : CutsShort played_of_input
unfolding played_of_input played_at
played_cut =
    cut (both_form problem_form game_form) played_at (λ rest played e. ((played.0, played.1), played_taken rest played e))
    (λ rest refusal. refuses_both problem_at game_at _ rest refusal (λ problem e. rw e refl))

pub played_under_cut : CutsShort played_under_of_input
unfolding played_under_of_input played_under_at
played_under_cut =
    cut (both_form problem_form (both_form plan_form game_form)) played_under_at
    (λ rest played e. ((played.0, (played.1, played.2)), played_under_taken rest played e))
    (λ rest refusal. refuses_both problem_at (both plan_at game_at) _ rest refusal
    (λ problem. refuses_both plan_at game_at _ problem.1 refusal (λ plan e. rw e refl)))
