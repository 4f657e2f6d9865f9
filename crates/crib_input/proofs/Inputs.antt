-- An accepted input spells what was read of it, and an input that spells a problem, or a problem and a plan, is accepted.
use Rattle.std.proofs.Common.{◌≡◌, ℕ, ◌+◌, ◌<◌, ◌≤◌, List, [], ◌∷◌, ◌++◌, length, map, flat_map, Result, Ok, Err, IsOk}
use Rattle.std.proofs.Common.{refl, sym, ap, ◌∙◌, inl, inr, arith}
use Rattle.std.proofs.lemmas.Bool.{cases_Bool, le-leb, leb-true, lt-leb}
use Rattle.std.proofs.lemmas.Grind.{flat_map-append}
use Rattle.std.proofs.lemmas.List.{append-nil}
use Rattle.std.proofs.lemmas.List.Folds.{flat_map-map}
use Rattle.std.specs.Prelude.{nat_le}
use Rattle.crib_text.specs.Refusals.{Refusal, too_long}
use Rattle.crib_text.specs.Spelling.{line_text, line_bytes, lines_text}
use Rattle.crib_text.specs.Reading.{◌>>=◌, Rest, text_check, all_lines, end_at, no_line}
use Rattle.crib_text.specs.Laws.{ended_line}
use Rattle.crib_text.proofs.ByteLemmas.{checked_ended}
use Rattle.crib_text.proofs.LineLaws.{lines_law}
use Rattle.crib_text.proofs.SpellingLemmas.{all_lines-lines_text}
use Rattle.crib_text.proofs.ReadingLemmas.{bind_ok, ok_is}
use Rattle.crib_text.proofs.SteadyReaders.{from_line}
use Rattle.crib_text.proofs.Forms.{IsForm, none_form, then_form, form_as}
use Rattle.crib_text.proofs.FormLaws.{form_read}
use Rattle.crib_problem.specs.Setup.{Setup}
use Rattle.crib_problem.specs.Spelling.{problem_lines, problem_text}
use Rattle.crib_problem.specs.Reading.{problem_at}
use Rattle.crib_problem.proofs.ProblemForm.{problem_form}
use Rattle.crib_plan.specs.declared.plan.Node.{Node}
use Rattle.crib_plan.specs.Spelling.{plan_lines, plan_text}
use Rattle.crib_plan.specs.Reading.{count_at, plan_at}
use Rattle.crib_plan.proofs.PlanForm.{plan_form}
use Rattle.crib_input.specs.Input.{most_bytes, input_lines, problem_alone_at, problem_of_input, question_at, question_of_input}
use Rattle.crib_input.specs.Memory.{count_behind, count_of_input}
use Rattle.crib_input.specs.Spelled.{SpellsProblem, SpellsPlan}

-- ---- the text as a whole

-- an input whose lines are read is not too long, and its text is not refused
pub record IsWhole (input : List ℕ) (rest : Rest) : Type 0 where
  pub few : length input ≤ most_bytes
  pub lines : all_lines input ≡ Ok rest

pub whole_input : (input : List ℕ) (rest : Rest) → input_lines input ≡ Ok rest → IsWhole input rest
unfolding input_lines
whole_input input rest e =
    elim (cases_Bool (nat_le (length input) most_bytes)) [
      | inl is ↦ record { few = leb-true (length input) most_bytes is; lines = rw is at e }
      | inr is ↦ absurd (cc (rw is at e))
    ]

pub short_input : (input : List ℕ) → length input ≤ most_bytes → input_lines input ≡ all_lines input
unfolding input_lines
short_input input few = rw (le-leb (length input) most_bytes few) refl

-- the lines of an input, each with its LF, make the input
input_taken : (input : List ℕ) (rest : Rest) → input_lines input ≡ Ok rest → flat_map ended_line rest.lines ≡ input
unfolding all_lines
input_taken input rest e =
    let a = bind_ok (text_check input) _ rest (whole_input input rest e).lines in
    ap (λ (r : Rest). flat_map ended_line r.lines) (sym (ok_is _ rest a.2)) ∙ lines_law input (checked_ended input a.1)

pub at_end : (rest : Rest) → end_at rest ≡ Ok tt → rest.lines ≡ []
unfolding end_at no_line
at_end rest e = none_left rest.lines e
  where
    none_left : (lines : List (List ℕ)) → no_line rest.number lines ≡ Ok tt → lines ≡ []
    none_left [] e = refl
    none_left (line ∷ lines) e = absurd cc

nothing_left : (number : ℕ) → end_at (from_line number []) ≡ Ok tt
unfolding end_at no_line
nothing_left number = refl

-- ---- an input that a form reads

-- lines are read as a value, and none is left
pub record IsTaken {A : Type 0} (read : Rest → Result (A × Rest) Refusal) (rest : Rest) (value : A) : Type 0 where
  pub left : Rest
  pub taken : read rest ≡ Ok (value, left)
  pub none : end_at left ≡ Ok tt

module _ {A : Type 0} {read : Rest → Result (A × Rest) Refusal} {lines : A → List (List (List ℕ))} {is : A → Type 0} {most : A → ℕ}
    (form : IsForm read lines is most) where
  -- if a value is read, the input spells it
  pub input_spells : (input : List ℕ) (rest : Rest) (value : A) → input_lines input ≡ Ok rest → IsTaken read rest value → is value ×
      (input ≡ lines_text (lines value))
  input_spells input rest value e all =
      let found = form.found rest value all.left all.taken in
      let whole : rest.lines ≡ map line_bytes (lines value) = found.1 ∙ ap (λ ls. map line_bytes (lines value) ++ ls) (at_end all.left all.none)
      ∙ append-nil (map line_bytes (lines value)) in
      (found.0, sym (input_taken input rest e) ∙ ap (flat_map ended_line) whole ∙ flat_map-map ended_line line_bytes (lines value))

  -- if an input spells a value and is not too long, the value is read
  pub input_read : (input : List ℕ) (value : A) → is value → most value ≤ most_bytes → input ≡ lines_text (lines value)
      → (rest : Rest) × (input_lines input ≡ Ok rest) × IsTaken read rest value
  input_read input value is within same =
      let few : length input ≤ most_bytes = omega (arith, ap length same, form.short value is) in
      let whole = from_line 1 (map line_bytes (lines value)) in (
        whole,
        short_input input few ∙ ap all_lines same ∙ all_lines-lines_text (lines value) (form.full value is),
        record {
          left = from_line (1 + length (lines value)) [];
          taken = form_read form value whole [] is (sym (append-nil (map line_bytes (lines value))));
          none = nothing_left (1 + length (lines value));
        },
      )

abbrev pub pair_of : {A B : Type 0} → A → B × Rest → Result ((A × B) × Rest) Refusal
pair_of a b = Ok ((a, b.0), b.1)

-- one section, and then another
abbrev pub both : {A B : Type 0} → (Rest → Result (A × Rest) Refusal) → (Rest → Result (B × Rest) Refusal) → Rest → Result ((A × B) × Rest) Refusal
both first second rest = first rest >>= λ a. second a.1 >>= pair_of a.0

pub both_read : {A B : Type 0} (first : Rest → Result (A × Rest) Refusal) (second : Rest → Result (B × Rest) Refusal)
    (rest : Rest) (a : A × Rest) (b : B × Rest) → first rest ≡ Ok a → second a.1 ≡ Ok b → both first second rest ≡ Ok ((a.0, b.0), b.1)
both_read first second rest a b e f = rw (e, f) refl

pub both_parts : {A B : Type 0} (first : Rest → Result (A × Rest) Refusal) (second : Rest → Result (B × Rest) Refusal) (rest left : Rest) (a : A) (b : B)
    → both first second rest ≡ Ok ((a, b), left) → (after : Rest) × (first rest ≡ Ok (a, after)) × (second after ≡ Ok (b, left))
both_parts {A = A} {B = B} first second rest left a b e =
    let p = bind_ok (first rest) _ ((a, b), left) e in
    let q = bind_ok (second p.0.1) _ ((a, b), left) p.2 in
    let same = ok_is ((p.0.0, q.0.0), q.0.1) ((a, b), left) q.2 in
    (p.0.1, p.1 ∙ ap (λ (w : (A × B) × Rest). Ok (w.0.0, p.0.1)) same, q.1 ∙ ap (λ (w : (A × B) × Rest). Ok (w.0.1, w.1)) same)

pub both_form : {A B : Type 0} {read : Rest → Result (A × Rest) Refusal} {lines : A → List (List (List ℕ))} {is : A → Type 0} {most : A → ℕ}
    {read_more : Rest → Result (B × Rest) Refusal} {more : B → List (List (List ℕ))} {are : B → Type 0} {most_more : B → ℕ}
    → IsForm read lines is most → IsForm read_more more are most_more
    → IsForm (both read read_more) (λ v. lines v.0 ++ more v.1) (λ v. is v.0 × are v.1) (λ v. most v.0 + most_more v.1)
both_form {A = A} {B = B} {lines = lines} {more = more} first second =
    form_as
    (then_form _ (λ (v : A × B). v.0) first
    (λ a. then_form _ (λ (v : A × B). v.1) second (λ b. none_form (a, b)) (λ b v is same. ap (λ (w : A × B). w.1) same))
    (λ a v is are. ap (λ (w : A × B). w.0) are.1))
    (λ v is. (is.0, is.1.0)) (λ v is. (is.0, (is.1, refl))) (λ v is. ap (λ ls. lines v.0 ++ ls) (append-nil (more v.1))) (λ v is. omega arith)

-- ---- a problem

pub problem_taken : (rest : Rest) (problem : Setup) → problem_alone_at rest ≡ Ok problem → IsTaken problem_at rest problem
unfolding problem_alone_at
problem_taken rest problem e =
    let a = bind_ok (problem_at rest) _ problem e in
    let b = bind_ok (end_at a.0.1) _ problem a.2 in
    record { left = a.0.1; taken = a.1 ∙ ap (λ p. Ok (p, a.0.1)) (ok_is a.0.0 problem b.2); none = b.1 }

-- if `solve` reads a problem in an input, the input spells this problem
pub problem_accepted : (input : List ℕ) (problem : Setup) → problem_of_input input ≡ Ok problem → SpellsProblem input problem
unfolding problem_of_input problem_text
problem_accepted input problem e =
    let a = bind_ok (input_lines input) problem_alone_at problem e in
    let said = input_spells problem_form input a.0 problem a.1 (problem_taken a.0 problem a.2) in
    record { problem_is = said.0; text = said.1 }

-- if an input spells a problem, `solve` reads it
pub problem_spelled : (input : List ℕ) (problem : Setup) → SpellsProblem input problem → problem_of_input input ≡ Ok problem
unfolding problem_of_input problem_alone_at problem_text
problem_spelled input problem spelled =
    let are = input_read problem_form input problem spelled.problem_is (omega arith) spelled.text in
    rw (are.1, are.2.taken, are.2.none) refl

-- ---- a problem and a plan

pub question_taken : (rest : Rest) (question : Setup × List Node) → question_at rest ≡ Ok question → IsTaken (both problem_at plan_at) rest question
unfolding question_at
question_taken rest question e =
    let a = bind_ok (problem_at rest) _ question e in
    let b = bind_ok (plan_at a.0.1) _ question a.2 in
    let d = bind_ok (end_at b.0.1) _ question b.2 in
    record { left = b.0.1; taken = both_read problem_at plan_at rest a.0 b.0 a.1 b.1 ∙ ap (λ q. Ok (q, b.0.1)) (ok_is _ question d.2); none = d.1 }

-- if `check` reads a problem and a plan in an input, the input spells them
pub question_accepted : (input : List ℕ) (question : Setup × List Node) → question_of_input input ≡ Ok question → SpellsPlan input question.0 question.1
unfolding question_of_input problem_text plan_text
question_accepted input question e =
    let a = bind_ok (input_lines input) question_at question e in
    let said = input_spells (both_form problem_form plan_form) input a.0 question a.1 (question_taken a.0 question a.2) in
    let text = flat_map-append line_text (problem_lines question.0) (plan_lines question.1) in
    record { problem_is = said.0.0; plan_is = said.0.1; text = said.1 ∙ text }

-- if an input spells a problem and a plan, `check` reads them
pub question_spelled : (input : List ℕ) (problem : Setup) (plan : List Node) → SpellsPlan input problem plan
    → question_of_input input ≡ Ok (problem, plan)
unfolding question_of_input question_at problem_text plan_text
question_spelled input problem plan spelled =
    let text = flat_map-append line_text (problem_lines problem) (plan_lines plan) in
    let are = input_read (both_form problem_form plan_form) input (problem, plan) (spelled.problem_is, spelled.plan_is) (omega (arith, spelled.plan_is.0))
    (spelled.text ∙ sym text) in
    let parts = both_parts problem_at plan_at are.0 are.2.left problem plan are.2.taken in
    rw (are.1, parts.1, parts.2, are.2.none) refl

-- ---- an input that is too long, and the number of nodes

pub read_of_long : {A : Type 0} (read : Rest → Result A Refusal) (input : List ℕ) → most_bytes < length input
    → (input_lines input >>= read) ≡ Err (record { line = 0; number = too_long })
unfolding input_lines
read_of_long read input long = rw (lt-leb (length input) most_bytes long) refl

-- if a problem and a plan are read, the number of nodes is read
pub counted : (input : List ℕ) (question : Setup × List Node) → question_of_input input ≡ Ok question → IsOk (count_of_input input)
unfolding question_of_input question_at plan_at count_of_input count_behind
counted input question asked =
    let a = bind_ok (input_lines input) _ question asked in
    let b = bind_ok (problem_at a.0) _ question a.2 in
    let d = bind_ok (plan_at b.0.1) _ question b.2 in
    let k = bind_ok (count_at b.0.1) _ d.0 d.1 in
    rw (a.1, b.1, k.1) refl
