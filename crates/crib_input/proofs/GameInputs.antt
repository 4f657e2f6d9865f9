-- An accepted input with a game spells what was read of it, and an input that spells a game is read so.
use Rattle.std.proofs.Common.{◌≡◌, ℕ, List, ◌++◌, Ok, refl, sym, ap, ◌∙◌, append_assoc, arith}
use Rattle.std.proofs.lemmas.Grind.{flat_map-append}
use Rattle.crib_text.specs.Spelling.{line_text, lines_text}
use Rattle.crib_text.specs.Reading.{Rest, end_at}
use Rattle.crib_text.proofs.ReadingLemmas.{bind_ok, ok_is}
use Rattle.crib_problem.specs.Setup.{Setup}
use Rattle.crib_problem.specs.Spelling.{problem_lines, problem_text}
use Rattle.crib_problem.specs.Reading.{problem_at}
use Rattle.crib_problem.proofs.ProblemForm.{problem_form}
use Rattle.crib_plan.specs.declared.plan.Node.{Node}
use Rattle.crib_plan.specs.Spelling.{plan_lines, plan_text}
use Rattle.crib_plan.specs.Reading.{plan_at}
use Rattle.crib_plan.proofs.PlanForm.{plan_form}
use Rattle.crib_game.specs.declared.section.game.Game.{Game}
use Rattle.crib_game.specs.Spelling.{game_lines, game_text}
use Rattle.crib_game.specs.Reading.{game_at}
use Rattle.crib_game.proofs.GameForm.{game_form}
use Rattle.crib_input.specs.Input.{input_lines, played_at, played_of_input, played_under_at, played_under_of_input}
use Rattle.crib_input.specs.Spelled.{SpellsGame, SpellsPlannedGame}
use Rattle.crib_input.proofs.Inputs.{IsTaken, input_spells, input_read, both, both_read, both_parts, both_form}

-- ---- a problem and a game

pub played_taken : (rest : Rest) (played : Setup × Game × ℕ) → played_at rest ≡ Ok played → IsTaken (both problem_at game_at) rest (played.0, played.1)
unfolding played_at
played_taken rest played e =
    let a = bind_ok (problem_at rest) _ played e in
    let b = bind_ok (game_at a.0.1) _ played a.2 in
    let d = bind_ok (end_at b.0.1) _ played b.2 in
    let same = ok_is (a.0.0, b.0.0, a.0.1.number) played d.2 in
    record { left = b.0.1; taken = both_read problem_at game_at rest a.0 b.0 a.1 b.1 ∙ ap (λ (p : Setup × Game × ℕ). Ok ((p.0, p.1), b.0.1)) same; none = d.1 }

-- if a problem and a game are read, the input spells them
pub played_accepted : (input : List ℕ) (played : Setup × Game × ℕ) → played_of_input input ≡ Ok played → SpellsGame input played.0 played.1
unfolding played_of_input problem_text game_text
played_accepted input played e =
    let a = bind_ok (input_lines input) played_at played e in
    let said = input_spells (both_form problem_form game_form) input a.0 (played.0, played.1) a.1 (played_taken a.0 played a.2) in
    let text = flat_map-append line_text (problem_lines played.0) (game_lines played.1) in
    record { problem_is = said.0.0; game_is = said.0.1; text = said.1 ∙ text }

-- if an input spells a problem and a game, they are read
pub played_spelled : (input : List ℕ) (problem : Setup) (game : Game) → SpellsGame input problem game
    → (first : ℕ) × (played_of_input input ≡ Ok (problem, game, first))
unfolding played_of_input played_at problem_text game_text
played_spelled input problem game spelled =
    let text = flat_map-append line_text (problem_lines problem) (game_lines game) in
    let are = input_read (both_form problem_form game_form) input (problem, game) (spelled.problem_is, spelled.game_is) (omega arith)
    (spelled.text ∙ sym text) in
    let parts = both_parts problem_at game_at are.0 are.2.left problem game are.2.taken in
    (parts.0.number, rw (are.1, parts.1, parts.2, are.2.none) refl)

-- ---- a problem, a plan and a game

pub played_under_taken : (rest : Rest) (played : Setup × List Node × Game × ℕ) → played_under_at rest ≡ Ok played
    → IsTaken (both problem_at (both plan_at game_at)) rest (played.0, (played.1, played.2))
unfolding played_under_at
played_under_taken rest played e =
    let a = bind_ok (problem_at rest) _ played e in
    let b = bind_ok (plan_at a.0.1) _ played a.2 in
    let d = bind_ok (game_at b.0.1) _ played b.2 in
    let f = bind_ok (end_at d.0.1) _ played d.2 in
    let same = ok_is (a.0.0, b.0.0, d.0.0, b.0.1.number) played f.2 in
    let taken = both_read problem_at (both plan_at game_at) rest a.0 ((b.0.0, d.0.0), d.0.1) a.1 (both_read plan_at game_at a.0.1 b.0 d.0 b.1 d.1) in
    record { left = d.0.1; taken = taken ∙ ap (λ (p : Setup × List Node × Game × ℕ). Ok ((p.0, (p.1, p.2)), d.0.1)) same; none = f.1 }

texts_joined : (problem : Setup) (plan : List Node) (game : Game)
    → lines_text (problem_lines problem ++ (plan_lines plan ++ game_lines game)) ≡ (problem_text problem ++ plan_text plan) ++ game_text game
unfolding problem_text plan_text game_text
texts_joined problem plan game = simp (flat_map-append, append_assoc)

-- if a problem, a plan and a game are read, the input spells them
pub played_under_accepted : (input : List ℕ) (played : Setup × List Node × Game × ℕ) → played_under_of_input input ≡ Ok played
    → SpellsPlannedGame input played.0 played.1 played.2
unfolding played_under_of_input problem_text plan_text game_text
played_under_accepted input played e =
    let a = bind_ok (input_lines input) played_under_at played e in
    let form = both_form problem_form (both_form plan_form game_form) in
    let said = input_spells form input a.0 (played.0, (played.1, played.2)) a.1 (played_under_taken a.0 played a.2) in
    let text = texts_joined played.0 played.1 played.2 in
    record { problem_is = said.0.0; plan_is = said.0.1.0; game_is = said.0.1.1; text = said.1 ∙ text }

-- if an input spells a problem, a plan and a game, they are read
pub played_under_spelled : (input : List ℕ) (problem : Setup) (plan : List Node) (game : Game) → SpellsPlannedGame input problem plan game
    → (first : ℕ) × (played_under_of_input input ≡ Ok (problem, plan, game, first))
unfolding played_under_of_input played_under_at problem_text plan_text game_text
played_under_spelled input problem plan game spelled =
    let form = both_form problem_form (both_form plan_form game_form) in
    let are = input_read form input (problem, (plan, game)) (spelled.problem_is, (spelled.plan_is, spelled.game_is)) (omega (arith, spelled.plan_is.0))
    (spelled.text ∙ sym (texts_joined problem plan game)) in
    let parts = both_parts problem_at (both plan_at game_at) are.0 are.2.left problem (plan, game) are.2.taken in
    let more = both_parts plan_at game_at parts.0 are.2.left plan game parts.2 in
    (more.0.number, rw (are.1, parts.1, more.1, more.2, are.2.none) (refl {a = Ok (problem, plan, game, more.0.number)}))
