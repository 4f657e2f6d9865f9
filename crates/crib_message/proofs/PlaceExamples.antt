-- Worked examples of the spots of lines.
use Rattle.std.proofs.Common.{arith, ◌≡◌, ◌∙◌, refl, sym, ap, ℕ, List, [], ◌∷◌, ◌++◌, codes, map}
use Rattle.std.specs.Prelude.{slice_index}
use Rattle.std.specs.Fmt.{digits}
use Rattle.crib_text.specs.Words.{lines_of, number_read, words_of}
use Rattle.crib_input.specs.declared.sections.Sections.{Sections}
use Rattle.crib_input.specs.declared.sections.Sections.TheVariants as inputs
use Rattle.crib_message.specs.declared.scene.Spot.{Spot}
use Rattle.crib_message.specs.declared.scene.Section.{Section}
use Rattle.crib_message.specs.declared.scene.Section.TheVariants.{Problem, Plan, Game, Turns, After}
use Rattle.crib_message.specs.Message.{IsRefusalMessage}
use Rattle.crib_message.specs.Place.{announced, first_lines, lines_behind, spot_behind, spot_in}

-- a problem of seven lines, a plan of one node, and a game of two acts
abbrev planned_game : List ℕ
planned_game =
    codes "problem 1\ndealer owner\nscore 0 0\nstarter 5C\nhold 2C 3C 4C 6C\nthrow 7C 8C\ngoal win\nplan 1\nnodes 1\n0 play 2C end\n"
    ++ codes "game 1\nhold 9C 9D 9H 9S\nthrow TC TD\nacts 2\nopp 9C\nown 2C\n"

-- a problem with an opening of one turn, a plan with no node, and one turn since
abbrev turn_since : List ℕ
turn_since =
    codes "problem 2\ndealer owner\nscore 0 0\nstarter 5C\nhold 2C 3C 4C 6C\nthrow 7C 8C\ngoal win\nplayed 1\nopp 9C\nplan 1\nnodes 0\n"
    ++ codes "turns 1\nown 2C\n"

-- a goal announces nothing, nor does a line that the input doesn't have
announced_lines : map (announced planned_game) (9 ∷ 14 ∷ 7 ∷ 10 ∷ 99 ∷ []) ≡ 1 ∷ 2 ∷ 0 ∷ 0 ∷ 0 ∷ []
unfolding digits lines_of words_of number_read
announced_lines = refl

first_lines_of_sections : first_lines turn_since Problem ∷ map (first_lines planned_game) (Problem ∷ Plan ∷ Game ∷ Turns ∷ After ∷ [])
    ≡ 8 ∷ 7 ∷ 2 ∷ 4 ∷ 1 ∷ 0 ∷ []
unfolding lines_of
first_lines_of_sections = refl

lines_of_sections : lines_behind turn_since 0 Problem ∷ lines_behind planned_game 0 Problem ∷ lines_behind planned_game 7 Plan
    ∷ lines_behind planned_game 10 Game ∷ lines_behind turn_since 11 Turns ∷ [] ≡ 9 ∷ 7 ∷ 3 ∷ 6 ∷ 2 ∷ []
unfolding digits lines_of words_of number_read
lines_of_sections = refl

abbrev at : Section → ℕ → Spot
at section number = record { section = section; number = number }

spots_of_a_planned_game : map (spot_in inputs.PlayedUnder planned_game) (7 ∷ 8 ∷ 10 ∷ 11 ∷ 16 ∷ 17 ∷ [])
    ≡ at Problem 7 ∷ at Plan 1 ∷ at Plan 3 ∷ at Game 1 ∷ at Game 6 ∷ at After 1 ∷ []
unfolding digits lines_of words_of number_read spot_behind
spots_of_a_planned_game = refl

spots_of_a_turn_since : map (spot_in inputs.Turns turn_since) (9 ∷ 10 ∷ 11 ∷ 12 ∷ 13 ∷ 14 ∷ [])
    ≡ at Problem 9 ∷ at Plan 1 ∷ at Plan 2 ∷ at Turns 1 ∷ at Turns 2 ∷ at After 1 ∷ []
unfolding digits lines_of words_of number_read spot_behind
spots_of_a_turn_since = refl

-- of one line, by what the command reads
spots_of_line_8 : map (λ sections. spot_in sections planned_game 8) (inputs.Problem ∷ inputs.Question ∷ inputs.Played ∷ inputs.Turns ∷ [])
    ≡ at After 1 ∷ at Plan 1 ∷ at Game 1 ∷ at Plan 1 ∷ []
unfolding digits lines_of words_of number_read spot_behind
spots_of_line_8 = refl

-- a message begins with these bytes
abbrev Begins : List ℕ → Sections → ℕ → List ℕ → Type 0
Begins text sections line words = (rest : List ℕ) × IsRefusalMessage (codes "cribplan") sections planned_game (record { line = line; number = 4 }) text
    × (text ≡ words ++ rest)

-- line 10 is the third one of the plan, and not the fourth, nor one of the game, nor without a place
the_next_number : (text : List ℕ) → Begins text inputs.Question 10 (codes "cribplan: line 10, line 4 of the plan: ") → ⊥
unfolding digits lines_of words_of number_read spot_behind
the_next_number text (rest, is, e) = (let byte : 52 ≡ 51 = ap (λ bytes. slice_index bytes 24) (sym e ∙ is.is) in absurd (omega (arith, byte)))

another_section : (text : List ℕ) → Begins text inputs.Question 10 (codes "cribplan: line 10, line 3 of the game: ") → ⊥
unfolding digits lines_of words_of number_read spot_behind
another_section text (rest, is, e) = (let byte : 103 ≡ 112 = ap (λ bytes. slice_index bytes 33) (sym e ∙ is.is) in absurd (omega (arith, byte)))

no_place : (text : List ℕ) → Begins text inputs.Question 10 (codes "cribplan: line 10: ") → ⊥
unfolding digits lines_of words_of number_read spot_behind
no_place text (rest, is, e) = (let byte : 58 ≡ 44 = ap (λ bytes. slice_index bytes 17) (sym e ∙ is.is) in absurd (omega (arith, byte)))
