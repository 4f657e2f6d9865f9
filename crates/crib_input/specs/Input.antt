-- What the bytes of an input are read as, or the first refusal. The text as a whole comes first, then its sections in
-- their order, and then the end of the text.
use Rattle.std.specs.Prelude.{ℕ, ◌^◌, nat_le, List, length, Result, Ok, Err, if◌then◌else◌}
use Rattle.crib_text.specs.Refusals.{Refusal, too_long}
use Rattle.crib_text.specs.Reading.{◌>>=◌, Rest, all_lines, end_at}
use Rattle.crib_problem.specs.Reading.{problem_at}
use Rattle.crib_problem.specs.Setup.{Setup}
use Rattle.crib_plan.specs.declared.plan.Node.{Node}
use Rattle.crib_plan.specs.Reading.{plan_at}
use Rattle.crib_game.specs.declared.section.game.Game.{Game}
use Rattle.crib_game.specs.Reading.{game_at}

-- the most bytes that an input may have
abbrev pub most_bytes : ℕ
most_bytes = 2 ^ 23

-- the lines of an input, or the refusal of its text. An input that is too long is refused with line 0, whatever its
-- bytes are
unfoldable pub input_lines : List ℕ → Result Rest Refusal
input_lines bytes =
    if nat_le (length bytes) most_bytes then all_lines bytes else Err (record { line = 0; number = too_long })

-- the problem that the lines spell, or the first refusal. No line may be left
unfoldable pub problem_alone_at : Rest → Result Setup Refusal
problem_alone_at rest = do
  problem ← problem_at rest
  _ ← end_at problem.1
  Ok problem.0

-- the problem of an input, or the first refusal
unfoldable pub problem_of_input : List ℕ → Result Setup Refusal
problem_of_input bytes = input_lines bytes >>= problem_alone_at

-- the problem and the plan that the lines spell, or the first refusal. No line may be left
unfoldable pub question_at : Rest → Result (Setup × List Node) Refusal
question_at rest = do
  problem ← problem_at rest
  plan ← plan_at problem.1
  _ ← end_at plan.1
  Ok (problem.0, plan.0)

-- the problem and the plan of an input, or the first refusal
unfoldable pub question_of_input : List ℕ → Result (Setup × List Node) Refusal
question_of_input bytes = input_lines bytes >>= question_at

-- the problem and the game that the lines spell, and the line at which the section of the game begins, or the first
-- refusal. No line may be left
unfoldable pub played_at : Rest → Result (Setup × Game × ℕ) Refusal
played_at rest = do
  problem ← problem_at rest
  game ← game_at problem.1
  _ ← end_at game.1
  Ok (problem.0, game.0, problem.1.number)

-- the problem and the game of an input, and the line at which the section of the game begins, or the first refusal
unfoldable pub played_of_input : List ℕ → Result (Setup × Game × ℕ) Refusal
played_of_input bytes = input_lines bytes >>= played_at

-- the problem, the plan and the game that the lines spell, and the line at which the section of the game begins, or the
-- first refusal. No line may be left
unfoldable pub played_under_at : Rest → Result (Setup × List Node × Game × ℕ) Refusal
played_under_at rest = do
  problem ← problem_at rest
  plan ← plan_at problem.1
  game ← game_at plan.1
  _ ← end_at game.1
  Ok (problem.0, plan.0, game.0, plan.1.number)

-- the problem, the plan and the game of an input, and the line at which the section of the game begins, or the first
-- refusal
unfoldable pub played_under_of_input : List ℕ → Result (Setup × List Node × Game × ℕ) Refusal
played_under_of_input bytes = input_lines bytes >>= played_under_at
