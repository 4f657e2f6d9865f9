-- How long the first run of games that go on alike is.
use Rattle.std.specs.Prelude.{ℕ, suc, List, [], ◌∷◌, if◌then◌else◌}
use Rattle.crib_problem.specs.Setup.{Setup}
use Rattle.crib_game.specs.declared.section.game.Game.{Game}
use Rattle.crib_why_sheet.specs.WhyRows.{go_on_alike}

-- how many of some games after one go on alike, each like the one before it
abbrev pub more_in_run : Setup → ℕ → Game → List Game → ℕ
more_in_run problem turn game [] = 0
more_in_run problem turn game (other ∷ games) =
    if go_on_alike problem turn game other then suc (more_in_run problem turn other games) else 0

-- how many games the first run of some games has
abbrev pub run_len : Setup → ℕ → List Game → ℕ
run_len problem turn [] = 0
run_len problem turn (game ∷ games) = suc (more_in_run problem turn game games)
