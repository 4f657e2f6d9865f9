-- The rows of games that refute every player. Games that read alike are one row, and games that begin alike are a tree.
use Rattle.std.specs.Prelude.{ℕ, zero, suc, ◌+◌, ◌-◌, ◌*◌, Bool, true, false, ◌&&◌, List, [], ◌∷◌, ◌++◌, length, map}
use Rattle.std.specs.Prelude.{drop, flat_map, replicate, slice_get, Option, Some, None, bytes_eq, codes, if◌then◌else◌}
use Rattle.std.specs.Cmp.Lexicographic.{pointwise}
use Rattle.std.specs.List.{list_all, list_any}
use Rattle.crib_cards.specs.declared.moves.Act.{Act}
use Rattle.crib_text.specs.Spelling.{space}
use Rattle.crib_problem.specs.Setup.{Setup}
use Rattle.crib_game.specs.declared.section.game.Game.{Game}
use Rattle.crib_why_sheet.specs.declared.line.Columns.{Columns}
use Rattle.crib_why_sheet.specs.declared.line.WhyLine.{WhyLine}
use Rattle.crib_why_sheet.specs.declared.line.Spread.{Spread}
use Rattle.crib_why_sheet.specs.WhyPlay.{are_alike, held_text, joined, shown_names, spread_of, turn_name, with_turns}

-- ---- groups of games

-- the turns of a game from an index on
abbrev pub turns_from : ℕ → Game → List Act
turns_from turn game = drop turn game.acts.items

-- whether the first of some games and each other one pass a test
abbrev pub all_with_first : (Game → Game → Bool) → List Game → Bool
all_with_first test [] = true
all_with_first test (game ∷ games) = list_all (test game) games

-- whether all turns of two games from an index on are alike
abbrev pub play_alike : Setup → ℕ → Game → Game → Bool
play_alike problem turn game other = pointwise (are_alike problem) (turns_from turn game) (turns_from turn other)

-- whether two turns are alike, or there is neither
abbrev pub are_alike_if_any : Setup → Option Act → Option Act → Bool
are_alike_if_any problem None None = true
are_alike_if_any problem (Some act) (Some other) = are_alike problem act other
are_alike_if_any problem None (Some other) = false
are_alike_if_any problem (Some act) None = false

-- whether two games go on alike at an index
abbrev pub go_on_alike : Setup → ℕ → Game → Game → Bool
go_on_alike problem turn game other =
    are_alike_if_any problem (slice_get game.acts.items turn) (slice_get other.acts.items turn)

-- whether the opponent shows the same ranks in two games from an index on
abbrev pub show_alike : ℕ → Game → Game → Bool
show_alike turn game other = bytes_eq (shown_names (turns_from turn game)) (shown_names (turns_from turn other))

-- whether what the opponent held reads the same in two games
abbrev pub held_alike : Setup → Game → Game → Bool
held_alike problem game other = bytes_eq (held_text problem game) (held_text problem other)

-- a game before the runs of those after it: in the first run if it goes on alike
abbrev pub before_runs : Setup → ℕ → Game → List (List Game) → List (List Game)
before_runs problem turn game [] = (game ∷ []) ∷ []
before_runs problem turn game ([] ∷ runs) = (game ∷ []) ∷ runs
before_runs problem turn game ((other ∷ others) ∷ runs) =
    if go_on_alike problem turn game other then (game ∷ other ∷ others) ∷ runs
    else (game ∷ []) ∷ (other ∷ others) ∷ runs

-- the runs of consecutive games that go on alike at an index
abbrev pub runs_of : Setup → ℕ → List Game → List (List Game)
runs_of problem turn [] = []
runs_of problem turn (game ∷ games) = before_runs problem turn game (runs_of problem turn games)

-- ---- lines

-- the play in a line at a level of the tree: four blanks for each level, the names of turns, and how it ends
abbrev pub play_text : ℕ → List ℕ → List ℕ → List ℕ
play_text level names end = replicate (4 * level) space ++ names ++ end

-- what the opponent held in the first of some games
abbrev pub first_held : Setup → List Game → List ℕ
first_held problem [] = []
first_held problem (game ∷ games) = held_text problem game

-- the columns of a row by the scores of its games, if they have some
abbrev pub columns_by : List ℕ → Option Spread → Option Columns
columns_by held None = None
columns_by held (Some spread) = Some (record { held = record { items = held }; spread = spread })

-- the row of some games
abbrev pub row_line : Setup → List Game → ℕ → List ℕ → WhyLine
row_line problem games level names = record {
  play = record { items = play_text level names [] };
  columns = columns_by (first_held problem games) (spread_of problem games);
}

-- the line before the runs of some games, if it names a turn: `they A, then`
abbrev pub then_line : ℕ → List ℕ → List WhyLine
then_line level [] = []
then_line level (byte ∷ names) =
    record { play = record { items = play_text level (byte ∷ names) (codes ", then") }; columns = None } ∷ []

-- the level of the runs of some games
abbrev pub level_below : ℕ → List ℕ → ℕ
level_below level [] = level
level_below level (byte ∷ names) = level + 1

-- what is common to the games of a row, whatever the owner plays, before the ranks that the opponent shows
abbrev pub whatever_name : List ℕ → List ℕ
whatever_name [] = codes "whatever you play"
whatever_name (byte ∷ names) = codes "then whatever you play"

-- the ranks that the opponent shows, each after a space, if there are some: `, they A 2`
abbrev pub they_show : List ℕ → List ℕ
they_show [] = []
they_show (byte ∷ shown) = codes ", they" ++ byte ∷ shown

-- the names of a row that is the same whatever the owner plays: `they A, then whatever you play, they A 2`
abbrev pub whatever_names : List ℕ → List ℕ → List ℕ
whatever_names names shown = joined names (whatever_name names) ++ they_show shown

-- the turns from an index on of the first of some games
abbrev pub first_turns : ℕ → List Game → List Act
first_turns turn [] = []
first_turns turn (game ∷ games) = turns_from turn game

-- the turn at an index of the first of some games, if there is one
abbrev pub first_turn : ℕ → List Game → Option Act
first_turn turn [] = None
first_turn turn (game ∷ games) = slice_get game.acts.items turn

-- the lines of some games that go on alike at an index, given those of games from the next index on. If they have no
-- turn there, each is a row
abbrev pub next_lines : (List ℕ → List Game → List WhyLine) → Setup → ℕ → List ℕ → List Game → Option Act → List WhyLine
next_lines later problem level names games None = map (λ game. row_line problem (game ∷ []) level names) games
next_lines later problem level names games (Some act) =
    later (joined names (turn_name problem.hold act.side act.what)) games

-- the lines of consecutive games from an index on, with at most so many turns more. Their turns before it are alike,
-- and the names are those that come before on the line, at this level. One row; or else the turn with which all go on
-- and what follows; or else one row whatever the owner plays; or else a line, and below it the lines of each run
unfoldable pub lines_from : ℕ → Setup → ℕ → ℕ → List ℕ → List Game → List WhyLine
lines_from zero problem turn level names games = next_lines (λ names games. []) problem level names games None
lines_from (suc more) problem turn level names games =
    if all_with_first (play_alike problem turn) games && all_with_first (held_alike problem) games
    then row_line problem games level (with_turns problem.hold names (first_turns turn games)) ∷ []
    else if all_with_first (go_on_alike problem turn) games
    then next_lines (lines_from more problem (turn + 1) level) problem level names games (first_turn turn games)
    else if all_with_first (show_alike turn) games && all_with_first (held_alike problem) games
    then row_line problem games level (whatever_names names (shown_names (first_turns turn games))) ∷ []
    else
    then_line level names
    ++ flat_map (λ run. next_lines (lines_from more problem (turn + 1) (level_below level names)) problem
    (level_below level names) [] run (first_turn turn run)) (runs_of problem turn games)

-- the lines of games from the turns after the opening on
abbrev pub lines_of : Setup → List Game → List WhyLine
lines_of problem [] = []
lines_of problem (game ∷ games) =
    lines_from (32 - length problem.played) problem (length problem.played) 0 [] (game ∷ games)

-- whether a game reads like another one: all turns after the opening are alike, and so is what the opponent held
abbrev pub reads_like : Setup → Game → Game → Bool
reads_like problem game other = play_alike problem (length problem.played) game other && held_alike problem game other

-- some games, and behind them those of others that read like none before them
abbrev pub with_different : Setup → List Game → List Game → List Game
with_different problem kept [] = kept
with_different problem kept (game ∷ games) =
    with_different problem (if list_any (reads_like problem game) kept then kept else kept ++ game ∷ []) games

-- the lines of games that refute every player, without those that read like an earlier one
abbrev pub why_lines : Setup → List Game → List WhyLine
why_lines problem games = lines_of problem (with_different problem [] games)
