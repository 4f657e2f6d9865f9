-- The text of the rows of games that refute every player, with columns one below the other.
use Rattle.std.specs.Prelude.{ℕ, ◌==◌, max, List, [], ◌∷◌, ◌++◌, length, flat_map, Option, Some, None, codes, decimal}
use Rattle.std.specs.Prelude.{if◌then◌else◌}
use Rattle.crib_board.specs.Board.{left_in}
use Rattle.crib_why_sheet.specs.declared.line.Columns.{Columns}
use Rattle.crib_why_sheet.specs.declared.line.WhyLine.{WhyLine}
use Rattle.crib_why_sheet.specs.declared.line.Spread.{Spread}

-- the length of a play, if it has columns
abbrev pub play_width : List ℕ → Option Columns → ℕ
play_width play None = 0
play_width play (Some columns) = length play

-- the length of what was held, if there are columns
abbrev pub held_width : Option Columns → ℕ
held_width None = 0
held_width (Some columns) = length columns.held.items

-- the length of the longest play in lines that have columns
abbrev pub widest_play : List WhyLine → ℕ
widest_play [] = 0
widest_play (line ∷ lines) = max (play_width line.play.items line.columns) (widest_play lines)

-- the length of the longest text of what was held
abbrev pub widest_held : List WhyLine → ℕ
widest_held [] = 0
widest_held (line ∷ lines) = max (held_width line.columns) (widest_held lines)

-- a score, or the least and the most: `104-106`
abbrev pub range_text : ℕ → ℕ → List ℕ
range_text least most = if least == most then decimal least else decimal least ++ codes "-" ++ decimal most

-- both scores, the owner's first
unfoldable pub spread_text : Spread → List ℕ
spread_text spread =
    range_text spread.least.owner spread.most.owner ++ codes " "
    ++ range_text spread.least.opponent spread.most.opponent

-- a play with its columns. The first is four spaces after the longest play, with the one before its first card
unfoldable pub columns_text : ℕ → ℕ → List ℕ → Option Columns → List ℕ
columns_text plays helds play None = play
columns_text plays helds play (Some columns) =
    left_in plays play ++ codes "   " ++ left_in helds columns.held.items ++ codes "    " ++ spread_text columns.spread

-- a line, with columns of these widths
unfoldable pub line_text : ℕ → ℕ → WhyLine → List ℕ
line_text plays helds line = columns_text plays helds line.play.items line.columns ++ codes "\n"

-- what the lines show
abbrev pub heading : List ℕ
heading =
    codes "No player can be sure, whatever they look at. Whatever you play, some hand and\n"
    ++ codes "some play of theirs beat it:\n\n"

-- how to read them
abbrev pub legend : List ℕ
legend =
    codes "\nEach row is a play to its end, what they held (and threw, if the crib counts),\n"
    ++ codes "and the scores, yours first.\n"

-- the lines of games that refute every player, after what they show, and how to read them
unfoldable pub lines_text : List WhyLine → List ℕ
lines_text lines = heading ++ flat_map (line_text (widest_play lines) (widest_held lines)) lines ++ legend
