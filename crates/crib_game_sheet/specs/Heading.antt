-- The heading of a sheet: the problem in words.
use Rattle.std.specs.Prelude.{ℕ, ◌==◌, List, [], ◌++◌, length, codes, decimal, if◌then◌else◌}
use Rattle.crib_cards.specs.declared.sides.Side.{Side}
use Rattle.crib_cards.specs.declared.sides.Side.TheVariants.{Owner, Opponent}
use Rattle.crib_problem.specs.declared.problem.Goal.{Goal}
use Rattle.crib_problem.specs.declared.problem.Goal.TheVariants.{Win, Holes, Stop}
use Rattle.crib_problem.specs.Setup.{Setup}
use Rattle.crib_run.specs.Pieces.{other_score, role_word, spaced_card, spaced_cards}

-- the line of both scores at the first lead, and of the starter
unfoldable pub scores_line : Setup → List ℕ
scores_line problem =
    codes "You are the " ++ role_word problem.dealer Owner ++ codes " at " ++ decimal problem.scores.owner
    ++ other_score problem.dealer problem.scores.opponent ++ codes ". The starter is" ++ spaced_card problem.starter
    ++ codes ".\n"

-- the line of the owner's cards
unfoldable pub own_line : Setup → List ℕ
own_line problem =
    codes "You hold" ++ spaced_cards problem.hold ++ codes " and threw" ++ spaced_cards problem.thrown ++ codes ".\n"

-- how many of something there are, in words: `1 hole` or `2 holes`
abbrev pub how_many : ℕ → List ℕ → List ℕ
how_many number word = decimal number ++ codes " " ++ word ++ (if number == 1 then [] else codes "s")

-- what the owner wants of a deal of this dealer
abbrev pub goal_words : Side → Goal → List ℕ
goal_words dealer Win = codes "to win"
goal_words dealer (Holes holes) = how_many holes (codes "hole") ++ codes " or more in this deal"
goal_words dealer Stop = codes "to keep the " ++ role_word dealer Opponent ++ codes " from winning in this deal"

-- the line of the goal
unfoldable pub goal_line : Side → Goal → List ℕ
goal_line dealer goal = codes "You want " ++ goal_words dealer goal ++ codes ".\n"

-- the line of an opening with this many turns. An opening without a turn has none
unfoldable pub opening_line : ℕ → List ℕ
opening_line turns =
    if turns == 0 then []
    else if turns == 1 then codes "The first turn was played. Scores and cards are those before it.\n"
    else
    codes "The first " ++ decimal turns
    ++ codes " turns were played. Scores and cards are those before them.\n"

-- the heading of a sheet: whose deal it is, the scores at the first lead, the starter, the owner's cards and goal, and
-- how much was played already
unfoldable pub heading_text : Setup → List ℕ
heading_text problem =
    scores_line problem ++ own_line problem ++ goal_line problem.dealer problem.goal
    ++ opening_line (length problem.played)
