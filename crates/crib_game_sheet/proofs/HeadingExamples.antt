-- Worked examples of the heading of a sheet: whose deal it is, the cards, what the owner wants, and what was played already.
use Rattle.std.specs.Prelude.{◌≡◌, refl, [], codes}
use Rattle.std.specs.Fmt.{digits}
use Rattle.crib_cards.specs.declared.sides.Side.TheVariants.{Owner, Opponent}
use Rattle.crib_problem.specs.declared.problem.Goal.TheVariants.{Holes, Stop}
use Rattle.crib_problem.proofs.ExampleProblems.{level}
use Rattle.crib_run.specs.Pieces.{other_score}
use Rattle.crib_game_sheet.specs.Heading.{goal_line, goal_words, heading_text, how_many, opening_line, own_line, scores_line}

headings :
    (heading_text level ≡ codes "You are the pone at 0, and the dealer is at 0. The starter is 3H.\nYou hold TC 9C 2C 8C and threw 4S 6S.\nYou want to win.\n")
    × (scores_line (record level { dealer = Owner; scores = record { owner = 119; opponent = 8 } })
    ≡ codes "You are the dealer at 119, and the pone is at 8. The starter is 3H.\n")
unfolding digits heading_text scores_line other_score own_line goal_line opening_line
headings = (refl, refl)

-- ---- what the owner wants
wishes_in_words :
    (how_many 1 (codes "hole") ≡ codes "1 hole")
    × (how_many 0 (codes "point") ≡ codes "0 points")
    × (goal_words Owner (Holes 13) ≡ codes "13 holes or more in this deal")
    × (goal_words Owner Stop ≡ codes "to keep the pone from winning in this deal")
    × (goal_words Opponent Stop ≡ codes "to keep the dealer from winning in this deal")
unfolding digits
wishes_in_words = (refl, refl, refl, refl, refl)

-- ---- the opening
openings :
    (opening_line 0 ≡ [])
    × (opening_line 1 ≡ codes "The first turn was played. Scores and cards are those before it.\n")
    × (opening_line 10 ≡ codes "The first 10 turns were played. Scores and cards are those before them.\n")
unfolding opening_line digits
openings = (refl, refl, refl)
