-- Worked sheets of games, and the words in them that these don't have.
use Rattle.std.specs.Prelude.{◌≡◌, refl, ℕ, List, [], ◌∷◌, ◌++◌, Some, Ok, Err, codes, take}
use Rattle.std.specs.Fmt.{digits}
use Rattle.crib_cards.specs.declared.sides.Side.TheVariants.{Owner, Opponent}
use Rattle.crib_show.specs.declared.show.outcomes.Outcome.TheVariants.{Reached, Lost}
use Rattle.crib_show.specs.Show.{hand_points, crib_points}
use Rattle.crib_show.specs.Outcome.{show_of, outcome_from}
use Rattle.crib_problem.specs.declared.problem.Goal.TheVariants.{Win, Holes, Stop}
use Rattle.crib_game.specs.declared.fault.GameFault.TheVariants.{NotTurn}
use Rattle.crib_problem.proofs.ExampleProblems.{plays, level, level_deal, level_acts}
use Rattle.crib_game.proofs.ExampleGames.{game_with}
use Rattle.crib_board.specs.Board.{right_in}
use Rattle.crib_run.specs.Pieces.{other_score}
use Rattle.crib_game_sheet.specs.declared.game.combination.Kind.TheVariants.{Jack}
use Rattle.crib_game_sheet.specs.declared.game.reason.PlayReason.TheVariants.{Alike, Run}
use Rattle.crib_game_sheet.specs.Heading.{goal_line, heading_text, opening_line, own_line, scores_line}
use Rattle.crib_game_sheet.specs.GameShow.{combination, combinations_of, hand_combinations, crib_combinations}
use Rattle.crib_game_sheet.specs.GameText.{act_line, act_lines, act_text, combination_line, combination_lines}
use Rattle.crib_game_sheet.specs.GameText.{counted_name, counted_points, counted_text, dealt_line, game_sheet_text, outcome_text}
use Rattle.crib_game_sheet.specs.GameText.{pegged_line, pegged_points, played_text, points_text, reason_text, run_word, score_text, sheet_of}

-- the acts of a whole deal, and the pone's hand
abbrev acts_and_hand : List ℕ
acts_and_hand =
    codes "The dealer holds TD KD KH QS and threw 5H 7D.\n\n # side   card count you they  points\n"
    ++ codes " 1 pone   TC      10   0    0\n 2 dealer TD      20   0    2  2: pair 2\n 3 pone   9C      29   0    2\n"
    ++ codes " 4 dealer go      29   0    2\n 5 pone   2C      31   2    2  2: thirty-one 2\n 6 dealer KD      10   2    2\n"
    ++ codes " 7 pone   8C      18   2    2\n 8 dealer KH      28   2    2\n 9 dealer go      28   2    3  1: go 1 (to the dealer)\n"
    ++ codes "10 dealer QS      10   2    4  1: last card 1\n\nThe pone's hand: TC 9C 2C 8C with 3H, 9 points (you 11, they 4)\n"
    ++ codes "  fifteen 2: TC 2C 3H\n  run of three 3: TC 9C 8C\n  flush 4: TC 9C 2C 8C\n"

-- the dealer's hand and crib, and the outcome
abbrev rest_of_the_show : List ℕ
rest_of_the_show =
    codes "\nThe dealer's hand: TD KD KH QS with 3H, 2 points (you 11, they 6)\n  pair 2: KD KH\n\n"
    ++ codes "The dealer's crib: 4S 6S 5H 7D with 3H, 9 points (you 11, they 15)\n  fifteen 2: 4S 6S 5H\n  fifteen 2: 5H 7D 3H\n"
    ++ codes "  run of five 5: 4S 6S 5H 7D 3H\n\nThe deal is over: nobody has won yet.\n"
    ++ codes "In the play you pegged 2, they 4.\n"

-- the heading of each sheet, but for the goal
abbrev level_head : List ℕ
level_head = codes "You are the pone at 0, and the dealer is at 0. The starter is 3H.\nYou hold TC 9C 2C 8C and threw 4S 6S.\n"

-- a whole deal. Then six turns were played already, and nothing else changes. Then the pone's hand reaches eleven holes, and nothing
-- more is counted. The last two: a game that has only begun, and one that is refused and has no sheet
sheets_of_games :
    (game_sheet_text level (game_with level_deal level_acts) ≡ Ok (level_head ++ codes "You want to win.\n" ++ acts_and_hand ++ rest_of_the_show))
    × (game_sheet_text (record level { played = take 6 level_acts }) (game_with level_deal level_acts) ≡ Ok (level_head
    ++ codes "You want to win.\nThe first 6 turns were played. Scores and cards are those before them.\n" ++ acts_and_hand ++ rest_of_the_show))
    × (game_sheet_text (record level { goal = Holes 11 }) (game_with level_deal level_acts) ≡ Ok (level_head
    ++ codes "You want 11 holes or more in this deal.\n" ++ acts_and_hand ++ codes "\nYou have reached your goal; the deal isn't counted further.\n"
    ++ codes "In the play you pegged 2, they 4.\n"))
    × (game_sheet_text (record level { goal = Stop }) (game_with level_deal []) ≡ Ok (level_head
    ++ codes "You want to keep the dealer from winning in this deal.\nThe dealer holds TD KD KH QS and threw 5H 7D.\n\n"
    ++ codes " # side   card count you they  points\n\nThe deal isn't over yet.\nIn the play you pegged 0, they 0.\n"))
    × (game_sheet_text level (game_with level_deal (plays Opponent 37 ∷ [])) ≡ Err (NotTurn 1))
unfolding digits right_in heading_text scores_line other_score own_line goal_line opening_line sheet_of played_text dealt_line reason_text points_text
    score_text act_text act_line act_lines counted_text counted_name counted_points combination_line combinations_of hand_combinations
    crib_combinations show_of outcome_from hand_points crib_points pegged_line pegged_points
sheets_of_games = (refl, refl, refl, refl, refl)

-- ---- words that these sheets don't have

words_of_games :
    (reason_text (Alike 3) ≡ codes "three alike 6")
    × (reason_text (Alike 4) ≡ codes "four alike 12")
    × (reason_text (Run 4) ≡ codes "run of four 4")
    × (run_word 6 ≡ codes "run of six")
    × (run_word 7 ≡ codes "run of seven")
    × (combination_line (combination Jack (43 ∷ [])) ≡ codes "  his nobs 1: JS\n")
    × (combination_lines [] ≡ codes "  nothing counts\n")
    × (outcome_text Opponent Win (Some Lost) ≡ codes "\nThe deal is over: the dealer wins.\n")
    × (outcome_text Owner Win (Some Reached) ≡ codes "\nThe deal is over: the dealer wins.\n")
    × (outcome_text Owner Stop (Some Reached) ≡ codes "\nThe deal is over: you keep the pone from winning.\n")
unfolding digits reason_text combination_line
words_of_games = (refl, refl, refl, refl, refl, refl, refl, refl, refl, refl)
