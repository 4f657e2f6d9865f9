-- Worked examples of games that refute every player in words: whole lines, and the names in them.
use Rattle.std.specs.Prelude.{◌≡◌, refl, ℕ, Bool, true, false, List, [], ◌∷◌, ◌++◌, map, flat_map, Some, None, Err, codes}
use Rattle.std.specs.Fmt.{digits}
use Rattle.crib_cards.specs.declared.moves.Move.TheVariants.{Card, Go}
use Rattle.crib_cards.specs.declared.sides.Side.TheVariants.{Owner, Opponent}
use Rattle.crib_cards.specs.declared.sides.Dealt.{Dealt}
use Rattle.crib_cards.specs.declared.sides.Side.{Side}
use Rattle.crib_show.specs.declared.show.outcomes.ShowRow.{ShowRow}
use Rattle.crib_show.specs.Show.{hand_points, crib_points}
use Rattle.crib_show.specs.Outcome.{show_of, outcome_from}
use Rattle.crib_problem.specs.declared.problem.Goal.TheVariants.{Stop}
use Rattle.crib_problem.specs.declared.problem.Version.TheVariants.{Two}
use Rattle.crib_problem.specs.Setup.{Setup}
use Rattle.crib_problem.proofs.ExampleProblems.{level, level_deal, plays, says_go}
use Rattle.crib_game.specs.declared.fault.GameFault.TheVariants.{NotTurn}
use Rattle.crib_game.specs.declared.section.game.Game.{Game}
use Rattle.crib_game.proofs.ExampleGames.{game_with}
use Rattle.crib_why_sheet.specs.declared.line.Spread.{Spread}
use Rattle.crib_why_sheet.specs.declared.line.WhyLine.{WhyLine}
use Rattle.crib_why_sheet.specs.WhyPlay.{are_alike, held_with, is_flush, joined, own_name, shown_names, spread_by, spread_with, turn_name, with_turns}
use Rattle.crib_why_sheet.specs.WhyRows.{all_with_first, are_alike_if_any, before_runs, level_below, lines_from, play_alike, play_text}
use Rattle.crib_why_sheet.specs.WhyRows.{runs_of, show_alike, then_line, whatever_names, why_lines}
use Rattle.crib_why_sheet.specs.WhyText.{columns_text, line_text, lines_text, range_text, spread_text, widest_held}

-- the pone holds 2S 8D 8H 8S and threw KS QS, and the starter is 5S
abbrev eights : Setup
eights = record level {
  scores = record { owner = 109; opponent = 111 };
  starter = 19;
  hold = 7 ∷ 29 ∷ 30 ∷ 31 ∷ [];
  thrown = 51 ∷ 47 ∷ [];
}

abbrev eights_to_stop : Setup
eights_to_stop = record eights { scores = record { owner = 60; opponent = 88 }; goal = Stop }

abbrev win_two_first : Game
win_two_first = game_with (record { hold = 4 ∷ 8 ∷ 24 ∷ 28 ∷ []; throw = 0 ∷ 1 ∷ [] }) (
    plays Owner 7 ∷ plays Opponent 4 ∷ plays Owner 29 ∷ plays Opponent 8 ∷ plays Owner 30 ∷
    plays Opponent 28 ∷ plays Owner 31 ∷ plays Opponent 24 ∷ [])

abbrev win_two_second : Game
win_two_second = game_with (record { hold = 4 ∷ 5 ∷ 8 ∷ 24 ∷ []; throw = 0 ∷ 1 ∷ [] }) (
    plays Owner 29 ∷ plays Opponent 4 ∷ plays Owner 7 ∷ plays Opponent 5 ∷ plays Owner 30 ∷
    plays Opponent 8 ∷ says_go Owner ∷ says_go Opponent ∷ plays Owner 31 ∷ plays Opponent 24 ∷ [])

abbrev win_other_eight : Game
win_other_eight = game_with (record { hold = 4 ∷ 5 ∷ 8 ∷ 24 ∷ []; throw = 0 ∷ 1 ∷ [] }) (
    plays Owner 29 ∷ plays Opponent 4 ∷ plays Owner 7 ∷ plays Opponent 5 ∷ plays Owner 31 ∷
    plays Opponent 8 ∷ says_go Owner ∷ says_go Opponent ∷ plays Owner 30 ∷ plays Opponent 24 ∷ [])

abbrev win_eight_second : Game
win_eight_second = game_with (record { hold = 4 ∷ 5 ∷ 6 ∷ 24 ∷ []; throw = 0 ∷ 1 ∷ [] }) (
    plays Owner 29 ∷ plays Opponent 4 ∷ plays Owner 30 ∷ plays Opponent 24 ∷ plays Owner 7 ∷
    plays Opponent 5 ∷ says_go Owner ∷ plays Opponent 6 ∷ [])

abbrev stop_two_first : Game
stop_two_first = game_with (record { hold = 0 ∷ 4 ∷ 8 ∷ 24 ∷ []; throw = 16 ∷ 17 ∷ [] }) (
    plays Owner 7 ∷ plays Opponent 0 ∷ plays Owner 29 ∷ plays Opponent 4 ∷ plays Owner 30 ∷
    plays Opponent 8 ∷ says_go Owner ∷ plays Opponent 24 ∷ plays Owner 31 ∷ [])

abbrev stop_other_eights : Game
stop_other_eights = game_with (record { hold = 0 ∷ 4 ∷ 8 ∷ 24 ∷ []; throw = 16 ∷ 17 ∷ [] }) (
    plays Owner 7 ∷ plays Opponent 0 ∷ plays Owner 30 ∷ plays Opponent 4 ∷ plays Owner 31 ∷
    plays Opponent 8 ∷ says_go Owner ∷ plays Opponent 24 ∷ plays Owner 29 ∷ [])

abbrev stop_two_second : Game
stop_two_second = game_with (record { hold = 0 ∷ 4 ∷ 8 ∷ 12 ∷ []; throw = 16 ∷ 17 ∷ [] }) (
    plays Owner 29 ∷ plays Opponent 0 ∷ plays Owner 7 ∷ plays Opponent 4 ∷ plays Owner 30 ∷
    plays Opponent 8 ∷ says_go Owner ∷ plays Opponent 12 ∷ plays Owner 31 ∷ [])

abbrev stop_two_last : Game
stop_two_last = game_with (record { hold = 0 ∷ 4 ∷ 8 ∷ 12 ∷ []; throw = 16 ∷ 17 ∷ [] }) (
    plays Owner 29 ∷ plays Opponent 0 ∷ plays Owner 30 ∷ plays Opponent 4 ∷ plays Owner 31 ∷
    plays Opponent 8 ∷ says_go Owner ∷ says_go Opponent ∷ plays Owner 7 ∷ plays Opponent 12 ∷ [])

-- the text of games of a problem
abbrev text_for : Setup → List Game → List ℕ
text_for problem games = lines_text (why_lines problem games)

-- a text with these lines
abbrev text_with : List ℕ → List ℕ
text_with lines =
    codes "No player can be sure, whatever they look at. Whatever you play, some hand and\nsome play of theirs beat it:\n\n" ++ lines
    ++ codes "\nEach row is a play to its end, what they held (and threw, if the crib counts),\nand the scores, yours first.\n"

-- a line above two rows. In the second row either eight is played
tree :
    text_for eights (win_two_first ∷ win_two_second ∷ win_other_eight ∷ win_eight_second ∷ [])
    ≡ text_with (codes "2S, they 2, 8, they 3, 8, they 8, 8, they 7              2 3 7 8    109 121\n8, they 2, then\n"
    ++ codes "    2S, they 2, 8, they 3, you go, they go, 8, they 7    2 2 3 7    111 121\n"
    ++ codes "    8, they 7, 2S, they 2, you go, they 2                2 2 2 7    109 121\n")
unfolding digits lines_from held_with lines_text line_text columns_text spread_text show_of outcome_from hand_points crib_points
tree = refl

-- a row that is the same whatever the owner plays, the flush of a hand that is counted, and a crib
whatever :
    text_for eights_to_stop (stop_two_first ∷ stop_other_eights ∷ stop_two_second ∷ stop_two_last ∷ [])
    ≡ text_with (codes "2S, they A, 8, they 2, 8, they 3, you go, they 7, 8    AC 2C 3C 7C (5 5)    73 121\n"
    ++ codes "8, they A, then whatever you play, they 2 3 4          AC 2C 3C 4C (5 5)    72-73 121\n")
unfolding digits lines_from held_with lines_text line_text columns_text spread_text show_of outcome_from hand_points crib_points
whatever = refl

-- ---- refused games, and no games

no_games : why_lines level [] ≡ []
no_games = refl

-- a refused game is a row without columns
refused_game :
    text_for level (game_with level_deal (plays Opponent 37 ∷ []) ∷ [])
    ≡ text_with (codes "they T\n")
unfolding digits lines_from held_with lines_text line_text columns_text spread_text
refused_game = refl

-- ---- names

abbrev own_cards : List ℕ
own_cards = 7 ∷ 29 ∷ 30 ∷ 31 ∷ []

names_of_turns :
    (turn_name own_cards Owner (Card 7) ≡ codes "2S")
    × (turn_name own_cards Owner (Card 30) ≡ codes "8")
    × (turn_name own_cards Owner Go ≡ codes "you go")
    × (turn_name own_cards Opponent (Card 30) ≡ codes "they 8")
    × (turn_name own_cards Opponent Go ≡ codes "they go")
    × (joined [] (codes "2S") ≡ codes "2S")
    × (joined (codes "2S") (codes "they go") ≡ codes "2S, they go")
    × (shown_names (plays Owner 0 ∷ plays Opponent 4 ∷ says_go Opponent ∷ plays Opponent 36 ∷ []) ≡ codes " 2 T")
    × (whatever_names [] [] ≡ codes "whatever you play")
    × (whatever_names [] (codes " 2 T") ≡ codes "whatever you play, they 2 T")
    × (whatever_names (codes "8") [] ≡ codes "8, then whatever you play")
names_of_turns = (refl, refl, refl, refl, refl, refl, refl, refl, refl, refl, refl)

turns_alike :
    (are_alike eights (plays Opponent 0) (plays Opponent 3) ≡ true)
    × (are_alike eights (plays Opponent 0) (plays Owner 0) ≡ false)
    × (are_alike eights (plays Opponent 0) (plays Opponent 4) ≡ false)
    × (are_alike eights (says_go Owner) (says_go Owner) ≡ true)
    × (are_alike eights (says_go Owner) (plays Owner 48) ≡ false)
turns_alike = (refl, refl, refl, refl, refl)

abbrev with_throw : List ℕ → List ℕ → Dealt
with_throw hold throw = record { hold = hold; throw = throw }

-- the row of a counted hand or crib
abbrev counted : Bool → Side → ShowRow
counted crib side = record { crib = crib; side = side; points = 0; scores = record { owner = 0; opponent = 0 } }

-- the starter is 5S. The jack of spades counts in a counted hand, and so do four clubs; neither does the queen, nor the jack beside 3H. A crib is a flush
-- with the starter alone
names_of_holds :
    (held_with eights (with_throw (0 ∷ 4 ∷ 9 ∷ 43 ∷ []) (1 ∷ 2 ∷ [])) (counted false Owner ∷ []) ≡ codes " A 2 3 J")
    × (held_with eights (with_throw (0 ∷ 47 ∷ 9 ∷ 43 ∷ []) (1 ∷ 2 ∷ [])) (counted false Owner ∷ counted false Opponent ∷ []) ≡ codes " A Q 3 JS")
    × (held_with level (with_throw (0 ∷ 4 ∷ 9 ∷ 43 ∷ []) (1 ∷ 2 ∷ [])) (counted false Opponent ∷ []) ≡ codes " A 2 3 J")
    × (held_with eights (with_throw (0 ∷ 4 ∷ 8 ∷ 40 ∷ []) (1 ∷ 2 ∷ [])) (counted false Opponent ∷ []) ≡ codes " AC 2C 3C JC")
    × (held_with eights (with_throw (0 ∷ 4 ∷ 8 ∷ 41 ∷ []) (1 ∷ 43 ∷ [])) (counted false Opponent ∷ counted true Opponent ∷ []) ≡ codes " A 2 3 J (A JS)")
    × (held_with eights (with_throw (0 ∷ 4 ∷ 8 ∷ 41 ∷ []) (3 ∷ 11 ∷ [])) (counted true Opponent ∷ []) ≡ codes " A 2 3 J (AS 3S)")
    × (held_with eights (with_throw (0 ∷ 4 ∷ 8 ∷ 43 ∷ []) (3 ∷ 10 ∷ [])) (counted true Opponent ∷ []) ≡ codes " A 2 3 J (A 3)")
    × (held_with eights (with_throw (0 ∷ 4 ∷ 8 ∷ 41 ∷ []) (43 ∷ 10 ∷ [])) (counted true Opponent ∷ []) ≡ codes " A 2 3 J (JS 3)")
unfolding held_with
names_of_holds = (refl, refl, refl, refl, refl, refl, refl, refl)

ranges : (range_text 104 106 ≡ codes "104-106") × (range_text 109 109 ≡ codes "109")
unfolding digits
ranges = (refl, refl)

-- a hold with two cards of a rank, first and last, and one with the same card twice
abbrev pair : List ℕ
pair = 29 ∷ 7 ∷ 3 ∷ 30 ∷ []

names_of_pairs :
    (own_name pair 29 ≡ codes "8")
    × (own_name pair 7 ≡ codes "2S")
    × (turn_name pair Owner (Card 30) ≡ codes "8")
    × (with_turns pair [] (plays Owner 30 ∷ plays Owner 3 ∷ plays Owner 29 ∷ []) ≡ codes "8, AS, 8")
    × (own_name (29 ∷ 29 ∷ []) 29 ≡ codes "8")
    × (turn_name (29 ∷ 29 ∷ []) Owner (Card 29) ≡ codes "8")
    × (with_turns (29 ∷ 29 ∷ []) [] (plays Owner 29 ∷ plays Owner 29 ∷ []) ≡ codes "8, 8")
    × (shown_names (plays Opponent 0 ∷ []) ≡ codes " A")
    × (is_flush [] ≡ false)
names_of_pairs = (refl, refl, refl, refl, refl, refl, refl, refl, refl)

-- two games that end alike, but not with the same cards
ended_alike :
    text_for level (game_with level_deal [] ∷ game_with (with_throw (0 ∷ 1 ∷ 2 ∷ 3 ∷ []) (18 ∷ 25 ∷ [])) [] ∷ [])
    ≡ text_with (codes "    T K K Q    0 0\n    A A A A    0 0\n")
unfolding digits lines_from held_with lines_text line_text columns_text spread_text
ended_alike = refl

-- games of two turns. The second turns with KD and KH are alike, and one game alone is like all others that there are
abbrev two_turns : ℕ → ℕ → Game
two_turns mine theirs = game_with level_deal (plays Owner mine ∷ plays Opponent theirs ∷ [])

games_alike :
    (map (λ turn. play_alike level turn (two_turns 36 49) (two_turns 32 50)) (0 ∷ 1 ∷ []) ≡ false ∷ true ∷ [])
    × (map (show_alike 1 (two_turns 36 49)) (two_turns 36 50 ∷ two_turns 36 37 ∷ []) ≡ true ∷ false ∷ [])
    × (map (all_with_first (λ game other. false)) ([] ∷ (two_turns 36 37 ∷ []) ∷ []) ≡ true ∷ true ∷ [])
games_alike = (refl, refl, refl)

-- a run ends where a game goes on otherwise at the index
runs :
    (runs_of level 0 (two_turns 36 37 ∷ two_turns 36 49 ∷ two_turns 36 50 ∷ two_turns 32 37 ∷ two_turns 36 37 ∷ [])
    ≡ (two_turns 36 37 ∷ two_turns 36 49 ∷ two_turns 36 50 ∷ []) ∷ (two_turns 32 37 ∷ []) ∷ (two_turns 36 37 ∷ []) ∷ [])
    × (runs_of level 1 (two_turns 36 49 ∷ two_turns 32 50 ∷ two_turns 32 37 ∷ [])
    ≡ (two_turns 36 49 ∷ two_turns 32 50 ∷ []) ∷ (two_turns 32 37 ∷ []) ∷ [])
    × (before_runs level 0 (two_turns 36 37) ([] ∷ (two_turns 32 37 ∷ []) ∷ []) ≡ (two_turns 36 37 ∷ []) ∷ (two_turns 32 37 ∷ []) ∷ [])
runs = (refl, refl, refl)

-- the rows of games with what the opponent shows or holds that is the same or isn't, whatever the owner plays; a turn above two rows; rows after an opening;
-- and rows of games that end here
abbrev rows_for : Setup → List Game → List ℕ
rows_for problem games = flat_map (line_text 0 0) (why_lines problem games)

abbrev with_a_jack : Game
with_a_jack = game_with (with_throw (37 ∷ 49 ∷ 50 ∷ 40 ∷ []) (18 ∷ 25 ∷ [])) (plays Owner 32 ∷ plays Opponent 37 ∷ [])

rows_of_games :
    (rows_for level (two_turns 36 37 ∷ two_turns 32 49 ∷ []) ≡ codes "TC, they T    T K K Q    0 2\n9C, they K    T K K Q    0 0\n")
    × (rows_for level (two_turns 36 37 ∷ with_a_jack ∷ []) ≡ codes "TC, they T    T K K Q    0 2\n9C, they T    T K K J    0 0\n")
    × (rows_for level (two_turns 36 37 ∷ two_turns 32 37 ∷ []) ≡ codes "whatever you play, they T    T K K Q    0 0-2\n")
    × (rows_for level (two_turns 36 37 ∷ two_turns 36 49 ∷ []) ≡ codes "TC, then\n    they T    T K K Q    0 2\n    they K    T K K Q    0 0\n")
    × (rows_for (record level { version = Two; played = plays Owner 36 ∷ [] }) (two_turns 36 37 ∷ two_turns 36 49 ∷ [])
    ≡ codes "they T    T K K Q    0 2\nthey K    T K K Q    0 0\n")
    × (flat_map (line_text 0 0) (lines_from 0 level 2 1 (codes "TC") (two_turns 36 37 ∷ two_turns 36 49 ∷ []))
    ≡ codes "    TC    T K K Q    0 2\n    TC    T K K Q    0 0\n")
unfolding digits lines_from held_with line_text columns_text spread_text
rows_of_games = (refl, refl, refl, refl, refl, refl)

-- a column is as wide as its longest text
abbrev at_zero : List ℕ → List ℕ → WhyLine
at_zero play held = record {
  play = record { items = play };
  columns = Some (record {
    held = record { items = held };
    spread = record { least = record { owner = 0; opponent = 0 }; most = record { owner = 0; opponent = 0 } };
  });
}

columns :
    (lines_text (at_zero (codes "TC") (codes " A 2") ∷ at_zero (codes "9C, they T") (codes " A") ∷ [])
    ≡ text_with (codes "TC            A 2    0 0\n9C, they T    A      0 0\n"))
    × (lines_text (at_zero (codes "9C, they T") (codes " A") ∷ at_zero (codes "TC") (codes " A 2") ∷ [])
    ≡ text_with (codes "9C, they T    A      0 0\nTC            A 2    0 0\n"))
unfolding digits lines_text line_text columns_text spread_text
columns = (refl, refl)

levels :
    (play_text 2 (codes "T") (codes ", then") ≡ codes "        T, then")
    × (level_below 1 (codes "T") ≡ 2)
    × (level_below 1 [] ≡ 1)
    × (then_line 1 [] ≡ [])
    × (are_alike_if_any eights None None ≡ true)
    × (are_alike_if_any eights None (Some (plays Owner 0)) ≡ false)
    × (are_alike_if_any eights (Some (plays Owner 0)) None ≡ false)
levels = (refl, refl, refl, refl, refl, refl, refl)

-- each score has a least and a most of its own, and a refused game has none
abbrev lows_and_highs : Spread
lows_and_highs = record { least = record { owner = 6; opponent = 3 }; most = record { owner = 7; opponent = 8 } }

spreads :
    (spread_with (record { owner = 5; opponent = 9 }) None
    ≡ record { least = record { owner = 5; opponent = 9 }; most = record { owner = 5; opponent = 9 } })
    × (spread_with (record { owner = 5; opponent = 9 }) (Some lows_and_highs)
    ≡ record { least = record { owner = 5; opponent = 3 }; most = record { owner = 7; opponent = 9 } })
    × (spread_with (record { owner = 8; opponent = 2 }) (Some lows_and_highs)
    ≡ record { least = record { owner = 6; opponent = 2 }; most = record { owner = 8; opponent = 8 } })
    × (spread_by (Err (NotTurn 1)) (Some lows_and_highs) ≡ Some lows_and_highs)
spreads = (refl, refl, refl, refl)

no_line_is_wide : widest_held [] ≡ 0
no_line_is_wide = refl
