-- Worked examples of the acts before a refused one, and of when they are shown.
use Rattle.std.proofs.Common.{◌≡◌, refl, ℕ, List, [], ◌∷◌, ◌++◌, Ok, Err, codes, map}
use Rattle.std.specs.Fmt.{digits}
use Rattle.crib_cards.specs.declared.sides.Side.TheVariants.{Owner, Opponent}
use Rattle.crib_problem.specs.declared.problem.Version.TheVariants.{Two}
use Rattle.crib_problem.proofs.ExampleProblems.{plays, says_go, level, level_deal}
use Rattle.crib_game.specs.declared.fault.GameFault.TheVariants.{NotUnseen, NotHeld, DoesNotFit, MustPlay, NotTurn, AfterEnd, Strays, NotAsPlayed}
use Rattle.crib_game.proofs.ExampleGames.{game_with}
use Rattle.crib_input.specs.declared.reason.FaultCause.TheVariants.{NoMemory}
use Rattle.crib_input.specs.declared.reason.Reason.{Reason}
use Rattle.crib_input.specs.declared.reason.Reason.TheVariants.{Refused, Fault}
use Rattle.crib_input.specs.declared.refusal.Cause.TheVariants as causes
use Rattle.crib_input.specs.declared.sections.Sections.{Sections}
use Rattle.crib_input.specs.declared.sections.Sections.TheVariants.{Question, Played, PlayedUnder}
use Rattle.crib_input.proofs.InputReaders.{read_played}
use Rattle.crib_board.specs.Board.{right_in}
use Rattle.crib_game_sheet.specs.ActsBefore.{acts_before, acts_beside, text_before, text_if_read, text_if_refused}
use Rattle.crib_game_sheet.specs.GameText.{act_line, act_lines, act_text, points_text, reason_text, score_text}

-- the second king is out of turn, so the lines are those of the two acts before it, and the first act has none before it. Of a game with
-- 32 acts at most these are all the acts: the point of a go is the pone's, who played the last card, also where only the dealer says it.
-- A 7 7: two reasons. In the last row the second act of the game is not that of the opening
acts_before_faults :
    (text_before level (game_with level_deal (plays Owner 36 ∷ plays Opponent 37 ∷ plays Opponent 49 ∷ plays Opponent 50 ∷ plays Owner 32 ∷ [])) (NotTurn 3)
    ≡ codes " 1 pone   TC      10   0    0\n 2 dealer TD      20   0    2  2: pair 2\n")
    × (text_before level (game_with level_deal (plays Opponent 37 ∷ [])) (NotTurn 1) ≡ [])
    × (text_before (record level { hold = 36 ∷ 48 ∷ 4 ∷ 28 ∷ [] })
    (game_with level_deal (plays Owner 36 ∷ plays Opponent 47 ∷ plays Owner 48 ∷ says_go Opponent ∷ says_go Owner ∷ plays Opponent 49 ∷ plays Owner 28
    ∷ plays Opponent 50 ∷ plays Owner 4 ∷ says_go Opponent ∷ [])) (AfterEnd 33)
    ≡ codes " 1 pone   TC      10   0    0\n 2 dealer QS      20   0    0\n 3 pone   KC      30   0    0\n 4 dealer go      30   0    0\n"
    ++ codes " 5 pone   go      30   1    0  1: go 1 (to the pone)\n 6 dealer KD      10   1    0\n 7 pone   8C      18   1    0\n"
    ++ codes " 8 dealer KH      28   1    0\n 9 pone   2C      30   1    0\n10 dealer go      30   2    0  1: go 1 (to the pone)\n")
    × (text_before (record level { hold = 0 ∷ 24 ∷ 4 ∷ 28 ∷ [] })
    (game_with (record level_deal { hold = 25 ∷ 49 ∷ 50 ∷ 47 ∷ []; throw = 18 ∷ 37 ∷ [] })
    (plays Owner 0 ∷ plays Opponent 25 ∷ plays Owner 24 ∷ [])) (AfterEnd 33)
    ≡ codes " 1 pone   AC       1   0    0\n 2 dealer 7D       8   0    0\n 3 pone   7C      15   4    0  4: fifteen 2, pair 2\n")
    × (text_before (record level { version = Two; played = plays Owner 36 ∷ plays Opponent 37 ∷ plays Owner 32 ∷ [] })
    (game_with level_deal (plays Owner 36 ∷ plays Opponent 49 ∷ [])) (NotAsPlayed 2) ≡ codes " 1 pone   TC      10   0    0\n")
unfolding digits right_in reason_text points_text score_text act_text act_line act_lines
acts_before_faults = (refl, refl, refl, refl, refl)

acts_before_each_fault :
    map acts_before (NotUnseen 3 ∷ NotHeld 4 ∷ DoesNotFit 2 ∷ MustPlay 3 ∷ NotTurn 4 ∷ AfterEnd 11 ∷ Strays 6 ∷ NotAsPlayed 7 ∷ [])
    ≡ 0 ∷ 3 ∷ 1 ∷ 2 ∷ 3 ∷ 10 ∷ 5 ∷ 6 ∷ []
acts_before_each_fault = refl

-- ---- which acts are shown

-- a game without a refused act has none to show, and one that isn't read
acts_of_results :
    (text_if_refused level (game_with level_deal (plays Owner 36 ∷ [])) (Err (NotTurn 2)) ≡ codes " 1 pone   TC      10   0    0\n")
    × (text_if_read (Ok (level, game_with level_deal (plays Owner 36 ∷ []), 8)) ≡ [])
    × (text_if_read (Err (record { line = 1; number = 3 })) ≡ [])
unfolding digits right_in reason_text points_text score_text act_text act_line act_lines
acts_of_results = (refl, refl, refl)

-- own 2C, and own 2D out of turn
abbrev pub out_of_turn : List ℕ
out_of_turn =
    codes "problem 1\ndealer opponent\nscore 0 0\nstarter KD\nhold 2C 2D 2H 2S\nthrow 4C 6D\ngoal holes 13\n"
    ++ codes "game 1\nhold AC AD AH AS\nthrow 3C 3D\nacts 2\nown 2C\nown 2D\n"

abbrev pub line_13 : Reason
line_13 = Refused (record { line = 13; cause = causes.Game (NotTurn 2) })

-- they are shown for a problem and a game that is refused, and not after a fault, nor where another section is due
acts_before_the_second :
    map (λ (asked : Sections × Reason). acts_beside asked.0 out_of_turn asked.1)
    ((Played, line_13) ∷ (Played, Fault NoMemory) ∷ (Question, line_13) ∷ (PlayedUnder, line_13) ∷ [])
    ≡ codes " 1 pone   2C       2   0    0\n" ∷ [] ∷ [] ∷ [] ∷ []
unfolding digits right_in read_played reason_text points_text score_text act_text act_line act_lines
acts_before_the_second = refl
