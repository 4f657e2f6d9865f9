-- The text of the sheet of a game: the problem, the acts with the reasons of their points, the hands with what counts
-- in them, and the outcome.
use Rattle.std.specs.Prelude.{ℕ, ◌+◌, ◌==◌, List, [], ◌∷◌, ◌++◌, length, flat_map}
use Rattle.std.specs.Prelude.{Option, Some, None, Result, Ok, Err, codes, decimal, if◌then◌else◌}
use Rattle.crib_cards.specs.declared.moves.Move.{Move}
use Rattle.crib_cards.specs.declared.moves.Move.TheVariants as move
use Rattle.crib_cards.specs.declared.sides.Dealt.{Dealt}
use Rattle.crib_cards.specs.declared.sides.Side.{Side}
use Rattle.crib_cards.specs.declared.sides.Side.TheVariants.{Owner, Opponent}
use Rattle.crib_cards.specs.declared.sides.Scores.{Scores}
use Rattle.crib_cards.specs.Sides.{same_side}
use Rattle.crib_cards.specs.Start.{pone_of, hand_of}
use Rattle.crib_show.specs.Words.{show_word}
use Rattle.crib_show.specs.declared.show.outcomes.Outcome.{Outcome}
use Rattle.crib_show.specs.declared.show.outcomes.Outcome.TheVariants.{Reached, Lost, Short}
use Rattle.crib_show.specs.declared.show.outcomes.ShowRow.{ShowRow}
use Rattle.crib_problem.specs.declared.problem.Goal.{Goal}
use Rattle.crib_problem.specs.declared.problem.Goal.TheVariants.{Win, Holes, Stop}
use Rattle.crib_problem.specs.Setup.{Setup, start_of, hands_of}
use Rattle.crib_problem.specs.Spelling.{move_word}
use Rattle.crib_game.specs.declared.fault.GameFault.{GameFault}
use Rattle.crib_game.specs.declared.section.game.Game.{Game}
use Rattle.crib_game.specs.declared.replaying.report.Row.{Row}
use Rattle.crib_game.specs.declared.replaying.report.Report.{Report}
use Rattle.crib_game.specs.Replay.{replay_result}
use Rattle.crib_board.specs.Board.{right_in, left_in}
use Rattle.crib_run.specs.Pieces.{role_word, spaced_card, spaced_cards}
use Rattle.crib_game_sheet.specs.declared.game.combination.Kind.{Kind}
use Rattle.crib_game_sheet.specs.declared.game.combination.Kind.TheVariants as kind
use Rattle.crib_game_sheet.specs.declared.game.combination.Combination.{Combination}
use Rattle.crib_game_sheet.specs.declared.game.reason.PlayReason.{PlayReason}
use Rattle.crib_game_sheet.specs.declared.game.reason.PlayReason.TheVariants.{Fifteen, ThirtyOne, Alike, Run}
use Rattle.crib_game_sheet.specs.declared.game.reason.PlayReason.TheVariants.{Go, LastCard}
use Rattle.crib_game_sheet.specs.GamePlay.{reason_points, game_reasons}
use Rattle.crib_game_sheet.specs.GameShow.{points_of, hand_combinations, crib_combinations}
use Rattle.crib_game_sheet.specs.Heading.{how_many, heading_text}

-- ---- reasons

-- the word for the number of cards alike: 2, 3 or 4
abbrev pub alike_word : ℕ → List ℕ
alike_word cards =
    if cards == 2 then codes "pair" else if cards == 3 then codes "three alike" else codes "four alike"

-- the word for the number of cards in a run: 3 to 7
abbrev pub run_word : ℕ → List ℕ
run_word cards =
    if cards == 3 then codes "run of three" else if cards == 4 then codes "run of four"
    else if cards == 5 then codes "run of five" else if cards == 6 then codes "run of six" else codes "run of seven"

-- the word for a reason
abbrev pub reason_word : PlayReason → List ℕ
reason_word Fifteen = codes "fifteen"
reason_word ThirtyOne = codes "thirty-one"
reason_word (Alike cards) = alike_word cards
reason_word (Run cards) = run_word cards
reason_word Go = codes "go"
reason_word LastCard = codes "last card"

-- a reason and its points: `pair 2`
unfoldable pub reason_text : PlayReason → List ℕ
reason_text reason = reason_word reason ++ codes " " ++ decimal (reason_points reason)

-- one more reason, after a comma
abbrev pub next_reason : PlayReason → List ℕ
next_reason reason = codes ", " ++ reason_text reason

-- whose the points of a move are, if they are not the mover's: those of a go are the last player's
abbrev pub taker_text : Side → Side → Move → List ℕ
taker_text dealer last (move.Card card) = []
taker_text dealer last move.Go = codes " (to the " ++ role_word dealer last ++ codes ")"

-- the points of an act, with the reasons for them, if there are any: `  4: fifteen 2, pair 2`
unfoldable pub points_text : Side → Side → Row → List PlayReason → List ℕ
points_text dealer last row [] = []
points_text dealer last row (reason ∷ reasons) =
    codes "  " ++ decimal row.points ++ codes ": " ++ reason_text reason ++ flat_map next_reason reasons
    ++ taker_text dealer last row.act.what

-- ---- acts

-- both scores in columns, the owner's first
unfoldable pub score_text : Scores → List ℕ
score_text scores = codes " " ++ right_in 3 scores.owner ++ codes "  " ++ right_in 3 scores.opponent

-- the columns of an act: its number, side, card or go, count, and both scores after it
unfoldable pub act_text : Side → ℕ → Row → List ℕ
act_text dealer number row =
    right_in 2 number ++ codes " " ++ left_in 6 (role_word dealer row.act.side) ++ codes " " ++ move_word row.act.what
    ++ codes "      " ++ right_in 2 row.count ++ score_text row.scores

-- the line of an act. `last` is the side that played the last card, which may be this one
unfoldable pub act_line : Side → ℕ → Side → Row → List PlayReason → List ℕ
act_line dealer number last row reasons =
    act_text dealer number row ++ points_text dealer last row reasons ++ codes "\n"

-- the side that played the last card after an act
abbrev pub last_after : Side → Move → Side → Side
last_after side (move.Card card) last = side
last_after side move.Go last = last

-- the lines of some acts with their reasons, numbered from a number. `last` is the side that played the last card
-- before them
unfoldable pub act_lines : Side → ℕ → Side → List Row → List (List PlayReason) → List ℕ
act_lines dealer number last [] reasons = []
act_lines dealer number last (row ∷ rows) [] = []
act_lines dealer number last (row ∷ rows) (reasons ∷ others) =
    act_line dealer number (last_after row.act.side row.act.what last) row reasons
    ++ act_lines dealer (number + 1) (last_after row.act.side row.act.what last) rows others

-- the points of some acts that count for a side: for the one that played the last card. `last` is the side that played
-- the last card before them
unfoldable pub pegged_points : Side → Side → List Row → ℕ
pegged_points side last [] = 0
pegged_points side last (row ∷ rows) =
    (if same_side (last_after row.act.side row.act.what last) side then row.points else 0)
    + pegged_points side (last_after row.act.side row.act.what last) rows

-- the line of what both sides pegged in some acts. `last` is the side that played the last card before them
unfoldable pub pegged_line : Side → List Row → List ℕ
pegged_line last rows =
    codes "In the play you pegged " ++ decimal (pegged_points Owner last rows) ++ codes ", they "
    ++ decimal (pegged_points Opponent last rows) ++ codes ".\n"

-- the lines of the acts of a report with their reasons. Before the first card there is no point
abbrev pub rows_text : Setup → Report → List (List PlayReason) → List ℕ
rows_text problem report reasons =
    act_lines problem.dealer 1 (pone_of (start_of problem)) report.rows.items reasons

-- ---- the show

-- what a combination of this kind with this many cards is called
abbrev pub kind_word : Kind → ℕ → List ℕ
kind_word kind.Fifteen cards = codes "fifteen"
kind_word kind.Pair cards = codes "pair"
kind_word kind.Run cards = run_word cards
kind_word kind.Flush cards = codes "flush"
kind_word kind.Jack cards = codes "his nobs"

-- the line of a combination: `  fifteen 2: 8D 7C`
unfoldable pub combination_line : Combination → List ℕ
combination_line made =
    codes "  " ++ kind_word made.kind (length made.cards.items) ++ codes " " ++ decimal (points_of made)
    ++ codes ":" ++ spaced_cards made.cards.items ++ codes "\n"

-- the lines of what counts in a hand or in the crib
abbrev pub combination_lines : List Combination → List ℕ
combination_lines [] = codes "  nothing counts\n"
combination_lines (made ∷ others) = flat_map combination_line (made ∷ others)

-- the cards of a hand or of the crib
abbrev pub counted_cards : Setup → Dealt → ShowRow → List ℕ
counted_cards problem dealt row =
    if row.crib then problem.thrown ++ dealt.throw else hand_of (hands_of problem dealt) row.side

-- what counts in a hand or in the crib
abbrev pub counted_combinations : Setup → Dealt → ShowRow → List Combination
counted_combinations problem dealt row =
    if row.crib then crib_combinations (counted_cards problem dealt row) problem.starter
    else hand_combinations (counted_cards problem dealt row) problem.starter

-- a counted hand or the crib: its side, its cards, and the starter
unfoldable pub counted_name : Setup → List ℕ → ShowRow → List ℕ
counted_name problem cards row =
    codes "\nThe " ++ role_word problem.dealer row.side ++ codes "'s " ++ show_word row.crib ++ codes ":"
    ++ spaced_cards cards ++ codes " with" ++ spaced_card problem.starter

-- the points of a counted hand or of the crib, and both scores after it
unfoldable pub counted_points : ShowRow → List ℕ
counted_points row =
    codes ", " ++ how_many row.points (codes "point") ++ codes " (you " ++ decimal row.scores.owner ++ codes ", they "
    ++ decimal row.scores.opponent ++ codes ")\n"

-- the lines of a counted hand or of the crib, after an empty line
unfoldable pub counted_text : Setup → Dealt → ShowRow → List ℕ
counted_text problem dealt row =
    counted_name problem (counted_cards problem dealt row) row ++ counted_points row
    ++ combination_lines (counted_combinations problem dealt row)

-- ---- the sheet

-- the line of the opponent's cards
unfoldable pub dealt_line : Side → Dealt → List ℕ
dealt_line dealer dealt =
    codes "The " ++ role_word dealer Opponent ++ codes " holds" ++ spaced_cards dealt.hold
    ++ codes " and threw" ++ spaced_cards dealt.throw ++ codes ".\n"

-- who wins, after an empty line
abbrev pub wins_line : Side → Side → List ℕ
wins_line dealer side = codes "\nThe deal is over: the " ++ role_word dealer side ++ codes " wins.\n"

-- that a goal is reached, after an empty line. A goal of holes may be reached before the deal is over
abbrev pub reached_line : Side → Goal → List ℕ
reached_line dealer Win = wins_line dealer Owner
reached_line dealer (Holes holes) = codes "\nYou have reached your goal; the deal isn't counted further.\n"
reached_line dealer Stop =
    codes "\nThe deal is over: you keep the " ++ role_word dealer Opponent ++ codes " from winning.\n"

-- that all is counted and a goal isn't reached, after an empty line. Who wants to win falls short if nobody wins
abbrev pub short_line : Goal → List ℕ
short_line Win = codes "\nThe deal is over: nobody has won yet.\n"
short_line (Holes holes) = codes "\nThe deal is over: you fall short of your goal.\n"
short_line Stop = codes "\nThe deal is over: you fall short of your goal.\n"

-- how the deal ended for an owner with this goal, after an empty line
abbrev pub over_text : Side → Goal → Outcome → List ℕ
over_text dealer goal Reached = reached_line dealer goal
over_text dealer goal Lost = wins_line dealer Opponent
over_text dealer goal Short = short_line goal

-- how the deal ended, or that it isn't over yet, after an empty line
abbrev pub outcome_text : Side → Goal → Option Outcome → List ℕ
outcome_text dealer goal None = codes "\nThe deal isn't over yet.\n"
outcome_text dealer goal (Some outcome) = over_text dealer goal outcome

-- the heading of the columns of acts, after an empty line
abbrev pub columns_line : List ℕ
columns_line = codes "\n # side   card count you they  points\n"

-- what the sheet of a game with this report and these reasons of its acts has below the position
unfoldable pub played_text : Setup → Dealt → Report → List (List PlayReason) → List ℕ
played_text problem dealt report reasons =
    dealt_line problem.dealer dealt ++ columns_line ++ rows_text problem report reasons
    ++ flat_map (counted_text problem dealt) report.show.items
    ++ outcome_text problem.dealer problem.goal report.over
    ++ pegged_line (pone_of (start_of problem)) report.rows.items

-- the sheet of a game with this report and these reasons of its acts
unfoldable pub sheet_of : Setup → Dealt → Report → List (List PlayReason) → List ℕ
sheet_of problem dealt report reasons = heading_text problem ++ played_text problem dealt report reasons

-- the sheet of a replay: that of its report, or its refusal
abbrev pub sheet_for : Setup → Game → Result Report GameFault → Result (List ℕ) GameFault
sheet_for problem game (Ok report) = Ok (sheet_of problem game.opp report (game_reasons problem game))
sheet_for problem game (Err fault) = Err fault

-- the sheet of a game, or the refusal of its replay
abbrev pub game_sheet_text : Setup → Game → Result (List ℕ) GameFault
game_sheet_text problem game = sheet_for problem game (replay_result problem game)
