-- At which scores turns are sure, or a plan is, as text.
use Rattle.std.specs.Prelude.{ℕ, zero, suc, ◌/◌, ◌%◌, nat_lt, ◌==◌, Bool, true, false, List, [], ◌∷◌, ◌++◌, codes}
use Rattle.std.specs.Prelude.{decimal, flat_map, length, if◌then◌else◌}
use Rattle.std.specs.List.{list_all, list_any}
use Rattle.crib_cards.specs.Words.{side_word}
use Rattle.crib_cards.specs.declared.moves.Act.{Act}
use Rattle.crib_play.specs.declared.turns.Turn.{Turn}
use Rattle.crib_play.specs.declared.turns.Turn.TheVariants as turns
use Rattle.crib_text.specs.Spelling.{line_bytes, space}
use Rattle.crib_problem.specs.Setup.{Setup}
use Rattle.crib_problem.specs.Spelling.{actor_word, goal_words, move_word}
use Rattle.crib_run.specs.Pieces.{spaced_card, spaced_cards}
use Rattle.crib_run.specs.Reply.{Reply}
use Rattle.crib_run.specs.declared.status.Status.TheVariants.{Yes}
use Rattle.crib_tables.specs.declared.scores.Mark.{Mark}
use Rattle.crib_tables.specs.declared.scores.Mark.TheVariants as mark
use Rattle.crib_tables.specs.declared.scores.Row.{Row}
use Rattle.crib_tables.specs.declared.scores.ScoreTable.{ScoreTable}
use Rattle.crib_sheet.specs.declared.scores.ScoreSheet.{ScoreSheet}

-- what the marks count, by who is to move and whether no turn was played
abbrev pub count_line : Turn → Bool → List ℕ
count_line turns.Owner true = codes "Cards that are sure to lead: a digit is how many, and . is none.\n"
count_line turns.Owner false = codes "Turns that are sure now: a digit is how many, and . is none.\n"
count_line other true = codes "Scores at which a plan is sure before the lead: + is yes, and . is no.\n"
count_line other false = codes "Scores at which a plan is sure now: + is yes, and . is no.\n"

-- the cards, the dealer and the goal
unfoldable pub cards_line : Setup → List ℕ
cards_line problem =
    codes "hold" ++ spaced_cards problem.hold ++ codes ", throw" ++ spaced_cards problem.thrown ++ codes ", starter"
    ++ spaced_card problem.starter ++ codes ", dealer " ++ side_word problem.dealer ++ codes ", goal "
    ++ line_bytes (goal_words problem.goal) ++ codes "\n"

-- a turn: `own 8D`
abbrev pub turn_text : Act → List ℕ
turn_text act = (actor_word act.side ++ space ∷ []) ++ move_word act.what

-- the turns that were played, if there are any
abbrev pub turns_line : List Act → List ℕ
turns_line [] = []
turns_line (act ∷ acts) =
    codes "played " ++ turn_text act ++ flat_map (λ (one : Act). codes ", " ++ turn_text one) acts ++ codes "\n"

-- where the scores are, and of which moment, by whether no turn was played
abbrev pub sides_line : Bool → List ℕ
sides_line true = codes "The owner's score is at the side, the opponent's at the top.\n"
sides_line false = codes "The owner's score at the first lead is at the side, the opponent's at the top.\n"

-- whether a mark is that of impossible scores
abbrev pub is_impossible : Mark → Bool
is_impossible mark.Impossible = true
is_impossible (mark.Turns count) = false
is_impossible (mark.Plan sure) = false

-- whether some mark of a row is
abbrev pub has_impossible : Row → Bool
has_impossible row = list_any is_impossible row.marks.items

-- what a blank is, if there is one
abbrev pub blank_line : List Row → List ℕ
blank_line rows =
    if list_any has_impossible rows then codes "A blank is a score that the goal or the turns can't have.\n" else []

-- a mark: a digit, a dot for none, a plus for a sure plan, or a blank
abbrev pub mark_text : Mark → List ℕ
mark_text mark.Impossible = codes " "
mark_text (mark.Turns zero) = codes "."
mark_text (mark.Turns (suc others)) = decimal (suc others)
mark_text (mark.Plan true) = codes "+"
mark_text (mark.Plan false) = codes "."

-- marks, each after a space, up to the last that is no blank
abbrev pub marks_text : List Mark → List ℕ
marks_text [] = []
marks_text (mark ∷ marks) =
    if list_all is_impossible (mark ∷ marks) then [] else codes " " ++ mark_text mark ++ marks_text marks

-- the blanks before a number in three columns
abbrev pub blanks_before : ℕ → List ℕ
blanks_before number = if nat_lt number 10 then codes "  " else if nat_lt number 100 then codes " " else []

-- the line of a row: the owner's score, and its marks
unfoldable pub row_text : Row → List ℕ
row_text row = blanks_before row.owner ++ decimal row.owner ++ marks_text row.marks.items ++ codes "\n"

-- a digit of a score after a space, of hundreds, tens or ones, or a blank if the score is less than this
abbrev pub digit_text : ℕ → ℕ → ℕ → List ℕ
digit_text least place score = if nat_lt score least then codes "  " else codes " " ++ decimal (score / place % 10)

-- a line with a digit of each score, or nothing if each is less than this
abbrev pub digits_line : ℕ → ℕ → List ℕ → List ℕ
digits_line least place scores =
    if list_all (λ score. nat_lt score least) scores then []
    else codes "   " ++ flat_map (digit_text least place) scores ++ codes "\n"

-- the scores at the top, digit below digit
unfoldable pub columns_text : List ℕ → List ℕ
columns_text scores = digits_line 100 100 scores ++ digits_line 10 10 scores ++ digits_line 0 1 scores

-- the lines above the table
unfoldable pub above_text : Setup → ScoreTable → List ℕ
above_text problem table =
    count_line table.turn (length problem.played == 0) ++ cards_line problem ++ turns_line problem.played
    ++ sides_line (length problem.played == 0) ++ blank_line table.rows.items ++ codes "\n"

-- the whole text
unfoldable pub scores_text : Setup → ScoreTable → List ℕ
scores_text problem table =
    above_text problem table ++ columns_text table.columns.items ++ flat_map row_text table.rows.items

-- the reply with a table
abbrev pub scores_reply : ScoreSheet → Reply
scores_reply sheet = record { output = scores_text sheet.problem sheet.table; status = Yes }
