-- Worked examples of tables of scores, as text.
use Rattle.std.proofs.Common.{◌≡◌, true, false, [], ◌∷◌, ◌++◌, codes, map, refl}
use Rattle.std.specs.Fmt.{digits}
use Rattle.crib_cards.specs.declared.sides.Side.TheVariants.{Owner, Opponent}
use Rattle.crib_play.specs.declared.turns.Turn.TheVariants as turns
use Rattle.crib_problem.proofs.ExampleProblems.{after_two, close_to_lost, four_twos, plays, says_go}
use Rattle.crib_problem.specs.declared.problem.Goal.TheVariants.{Stop}
use Rattle.crib_problem.specs.Setup.{Setup}
use Rattle.crib_run.specs.declared.status.Status.TheVariants.{Yes}
use Rattle.crib_tables.specs.declared.scores.Mark.TheVariants as mark
use Rattle.crib_tables.specs.declared.scores.Row.{Row}
use Rattle.crib_tables.specs.declared.scores.ScoreTable.{ScoreTable}
use Rattle.crib_sheet.specs.declared.scores.ScoreSheet.{ScoreSheet}
use Rattle.crib_sheet.specs.Scores.{above_text, blank_line, blanks_before, cards_line, columns_text, count_line, digit_text, has_impossible}
use Rattle.crib_sheet.specs.Scores.{is_impossible, mark_text, marks_text, row_text, scores_reply, scores_text, sides_line, turns_line}

-- ---- above the table
counts : (count_line turns.Owner true ≡ codes "Cards that are sure to lead: a digit is how many, and . is none.\n")
    × (count_line turns.Owner false ≡ codes "Turns that are sure now: a digit is how many, and . is none.\n")
    × (count_line turns.Opponent true ≡ codes "Scores at which a plan is sure before the lead: + is yes, and . is no.\n")
    × (count_line turns.Opponent false ≡ codes "Scores at which a plan is sure now: + is yes, and . is no.\n")
counts = (refl, refl, refl, refl)

cards_of_twos : cards_line four_twos ≡ codes "hold 2C 2D 2H 2S, throw 4C 6D, starter KD, dealer opponent, goal holes 13\n"
unfolding digits cards_line
cards_of_twos = refl

cards_to_stop : cards_line (record close_to_lost { dealer = Owner; goal = Stop })
    ≡ codes "hold AC 2C 2D 2H, throw 4C 6D, starter KD, dealer owner, goal stop\n"
unfolding digits cards_line
cards_to_stop = refl

no_turns : (turns_line [] ≡ []) × (turns_line (plays Owner 4 ∷ []) ≡ codes "played own 2C\n")
no_turns = (refl, refl)

three_turns : turns_line (plays Owner 4 ∷ plays Opponent 0 ∷ says_go Owner ∷ []) ≡ codes "played own 2C, opp AC, own go\n"
three_turns = refl

sides : (sides_line true ≡ codes "The owner's score is at the side, the opponent's at the top.\n")
    × (sides_line false ≡ codes "The owner's score at the first lead is at the side, the opponent's at the top.\n")
sides = (refl, refl)

-- ---- marks
marks : map mark_text (mark.Impossible ∷ mark.Turns 0 ∷ mark.Turns 3 ∷ mark.Plan true ∷ mark.Plan false ∷ [])
    ≡ codes " " ∷ codes "." ∷ codes "3" ∷ codes "+" ∷ codes "." ∷ []
unfolding digits
marks = refl

impossible : map is_impossible (mark.Impossible ∷ mark.Turns 0 ∷ mark.Plan false ∷ []) ≡ true ∷ false ∷ false ∷ []
impossible = refl

-- blanks at the end of a line are left out
no_blank_at_the_end : marks_text (mark.Impossible ∷ mark.Turns 1 ∷ mark.Turns 0 ∷ mark.Impossible ∷ []) ≡ codes "   1 ."
unfolding digits
no_blank_at_the_end = refl

-- ---- scores
digit_of_hundreds : map (digit_text 100 100) (99 ∷ 120 ∷ []) ≡ codes "  " ∷ codes " 1" ∷ []
unfolding digits
digit_of_hundreds = refl

at_the_top : columns_text (99 ∷ 100 ∷ 118 ∷ []) ≡ codes "      1 1\n    9 0 1\n    9 0 8\n"
unfolding digits columns_text
at_the_top = refl

small_at_the_top : columns_text (0 ∷ 9 ∷ 10 ∷ []) ≡ codes "        1\n    0 9 0\n"
unfolding digits columns_text
small_at_the_top = refl

the_greater_first : columns_text (10 ∷ 9 ∷ []) ≡ codes "    1  \n    0 9\n"
unfolding digits columns_text
the_greater_first = refl

only_none : columns_text (0 ∷ []) ≡ codes "    0\n"
unfolding digits columns_text
only_none = refl

-- as often as it is there
the_same_twice : columns_text (110 ∷ 110 ∷ []) ≡ codes "    1 1\n    1 1\n    0 0\n"
unfolding digits columns_text
the_same_twice = refl

small_numbers : map blanks_before (9 ∷ 10 ∷ 99 ∷ 100 ∷ []) ≡ codes "  " ∷ codes " " ∷ codes " " ∷ [] ∷ []
small_numbers = refl

-- ---- rows
a_row : {row : Row} → row.owner ≡ 8 → row.marks.items ≡ mark.Turns 2 ∷ mark.Impossible ∷ [] → row_text row ≡ codes "  8 2\n"
unfolding digits row_text
a_row owner marks = rw (owner, marks) refl

a_blank_in_a_row : (row : Row) → row.marks.items ≡ mark.Turns 2 ∷ mark.Impossible ∷ [] → has_impossible row ≡ true
a_blank_in_a_row row marks = rw marks refl

no_blank_in_a_row : (row : Row) → row.marks.items ≡ mark.Turns 2 ∷ [] → has_impossible row ≡ false
no_blank_in_a_row row marks = rw marks refl

what_a_blank_is : (row : Row) → row.marks.items ≡ mark.Turns 2 ∷ mark.Impossible ∷ []
    → blank_line (row ∷ []) ≡ codes "A blank is a score that the goal or the turns can't have.\n"
what_a_blank_is row marks = rw marks refl

no_blank : blank_line [] ≡ []
no_blank = refl

-- ---- the whole
whole : (sheet : ScoreSheet) (row : Row) → sheet.problem ≡ four_twos → sheet.table.turn ≡ turns.Owner → sheet.table.columns.items ≡ 9 ∷ 10 ∷ [] →
    sheet.table.rows.items ≡ row ∷ [] → row.owner ≡ 8 → row.marks.items ≡ mark.Turns 2 ∷ mark.Impossible ∷ [] → scores_reply sheet ≡ record {
      output = codes "Cards that are sure to lead: a digit is how many, and . is none.\n"
          ++ codes "hold 2C 2D 2H 2S, throw 4C 6D, starter KD, dealer opponent, goal holes 13\n"
          ++ codes "The owner's score is at the side, the opponent's at the top.\n"
          ++ codes "A blank is a score that the goal or the turns can't have.\n\n      1\n    9 0\n  8 2\n";
      status = Yes;
    }
unfolding scores_text above_text cards_line columns_text row_text digits
whole sheet row problem turn columns rows owner marks = rw (problem, turn, columns, rows, owner, marks) refl

-- after a turn the scores are still those at the first lead
abbrev after_one : Setup
after_one = record after_two { played = plays Owner 4 ∷ [] }

above_after_a_turn : (table : ScoreTable) → table.turn ≡ turns.Opponent → table.rows.items ≡ [] → above_text after_one table
    ≡ codes "Scores at which a plan is sure now: + is yes, and . is no.\nhold 2C 2D 2H 2S, throw 4C 6D, starter KD, dealer opponent, goal holes 13\n"
    ++ codes "played own 2C\nThe owner's score at the first lead is at the side, the opponent's at the top.\n\n"
unfolding above_text cards_line digits
above_after_a_turn table turn rows = rw (turn, rows) refl
