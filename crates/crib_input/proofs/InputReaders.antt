-- What worked examples of several crates share: what inputs are read as, with all that reading unfolds.
use Rattle.std.specs.Prelude.{ℕ, List, Result, Ok, Err}
use Rattle.std.specs.Fmt.{digits}
use Rattle.crib_cards.specs.CardText.{card_read}
use Rattle.crib_cards.specs.Sets.{set_where}
use Rattle.crib_text.specs.Refusals.{Refusal}
use Rattle.crib_text.specs.Words.{lines_of, words_of, number_read}
use Rattle.crib_text.specs.Reading.{◌>>=◌, text_check, all_lines, words_in, first_line, line_at, value_at, after_keyword, only_word, number_in, header_in}
use Rattle.crib_text.specs.Reading.{end_at, no_line}
use Rattle.crib_text.specs.Forms.{each_in, values_at}
use Rattle.crib_problem.specs.Setup.{Setup}
use Rattle.crib_problem.specs.Reading.{version_of_number, version_in, side_in, dealer_in, score_in, both_scores, scores_in, card_in, new_card, new_cards}
use Rattle.crib_problem.specs.Reading.{cards_in_line, starter_in, holes_in, stop_goal, plain_goal, holes_goal, win_in, target_in, goal_in, seven_lines_at}
use Rattle.crib_problem.specs.Reading.{acts_count_in, move_in, actor_in, act_in, allowed_in, allowed_at, turns_at, problem_at}
use Rattle.crib_problem.specs.Reading as problems
use Rattle.crib_plan.specs.declared.plan.Node.{Node}
use Rattle.crib_plan.specs.Reading.{plan_at, count_at, nodes_at, count_in, node_from, play_in, own_number_in, next_in, node_in, later_node}
use Rattle.crib_game.specs.declared.section.game.Game.{Game}
use Rattle.crib_game.specs.Reading.{game_at}
use Rattle.crib_game.specs.Reading as games
use Rattle.crib_input.specs.Input.{input_lines, problem_alone_at, problem_of_input, question_at, question_of_input, played_of_input}
use Rattle.crib_input.specs.Input.{played_under_at, played_under_of_input}
use Rattle.crib_input.specs.Input as inputs
use Rattle.crib_input.specs.Memory.{count_behind, count_of_input}

-- a refusal at a line
abbrev pub refused : {A : Type 0} → ℕ → ℕ → Result A Refusal
refused line number = Err (record { line = line; number = number })

unfoldable pub read_lines : List ℕ → Result (List (List ℕ)) Refusal
unfolding input_lines text_check all_lines lines_of
read_lines bytes = input_lines bytes >>= λ rest. Ok rest.lines

unfoldable pub read_problem : List ℕ → Result Setup Refusal
unfolding input_lines text_check all_lines words_in first_line line_at value_at after_keyword only_word number_in lines_of words_of number_read digits
    card_read version_of_number version_in side_in dealer_in score_in both_scores scores_in card_in new_card new_cards cards_in_line starter_in holes_in
    stop_goal plain_goal holes_goal win_in target_in goal_in seven_lines_at acts_count_in move_in actor_in act_in allowed_in allowed_at turns_at
    problems.played_at problem_at set_where end_at no_line problem_alone_at problem_of_input
read_problem bytes = problem_of_input bytes

unfoldable pub read_question : List ℕ → Result (Setup × List Node) Refusal
unfolding read_problem header_in values_at plan_at count_at nodes_at count_in node_from play_in own_number_in next_in node_in later_node question_at
    question_of_input
read_question bytes = question_of_input bytes

unfoldable pub read_played : List ℕ → Result (Setup × Game × ℕ) Refusal
unfolding read_question game_at games.cards_in_line each_in inputs.played_at played_of_input
read_played bytes = played_of_input bytes

unfoldable pub read_played_under : List ℕ → Result (Setup × List Node × Game × ℕ) Refusal
unfolding read_played played_under_at played_under_of_input
read_played_under bytes = played_under_of_input bytes

unfoldable pub read_count : List ℕ → Result ℕ Refusal
unfolding read_question count_behind count_of_input
read_count bytes = count_of_input bytes
