-- Worked examples of the words, lines and reasons in sheets of games, one by one.
use Rattle.std.proofs.Common.{◌≡◌, refl, true, false, [], ◌∷◌, codes, map, Err}
use Rattle.std.specs.Prelude.{reverse}
use Rattle.std.specs.Fmt.{digits}
use Rattle.crib_cards.specs.declared.sides.Side.TheVariants.{Owner, Opponent}
use Rattle.crib_cards.specs.declared.letters.Letter.TheVariants as letter
use Rattle.crib_cards.specs.declared.moves.Move.TheVariants as move
use Rattle.crib_board.specs.Board.{right_in}
use Rattle.crib_game.specs.declared.fault.GameFault.TheVariants.{NotTurn}
use Rattle.crib_game.specs.declared.replaying.report.Row.{Row}
use Rattle.crib_game.proofs.ExampleGames.{game_with}
use Rattle.crib_problem.specs.declared.problem.Goal.TheVariants.{Win, Holes, Stop}
use Rattle.crib_problem.proofs.ExampleProblems.{plays, says_go, level, level_deal, level_acts}
use Rattle.crib_show.specs.declared.show.outcomes.Outcome.TheVariants as outcome
use Rattle.crib_show.specs.declared.show.outcomes.ShowRow.{ShowRow}
use Rattle.crib_run.specs.Pieces.{role_word, spaced_card, spaced_cards}
use Rattle.crib_game_sheet.specs.declared.game.combination.Kind.TheVariants as kind
use Rattle.crib_game_sheet.specs.declared.game.reason.PlayReason.TheVariants.{Fifteen, ThirtyOne, Alike, Run, Go, LastCard}
use Rattle.crib_game_sheet.specs.GamePlay.{alike_reasons, card_reasons, card_reasons_at, count_reasons, game_reasons, last_card_reasons, pile_reasons_at}
use Rattle.crib_game_sheet.specs.GamePlay.{reason_if, reason_points, run_reasons, silent_gos_close}
use Rattle.crib_game_sheet.specs.GameShow.{combination, combinations_of, flush_in_crib, jack_among, no_combination, plain_combinations, points_of, worth}
use Rattle.crib_game_sheet.specs.GameText.{act_lines, act_text, alike_word, counted_cards, counted_name, counted_points, dealt_line, kind_word, last_after}
use Rattle.crib_game_sheet.specs.GameText.{next_reason, over_text, pegged_line, pegged_points, points_text, reached_line, reason_text, reason_word}
use Rattle.crib_game_sheet.specs.GameText.{run_word, score_text, sheet_for, short_line, taker_text}

-- ---- reasons
-- of single numbers: a count, cards alike, the cards of a run, the cards before and the count. T T 5 make 25 and the opponent says go,
-- and the owner plays two aces and has no card left, so two silent gos close the pile. Then piles, and a whole game
reasons_in_numbers :
    (map reason_points (Fifteen ∷ ThirtyOne ∷ Alike 2 ∷ Alike 3 ∷ Run 4 ∷ Go ∷ LastCard ∷ []) ≡ 2 ∷ 2 ∷ 2 ∷ 6 ∷ 4 ∷ 1 ∷ 1 ∷ [])
    × (reason_if true Go ∷ reason_if false Go ∷ [] ≡ (Go ∷ []) ∷ [] ∷ [])
    × (map count_reasons (14 ∷ 15 ∷ 16 ∷ 30 ∷ 31 ∷ 32 ∷ []) ≡ [] ∷ (Fifteen ∷ []) ∷ [] ∷ [] ∷ (ThirtyOne ∷ []) ∷ [] ∷ [])
    × (map alike_reasons (0 ∷ 1 ∷ 2 ∷ 3 ∷ []) ≡ [] ∷ [] ∷ (Alike 2 ∷ []) ∷ (Alike 3 ∷ []) ∷ [])
    × (map run_reasons (0 ∷ 2 ∷ 3 ∷ 7 ∷ []) ≡ [] ∷ [] ∷ (Run 3 ∷ []) ∷ (Run 7 ∷ []) ∷ [])
    × (last_card_reasons 6 30 ∷ last_card_reasons 7 30 ∷ last_card_reasons 7 31 ∷ last_card_reasons 8 30 ∷ [] ≡ [] ∷ (LastCard ∷ []) ∷ [] ∷ [] ∷ [])
    × (map (λ more. silent_gos_close more (record { dealer = Opponent; scores = record { owner = 0; opponent = 0 }; target = 121 })
    (reverse (letter.Seen 10 ∷ letter.Seen 10 ∷ letter.Seen 5 ∷ letter.Go ∷ letter.Seen 1 ∷ letter.Go ∷ letter.Seen 1 ∷ []))) (0 ∷ 1 ∷ 2 ∷ 3 ∷ [])
    ≡ false ∷ false ∷ true ∷ true ∷ [])
    × (pile_reasons_at 15 (4 ∷ 5 ∷ 6 ∷ []) ∷ pile_reasons_at 31 (5 ∷ 4 ∷ 4 ∷ []) ∷ pile_reasons_at 20 (6 ∷ 5 ∷ 9 ∷ []) ∷ []
    ≡ (Fifteen ∷ Run 3 ∷ []) ∷ (ThirtyOne ∷ Alike 2 ∷ []) ∷ [] ∷ [])
    × (card_reasons_at 7 20 (10 ∷ 10 ∷ []) ∷ card_reasons_at 6 20 (10 ∷ 10 ∷ []) ∷ card_reasons 7 (10 ∷ 5 ∷ []) ∷ []
    ≡ (Alike 2 ∷ LastCard ∷ []) ∷ (Alike 2 ∷ []) ∷ (Fifteen ∷ LastCard ∷ []) ∷ [])
    × (game_reasons level (game_with level_deal level_acts)
    ≡ [] ∷ (Alike 2 ∷ []) ∷ [] ∷ [] ∷ (ThirtyOne ∷ []) ∷ [] ∷ [] ∷ [] ∷ (Go ∷ []) ∷ (LastCard ∷ []) ∷ [])
reasons_in_numbers = (refl, refl, refl, refl, refl, refl, refl, refl, refl, refl)

-- ---- words of games
words_for_reasons :
    (map alike_word (2 ∷ 3 ∷ 4 ∷ []) ≡ codes "pair" ∷ codes "three alike" ∷ codes "four alike" ∷ [])
    × (map run_word (3 ∷ 4 ∷ 5 ∷ 6 ∷ 7 ∷ [])
    ≡ codes "run of three" ∷ codes "run of four" ∷ codes "run of five" ∷ codes "run of six" ∷ codes "run of seven" ∷ [])
    × (map reason_word (Fifteen ∷ ThirtyOne ∷ Alike 2 ∷ Run 3 ∷ Go ∷ LastCard ∷ [])
    ≡ codes "fifteen" ∷ codes "thirty-one" ∷ codes "pair" ∷ codes "run of three" ∷ codes "go" ∷ codes "last card" ∷ [])
    × (next_reason (Alike 2) ≡ codes ", pair 2")
    × (taker_text Opponent Owner (move.Card 4) ∷ taker_text Opponent Owner move.Go ∷ taker_text Opponent Opponent move.Go ∷ taker_text Owner Owner move.Go ∷ []
    ≡ [] ∷ codes " (to the pone)" ∷ codes " (to the dealer)" ∷ codes " (to the dealer)" ∷ [])
unfolding digits reason_text
words_for_reasons = (refl, refl, refl, refl, refl)

abbrev go_of_opponent : Row
go_of_opponent = record { act = says_go Opponent; count = 30; points = 1; scores = record { owner = 7; opponent = 121 } }

abbrev card_of_owner : Row
card_of_owner = record { act = plays Owner 4; count = 8; points = 4; scores = record { owner = 12; opponent = 0 } }

acts_in_words :
    (map (points_text Opponent Owner go_of_opponent) ([] ∷ (Go ∷ []) ∷ []) ≡ [] ∷ codes "  1: go 1 (to the pone)" ∷ [])
    × (points_text Opponent Owner card_of_owner (Fifteen ∷ Alike 2 ∷ []) ≡ codes "  4: fifteen 2, pair 2")
    × (score_text (record { owner = 7; opponent = 121 }) ≡ codes "   7  121")
    × (act_text Opponent 9 go_of_opponent ∷ act_text Owner 10 card_of_owner ∷ []
    ≡ codes " 9 dealer go      30   7  121" ∷ codes "10 dealer 2C       8  12    0" ∷ [])
    × (last_after Owner (move.Card 4) Opponent ∷ last_after Owner move.Go Opponent ∷ [] ≡ Owner ∷ Opponent ∷ [])
    × (act_lines Opponent 1 Owner (card_of_owner ∷ []) [] ∷ act_lines Opponent 1 Owner [] ([] ∷ []) ∷ [] ≡ [] ∷ [] ∷ [])
unfolding digits reason_text points_text right_in score_text act_text act_lines
acts_in_words = (refl, refl, refl, refl, refl, refl)

-- the go of the opponent is for the owner, who played the last card
points_by_sides :
    (map (λ side. pegged_points side Opponent (card_of_owner ∷ go_of_opponent ∷ [])) (Owner ∷ Opponent ∷ []) ≡ 5 ∷ 0 ∷ [])
    × (map (λ last. pegged_points Owner last (go_of_opponent ∷ go_of_opponent ∷ [])) (Owner ∷ Opponent ∷ []) ≡ 2 ∷ 0 ∷ [])
    × (pegged_line Opponent (card_of_owner ∷ go_of_opponent ∷ []) ≡ codes "In the play you pegged 5, they 0.\n")
unfolding digits pegged_points pegged_line
points_by_sides = (refl, refl, refl)

-- ---- combinations
-- of 5D 5C TC the fifteens are before the pair
combinations_in_numbers :
    (map (λ its. worth its 4) (kind.Fifteen ∷ kind.Pair ∷ kind.Run ∷ kind.Flush ∷ kind.Jack ∷ []) ≡ 2 ∷ 2 ∷ 4 ∷ 4 ∷ 1 ∷ [])
    × (map points_of (combination kind.Run (4 ∷ 8 ∷ 12 ∷ []) ∷ combination kind.Jack (40 ∷ []) ∷ no_combination ∷ []) ≡ 3 ∷ 1 ∷ 2 ∷ [])
    × (map (λ its. kind_word its 4) (kind.Fifteen ∷ kind.Pair ∷ kind.Run ∷ kind.Flush ∷ kind.Jack ∷ [])
    ≡ codes "fifteen" ∷ codes "pair" ∷ codes "run of four" ∷ codes "flush" ∷ codes "his nobs" ∷ [])
    × (plain_combinations (17 ∷ 16 ∷ 36 ∷ [])
    ≡ combination kind.Fifteen (17 ∷ 36 ∷ []) ∷ combination kind.Fifteen (16 ∷ 36 ∷ []) ∷ combination kind.Pair (17 ∷ 16 ∷ []) ∷ [])
    × (map (flush_in_crib (4 ∷ 12 ∷ 20 ∷ 28 ∷ [])) (36 ∷ 37 ∷ []) ≡ (combination kind.Flush (4 ∷ 12 ∷ 20 ∷ 28 ∷ 36 ∷ []) ∷ []) ∷ [] ∷ [])
    × (map (jack_among (4 ∷ 45 ∷ 41 ∷ 44 ∷ 40 ∷ [])) (36 ∷ 37 ∷ 38 ∷ [])
    ≡ (combination kind.Jack (40 ∷ []) ∷ []) ∷ (combination kind.Jack (41 ∷ []) ∷ []) ∷ [] ∷ [])
unfolding combinations_of
combinations_in_numbers = (refl, refl, refl, refl, refl, refl)

abbrev hand_of_opponent : ShowRow
hand_of_opponent = record { crib = false; side = Opponent; points = 1; scores = record { owner = 11; opponent = 6 } }

hands_and_deals_in_words :
    (map (counted_cards level level_deal) (hand_of_opponent ∷ record hand_of_opponent { side = Owner } ∷ record hand_of_opponent { crib = true } ∷ [])
    ≡ (37 ∷ 49 ∷ 50 ∷ 47 ∷ []) ∷ (36 ∷ 32 ∷ 4 ∷ 28 ∷ []) ∷ (15 ∷ 23 ∷ 18 ∷ 25 ∷ []) ∷ [])
    × (counted_name level (4 ∷ []) hand_of_opponent ∷ counted_name level [] (record hand_of_opponent { crib = true; side = Owner }) ∷ []
    ≡ codes "\nThe dealer's hand: 2C with 3H" ∷ codes "\nThe pone's crib: with 3H" ∷ [])
    × (counted_points hand_of_opponent ∷ counted_points (record hand_of_opponent { points = 0 }) ∷ []
    ≡ codes ", 1 point (you 11, they 6)\n" ∷ codes ", 0 points (you 11, they 6)\n" ∷ [])
    × (dealt_line Owner level_deal ≡ codes "The pone holds TD KD KH QS and threw 5H 7D.\n")
    × (map (reached_line Owner) (Win ∷ Holes 3 ∷ Stop ∷ []) ≡ codes "\nThe deal is over: the dealer wins.\n"
    ∷ codes "\nYou have reached your goal; the deal isn't counted further.\n" ∷ codes "\nThe deal is over: you keep the pone from winning.\n" ∷ [])
    × (map (over_text Owner Stop) (outcome.Reached ∷ outcome.Lost ∷ outcome.Short ∷ [])
    ≡ codes "\nThe deal is over: you keep the pone from winning.\n" ∷ codes "\nThe deal is over: the pone wins.\n"
    ∷ codes "\nThe deal is over: you fall short of your goal.\n" ∷ [])
    × (map short_line (Win ∷ Holes 3 ∷ []) ≡ codes "\nThe deal is over: nobody has won yet.\n"
    ∷ codes "\nThe deal is over: you fall short of your goal.\n" ∷ [])
    × (sheet_for level (game_with level_deal []) (Err (NotTurn 3)) ≡ Err (NotTurn 3))
unfolding counted_name digits counted_points dealt_line
hands_and_deals_in_words = (refl, refl, refl, refl, refl, refl, refl, refl)

-- ---- words of problems
sides_and_cards_in_words :
    (role_word Owner Owner ∷ role_word Owner Opponent ∷ role_word Opponent Owner ∷ role_word Opponent Opponent ∷ []
    ≡ codes "dealer" ∷ codes "pone" ∷ codes "pone" ∷ codes "dealer" ∷ [])
    × (spaced_card 36 ∷ spaced_cards [] ∷ spaced_cards (4 ∷ 51 ∷ 4 ∷ []) ∷ [] ≡ codes " TC" ∷ [] ∷ codes " 2C KS 2C" ∷ [])
sides_and_cards_in_words = (refl, refl)
