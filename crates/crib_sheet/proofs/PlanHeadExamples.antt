-- Worked examples of what comes before the sheet of a plan.
use Rattle.std.specs.Prelude.{◌≡◌, ℕ, Option, None, Some, true, false, refl, [], ◌∷◌, ◌++◌, codes, map, take, Err}
use Rattle.std.specs.Fmt.{digits}
use Rattle.crib_cards.specs.declared.sides.Side.TheVariants.{Owner, Opponent}
use Rattle.crib_game.specs.declared.fault.GameFault.TheVariants.{NotTurn}
use Rattle.crib_game.specs.declared.following.ending.Ending.TheVariants.{Open, Stuck, Lost, Short, Reached}
use Rattle.crib_game.specs.Replay.{replay_result}
use Rattle.crib_game.specs.declared.section.game.Game.{Game}
use Rattle.crib_check.specs.declared.verdict.Verdict.TheVariants.{Holds, Fails}
use Rattle.crib_problem.proofs.ExampleProblems.{plays, says_go, level_deal, four_twos, after_tens, close_to_lost, pairing}
use Rattle.crib_game.proofs.ExampleGames.{game_with}
use Rattle.crib_run.specs.declared.status.Status.TheVariants.{Yes, No, Refused, Fault}
use Rattle.crib_run.specs.Pieces.{other_score}
use Rattle.crib_game_sheet.specs.Heading.{goal_line, heading_text, opening_line, own_line, scores_line}
use Rattle.crib_game_sheet.specs.GameText.{dealt_line, played_text}
use Rattle.crib_sheet.specs.PlanHead.{failing_line, failing_text, game_lines, head_text, is_sure, position_text, turn_line, turn_lines, why_text}
use Rattle.crib_sheet.specs.PlanBeaten.{beating_text, best_text}
use Rattle.crib_sheet.specs.declared.verdict.beaten.Best.{Best}
use Rattle.crib_beaten.specs.declared.rows.Rows.{Rows}
use Rattle.crib_plan_sheet.specs.PlanNow.{now_line}
use Rattle.crib_plan_sheet.specs.PlanStuck.{stuck_text, stuck_words}
use Rattle.crib_plan_sheet.proofs.PlanWordExamples.{kings, one_line}

sure_head : (open_deals beaten : ℕ) (hands : Option Rows) (best : Best) → head_text after_tens [] Holds open_deals beaten hands best ≡
    codes "You are the pone at 0, and the dealer is at 0. The starter is 3H.\nYou hold TC 9C 2C 8C and threw 4S 6S.\nYou want to win.\n"
    ++ codes "The first 2 turns were played. Scores and cards are those before them.\n  pone TC\n  dealer TD\n"
    ++ codes "You are at 0 now, and the dealer is at 2. You still hold 9C 2C 8C.\n"
    ++ codes "This plan is sure: it reaches your goal against every hand and every play.\n\n"
unfolding digits heading_text scores_line other_score own_line goal_line opening_line position_text turn_line now_line
sure_head open_deals beaten hands best = refl

-- at the first lead the position is the heading alone
position_at_the_lead : position_text four_twos ≡ heading_text four_twos
unfolding digits heading_text scores_line other_score own_line goal_line opening_line position_text
position_at_the_lead = refl

-- two games in which a plan fails
abbrev lost : Game
lost = game_with pairing (plays Owner 0 ∷ plays Opponent 1 ∷ [])

abbrev stuck : Game
stuck = game_with (record pairing { hold = 1 ∷ 2 ∷ 3 ∷ 48 ∷ [] }) kings

heads_of_failing_plans :
    (failing_text close_to_lost [] Lost lost
    ≡ codes "In this game you lose:\n" ++ game_lines close_to_lost lost (replay_result close_to_lost lost) ++ [] ++ codes "\nThe plan:\n\n")
    × (failing_text close_to_lost one_line Stuck stuck
    ≡ codes "In this game it states no card that you can play:\n" ++ game_lines close_to_lost stuck (replay_result close_to_lost stuck)
    ++ codes "\nThey show K, and node 1 has no line for it.\n" ++ codes "\nThe plan:\n\n")
unfolding digits failing_text stuck_text stuck_words kings one_line
heads_of_failing_plans = (refl, refl)

unsure_head : (open_deals beaten : ℕ) (hands : Option Rows) → head_text close_to_lost one_line (Fails Stuck (game_with pairing []))
    open_deals beaten hands (record { found = None; least = 820; is_for_all = false })
    ≡ position_text close_to_lost ++ beating_text open_deals beaten hands ++ best_text beaten (record { found = None; least = 820; is_for_all = false })
    ++ failing_text close_to_lost one_line Stuck (game_with pairing [])
unsure_head open_deals beaten hands = refl

why_plans_fail :
    (failing_line Stuck ≡ codes "In this game it states no card that you can play:\n")
    × (failing_line Short ≡ codes "In this game you fall short of your goal:\n")
    × (map failing_line (Open ∷ Lost ∷ Reached ∷ []) ≡ [] ∷ codes "In this game you lose:\n" ∷ [] ∷ [])
    × (take 47 (game_lines close_to_lost lost (replay_result close_to_lost lost)) ≡ codes "\nThe dealer holds AD AH AS 2S and threw 3C 3D.\n")
    × (game_lines close_to_lost lost (Err (NotTurn 1)) ≡ [])
    × (map (λ result. why_text four_twos [] result (game_with level_deal [])) (Open ∷ Lost ∷ Short ∷ Reached ∷ []) ≡ [] ∷ [] ∷ [] ∷ [] ∷ [])
unfolding played_text dealt_line
why_plans_fail = (refl, refl, refl, refl, refl, refl)

words_of_heads :
    (turn_line Opponent (plays Owner 36) ∷ turn_line Opponent (says_go Opponent) ∷ turn_lines Owner (plays Opponent 4 ∷ plays Owner 0 ∷ []) ∷ []
    ≡ codes "  pone TC\n" ∷ codes "  dealer go\n" ∷ codes "  pone 2C\n  dealer AC\n" ∷ [])
    × (map is_sure (Yes ∷ No ∷ Refused ∷ Fault ∷ []) ≡ true ∷ false ∷ false ∷ false ∷ [])
unfolding turn_line
words_of_heads = (refl, refl)

-- ---- how few deals beat a plan
best_plans : (found : Option ℕ) →
    (best_text 820 (record { found = found; least = 820; is_for_all = false }) ≡ codes "No plan is beaten by fewer deals.\n")
    × (best_text 820 (record { found = found; least = 820; is_for_all = true })
    ≡ codes "No player is beaten by fewer deals, whatever they look at.\n")
unfolding digits best_text
best_plans found = (refl, refl)

other_plans :
    (best_text 42640 (record { found = None; least = 39360; is_for_all = true }) ≡ codes "Every plan is beaten by at least 39,360 deals.\n")
    × (best_text 42640 (record { found = Some 40180; least = 39360; is_for_all = true })
    ≡ codes "The best plan found is beaten by 40,180 deals.\nEvery plan is beaten by at least 39,360 deals.\n")
    × (best_text 2 (record { found = Some 1; least = 1; is_for_all = false })
    ≡ codes "The best plan found is beaten by 1 deal.\nEvery plan is beaten by at least 1 deal.\n")
    × (best_text 820 (record { found = Some 0; least = 0; is_for_all = true }) ≡ codes "Another plan is sure.\n")
    × (best_text 820 (record { found = None; least = 0; is_for_all = false }) ≡ [])
unfolding digits best_text
other_plans = (refl, refl, refl, refl, refl)
