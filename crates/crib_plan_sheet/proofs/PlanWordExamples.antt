-- Worked examples of the words and rows in sheets of plans, one by one.
use Rattle.std.proofs.Common.{◌≡◌, refl, ℕ, true, false, List, [], ◌∷◌, ◌++◌, codes, map}
use Rattle.std.specs.Fmt.{digits}
use Rattle.std.specs.Prelude.{◌==◌, replicate}
use Rattle.crib_cards.specs.declared.moves.Act.{Act}
use Rattle.crib_cards.specs.declared.sides.Side.TheVariants.{Owner, Opponent}
use Rattle.crib_plan.specs.declared.plan.Next.TheVariants.{End, To}
use Rattle.crib_plan.specs.declared.plan.Node.{Node}
use Rattle.crib_plan.specs.declared.plan.Node.TheVariants.{Play, See}
use Rattle.crib_problem.proofs.ExampleProblems.{plays, four_twos, after_two, close_to_lost}
use Rattle.crib_plan_sheet.specs.PlanNow.{held_after, held_words, is_left, now_text, scores_now}
use Rattle.crib_plan_sheet.specs.PlanPage.{begins_long, end_of_row, legend_text, long_text, no_card, page_text, plan_page}
use Rattle.crib_plan_sheet.specs.PlanSheet.{Line, Looks, Named, NoLine, Over, Plays, lines_to, row_of, row_to, sheet_with}
use Rattle.crib_plan_sheet.specs.PlanSheetSize.{level_count, line_count}
use Rattle.crib_plan_sheet.specs.PlanText.{before_rest, go_words, indent, label, label_column, label_width, letter_byte, range_words, rank_words, sheet_text}
use Rattle.crib_plan_sheet.specs.PlanStuck.{stuck_text, stuck_words}
use Rattle.crib_plan_sheet.proofs.PlanExamples.{three_eights}

-- ---- words of problems
-- the last row: own 2C, opp 2D, a pair
problems_in_words :
    (map (is_left after_two.played) (4 ∷ 5 ∷ 0 ∷ []) ≡ false ∷ true ∷ false ∷ [])
    × (held_after four_twos after_two.played ∷ held_after four_twos [] ∷ [] ≡ (5 ∷ 6 ∷ 7 ∷ []) ∷ (4 ∷ 5 ∷ 6 ∷ 7 ∷ []) ∷ [])
    × (map (held_words four_twos) (after_two.played ∷ map (plays Owner) (7 ∷ 6 ∷ 5 ∷ 4 ∷ []) ∷ map (plays Owner) (6 ∷ 5 ∷ 4 ∷ []) ∷ [])
    ≡ codes " 2D 2H 2S" ∷ codes " no card" ∷ codes " 2S" ∷ [])
    × (now_text four_twos ≡ [])
    × (scores_now (record four_twos { played = plays Owner 4 ∷ plays Opponent 5 ∷ [] }) ≡ record { owner = 0; opponent = 2 })
problems_in_words = (refl, refl, refl, refl, refl)

-- the widths are of the labels `A` and `2 3`
labels_of_lines :
    (map letter_byte (0 ∷ 1 ∷ 9 ∷ 12 ∷ 13 ∷ 14 ∷ []) ≡ codes "A2TKg" ++ 0 ∷ [])
    × (map (range_words 5) (0 ∷ 1 ∷ 2 ∷ 3 ∷ 5 ∷ []) ≡ [] ∷ (codes "5" ∷ []) ∷ (codes "4" ∷ codes "5" ∷ []) ∷ (codes "3-5" ∷ []) ∷ (codes "A-5" ∷ []) ∷ [])
    × (go_words [] ∷ go_words (true ∷ []) ∷ go_words (false ∷ []) ∷ [] ≡ [] ∷ (codes "go" ∷ []) ∷ [] ∷ [])
    × (map label_width (NoLine ∷ Line (true ∷ []) Over NoLine ∷ []) ≡ 0 ∷ 1 ∷ [])
    × (label_width (Line (true ∷ []) Over (Line (false ∷ true ∷ true ∷ []) Over (Line (true ∷ []) Over NoLine))) ≡ 3)
    × (label_column 4 (false ∷ true ∷ true ∷ []) ∷ label_column 2 (false ∷ true ∷ true ∷ []) ∷ [] ≡ codes "2 3 " ∷ codes "2 3" ∷ [])
    × (map indent (0 ∷ 1 ∷ 3 ∷ []) ≡ [] ∷ replicate 4 32 ∷ replicate 12 32 ∷ [])
unfolding label rank_words
labels_of_lines = (refl, refl, refl, refl, refl, refl, refl)

-- ---- words of plans
plans_in_words :
    (map (no_card true) (Over ∷ Plays 4 Over ∷ Looks NoLine ∷ Named 1 ∷ []) ∷ map (no_card false) (Over ∷ Plays 4 Over ∷ []) ∷ []
    ≡ (codes "No card is needed." ∷ [] ∷ [] ∷ [] ∷ []) ∷ (codes "The plan states no card." ∷ [] ∷ []) ∷ [])
    × (end_of_row false ≡ codes "At the end of a row, if there is no line, or if the next card isn't in your\nhand or doesn't fit while another "
    ++ codes "does, the plan states nothing more, nor at a\n\"look\" if a card of yours fits. Then play what you think best: you may "
    ++ codes "still\nreach your goal.\n")
    × (map before_rest (Over ∷ Plays 4 Over ∷ Looks NoLine ∷ Named 1 ∷ []) ≡ [] ∷ codes " " ∷ codes ", then " ∷ codes ", then " ∷ [])
plans_in_words = (refl, refl, refl)

-- ---- rows of nodes: node 3 has a paragraph of its own
-- of the look, ace and three lead to node 3, and two to the end
rows_and_their_sizes :
    (map (row_to (λ node. node == 3) (record { number = 3; row = Plays 8 Over } ∷ record { number = 4; row = Plays 9 Over } ∷ [])) (End ∷ To 3 ∷ To 4 ∷ [])
    ≡ Over ∷ Named 3 ∷ Plays 9 Over ∷ [])
    × (row_of (λ node. false) (record { number = 3; row = Plays 8 Over } ∷ []) (Play 7 (To 3)) ≡ Plays 7 (Plays 8 Over))
    × (row_of (λ node. true) [] (See (To 3 ∷ End ∷ To 3 ∷ To 4 ∷ []))
    ≡ Looks (Line (true ∷ false ∷ true ∷ false ∷ []) (Named 3) (Line (false ∷ false ∷ false ∷ true ∷ []) (Named 4) NoLine)))
    × (lines_to (λ node. true) [] (To 3 ∷ To 3 ∷ To 4 ∷ []) 1 (To 3 ∷ To 4 ∷ []) ≡ Line (false ∷ false ∷ true ∷ []) (Named 4) NoLine)
    × (map line_count (Over ∷ Plays 4 (Looks (Line [] (Looks (Line [] Over NoLine)) (Line [] Over NoLine))) ∷ Named 1 ∷ []) ∷
    map level_count (Over ∷ Plays 4 (Looks (Line [] (Looks (Line [] Over NoLine)) (Line [] Over NoLine))) ∷ Looks NoLine ∷ Named 1
    ∷ Looks (Line [] Over (Line [] (Looks NoLine) NoLine)) ∷ []) ∷ []
    ≡ (0 ∷ 3 ∷ 0 ∷ []) ∷ (0 ∷ 2 ∷ 1 ∷ 0 ∷ 2 ∷ []) ∷ [])
rows_and_their_sizes = (refl, refl, refl, refl, refl)

-- ---- pages

-- how to read each sheet
abbrev how_to_read : List ℕ
how_to_read =
    codes "\nPlay a row in order, one card at each of your turns. If none of your cards\nfits, say go and stay there. "
    ++ codes "At \"look\", go on in the line of what they show\nnext: a rank (8-T is 8, 9 or ten), or a go, even after yours: their first in a\n"
    ++ codes "count, with a card left. At \"see [n]\", go on in paragraph [n].\n"

unfoldable pub if_sure : List ℕ
if_sure = codes "At the end of a row, or if there is no line, nothing is left to decide, or\nyour goal is reached: then play as you like.\n"

pages_without_a_look :
    (page_text true (record { first = Over; paragraphs = [] }) ≡ codes "No card is needed.\n" ++ how_to_read ++ if_sure)
    × (page_text false (record { first = Over; paragraphs = [] }) ≡ codes "The plan states no card.\n" ++ how_to_read ++ end_of_row false)
    × (page_text true (record { first = Plays 31 Over; paragraphs = [] }) ≡ codes "8S\n" ++ how_to_read ++ if_sure)
unfolding page_text sheet_text legend_text if_sure
pages_without_a_look = (refl, refl, refl)

-- 20 looks are few. A card alone, or a first row that goes on in a paragraph, has no lines. The look may be the last node
long_pages :
    (map (begins_long (λ node. false)) ((three_eights ++ replicate 18 (See [])) ∷ (three_eights ++ replicate 19 (See [])) ∷
    (Play 4 End ∷ replicate 21 (See [])) ∷ (Play 4 (To 21) ∷ replicate 21 (See [])) ∷ replicate 21 (See []) ∷ [] ∷ [])
    ≡ false ∷ true ∷ false ∷ true ∷ true ∷ false ∷ [])
    × (begins_long (λ node. node == 1) (three_eights ++ replicate 19 (See [])) ≡ false)
    × (map long_text (true ∷ false ∷ [])
    ≡ codes "This plan is long. Its sheet begins with the lines for what they show first.\n\n" ∷ [] ∷ [])
    × (plan_page true (λ node. false) (Play 31 End ∷ replicate 21 (See [])) ≡ codes "8S\n" ++ how_to_read ++ if_sure)
    × (plan_page false (λ node. false) (Play 31 (To 21) ∷ replicate 21 (See []))
    ≡ long_text true ++ codes "8S, then look:\n" ++ how_to_read ++ end_of_row false)
unfolding plan_page page_text sheet_text sheet_with legend_text if_sure
long_pages = (refl, refl, refl, refl, refl)

-- ---- why a plan is stuck

unfoldable pub kings : List Act
kings = plays Owner 0 ∷ plays Opponent 48 ∷ []

-- the plan leads an ace, and has a line for a two alone
unfoldable pub one_line : List Node
one_line = Play 0 (To 1) ∷ See (End ∷ To 2 ∷ End ∷ End ∷ End ∷ End ∷ End ∷ End ∷ End ∷ End ∷ End ∷ End ∷ End ∷ End ∷ []) ∷ Play 4 End ∷ []

why_plans_are_stuck :
    (stuck_text close_to_lost one_line kings ≡ codes "They show K, and node 1 has no line for it.\n")
    × (stuck_text close_to_lost (Play 28 End ∷ []) [] ≡ codes "Node 0 states 8C, which you don't hold.\n")
    × (stuck_text close_to_lost (Play 0 (To 1) ∷ Play 0 End ∷ []) kings ≡ codes "Node 1 states AC, which you don't hold.\n")
    × (stuck_text close_to_lost (Play 0 End ∷ []) kings ≡ codes "The plan ends at node 0.\n")
    × (stuck_text close_to_lost (Play 0 (To 1) ∷ Play 4 (To 2) ∷ See [] ∷ []) (plays Owner 0 ∷ plays Owner 4 ∷ [])
    ≡ codes "Node 2 looks at what they show next, and it is your turn.\n")
    × (stuck_text close_to_lost [] [] ≡ codes "The plan has no node.\n")
unfolding digits stuck_text stuck_words kings one_line
why_plans_are_stuck = (refl, refl, refl, refl, refl, refl)
