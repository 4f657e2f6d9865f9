-- Worked examples of the deals that beat a plan, in words.
use Rattle.std.specs.Prelude.{◌≡◌, ◌≤◌, ◌==◌, ℕ, Bool, true, false, Option, None, Some, List, refl, [], ◌∷◌, ◌++◌, length, codes, map, replicate}
use Rattle.std.proofs.Common.{arith}
use Rattle.std.specs.List.{All, list_any}
use Rattle.std.specs.Fmt.{digits}
use Rattle.std.proofs.lemmas.List.Elements.{All-head}
use Rattle.crib_problem.specs.Setup.{Setup}
use Rattle.crib_problem.proofs.ExampleProblems.{four_twos, aces}
use Rattle.crib_plan.specs.declared.plan.Node.{Node}
use Rattle.crib_game.specs.declared.section.game.Game.{Game}
use Rattle.crib_game.specs.declared.following.ending.Ending.TheVariants.{Stuck}
use Rattle.crib_check.specs.declared.verdict.Verdict.TheVariants.{Fails, Holds}
use Rattle.crib_beaten.proofs.TermExamples.{aces_are_open, aces_beat_it, in_none, unheld}
use Rattle.crib_beaten.specs.Terms.{AreBestFirst, AreRows}
use Rattle.crib_beaten.specs.declared.rows.Row.{Row}
use Rattle.crib_beaten.specs.declared.rows.Rows.{Rows}
use Rattle.crib_plan_sheet.specs.PlanText.{label, rank_words}
use Rattle.crib_plan_sheet.specs.PlanSheetSize.{longest_line}
use Rattle.crib_sheet.specs.PlanBeaten.{AreHands, AreHandsOf, AreBeating, AreBeatingOf, IsAligned}
use Rattle.crib_sheet.specs.PlanBeaten.{deals_word, grouped, hands_text, deals_line, beating_text, others_line, rows_lines, slot_part, slot_text, term_text}

-- ---- slots

-- the slot of a card that has one of some ranks
abbrev slot_of : List ℕ → List Bool
slot_of ranks = map (λ rank. list_any (λ one. one == rank) ranks) (1 ∷ 2 ∷ 3 ∷ 4 ∷ 5 ∷ 6 ∷ 7 ∷ 8 ∷ 9 ∷ 10 ∷ 11 ∷ 12 ∷ 13 ∷ [])

abbrev of_any : List Bool
of_any = replicate 13 true

abbrev a_nine : List Bool
a_nine = slot_of (9 ∷ [])

abbrev ten_to_king : List Bool
ten_to_king = slot_of (10 ∷ 11 ∷ 12 ∷ 13 ∷ [])

abbrev ace_three_four : List Bool
ace_three_four = slot_of (1 ∷ 3 ∷ 4 ∷ [])

-- ---- rows
abbrev nines : Row
nines = record { term = a_nine ∷ a_nine ∷ ten_to_king ∷ of_any ∷ []; deals = 118080 }

abbrev one_deal : Row
one_deal = record { term = of_any ∷ of_any ∷ of_any ∷ ace_three_four ∷ []; deals = 1 }

-- `(A 3 4) (A 3 4) (A 3 4) K`
abbrev with_a_king : Row
with_a_king = record { term = ace_three_four ∷ ace_three_four ∷ ace_three_four ∷ slot_of (13 ∷ []) ∷ []; deals = 1 }

figures_in_words :
    (map grouped (0 ∷ 820 ∷ 1000 ∷ 59040 ∷ 121738020 ∷ []) ≡ codes "0" ∷ codes "820" ∷ codes "1,000" ∷ codes "59,040" ∷ codes "121,738,020" ∷ [])
    × (map slot_part (of_any ∷ a_nine ∷ ten_to_king ∷ ace_three_four ∷ []) ≡ [] ∷ codes " 9" ∷ codes " (T-K)" ∷ codes " (A 3 4)" ∷ [])
    × (map slot_part (slot_of [] ∷ slot_of (13 ∷ []) ∷ slot_of (1 ∷ 13 ∷ []) ∷ (false ∷ replicate 12 true) ∷ (replicate 12 true ++ false ∷ []) ∷ [])
    ≡ codes " ()" ∷ codes " K" ∷ codes " (A K)" ∷ codes " (2-K)" ∷ codes " (A-Q)" ∷ [])
    × (rows_lines (nines ∷ one_deal ∷ []) ≡ codes "    9 9 (T-K)                   118,080 deals\n" ++ codes "    (A 3 4)                           1\n")
    × (rows_lines (one_deal ∷ []) ≡ codes "    (A 3 4)                           1 deal\n")
    × (rows_lines [] ≡ [])
    × (map others_line (0 ∷ 999 ∷ 29520 ∷ [])
    ≡ [] ∷ codes "    and others                      999\n" ∷ codes "    and others                   29,520\n" ∷ [])
    × (map deals_word (0 ∷ 1 ∷ 2 ∷ []) ≡ codes " deals" ∷ codes " deal" ∷ codes " deals" ∷ [])
unfolding digits slot_text label rank_words deals_line
figures_in_words = (refl, refl, refl, refl, refl, refl, refl, refl)

-- ---- the paragraph
paragraphs :
    (beating_text 122175900 437880 (Some (record { rows = record { items = nines ∷ [] }; others = 319800 }))
    ≡ codes "This plan is not sure. It reaches your goal with 121,738,020 of the\n122,175,900 deals that they may have, whatever they play. "
    ++ codes "With the other\n437,880 they can beat it. They then hold, at least:\n\n    9 9 (T-K)                   118,080 deals\n"
    ++ codes "    and others                  319,800\n\nIn brackets: one card of these ranks. Hands of two rows are in the first.\n")
    × (hands_text (Some (record { rows = record { items = [] }; others = 820 }))
    ≡ codes " They then hold, at least:\n\n    and others                      820\n\n"
    ++ codes "In brackets: one card of these ranks. Hands of two rows are in the first.\n")
    × (hands_text None ≡ codes "\n")
unfolding beating_text deals_line digits slot_text label rank_words
paragraphs = (refl, refl, refl)

-- ---- when the figures are right
-- four aces are open, and beat a plan that states a card that isn't held
aces_are_counted : (hands : Option Rows) → (AreBeating four_twos unheld 0 1 hands → ⊥) × (AreBeating four_twos unheld 1 0 hands → ⊥)
aces_are_counted hands = (
  λ are. in_none aces are.are_open.deals ((are.are_open.each aces).1 (refl, aces_are_open)) are.are_open.counted,
  λ are. in_none aces are.are_beaten.deals ((are.are_beaten.each aces).1 (refl, aces_beat_it)) are.are_beaten.counted,
)

-- 820 of 8,200 deals are a tenth
rows_of_a_tenth : (problem : Setup) (plan : List Node) (rows : Rows) → AreHandsOf problem plan 8200 820 (Some rows) →
    AreRows problem plan [] rows.rows.items rows.others × AreBestFirst rows.rows.items
    × All (λ (row : Row). length (term_text row.term) ≤ 24) rows.rows.items
rows_of_a_tenth problem plan rows are = (are.1.exact, are.1.best_first, are.1.narrow)

rows_if_few : (problem : Setup) (plan : List Node) (rows : Rows) →
    (AreHandsOf problem plan 8200 820 None → ⊥) × (AreHandsOf problem plan 8199 820 (Some rows) → ⊥) × AreHandsOf problem plan 8199 820 None
rows_if_few problem plan rows = (λ are. absurd (omega (arith, are)), λ are. absurd (omega (arith, are.0)), omega arith)

-- right rows are right beside a tenth, and rows with a row of no deal are not. Figures of a tenth without rows are not right
beside_a_tenth : (problem : Setup) (plan : List Node) (rows : Rows) → AreHands problem plan rows → AreHandsOf problem plan 8200 820 (Some rows)
beside_a_tenth problem plan rows are = (omega arith, are)

no_deal_in_a_row : (problem : Setup) (plan : List Node) →
    AreHandsOf problem plan 8200 820 (Some (record { rows = record { items = record one_deal { deals = 0 } ∷ [] }; others = 0 })) → ⊥
no_deal_in_a_row problem plan are = absurd (omega (arith, are.1.best_first.0))

a_tenth_without_rows : (problem : Setup) (plan : List Node) → AreBeating problem plan 8200 820 None → ⊥
a_tenth_without_rows problem plan are = absurd (omega (arith, are.are_hands))

-- a plan that fails isn't beaten by no deal, and a sure plan has any figures
figures_of_verdicts : (game : Game) → (AreBeatingOf four_twos unheld (Fails Stuck game) 1 0 None → ⊥) × AreBeatingOf four_twos unheld Holds 1 0 None
figures_of_verdicts game = ((aces_are_counted None).1, tt)

-- ---- columns: a number of up to nine digits behind up to 25 bytes ends in column 39, and no other does
too_long : ((◌≡◌ {A = ℕ} 41 40) → ⊥) × ((◌≡◌ {A = ℕ} 42 40) → ⊥)
too_long = ((λ same. absurd cc), (λ same. absurd cc))

numbers_end_in_a_column : IsAligned (codes " and others") 5 × IsAligned (term_text nines.term) 118080 × IsAligned (replicate 25 32) 121738020
    × (IsAligned (replicate 26 32) 5 → ⊥) × (IsAligned [] 1000000000 → ⊥)
unfolding digits deals_line slot_text label rank_words
numbers_end_in_a_column = (refl, refl, refl, too_long.0, too_long.1)

-- a row of 26 columns, and numbers of ten digits
rows_out_of_their_columns : (problem : Setup) (plan : List Node) (rows : Rows) → AreHands problem plan rows →
    (rows.rows.items ≡ with_a_king ∷ [] → ⊥) × (rows.rows.items ≡ record one_deal { deals = 1000000000 } ∷ [] → ⊥) × (rows.others ≡ 1000000000 → ⊥)
unfolding digits deals_line slot_text label rank_words
rows_out_of_their_columns problem plan rows are = (
  λ same. absurd (omega (arith, All-head (λ (row : Row). length (term_text row.term) ≤ 24) with_a_king [] (rw same at are.narrow))),
  λ same. too_long.1 (All-head (λ (row : Row). IsAligned (term_text row.term) row.deals) (record one_deal { deals = 1000000000 }) [] (rw same at are.aligned)),
  λ same. too_long.1 (rw same at are.others_aligned),
)

-- the longest line of the paragraph above is its last one
no_wide_line : longest_line 0 (beating_text 122175900 437880 (Some (record { rows = record { items = nines ∷ [] }; others = 319800 }))) ≡ 73
unfolding beating_text deals_line digits slot_text label rank_words
no_wide_line = refl
