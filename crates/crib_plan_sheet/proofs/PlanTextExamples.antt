-- Worked examples of the texts of sheets.
use Rattle.std.specs.Prelude.{◌≡◌, ℕ, false, refl, Bool, List, [], ◌∷◌, ◌++◌, map, codes}
use Rattle.std.specs.List.{count_by}
use Rattle.std.specs.Fmt.{digits}
use Rattle.crib_cards.specs.Sets.{has}
use Rattle.crib_plan.specs.Spelling.{letter_bytes}
use Rattle.crib_plan_sheet.specs.PlanSheet.{Row, Sheet, Over, Plays, Looks, Named, NoLine, sheet_with}
use Rattle.crib_plan_sheet.specs.PlanText.{rank_words, label, row_text, paragraph_text, sheet_text}
use Rattle.crib_plan_sheet.specs.PlanSheetSize.{sheet_lines, longest_line}
use Rattle.crib_plan.specs.declared.plan.Next.TheVariants.{End, To}
use Rattle.crib_plan.specs.declared.plan.Node.TheVariants.{Play, See}
use Rattle.crib_plan_sheet.specs.PlanBranches.{node_leads, plan_branches}
use Rattle.crib_plan_sheet.proofs.PlanExamples.{look, deuce, heart, spade, three_eights, eights_sheet}

-- ---- labels

-- a set with these letters of a plan's lines
abbrev set_of : List ℕ → List Bool
set_of letters = map (has letters) letter_bytes

-- two neighbours are words of their own, three are a range, and a go is last. No label is longer than the last one, of twenty bytes
labels_of_sets : map (λ letters. label (set_of letters))
    ([] ∷ codes "2" ∷ codes "45" ∷ codes "456" ∷ codes "g" ∷ codes "A456789TJQKg" ∷ letter_bytes ∷ codes "A24578TJKg" ∷ [])
    ≡ [] ∷ codes "2" ∷ codes "4 5" ∷ codes "4-6" ∷ codes "go" ∷ codes "A 4-K go" ∷ codes "A-K go" ∷ codes "A 2 4 5 7 8 T J K go" ∷ []
unfolding label rank_words
labels_of_sets = refl

-- ---- rows

rows_as_texts :
    (row_text 0 Over ≡ codes "\n")
    × (row_text 0 (Plays heart (Plays deuce Over)) ≡ codes "8H 2S\n")
    × (row_text 0 (Plays heart (Looks NoLine)) ≡ codes "8H, then look:\n")
    × (row_text 0 (look ((codes "2", Plays heart Over) ∷ (codes "Ag", Over) ∷ [])) ≡ codes "look:\n" ++ codes "    2    : 8H\n" ++ codes "    A go : \n")
    × (row_text 0 (Plays heart (Named 107)) ≡ codes "8H, then see [107]\n")
unfolding label rank_words digits
rows_as_texts = (refl, refl, refl, refl, refl)

paragraphs_as_texts :
    (paragraph_text (record { number = 10; row = Plays spade Over }) ≡ codes "\n[10] 8S\n")
    × (paragraph_text (record { number = 3; row = look ((codes "3", Plays heart Over) ∷ (codes "g", Plays spade Over) ∷ []) })
    ≡ codes "\n[3] look:\n    3  : 8H\n    go : 8S\n")
unfolding paragraph_text digits label rank_words
paragraphs_as_texts = (refl, refl)

-- ---- sheets

eights_text : sheet_text (sheet_with (λ node. false) three_eights) ≡
    codes "8D, then look:\n"
    ++ codes "    A 4-K : 2S 8H 8S\n"
    ++ codes "    2     : 8H 2S 8S\n"
    ++ codes "    3     : 8H, then look:\n"
    ++ codes "        A 3-K : 2S 8S\n"
    ++ codes "        2     : 8S 2S\n"
unfolding sheet_with sheet_text label rank_words
eights_text = refl

eights_with_a_paragraph : sheet_text eights_sheet ≡
    codes "8D, then look:\n    A 4-K : 2S 8H, then see [10]\n    2     : 8H 2S, then see [10]\n    3     : 8H, then look:\n"
    ++ codes "        A 3-K : 2S, then see [10]\n        2     : 8S 2S\n\n[10] 8S\n"
unfolding sheet_with sheet_text paragraph_text label rank_words digits
eights_with_a_paragraph = refl

-- ---- sizes

-- a sheet whose paragraph is larger than its first row
unfoldable pub paragraph_of_size : Row → Sheet
paragraph_of_size row = record { first = Plays heart (Named 1); paragraphs = record { number = 1; row = row } ∷ [] }

sizes_of_sheets :
    (sheet_lines eights_sheet ≡ 5)
    × (sheet_lines (paragraph_of_size (look ((codes "2", Over) ∷ (codes "3", look ((codes "g", Over) ∷ [])) ∷ []))) ≡ 3)
    × (longest_line 0 (codes "8D\n2S 8H\n") ≡ 5)
    × (longest_line 4 (codes "8D\n2S 8H\n") ≡ 6)
    × (longest_line 0 (codes "8D\n2S 8H") ≡ 5)
unfolding sheet_with paragraph_of_size
sizes_of_sheets = (refl, refl, refl, refl, refl)

-- ---- branches

-- the nodes 3 and 6 lead to node 7, though many letters do
branches_and_ways :
    (plan_branches (See (To 1 ∷ To 1 ∷ To 2 ∷ End ∷ []) ∷ Play deuce End ∷ []) ≡ 2)
    × (plan_branches three_eights ≡ 5)
    × (map (λ number. count_by (node_leads number) three_eights) (7 ∷ 8 ∷ 0 ∷ []) ≡ 2 ∷ 1 ∷ 0 ∷ [])
branches_and_ways = (refl, refl, refl)
