-- Worked examples of the sheets of plans.
use Rattle.std.proofs.Common.{◌≡◌, ℕ, ◌≤◌, true, false, refl, List, [], ◌∷◌, ◌++◌, map, nat_le, replicate, codes, None, Some, arith}
use Rattle.std.specs.Prelude.{◌==◌}
use Rattle.crib_cards.specs.Sets.{has}
use Rattle.crib_cards.specs.declared.letters.Letter.TheVariants.{Seen, Go}
use Rattle.crib_plan.specs.declared.plan.Next.TheVariants.{End, To}
use Rattle.crib_plan.specs.declared.plan.Node.{Node}
use Rattle.crib_plan.specs.declared.plan.Node.TheVariants.{Play, See}
use Rattle.crib_plan.specs.Spelling.{letter_bytes}
use Rattle.crib_plan_sheet.specs.PlanOutline.{BeginsWithFirst, apart_in, behind_cards, first_look, is_among, looks_to_name, second_looks}
use Rattle.crib_plan_sheet.specs.PlanSheet.{Row, Lines, Sheet, Over, Plays, Looks, Named, NoLine, Line, OwnCard, Shown, row_for, sheet_with, sheet_card}

-- a look, with the letters of each line as a plan writes them
abbrev pub lines_of : List (List ℕ × Row) → Lines
lines_of [] = NoLine
lines_of (line ∷ others) = Line (map (has line.0) letter_bytes) line.1 (lines_of others)

abbrev pub look : List (List ℕ × Row) → Row
look lines = Looks (lines_of lines)

-- the deuce and the eights that are held
abbrev pub deuce : ℕ
deuce = 7

abbrev diamond : ℕ
diamond = 29

abbrev pub heart : ℕ
heart = 30

abbrev pub spade : ℕ
spade = 31

-- it leads an eight, and looks at the dealer's card
abbrev pub three_eights : List Node
three_eights =
    Play diamond (To 1) ∷ See (To 8 ∷ To 6 ∷ To 2 ∷ replicate 10 (To 8) ++ End ∷ []) ∷
    Play heart (To 3) ∷ See (To 7 ∷ To 4 ∷ replicate 11 (To 7) ++ End ∷ []) ∷ Play spade (To 5) ∷ Play deuce End ∷
    Play heart (To 7) ∷ Play deuce (To 10) ∷ Play deuce (To 9) ∷ Play heart (To 10) ∷ Play spade End ∷ []

-- the row with which its sheet begins, if this is what represents the last node
abbrev eights_row : Row → Row
eights_row last =
    Plays diamond (look (
    (codes "A456789TJQK", Plays deuce (Plays heart last)) ∷ (codes "2", Plays heart (Plays deuce last)) ∷
    (codes "3", Plays heart (look ((codes "A3456789TJQK", Plays deuce last) ∷ (codes "2", Plays spade (Plays deuce Over)) ∷ []))) ∷ []))

-- the sheet in which the last node has a paragraph of its own
abbrev pub eights_sheet : Sheet
eights_sheet = sheet_with (λ node. node == 10) three_eights

-- a card that the dealer shows before a look changes nothing, and no line is for a go
pub cards_of_eights : map (sheet_card eights_sheet)
    ([] ∷ (Shown (Seen 5) ∷ []) ∷ (OwnCard ∷ []) ∷ (OwnCard ∷ Shown (Seen 3) ∷ OwnCard ∷ Shown (Seen 2) ∷ [])
    ∷ (OwnCard ∷ Shown (Seen 2) ∷ OwnCard ∷ OwnCard ∷ []) ∷ (OwnCard ∷ Shown Go ∷ []) ∷ [])
    ≡ Some diamond ∷ Some diamond ∷ None ∷ Some spade ∷ Some spade ∷ None ∷ []
unfolding sheet_with sheet_card
cards_of_eights = refl

-- ---- lines

-- letters that lead to the end of the plan have no line, and those that lead to one node have one line
abbrev by_twos : List Node
by_twos =
    See (To 1 ∷ To 1 ∷ To 2 ∷ To 2 ∷ End ∷ To 3 ∷ To 3 ∷ replicate 7 End) ∷ Play deuce End ∷ Play heart End ∷ Play spade End ∷ []

pub sheets_of_plans :
    (eights_sheet ≡ record { first = eights_row (Named 10); paragraphs = record { number = 10; row = Plays spade Over } ∷ [] })
    × (sheet_with (λ node. false) three_eights ≡ record { first = eights_row (Plays spade Over); paragraphs = [] })
    × (sheet_with (λ node. false) by_twos
    ≡ record { first = look ((codes "A2", Plays deuce Over) ∷ (codes "34", Plays heart Over) ∷ (codes "67", Plays spade Over) ∷ []); paragraphs = [] })
    × (sheet_with (λ node. nat_le 2 node) by_twos ≡ record {
      first = look ((codes "A2", Plays deuce Over) ∷ (codes "34", Named 2) ∷ (codes "67", Named 3) ∷ []);
      paragraphs = record { number = 2; row = Plays heart Over } ∷ record { number = 3; row = Plays spade Over } ∷ [];
    })
unfolding sheet_with
sheets_of_plans = (refl, refl, refl, refl)

-- ---- nodes with paragraphs of their own

-- no line is for no letter. In an outline, before it, and past it
pub nodes_apart :
    (row_for (Line [] (Plays spade Over) NoLine) Go ≡ Over)
    × (apart_in (false ∷ true ∷ []) 1 ≡ true)
    × (apart_in (false ∷ true ∷ []) 0 ≡ false)
    × (apart_in (true ∷ []) 1 ≡ false)
nodes_apart = (refl, refl, refl, refl)

-- ---- long plans
-- a plan of five cards, and a look at an ace and a king behind them
abbrev five_cards : List Node
five_cards =
    Play 4 (To 1) ∷ Play 5 (To 2) ∷ Play 6 (To 3) ∷ Play 7 (To 4) ∷ Play 8 (To 5) ∷ See (To 6 ∷ replicate 11 End ++ To 6 ∷ End ∷ []) ∷
    Play 9 (To 7) ∷ See (replicate 14 End) ∷ []

-- the look after a three is the only second look of the eights, which have two looks
long_plans :
    (map (behind_cards five_cards) (To 0 ∷ To 1 ∷ To 2 ∷ To 6 ∷ To 8 ∷ End ∷ []) ≡ To 4 ∷ To 5 ∷ To 5 ∷ To 7 ∷ To 8 ∷ End ∷ [])
    × (first_look five_cards ∷ first_look three_eights ∷ first_look by_twos ∷ first_look [] ∷ [] ≡ To 5 ∷ To 1 ∷ To 0 ∷ End ∷ [])
    × (second_looks five_cards ≡ To 7 ∷ replicate 11 End ++ To 7 ∷ End ∷ [])
    × (map second_looks (by_twos ∷ (Play 4 End ∷ []) ∷ replicate 7 (Play 4 (To 1)) ∷ []) ≡ replicate 3 (replicate 14 End))
    × (looks_to_name (three_eights ++ replicate 18 (See [])) ≡ replicate 14 End)
    × (looks_to_name (three_eights ++ replicate 19 (See [])) ≡ End ∷ End ∷ To 3 ∷ replicate 11 End)
    × (map (is_among (End ∷ To 3 ∷ To 7 ∷ [])) (0 ∷ 3 ∷ 7 ∷ []) ≡ false ∷ true ∷ true ∷ [])
long_plans = (refl, refl, refl, refl, refl, refl, refl)

-- the last node is a card behind the first look
card_behind_a_look : looks_to_name (See (replicate 13 End ++ To 21 ∷ []) ∷ replicate 20 (See []) ++ Play deuce End ∷ []) ≡ replicate 14 End
card_behind_a_look = refl

-- of 21 looks the first has another one in a line: the sheet of so long a plan begins without it
begins_with_two_looks : BeginsWithFirst (λ node. false) (See (To 1 ∷ replicate 13 End) ∷ replicate 20 (See [])) → ⊥
unfolding sheet_with
begins_with_two_looks begins = (let deep : 2 ≤ 1 = begins refl in absurd (omega (arith, deep)))

begins_with_one_look : BeginsWithFirst (λ node. node == 1) (See (To 1 ∷ replicate 13 End) ∷ replicate 20 (See []))
unfolding sheet_with
begins_with_one_look long = (let flat : 1 ≤ 1 = omega arith in flat)

twenty_looks_begin_with_two : BeginsWithFirst (λ node. false) (See (To 1 ∷ replicate 13 End) ∷ replicate 19 (See []))
twenty_looks_begin_with_two long = (let e = long in absurd cc)
