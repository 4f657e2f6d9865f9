-- Worked examples of deals that are played from a sheet, of nodes with paragraphs of their own, and of where a plan halts.
use Rattle.std.proofs.Common.{ap, arith, length, length-append, ◌≡◌, ◌⊎◌, refl, true, false, List, [], ◌∷◌, codes, map, Some, None, inl, inr}
use Rattle.std.specs.Prelude.{◌==◌}
use Rattle.std.proofs.lemmas.Bool.{both_ways}
use Rattle.crib_cards.specs.Sets.{set_where}
use Rattle.crib_cards.specs.declared.sides.Dealt.{Dealt}
use Rattle.crib_cards.specs.declared.sides.Side.TheVariants.{Owner, Opponent}
use Rattle.crib_cards.specs.declared.letters.Letter.TheVariants.{Seen, Go}
use Rattle.crib_cards.specs.declared.moves.Move.{Move}
use Rattle.crib_cards.specs.declared.moves.Move.TheVariants as move
use Rattle.crib_play.specs.Legal.{IsLegal}
use Rattle.crib_problem.specs.Setup.{IsDealOf, hands_of, start_of}
use Rattle.crib_problem.proofs.ExampleProblems.{plays, level, level_deal, four_twos, after_two, aces, close_to_lost, pairing}
use Rattle.crib_plan.specs.declared.plan.Next.TheVariants.{End, To}
use Rattle.crib_plan.specs.declared.plan.Node.{Node}
use Rattle.crib_plan.specs.declared.plan.Node.TheVariants.{Play, See}
use Rattle.crib_game.specs.Replay.{outcome_for, play_scores}
use Rattle.crib_show.specs.declared.show.outcomes.Outcome.TheVariants as outcome
use Rattle.crib_show.specs.Show.{crib_points, hand_points}
use Rattle.crib_plan_sheet.specs.PlanBranches.{branch_count, node_leads}
use Rattle.crib_plan_sheet.specs.PlanOutline.{IsTooLarge, OnlyLargeAreApart, first_cards, row_at}
use Rattle.crib_plan_sheet.specs.PlanPlay.{IsAsFound, IsPlayedFrom, PlaysFrom, ReachesGoal, card_found, has_choice, row_after, turns_by, turns_of, turns_shown}
use Rattle.crib_plan_sheet.specs.PlanSheet.{Line, Looks, Named, NoLine, Over, OwnCard, Plays, Row, Sheet, Shown}
use Rattle.crib_plan_sheet.specs.PlanSheet.{card_on, is_for, read_card, read_letter, read_on}
use Rattle.crib_plan_sheet.specs.PlanSheet.{read_turn, read_turns, row_for, row_named, sheet_card}
use Rattle.crib_plan_sheet.specs.PlanStuck.{halt_after, halt_at, halt_of, halt_with, letter_word, stated_words}
use Rattle.crib_plan_sheet.specs.declared.stuck.Halt.TheVariants as halts
use Rattle.crib_show.specs.Outcome.{outcome_from}

-- four twos in a row
abbrev pub twos : Sheet
twos = record { first = Plays 4 (Plays 5 (Plays 6 (Plays 7 Over))); paragraphs = [] }

abbrev nothing : Sheet
nothing = record { first = Over; paragraphs = [] }

-- ---- what a reader sees
-- the first card of the owner is the last one of the record, and turns of the opening are not read
turns_and_their_cards :
    (turns_by Owner (move.Card 4) ∷ turns_by Owner move.Go ∷ turns_by Opponent (move.Card 4) ∷ turns_by Opponent move.Go ∷ []
    ≡ (OwnCard ∷ []) ∷ [] ∷ (Shown (Seen 2) ∷ []) ∷ (Shown Go ∷ []) ∷ [])
    × (turns_of (plays Opponent 48) ≡ Shown (Seen 13) ∷ [])
    × (turns_shown four_twos (move.Card 5 ∷ move.Card 0 ∷ move.Card 4 ∷ []) ≡ OwnCard ∷ Shown (Seen 1) ∷ OwnCard ∷ [])
    × (turns_shown after_two (move.Card 48 ∷ move.Card 5 ∷ move.Card 0 ∷ move.Card 4 ∷ []) ≡ OwnCard ∷ Shown (Seen 13) ∷ [])
    × (card_found four_twos twos [] ∷ card_found four_twos twos (move.Card 0 ∷ move.Card 4 ∷ []) ∷ card_found four_twos nothing [] ∷ []
    ≡ Some 4 ∷ Some 5 ∷ None ∷ [])
    × (card_found after_two twos (move.Card 5 ∷ move.Card 0 ∷ move.Card 4 ∷ []) ≡ Some 5)
    × (row_after four_twos twos (move.Card 5 ∷ move.Card 0 ∷ move.Card 4 ∷ []) ≡ Plays 6 (Plays 7 Over))
unfolding sheet_card row_after
turns_and_their_cards = (refl, refl, refl, refl, refl, refl, refl)

-- ---- turns as they are found
-- a go and a card of the opponent are as they are found
as_found : IsAsFound (Some 4) Owner (move.Card 4) × IsAsFound None Owner move.Go × IsAsFound None Opponent (move.Card 5)
as_found = (refl, tt, tt)

not_as_found : IsAsFound (Some 4) Owner (move.Card 5) → ⊥
not_as_found is = (let card = is in cc)

plays_two_twos : PlaysFrom four_twos twos (move.Card 5 ∷ move.Card 0 ∷ move.Card 4 ∷ [])
unfolding sheet_card
plays_two_twos = (((tt, λ over. refl), λ over. tt), λ over. refl)

another_two : PlaysFrom four_twos twos (map move.Card (6 ∷ 0 ∷ 4 ∷ [])) ⊎ PlaysFrom four_twos twos (map move.Card (5 ∷ 0 ∷ 7 ∷ [])) → ⊥
unfolding sheet_card
another_two (inl plays) = (let card = plays.1 refl in cc)
another_two (inr plays) = (let card = plays.0.0.1 refl in cc)

-- the opening is own 2C and opp AC, and the sheet doesn't have to state that 2C
plays_after_the_opening : PlaysFrom after_two (record { first = Plays 5 Over; paragraphs = [] }) (move.Card 5 ∷ move.Card 0 ∷ move.Card 4 ∷ [])
unfolding sheet_card
plays_after_the_opening = (((tt, λ over. absurd (both_ways false refl over)), λ over. absurd (both_ways false refl over)), λ over. refl)

plays_after_one_turn : PlaysFrom (record four_twos { played = plays Owner 4 ∷ [] }) (record { first = Plays 5 Over; paragraphs = [] }) (move.Card 4 ∷ [])
plays_after_one_turn = (tt, λ over. absurd (both_ways false refl over))

-- ---- records that are played from a sheet
aces_are_a_deal : IsDealOf four_twos aces
unfolding set_where
aces_are_a_deal = record { deal = record { held = refl; thrown = refl; distinct = refl; hidden_before = refl }; fixed = refl }

at_the_lead : (sheet : Sheet) → IsPlayedFrom four_twos sheet aces []
at_the_lead sheet = record { deal = aces_are_a_deal; legal = tt; begins = record { later = []; parts = refl }; from_sheet = tt }

-- after the opening own 2C the empty record is none
not_before_the_opening : (sheet : Sheet) (dealt : Dealt) → IsPlayedFrom (record four_twos { played = plays Owner 4 ∷ [] }) sheet dealt [] → ⊥
not_before_the_opening sheet dealt is = omega (arith, ap length is.begins.parts, length-append is.begins.later (plays Owner 4 ∷ []))

not_a_card_of_before : (sheet : Sheet) (dealt : Dealt) (played : List Move) → (IsLegal (start_of four_twos) (hands_of four_twos dealt) played → ⊥) →
    IsPlayedFrom four_twos sheet dealt played → ⊥
not_a_card_of_before sheet dealt played none is = none is.legal

not_with_two_thrown : (sheet : Sheet) (played : List Move) → IsPlayedFrom four_twos sheet (record aces { throw = 8 ∷ [] }) played → ⊥
not_with_two_thrown sheet played is = (let two = is.deal.deal.thrown in absurd (omega (arith, two)))

not_from_this_sheet : (dealt : Dealt) → IsPlayedFrom four_twos twos dealt (move.Card 5 ∷ []) → ⊥
unfolding sheet_card
not_from_this_sheet dealt is = (let card = is.from_sheet.1 refl in cc)

-- ---- a choice: at the lead, not on the other's turn, not after the end, and not where no card fits
-- the second row: TC TD 9C make 29, the opponent says go, and of 3C 8C none fits. The third: only 2S is left to play
choices_of_the_owner :
    (has_choice four_twos aces [] ∷ has_choice four_twos aces (move.Card 4 ∷ []) ∷ has_choice four_twos aces (move.Card 0 ∷ move.Card 4 ∷ []) ∷
    has_choice close_to_lost pairing (move.Card 1 ∷ move.Card 0 ∷ []) ∷ [] ≡ true ∷ false ∷ true ∷ false ∷ [])
    × (has_choice (record level { hold = 36 ∷ 32 ∷ 8 ∷ 28 ∷ [] }) level_deal (move.Go ∷ move.Card 32 ∷ move.Card 37 ∷ move.Card 36 ∷ []) ≡ false)
    × (has_choice (record four_twos { dealer = Owner }) aces (map move.Card (3 ∷ 6 ∷ 2 ∷ 5 ∷ 1 ∷ 4 ∷ 0 ∷ [])) ≡ true)
choices_of_the_owner = (refl, refl, refl)

-- a sheet without a card doesn't reach the goal: at the lead it states none, though the row has ended
no_card_is_found : ReachesGoal four_twos nothing → ⊥
unfolding sheet_card
no_card_is_found reaches = absurd (both_ways false refl (reaches.found aces [] (at_the_lead nothing) refl))

-- nor does any other whose row has ended there
choice_where_the_row_has_ended : (sheet : Sheet) → row_after four_twos sheet [] ≡ Over → ReachesGoal four_twos sheet → ⊥
choice_where_the_row_has_ended sheet ended reaches = absurd (both_ways true (reaches.no_choice_left aces [] [] (at_the_lead sheet) ended) refl)

-- after 2C nothing has to be chosen on the opponent's turn, but once they have played AC
two_and_ace : IsPlayedFrom four_twos (record { first = Plays 4 Over; paragraphs = [] }) aces (move.Card 0 ∷ move.Card 4 ∷ [])
unfolding sheet_card
two_and_ace = record {
  deal = aces_are_a_deal;
  legal = assumption;
  begins = record { later = plays Opponent 0 ∷ plays Owner 4 ∷ []; parts = refl };
  from_sheet = ((tt, λ over. refl), λ over. tt);
}

choice_after_the_row_has_ended : ReachesGoal four_twos (record { first = Plays 4 Over; paragraphs = [] }) → ⊥
unfolding row_after
choice_after_the_row_has_ended reaches =
    absurd (both_ways true (reaches.no_choice_left aces (move.Card 0 ∷ []) (move.Card 4 ∷ []) two_and_ace refl) refl)

-- four twos in a row make twelve holes of thirteen
abbrev all_turns : List Move
all_turns = move.Card 3 ∷ move.Card 7 ∷ move.Card 2 ∷ move.Card 6 ∷ move.Card 1 ∷ move.Card 5 ∷ move.Card 0 ∷ move.Card 4 ∷ []

twos_to_the_end : IsPlayedFrom four_twos twos aces all_turns
unfolding sheet_card
twos_to_the_end = record {
  deal = aces_are_a_deal;
  legal = assumption;
  begins = record {
    later = plays Opponent 3 ∷ plays Owner 7 ∷ plays Opponent 2 ∷ plays Owner 6 ∷ plays Opponent 1 ∷ plays Owner 5 ∷ plays Opponent 0 ∷ plays Owner 4 ∷ [];
    parts = refl;
  };
  from_sheet = ((((((((tt, λ over. refl), λ over. tt), λ over. refl), λ over. tt), λ over. refl), λ over. tt), λ over. refl), λ over. tt);
}

pub twos_fall_short : ReachesGoal four_twos twos → ⊥
unfolding outcome_from hand_points crib_points
twos_fall_short reaches = (let short = reaches.reached aces all_turns twos_to_the_end refl in cc)

goal_is_reached_at_the_end : ReachesGoal four_twos twos → outcome_for four_twos aces (play_scores four_twos all_turns) ≡ outcome.Reached
goal_is_reached_at_the_end reaches = reaches.reached aces all_turns twos_to_the_end refl

-- ---- nodes with paragraphs of their own
-- five cards, five levels, and a look that is led to twice
too_large : IsTooLarge 5 0 1 × IsTooLarge 4 5 1 × IsTooLarge 4 1 2
too_large = (inl (omega arith), inr (inl (omega arith)), inr (inr (omega arith, omega arith)))

-- four cards and levels, and cards alone that are led to twice
small_enough : IsTooLarge 4 4 1 ⊎ IsTooLarge 4 0 2 → ⊥
small_enough large = omega (arith, large)

abbrev in_a_row : List Node
in_a_row = Play 4 (To 1) ∷ Play 5 (To 2) ∷ Play 6 (To 3) ∷ Play 7 End ∷ []

-- the first node never is apart, nor are two cards
not_apart : OnlyLargeAreApart (λ node. node == 0) in_a_row ⊎ OnlyLargeAreApart (λ node. node == 2) in_a_row → ⊥
not_apart (inl only) = (let first = (only 0 refl).0 in absurd (omega (arith, first)))
not_apart (inr only) =
    elim ((only 2 refl).1) [
      | inl large ↦ (let small : IsTooLarge 2 0 1 = large in omega (arith, small))
      | inr named ↦ absurd (both_ways false refl named)
    ]

nothing_is_apart : OnlyLargeAreApart (λ node. false) in_a_row
nothing_is_apart node apart = absurd (both_ways false refl apart)

rows_and_their_nodes :
    (map first_cards (Over ∷ Plays 4 (Plays 5 Over) ∷ Plays 4 (Looks (Line [] (Plays 5 Over) NoLine)) ∷ Looks NoLine ∷ Named 3 ∷ []) ≡ 0 ∷ 2 ∷ 1 ∷ 0 ∷ 0 ∷ [])
    × (row_at (λ node. false) in_a_row 2 ≡ Plays 6 (Plays 7 Over))
    × (row_at (λ node. node == 3) in_a_row 2 ≡ Plays 6 (Named 3))
    × (map (node_leads 2) (Play 4 (To 2) ∷ Play 4 (To 3) ∷ Play 4 End ∷ See (To 1 ∷ To 2 ∷ []) ∷ See (To 1 ∷ End ∷ []) ∷ [])
    ≡ true ∷ false ∷ false ∷ true ∷ false ∷ [])
    × (map branch_count (Play 4 (To 2) ∷ See [] ∷ See (To 2 ∷ To 1 ∷ To 2 ∷ End ∷ []) ∷ []) ≡ 0 ∷ 0 ∷ 2 ∷ [])
rows_and_their_nodes = (refl, refl, refl, refl, refl)

-- ---- reading a sheet with the paragraph [3], a look, and a line for an ace and one for a go
abbrev a_look : Row
a_look = Looks (Line (true ∷ false ∷ []) (Named 3) (Line (true ∷ true ∷ []) (Plays 5 Over) NoLine))

abbrev with_a_paragraph : Sheet
with_a_paragraph = record { first = a_look; paragraphs = record { number = 2; row = Plays 9 Over } ∷ record { number = 3; row = Plays 8 (Named 2) } ∷ [] }

abbrev four_rows : List Row
four_rows = Over ∷ Plays 4 (Named 3) ∷ a_look ∷ Named 3 ∷ []

reading_rows :
    (map (row_named with_a_paragraph.paragraphs) (1 ∷ 2 ∷ 3 ∷ []) ≡ Over ∷ Plays 9 Over ∷ Plays 8 (Named 2) ∷ [])
    × (map (read_on with_a_paragraph) four_rows ≡ Over ∷ Plays 4 (Named 3) ∷ a_look ∷ Plays 8 (Named 2) ∷ [])
    × (map card_on four_rows ≡ None ∷ Some 4 ∷ None ∷ None ∷ [])
    × (map (read_card with_a_paragraph) four_rows ≡ Over ∷ Plays 8 (Named 2) ∷ a_look ∷ Named 3 ∷ [])
    × (map (λ row. read_letter with_a_paragraph row (Seen 1)) four_rows ≡ Over ∷ Plays 4 (Named 3) ∷ Plays 8 (Named 2) ∷ Named 3 ∷ [])
    × (map (read_letter with_a_paragraph a_look) (Seen 2 ∷ Go ∷ []) ≡ Plays 5 Over ∷ Over ∷ [])
    × (map (is_for (true ∷ false ∷ true ∷ [])) (Seen 1 ∷ Seen 2 ∷ Seen 3 ∷ Go ∷ []) ≡ true ∷ false ∷ true ∷ false ∷ [])
    × (map (row_for (Line (true ∷ false ∷ []) (Named 3) (Line (true ∷ true ∷ []) (Plays 5 Over) NoLine))) (Seen 1 ∷ Seen 2 ∷ Seen 3 ∷ [])
    ≡ Named 3 ∷ Plays 5 Over ∷ Over ∷ [])
    × (map (read_turn with_a_paragraph (Plays 4 (Named 3))) (OwnCard ∷ Shown (Seen 1) ∷ []) ≡ Plays 8 (Named 2) ∷ Plays 4 (Named 3) ∷ [])
    × (read_turns with_a_paragraph a_look (Shown (Seen 1) ∷ OwnCard ∷ Shown Go ∷ []) ≡ Plays 9 Over)
reading_rows = (refl, refl, refl, refl, refl, refl, refl, refl, refl, refl)

-- ---- where a plan halts: it plays 2C, looks, and has a line for an ace alone
abbrev one_line : List Node
one_line = Play 4 (To 1) ∷ See (To 2 ∷ []) ∷ Play 5 End ∷ Play 6 End ∷ []

-- in games the plan begins after the opening own 2C and opp AC, and so it still looks at what the opponent shows next
halts_and_their_words :
    (halt_at halts.NoNode End ∷ halt_at halts.NoNode (To 3) ∷ [] ≡ halts.NoNode ∷ halts.At 3 ∷ [])
    × (map (λ halt. halt_with one_line halt OwnCard) (halts.At 0 ∷ halts.At 1 ∷ halts.At 2 ∷ halts.NoNode ∷ halts.Ended 2 ∷ halts.NoLine 1 Go ∷ [])
    ≡ halts.At 1 ∷ halts.At 1 ∷ halts.Ended 2 ∷ halts.NoNode ∷ halts.Ended 2 ∷ halts.NoLine 1 Go ∷ [])
    × (map (λ halt. halt_with one_line halt (Shown (Seen 13))) (halts.At 0 ∷ halts.At 1 ∷ halts.NoNode ∷ halts.Ended 2 ∷ halts.NoLine 1 Go ∷ [])
    ≡ halts.At 0 ∷ halts.NoLine 1 (Seen 13) ∷ halts.NoNode ∷ halts.Ended 2 ∷ halts.NoLine 1 Go ∷ [])
    × (halt_after one_line (halts.At 0) (OwnCard ∷ Shown (Seen 1) ∷ []) ≡ halts.At 2)
    × (halt_of four_twos one_line (plays Owner 4 ∷ plays Opponent 48 ∷ []) ≡ halts.NoLine 1 (Seen 13))
    × (halt_of after_two one_line (plays Owner 4 ∷ plays Opponent 0 ∷ plays Owner 5 ∷ []) ≡ halts.At 1)
    × (halt_of after_two (See (To 1 ∷ []) ∷ Play 5 End ∷ []) (plays Owner 4 ∷ plays Opponent 0 ∷ []) ≡ halts.At 0)
    × (map letter_word (Seen 1 ∷ Seen 10 ∷ Seen 13 ∷ Go ∷ []) ≡ codes "A" ∷ codes "T" ∷ codes "K" ∷ codes "go" ∷ [])
    × (map (stated_words (4 ∷ 28 ∷ [])) (None ∷ Some 4 ∷ Some 28 ∷ Some 5 ∷ []) ≡ codes " looks at what they show next, and it is your turn.\n"
    ∷ codes " states 2C, which doesn't fit.\n" ∷ codes " states 8C, which doesn't fit.\n" ∷ codes " states 2D, which you don't hold.\n" ∷ [])
halts_and_their_words = (refl, refl, refl, refl, refl, refl, refl, refl, refl)
