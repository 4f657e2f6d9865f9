-- Worked examples of how many holes are sure, as text.
use Rattle.std.proofs.Common.{◌≡◌, ℕ, [], ◌∷◌, ◌++◌, Some, None, codes, map, refl}
use Rattle.crib_problem.specs.Setup.{Setup, IsSetup}
use Rattle.crib_tables.specs.Holes.{AreHoles}
use Rattle.std.specs.Fmt.{digits}
use Rattle.crib_cards.specs.declared.sides.Side.TheVariants.{Owner, Opponent}
use Rattle.crib_show.specs.Show.{hand_points}
use Rattle.crib_problem.proofs.ExampleProblems.{after_two, close_to_lost, four_twos, plays, says_go}
use Rattle.crib_tables.specs.declared.holes.Holes.{Holes}
use Rattle.crib_run.specs.declared.status.Status.TheVariants.{Yes}
use Rattle.crib_sheet.specs.Holes.{AreAtZero, at_zero, figure_line, hand_line, holes_reply, holes_word, not_exact_text, parts_text, pegs_line}
use Rattle.crib_sheet.specs.Holes.{sure_text, text_with, turn_line, turn_lines}

-- ---- figures
words : map holes_word (0 ∷ 1 ∷ 12 ∷ []) ≡ codes "0 holes" ∷ codes "1 hole" ∷ codes "12 holes" ∷ []
unfolding digits
words = refl

pegs_now : pegs_line after_two (record { owner = 111; opponent = 98 }) ≡ codes "pegs now: owner 111, opponent 98\n"
unfolding digits
pegs_now = refl

pegs_after_a_turn : pegs_line (record after_two { played = plays Owner 4 ∷ [] }) (record { owner = 1; opponent = 2 })
    ≡ codes "pegs now: owner 1, opponent 2\n"
unfolding digits
pegs_after_a_turn = refl

no_pegs : pegs_line four_twos (record { owner = 111; opponent = 98 }) ≡ []
no_pegs = refl

play_and_show : map (parts_text Opponent 12) (11 ∷ 12 ∷ 14 ∷ [])
    ≡ [] ∷ codes ", 0 in the play and 12 in the show" ∷ codes ", 2 in the play and 12 in the show" ∷ []
unfolding digits
play_and_show = refl

the_crib_is_not_known : parts_text Owner 12 14 ≡ []
the_crib_is_not_known = refl

figure : figure_line Opponent 12 14 ≡ codes "14 holes, 2 in the play and 12 in the show\n"
unfolding digits figure_line
figure = refl

-- ---- the figure for all turns
exact : sure_text four_twos 12 14 14 ≡ codes "sure: 14 holes, 2 in the play and 12 in the show\n"
unfolding digits sure_text figure_line
exact = refl

not_exact : sure_text (record four_twos { scores = record { owner = 110; opponent = 115 } }) 12 2 14
    ≡ codes "sure: 2 holes\nnot exact: from 110 115 somebody may be at hole 121 before all is counted\n"
    ++ codes "sure at 0 to 0: 14 holes, 2 in the play and 12 in the show\n"
unfolding digits sure_text not_exact_text figure_line
not_exact = refl

hand_of_a_dealer : hand_line Owner 2 14 ≡ codes "the hand counts 2; the crib counts too and isn't known, so no figure for the play alone\n"
unfolding digits
hand_of_a_dealer = refl

hand_of_a_pone : map (hand_line Opponent 12) (11 ∷ 12 ∷ []) ≡ codes "the hand counts 12\n" ∷ [] ∷ []
unfolding digits
hand_of_a_pone = refl

-- ---- turns
with_a_card : turn_line (record { act = plays Owner 4; holes = 12 }) 12 ≡ codes "with 2C: 12 holes\n"
unfolding digits turn_line
with_a_card = refl

with_a_go : turn_line (record { act = says_go Owner; holes = 1 }) 3 ≡ codes "with go: 1 hole, and 3 at 0 to 0\n"
unfolding digits turn_line
with_a_go = refl

two_turns : turn_lines (record { act = plays Owner 4; holes = 2 } ∷ record { act = plays Owner 5; holes = 3 } ∷ [])
    (record { act = plays Owner 4; holes = 2 } ∷ record { act = plays Owner 5; holes = 4 } ∷ [])
    ≡ codes "with 2C: 2 holes\nwith 2D: 3 holes, and 4 at 0 to 0\n"
unfolding digits turn_line
two_turns = refl

no_turn : turn_lines [] (record { act = plays Owner 4; holes = 2 } ∷ []) ≡ []
no_turn = refl

-- ---- the whole
abbrev so_many : ℕ → Holes
so_many count = record { pegs = record { owner = 0; opponent = 0 }; holes = count; turns = record { items = [] } }

pegs_in_the_text : text_with 12 after_two (record (so_many 12) { pegs = record { owner = 3; opponent = 4 } }) (so_many 12)
    ≡ codes "pegs now: owner 3, opponent 4\nsure: 12 holes, 0 in the play and 12 in the show\n"
unfolding digits text_with sure_text figure_line
pegs_in_the_text = refl

-- four twos with a king turned up count twelve. What is sure at 0 to 0 is said if it is another number
counted : holes_reply four_twos (so_many 13) None
    ≡ record { output = codes "sure: 13 holes, 1 in the play and 12 in the show\n"; status = Yes }
unfolding digits hand_points text_with sure_text figure_line
counted = refl

at_zero_too : holes_reply four_twos (so_many 11) (Some (so_many 14)) ≡ record {
  output = codes "sure: 11 holes\nnot exact: from 0 0 somebody may be at hole 121 before all is counted\n"
      ++ codes "sure at 0 to 0: 14 holes, 2 in the play and 12 in the show\n";
  status = Yes;
}
unfolding digits hand_points text_with sure_text not_exact_text figure_line
at_zero_too = refl

scores_at_zero : (at_zero close_to_lost).scores ≡ record { owner = 0; opponent = 0 }
scores_at_zero = refl

-- ---- at 0 to 0
zero_is_possible : (problem : Setup) → IsSetup (at_zero problem) → AreAtZero problem None → ⊥
zero_is_possible problem setup none = none setup

scores_are_needed : (problem : Setup) (holes : Holes) → (IsSetup (at_zero problem) → ⊥) → AreAtZero problem (Some holes) → ⊥
scores_are_needed problem holes none there = none there.0

figures_are_needed : (problem : Setup) (holes : Holes) → (AreHoles (at_zero problem) holes → ⊥) → AreAtZero problem (Some holes) → ⊥
figures_are_needed problem holes none there = none there.1
