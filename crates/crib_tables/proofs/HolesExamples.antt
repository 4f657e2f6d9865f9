-- Worked examples of holes that are sure. A card is a number below 52: 4 is 2C, 32 is 9C, 33 is 9D.
use Rattle.std.proofs.Common.{◌≡◌, inl, inr, ℕ, [], ◌∷◌, refl, arith}
use Rattle.std.specs.Prelude.{filter}
use Rattle.crib_cards.specs.Sets.{set_where}
use Rattle.crib_cards.specs.declared.moves.Act.{Act}
use Rattle.crib_cards.specs.declared.sides.Side.TheVariants.{Owner, Opponent}
use Rattle.crib_problem.specs.declared.problem.Goal.TheVariants as goals
use Rattle.crib_problem.specs.declared.problem.Version.TheVariants.{Two}
use Rattle.crib_problem.proofs.ExampleProblems.{after_tens, four_twos, level, plays}
use Rattle.crib_problem.specs.Setup.{IsSetup, Setup}
use Rattle.crib_search.specs.Winnable.{IsWinnable}
use Rattle.crib_leads.specs.Leads.{may_come}
use Rattle.crib_tables.specs.declared.holes.Holes.{Holes}
use Rattle.crib_tables.specs.declared.holes.TurnHoles.{TurnHoles}
use Rattle.crib_tables.specs.Holes.{AreHoles, AreMost, AreMostWith, ArePegged, AreSureHoles, AreSureWith, opening_scores, with_holes}
use Rattle.crib_tables.specs.Turns.{IsSureTurn, own_turns}

-- the opponent has led 9D, and the owner has paired it with 9C
abbrev paired : Setup
paired = record level { version = Two; dealer = Owner; played = plays Opponent 33 ∷ plays Owner 32 ∷ [] }

-- ---- pegs

five_holes : (with_holes four_twos 5).goal ≡ goals.Holes 5
five_holes = refl

-- with this goal too a problem may have an opening
holes_with_an_opening : (with_holes four_twos 5).version ≡ Two
holes_with_an_opening = refl

-- a pair is two holes for the side that makes it
two_for_the_owner : opening_scores paired ≡ record { owner = 2; opponent = 0 }
two_for_the_owner = refl

two_for_the_opponent : opening_scores after_tens ≡ record { owner = 0; opponent = 2 }
two_for_the_opponent = refl

two_are_pegged : ArePegged paired 2 × (ArePegged paired 3 → ⊥)
two_are_pegged = (omega arith, λ pegged. omega (arith, pegged))

none_is_pegged : ArePegged four_twos 0 × (ArePegged four_twos 1 → ⊥)
none_is_pegged = (omega arith, λ pegged. omega (arith, pegged))

-- the same from 10 to 20, whence 111 holes are left to hole 121
abbrev further : Setup
further = record paired { scores = record { owner = 10; opponent = 20 } }

two_more_are_pegged : ArePegged further 2 × (ArePegged further 3 → ⊥)
two_more_are_pegged = (omega arith, λ pegged. omega (arith, pegged))

-- ---- holes that are sure

-- what is pegged is sure with any turn, and at all
pegged_is_sure : (act : Act) → AreSureHoles paired 2 × AreSureWith act paired 2
pegged_is_sure act = (inl (omega arith), inl (omega arith))

-- more is sure if a plan is, and only then
thirteen_are_sure : IsSetup (with_holes four_twos 13) → IsWinnable (with_holes four_twos 13) → AreSureHoles four_twos 13
thirteen_are_sure setup is = inr (setup, is)

not_without_a_plan : (IsWinnable (with_holes paired 3) → ⊥) → AreSureHoles paired 3 → ⊥
not_without_a_plan none (inl pegged) = omega (arith, pegged)
not_without_a_plan none (inr both) = none both.1

-- no more holes than are left to hole 121
never_122 : AreSureHoles four_twos 122 → ⊥
never_122 (inl pegged) = omega (arith, pegged)
never_122 (inr both) = let range = both.0.goal_in_range in omega (arith, range.1)

-- with a turn more is sure if the turn is, and only then
sure_with_it : (act : Act) → IsSetup (with_holes four_twos 13) → IsSureTurn (with_holes four_twos 13) act → AreSureWith act four_twos 13
sure_with_it act setup is = inr (setup, is)

not_with_it : (act : Act) → (IsSureTurn (with_holes paired 3) act → ⊥) → AreSureWith act paired 3 → ⊥
not_with_it act none (inl pegged) = omega (arith, pegged)
not_with_it act none (inr both) = none both.1

-- ---- the most

the_most : (AreSure : ℕ → Type 0) → AreSure 121 → AreMost AreSure four_twos 121
the_most AreSure sure = record { sure = sure; left = omega arith; most = λ more above below. absurd (omega (arith, above, below)) }

one_too_few : (AreSure : ℕ → Type 0) → AreSure 13 → AreMost AreSure four_twos 12 → ⊥
one_too_few AreSure sure are = are.most 13 (omega arith) (omega arith) sure

one_too_many : (AreSure : ℕ → Type 0) → (AreSure 13 → ⊥) → AreMost AreSure four_twos 13 → ⊥
one_too_many AreSure none are = none are.sure

none_beyond : (AreSure : ℕ → Type 0) → AreMost AreSure four_twos 122 → ⊥
none_beyond AreSure are = let left = are.left in omega (arith, left)

all_that_are_left : (AreSure : ℕ → Type 0) → AreSure 111 → AreMost AreSure further 111 × (AreMost AreSure further 110 → ⊥)
    × (AreMost AreSure further 112 → ⊥)
all_that_are_left AreSure sure = (
  record { sure = sure; left = omega arith; most = λ more above below. absurd (omega (arith, above, below)) },
  λ are. are.most 111 (omega arith) (omega arith) sure,
  λ are. let left = are.left in omega (arith, left),
)

-- the entry of a turn is on this turn, and on the most holes
another_turn : (turn : TurnHoles) → (turn.act ≡ plays Owner 4 → ⊥) → AreMostWith four_twos (plays Owner 4) turn → ⊥
another_turn turn other are = other are.0

beyond_with_a_turn : (act : Act) → AreMostWith further act (record { act = act; holes = 112 }) → ⊥
beyond_with_a_turn act are = let left = are.1.left in omega (arith, left)

-- ---- the whole

-- at the lead the owner may play each card, and not say go; on the opponent's turn they do nothing
the_turns : filter (may_come four_twos) (own_turns four_twos) ≡ plays Owner 4 ∷ plays Owner 5 ∷ plays Owner 6 ∷ plays Owner 7 ∷ []
unfolding set_where
the_turns = refl

no_turns : filter (may_come paired) (own_turns paired) ≡ []
unfolding set_where
no_turns = refl

other_pegs : (holes : Holes) → (holes.pegs ≡ record { owner = 2; opponent = 0 } → ⊥) → AreHoles paired holes → ⊥
other_pegs holes other are = other are.pegs

other_most : (holes : Holes) → (AreMost (AreSureHoles paired) paired holes.holes → ⊥) → AreHoles paired holes → ⊥
other_most holes other are = other are.most

a_turn_of_the_opponent : (holes : Holes) (turn : TurnHoles) → holes.turns.items ≡ turn ∷ [] → AreHoles paired holes → ⊥
unfolding set_where
a_turn_of_the_opponent holes turn one are = rw one at are.turns

no_entry : (holes : Holes) → holes.turns.items ≡ [] → AreHoles four_twos holes → ⊥
unfolding set_where
no_entry holes none are = rw none at are.turns
