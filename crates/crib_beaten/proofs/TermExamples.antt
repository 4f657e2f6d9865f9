-- Worked examples: terms, the rows of a tally, and what is said of them.
use Rattle.std.proofs.Common.{◌≡◌, ◌⊎◌, inl, inr, ℕ, Bool, true, false, List, [], ◌∷◌, length, refl, ◌∙◌}
use Rattle.std.proofs.Common.{◌≤◌, arith}
use Rattle.std.specs.Prelude.{IsTrue, map}
use Rattle.std.proofs.lemmas.Bool.{both_ways}
use Rattle.std.proofs.lemmas.List.Elements.{All-from_recursion, All-head, All-nil}
use Rattle.crib_cards.specs.declared.sides.Dealt.{Dealt}
use Rattle.crib_problem.specs.Setup.{Setup}
use Rattle.crib_plan.specs.declared.plan.Node.{Node}
use Rattle.crib_plan.specs.declared.plan.Next.TheVariants.{End}
use Rattle.crib_plan.specs.declared.plan.Node.TheVariants.{Play}
use Rattle.crib_game.specs.declared.following.ending.Ending.TheVariants as ending
use Rattle.crib_problem.proofs.ExampleProblems.{four_twos, aces}
use Rattle.crib_know.specs.Hidden.{IsOpen}
use Rattle.crib_check.proofs.Examples.{aces_are_a_deal, no_acts}
use Rattle.crib_beaten.specs.Beaten.{Beats}
use Rattle.crib_deals.specs.Deals.{ranks_held}
use Rattle.crib_beaten.specs.declared.rows.Row.{Row}
use Rattle.crib_beaten.specs.declared.tally.RanksTally.{RanksTally}
use Rattle.crib_beaten.specs.declared.tally.Tally.{Tally}
use Rattle.crib_deals.specs.Exact.{AreExactly, IsIn}
use Rattle.crib_beaten.specs.Tally.{IsRow, IsTally}
use Rattle.crib_beaten.specs.Terms.{AreBestFirst, AreRows, IsNarrow, columns, has_rank, is_first, meets_none, meets_term}
use Rattle.crib_beaten.specs.Terms.{printed_ranks, slot_columns, takings}

-- ---- slots: an ace, and a two
abbrev ace : List Bool
ace = true ∷ []

abbrev two : List Bool
two = false ∷ true ∷ []

ranks_of_a_slot : map (has_rank two) (1 ∷ 2 ∷ 3 ∷ 13 ∷ []) ≡ false ∷ true ∷ false ∷ false ∷ []
ranks_of_a_slot = refl

each_card_is_taken : takings (1 ∷ 2 ∷ 3 ∷ []) ≡ (1, 2 ∷ 3 ∷ []) ∷ (2, 1 ∷ 3 ∷ []) ∷ (3, 1 ∷ 2 ∷ []) ∷ []
each_card_is_taken = refl

-- ---- terms
-- no slot, a pair, and an ace or a two beside an ace: the ace is for the slot that has no other rank
terms_met : (map (meets_term []) ([] ∷ (1 ∷ []) ∷ []) ≡ true ∷ true ∷ [])
    × (map (meets_term (two ∷ two ∷ [])) ((1 ∷ 2 ∷ 2 ∷ 5 ∷ []) ∷ (2 ∷ 5 ∷ 6 ∷ 2 ∷ []) ∷ (1 ∷ 2 ∷ 3 ∷ 5 ∷ []) ∷ []) ≡ true ∷ true ∷ false ∷ [])
    × (map (meets_term ((true ∷ true ∷ []) ∷ ace ∷ [])) ((1 ∷ 2 ∷ 9 ∷ 9 ∷ []) ∷ (2 ∷ 2 ∷ 9 ∷ 9 ∷ []) ∷ (1 ∷ 9 ∷ 9 ∷ 9 ∷ []) ∷ [])
    ≡ true ∷ false ∷ false ∷ [])
unfolding meets_term
terms_met = (refl, refl, refl)

-- a two, or a three
abbrev either : List (List (List Bool))
either = (two ∷ []) ∷ ((false ∷ two) ∷ []) ∷ []

-- a pair of twos
abbrev pair : List (List (List Bool))
pair = (two ∷ two ∷ []) ∷ []

none_is_met : (map (meets_none either) ((1 ∷ 4 ∷ 5 ∷ 6 ∷ []) ∷ (2 ∷ 4 ∷ 5 ∷ 6 ∷ []) ∷ (1 ∷ 4 ∷ 5 ∷ 3 ∷ []) ∷ []) ≡ true ∷ false ∷ false ∷ [])
    × (map (meets_none pair) ((2 ∷ 2 ∷ 3 ∷ 4 ∷ []) ∷ (2 ∷ 3 ∷ 4 ∷ 5 ∷ []) ∷ []) ≡ false ∷ true ∷ [])
unfolding meets_term
none_is_met = (refl, refl)

-- an ace, two aces, and an ace with a two: the slots of a term are not the same
first_of_terms : (map (is_first either (ace ∷ []))
    ((1 ∷ 5 ∷ 6 ∷ 7 ∷ []) ∷ (5 ∷ 6 ∷ 7 ∷ 1 ∷ []) ∷ (5 ∷ 6 ∷ 7 ∷ 8 ∷ []) ∷ (2 ∷ 5 ∷ 6 ∷ 1 ∷ []) ∷ (1 ∷ 5 ∷ 6 ∷ 3 ∷ []) ∷ [])
    ≡ true ∷ true ∷ false ∷ false ∷ false ∷ [])
    × (map (is_first pair (ace ∷ ace ∷ [])) ((1 ∷ 1 ∷ 2 ∷ 5 ∷ []) ∷ (1 ∷ 1 ∷ 2 ∷ 2 ∷ []) ∷ (1 ∷ 2 ∷ 5 ∷ 6 ∷ []) ∷ []) ≡ true ∷ false ∷ false ∷ [])
    × (map (is_first [] (ace ∷ two ∷ [])) ((1 ∷ 2 ∷ 5 ∷ 6 ∷ []) ∷ (1 ∷ 5 ∷ 6 ∷ 7 ∷ []) ∷ (2 ∷ 5 ∷ 6 ∷ 7 ∷ []) ∷ []) ≡ true ∷ false ∷ false ∷ [])
unfolding meets_term
first_of_terms = (refl, refl, refl)

-- ---- rows: AC AD AH AS with 3C 3D beat a plan that states TC first, which isn't held
abbrev pub unheld : List Node
unheld = Play 36 End ∷ Play 37 End ∷ []

pub aces_are_open : IsOpen four_twos aces
aces_are_open = (aces_are_a_deal, ([], tt, refl))

pub aces_beat_it : Beats four_twos unheld aces
aces_beat_it = record {
  game = no_acts;
  result = ending.Stuck;
  failing = record {
    played = [];
    of_game = record { of_game = record { deal = aces_are_a_deal; legal = tt; acts = refl; begins = record { later = []; parts = refl } }; follows = tt };
    ending_is = refl;
    failure = inl refl;
  };
  of_deal = refl;
}

pub in_none : (dealt : Dealt) (deals : List Dealt) → IsIn dealt deals → length deals ≡ 0 → ⊥
in_none dealt [] is none = is
in_none dealt (other ∷ deals) is none = absurd (omega (arith, none))

abbrev of_aces : ℕ → Row
of_aces deals = record { term = ace ∷ []; deals = deals }

abbrev of_twos : Row
of_twos = record { term = two ∷ []; deals = 9 }

-- they are among the others if no row is, and in the row of an ace, the first one of two
aces_are_among_them : (AreRows four_twos unheld [] [] 0 → ⊥) × (AreRows four_twos unheld [] (of_aces 0 ∷ []) 1 → ⊥)
    × (AreRows four_twos unheld [] (of_twos ∷ of_aces 0 ∷ []) 1 → ⊥)
unfolding meets_term
aces_are_among_them = (
  λ are. in_none aces are.deals ((are.each aces).1 (refl, (aces_beat_it, refl))) are.counted,
  λ are. in_none aces are.0.deals ((are.0.each aces).1 (refl, (aces_beat_it, refl))) are.0.counted,
  λ are. in_none aces are.1.0.deals ((are.1.0.each aces).1 (refl, (aces_beat_it, refl))) are.1.0.counted,
)

aces_are_in_one_row : (others : ℕ) → ((are : AreRows four_twos unheld [] (of_aces 1 ∷ []) others) → IsIn aces are.1.deals → ⊥)
    × ((are : AreRows four_twos unheld [] (of_aces 1 ∷ of_aces 1 ∷ []) others) → IsIn aces are.1.0.deals → ⊥)
    × ((are : AreRows four_twos unheld [] (of_twos ∷ []) others) → IsIn aces are.0.deals → ⊥)
    × ((are : AreRows four_twos unheld [] (of_aces 1 ∷ of_twos ∷ []) others) → IsIn aces are.1.1.deals → ⊥)
unfolding meets_term
aces_are_in_one_row others = (
  λ are is. both_ways false refl ((are.1.each aces).0 is).1.1,
  λ are is. both_ways false refl ((are.1.0.each aces).0 is).1.1,
  λ are is. both_ways false refl ((are.0.each aces).0 is).1.1,
  λ are is. both_ways false refl ((are.1.1.each aces).0 is).1.1,
)

-- five deals have an ace, and seven beat the plan without one
rows_of_twelve_deals : AreExactly (λ dealt. Beats four_twos unheld dealt × IsTrue (is_first [] (ace ∷ []) (ranks_held dealt))) 5 →
    AreExactly (λ dealt. Beats four_twos unheld dealt × IsTrue (meets_none ((ace ∷ []) ∷ []) (ranks_held dealt))) 7 →
    AreRows four_twos unheld [] (of_aces 5 ∷ []) 7
rows_of_twelve_deals first others = (first, others)

-- rows of some deals: as many as the row above, fewer, one, more, and none
abbrev of_deals : ℕ → Row
of_deals deals = record { term = []; deals = deals }

abbrev AtMost : ℕ → Row → Type 0
AtMost most row = row.deals ≤ most

least : AreBestFirst (of_deals 1 ∷ [])
least = (omega arith, All-nil (AtMost 1), tt)

as_many : AreBestFirst (of_deals 5 ∷ of_deals 5 ∷ of_deals 1 ∷ [])
as_many = (
  omega arith,
  All-from_recursion (AtMost 5) (of_deals 5 ∷ of_deals 1 ∷ []) (omega arith, (omega arith, tt)),
  (omega arith, All-from_recursion (AtMost 5) (of_deals 1 ∷ []) (omega arith, tt), least),
)

a_row_below_has_more : AreBestFirst (of_deals 4 ∷ of_deals 5 ∷ []) → ⊥
a_row_below_has_more are = absurd (omega (arith, All-head (AtMost 4) (of_deals 5) [] are.1))

a_row_has_no_deal : AreBestFirst (of_deals 0 ∷ []) → ⊥
a_row_has_no_deal are = absurd (omega (arith, are.0))

-- ---- columns

-- any card, a nine, ten to king, and an ace, a three and a four: `9`, `(T-K)` and `(A 3 4)`, each after a blank
abbrev pub any_card : List Bool
any_card = true ∷ true ∷ true ∷ true ∷ true ∷ true ∷ true ∷ true ∷ true ∷ true ∷ true ∷ true ∷ true ∷ []

abbrev pub a_nine : List Bool
a_nine = false ∷ false ∷ false ∷ false ∷ false ∷ false ∷ false ∷ false ∷ true ∷ false ∷ false ∷ false ∷ false ∷ []

abbrev pub ten_to_king : List Bool
ten_to_king = false ∷ false ∷ false ∷ false ∷ false ∷ false ∷ false ∷ false ∷ false ∷ true ∷ true ∷ true ∷ true ∷ []

abbrev pub ace_three_four : List Bool
ace_three_four = true ∷ false ∷ true ∷ true ∷ false ∷ false ∷ false ∷ false ∷ false ∷ false ∷ false ∷ false ∷ false ∷ []

columns_of_slots : (map (printed_ranks 0) (any_card ∷ a_nine ∷ ten_to_king ∷ ace_three_four ∷ []) ≡ 2 ∷ 1 ∷ 2 ∷ 3 ∷ [])
    × (map slot_columns (any_card ∷ a_nine ∷ ten_to_king ∷ ace_three_four ∷ []) ≡ 0 ∷ 2 ∷ 6 ∷ 8 ∷ [])
    × (map slot_columns ((false ∷ []) ∷ (true ∷ true ∷ true ∷ false ∷ []) ∷ (true ∷ false ∷ true ∷ []) ∷ []) ≡ 3 ∷ 6 ∷ 6 ∷ [])
    × (columns (a_nine ∷ any_card ∷ ten_to_king ∷ ace_three_four ∷ []) ≡ 16)
unfolding printed_ranks
columns_of_slots = (refl, refl, refl, refl)

abbrev pub no_rank : List Bool
no_rank = false ∷ false ∷ false ∷ false ∷ false ∷ false ∷ false ∷ false ∷ false ∷ false ∷ false ∷ false ∷ false ∷ []

-- three times `(A 3 4)` has 24 columns, and `() (A 3 4) (A 3 4) (T-K)` one more
of_24_columns : IsNarrow (any_card ∷ ace_three_four ∷ ace_three_four ∷ ace_three_four ∷ [])
unfolding printed_ranks
of_24_columns = record {
  slots = All-from_recursion (λ (slot : List Bool). length slot ≡ 13) (any_card ∷ ace_three_four ∷ ace_three_four ∷ ace_three_four ∷ [])
      (refl, (refl, (refl, (refl, tt))));
  few = omega arith;
}

of_25_columns : IsNarrow (no_rank ∷ ace_three_four ∷ ace_three_four ∷ ten_to_king ∷ []) → ⊥
unfolding printed_ranks
of_25_columns is = absurd (omega (arith, is.few))

of_two_ranks : IsNarrow ((true ∷ false ∷ []) ∷ []) → ⊥
of_two_ranks is = absurd (omega (arith, All-head (λ (slot : List Bool). length slot ≡ 13) (true ∷ false ∷ []) [] is.slots))

-- ---- what a tally says
abbrev with_ranks : List ℕ → ℕ → ℕ → RanksTally
with_ranks ranks open_deals beaten = record { ranks = ranks; open_deals = open_deals; beaten = beaten }

abbrev aces_alone : List ℕ
aces_alone = 1 ∷ 1 ∷ 1 ∷ 1 ∷ []

-- four aces are open, and beat the plan, in the row of their ranks alone
row_of_four_aces : (IsRow four_twos unheld (with_ranks aces_alone 0 1) → ⊥) × (IsRow four_twos unheld (with_ranks aces_alone 1 0) → ⊥)
    × ((is : IsRow four_twos unheld (with_ranks aces_alone 1 1)) → IsIn aces is.beaten.deals)
    × ((is : IsRow four_twos unheld (with_ranks (1 ∷ 1 ∷ 1 ∷ 3 ∷ []) 1 1)) → IsIn aces is.open_deals.deals ⊎ IsIn aces is.beaten.deals → ⊥)
row_of_four_aces = (
  λ is. in_none aces is.open_deals.deals ((is.open_deals.each aces).1 (refl, (aces_are_open, refl))) is.open_deals.counted,
  λ is. in_none aces is.beaten.deals ((is.beaten.each aces).1 (refl, (aces_beat_it, refl))) is.beaten.counted,
  λ is. (is.beaten.each aces).1 (refl, (aces_beat_it, refl)),
  λ is. not_of_their_ranks is,
)
  where
    other : aces_alone ≡ 1 ∷ 1 ∷ 1 ∷ 3 ∷ [] → ⊥
    other same = absurd cc

    not_of_their_ranks : (is : IsRow four_twos unheld (with_ranks (1 ∷ 1 ∷ 1 ∷ 3 ∷ []) 1 1)) → IsIn aces is.open_deals.deals ⊎ IsIn aces is.beaten.deals → ⊥
    not_of_their_ranks is (inl its) = other ((is.open_deals.each aces).0 its).1.1
    not_of_their_ranks is (inr its) = other ((is.beaten.each aces).0 its).1.1

one_deal_is_enough : AreExactly (λ dealt. IsOpen four_twos dealt × (ranks_held dealt ≡ aces_alone)) 820 →
    AreExactly (λ dealt. Beats four_twos unheld dealt × (ranks_held dealt ≡ aces_alone)) 1 → IsRow four_twos unheld (with_ranks aces_alone 820 1)
one_deal_is_enough listed beaten = record { open_deals = listed; beaten = beaten; some = omega arith }

no_row_without_a_deal : (problem : Setup) (plan : List Node) → IsRow problem plan (with_ranks aces_alone 820 0) → ⊥
no_row_without_a_deal problem plan is = absurd (omega (arith, is.some))

no_tally_without_aces : (tally : Tally (Unit {0})) → IsTally four_twos unheld tally → (tally.open_deals ≡ 0) ⊎ (tally.beaten ≡ 0) → ⊥
no_tally_without_aces tally is (inl none) =
    in_none aces is.are_open.deals ((is.are_open.each aces).1 (refl, aces_are_open)) (is.are_open.counted ∙ none)
no_tally_without_aces tally is (inr none) =
    in_none aces is.are_beaten.deals ((is.are_beaten.each aces).1 (refl, aces_beat_it)) (is.are_beaten.counted ∙ none)
