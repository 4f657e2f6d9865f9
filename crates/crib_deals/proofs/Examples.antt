-- Worked examples: exact counts, choices of ranks, the deals with some ranks, throws and tables.
use Rattle.std.proofs.Common.{◌≡◌, ◌⊎◌, ℕ, ◌+◌, ◌<◌, ◌≤◌, ◌==◌, ◌&&◌, List, [], ◌∷◌, ◌++◌, true, false, map, length, replicate, refl, ap, ◌∙◌, arith, lit<}
use Rattle.std.specs.Prelude.{get_or, slice_index}
use Rattle.std.proofs.lemmas.Bool.{both_ways}
use Rattle.std.proofs.lemmas.List.Elements.{All-from_recursion, All-head, All-tail}
use Rattle.crib_cards.specs.Deals.{is_in_pack_order, unseen_from}
use Rattle.crib_cards.specs.Sets.{AreDifferent, set_where}
use Rattle.crib_cards.specs.declared.sides.Dealt.{Dealt}
use Rattle.crib_problem.specs.Setup.{IsSetup}
use Rattle.crib_problem.proofs.ExampleProblems.{level}
use Rattle.crib_know.specs.Hidden.{IsOpen, KnowsAfter}
use Rattle.crib_know.specs.Knowledge.{Knowledge}
use Rattle.crib_show.specs.Show.{crib_points, hand_points}
use Rattle.crib_deals.specs.Choices.{are_in_order, ranks_of_number}
use Rattle.crib_deals.specs.Deals.{Behind, IsBehind, IsMissing, behind_by, ranks_held}
use Rattle.crib_deals.specs.Exact.{AreExactly}
use Rattle.crib_deals.specs.Tables.{IsBelow, IsRow, IsTable, suit_points}
use Rattle.crib_deals.specs.Throws.{AreCribs, AreFew, AreOfProblem, AreThrowsCounted, are_two, crib_with, is_below, partners, passing_throws}
use Rattle.crib_deals.specs.declared.throws.Cribs.{Cribs}
use Rattle.crib_deals.proofs.ExactCounts.{exactly_deal, exactly_either, exactly_one}

-- ---- exact counts
-- AC 2C 3C 4C with the throw 5C 6C, and with the throw 5C 7C
abbrev with_six : Dealt
with_six = record { hold = 0 ∷ 4 ∷ 8 ∷ 12 ∷ []; throw = 16 ∷ 20 ∷ [] }

abbrev with_seven : Dealt
with_seven = record { hold = 0 ∷ 4 ∷ 8 ∷ 12 ∷ []; throw = 16 ∷ 24 ∷ [] }

abbrev IsEither : Dealt → Type 0
IsEither dealt = (with_six ≡ dealt) ⊎ (with_seven ≡ dealt)

two_deals : AreExactly IsEither 2
two_deals = exactly_either (λ dealt. grind arith) (λ dealt. grind arith) (λ dealt. grind arith) (λ dealt. grind arith)
    (exactly_deal with_six true refl) (exactly_deal with_seven true refl)

not_one_deal : AreExactly IsEither 1 → ⊥
not_one_deal one = let same = exactly_one one two_deals in absurd (omega (arith, same))

-- a deal is counted in pack order alone
abbrev turned : Dealt
turned = record { hold = 0 ∷ 4 ∷ 8 ∷ 12 ∷ []; throw = 20 ∷ 16 ∷ [] }

turned_deal_is_not_counted : AreExactly (λ dealt. turned ≡ dealt) 0
turned_deal_is_not_counted = record {
  deals = [];
  different = tt;
  each = λ dealt. (λ h. absurd h, λ has. absurd (both_ways (is_in_pack_order turned) refl (ap is_in_pack_order has.1 ∙ has.0)));
  counted = refl;
}

no_deal_is_listed_twice : AreDifferent (with_six ∷ with_six ∷ []) → ⊥
no_deal_is_listed_twice different = different.0.0 refl

-- ---- choices of ranks
first_and_last : map ranks_of_number (0 ∷ 1 ∷ 13 ∷ 169 ∷ 2197 ∷ 28560 ∷ [])
    ≡ (1 ∷ 1 ∷ 1 ∷ 1 ∷ []) ∷ (1 ∷ 1 ∷ 1 ∷ 2 ∷ []) ∷ (1 ∷ 1 ∷ 2 ∷ 1 ∷ []) ∷ (1 ∷ 2 ∷ 1 ∷ 1 ∷ []) ∷ (2 ∷ 1 ∷ 1 ∷ 1 ∷ []) ∷ (13 ∷ 13 ∷ 13 ∷ 13 ∷ []) ∷ []
first_and_last = refl

in_order : map are_in_order ([] ∷ (5 ∷ []) ∷ (1 ∷ 1 ∷ 2 ∷ 13 ∷ []) ∷ (1 ∷ 3 ∷ 2 ∷ 13 ∷ []) ∷ (2 ∷ 1 ∷ []) ∷ []) ≡ true ∷ true ∷ true ∷ false ∷ false ∷ []
in_order = refl

-- ---- deals with some ranks
ranks_of_a_deal : ranks_held with_six ≡ 1 ∷ 2 ∷ 3 ∷ 4 ∷ []
ranks_of_a_deal = refl

-- ---- throws
-- of 2C 3C 4C 5C, three throws begin with 2C, two end with 4C, and six are all
throws_of_four : map (λ test. passing_throws test (4 ∷ 8 ∷ 12 ∷ 16 ∷ []))
    ((λ throw. slice_index throw 0 == 4) ∷ (λ throw. slice_index throw 1 == 12) ∷ (λ throw. length throw == 2) ∷ []) ≡ 3 ∷ 2 ∷ 6 ∷ []
throws_of_four = refl

-- with AC AD AH AS, AC makes cribs of 9, 7, 5 and 3 points, and AD of 2, 8, 6 and 4. The same card twice is no throw
abbrev some_points : List ℕ
some_points = 9 ∷ 7 ∷ 5 ∷ 3 ∷ (replicate 48 0 ++ 2 ∷ 8 ∷ 6 ∷ 4 ∷ [])

cribs_with_throws : map (crib_with some_points) ((0 ∷ 1 ∷ []) ∷ (1 ∷ 0 ∷ []) ∷ (0 ∷ 3 ∷ []) ∷ (2 ∷ 1 ∷ []) ∷ (1 ∷ 3 ∷ []) ∷ [])
    ≡ 7 ∷ 7 ∷ 3 ∷ 6 ∷ 4 ∷ []
cribs_with_throws = refl

below_a_limit : map are_two ((0 ∷ 0 ∷ []) ∷ (0 ∷ 1 ∷ []) ∷ (1 ∷ 0 ∷ []) ∷ []) ∷ map (λ limit. is_below some_points limit (1 ∷ 3 ∷ [])) (4 ∷ 5 ∷ [])
    ∷ map (is_below some_points 10) ((0 ∷ 0 ∷ []) ∷ (3 ∷ 0 ∷ []) ∷ []) ∷ []
    ≡ (false ∷ true ∷ true ∷ []) ∷ (false ∷ true ∷ []) ∷ (false ∷ true ∷ []) ∷ []
below_a_limit = refl

partners_of_aces : map (λ card. partners (is_below some_points 6) card (0 ∷ 1 ∷ 2 ∷ 3 ∷ [])) (0 ∷ 1 ∷ []) ∷ map
    (λ card. partners (λ throw. (slice_index throw 0 == 4) && (length throw == 2)) card (4 ∷ 8 ∷ [])) (4 ∷ 8 ∷ []) ∷ [] ≡ (2 ∷ 1 ∷ []) ∷ (2 ∷ 0 ∷ []) ∷ []
partners_of_aces = refl

-- 5C 5D with 5H turned up: 29 points with 5S JH, 8 with AC 2C. Five fives, which are no crib, would have 40 points
cribs_of_fives : (points : List ℕ) → AreCribs (16 ∷ 17 ∷ []) 18 points →
    (slice_index points 1030 ≡ 29) × (slice_index points 4 ≡ 8) × (slice_index points 1007 ≡ 29)
unfolding crib_points
cribs_of_fives points cribs = (cribs 19 42 (lit< tt) (lit< tt), cribs 0 4 (lit< tt) (lit< tt), cribs 19 19 (lit< tt) (lit< tt))

few_and_many : AreFew (29 ∷ 0 ∷ []) × ¬ AreFew (0 ∷ 30 ∷ [])
few_and_many = (
  All-from_recursion (λ crib. crib ≤ 29) (29 ∷ 0 ∷ []) (omega arith, (omega arith, tt)),
  λ few. absurd (omega (arith, All-head (λ crib. crib ≤ 29) 30 [] (All-tail (λ crib. crib ≤ 29) 0 (30 ∷ []) few))),
)

abbrev three_aces : List ℕ → List ℕ → List ℕ → Cribs
three_aces points below partners = record { unseen = 0 ∷ 1 ∷ 2 ∷ []; points = points; below = below; partners = partners }

-- of the three throws of AC AD AH two have fewer than 7 points, one of them with AD
counts_of_aces : (below partners : List ℕ) → (AreThrowsCounted (three_aces some_points below partners) → (slice_index below 7 ≡ 2)
    × (slice_index below 30 ≡ 3) × (slice_index partners 38 ≡ 1) × (slice_index partners 61 ≡ 2)) × ¬ AreThrowsCounted (three_aces (0 ∷ 30 ∷ []) below partners)
counts_of_aces below partners = (
  λ counted. (
    counted.below 7 (omega arith),
    counted.below 30 (omega arith),
    counted.partners 1 7 (lit< tt) (omega arith),
    counted.partners 1 30 (lit< tt) (omega arith),
  ),
  λ counted. few_and_many.1 counted.few,
)

-- 3H is turned up, and 4S 6S with 5H 7D have 9 points
known_of_level : (know : Knowledge) (cribs : Cribs) → AreOfProblem level know cribs → KnowsAfter know level [] × AreThrowsCounted cribs
    × (cribs.unseen ≡ unseen_from (10 ∷ 36 ∷ 32 ∷ 4 ∷ 28 ∷ 15 ∷ 23 ∷ [])) × (slice_index cribs.points 961 ≡ 9)
unfolding crib_points
known_of_level know cribs known = (known.knows, known.counted, known.unseen_is, known.cribs_are 18 25 (lit< tt) (lit< tt))

-- ---- tables
-- 2C 4C 6C JC with TC and with TD; with a diamond first or last the jack is left
points_of_suits : map (suit_points (4 ∷ 12 ∷ 20 ∷ 40 ∷ [])) (36 ∷ 37 ∷ []) ∷ map (λ hold. suit_points hold 36)
    ((5 ∷ 12 ∷ 20 ∷ 40 ∷ []) ∷ (40 ∷ 12 ∷ 20 ∷ 5 ∷ []) ∷ []) ∷ [] ≡ (6 ∷ 4 ∷ []) ∷ (1 ∷ 1 ∷ []) ∷ []
points_of_suits = refl

-- TD JH 2D QS: with 3H a run, three fifteens and the jack. With 5H 7D in the crib
abbrev with_jack : Dealt
with_jack = record { hold = 37 ∷ 42 ∷ 5 ∷ 47 ∷ []; throw = 18 ∷ 25 ∷ [] }

abbrev behind_jack : Behind
behind_jack = behind_by level (ranks_held with_jack)

-- the hand has 10 points and the crib 9. The owner of 2C doesn't face AC 2C 3C 4C
behind_its_ranks : IsOpen level with_jack → IsMissing behind_jack (record { hand = 9; total = 19; crib = 9 }) with_jack
    × ¬ IsMissing behind_jack (record { hand = 10; total = 19; crib = 9 }) with_jack × ¬ IsBehind (behind_by level (10 ∷ 11 ∷ 2 ∷ 11 ∷ [])) with_jack
    × ¬ IsMissing (behind_by level (1 ∷ 2 ∷ 3 ∷ 4 ∷ [])) (record { hand = 0; total = 0; crib = 0 }) with_six
unfolding hand_points crib_points set_where
behind_its_ranks open_deal = (
  ((open_deal, refl), refl),
  λ missing. both_ways true missing.1 refl,
  λ behind. let queen : 12 ≡ 11 = ap (λ ranks. slice_index ranks 3) behind.1 in absurd (omega (arith, queen)),
  λ missing. both_ways false refl missing.0.0.0.deal.hidden_before,
)

nine_in_the_crib : IsOpen level with_jack → IsBelow behind_jack 1 10 with_jack × ¬ IsBelow behind_jack 1 9 with_jack × ¬ IsBelow behind_jack 0 10 with_jack
unfolding crib_points
nine_in_the_crib open_deal = (
  ((open_deal, refl), refl, lit< tt),
  λ below. let less : 9 < 9 = below.2 in absurd (omega (arith, less)),
  λ below. let same : 1 ≡ 0 = below.1 in absurd (omega (arith, same)),
)

row_with_jack : (counts : List ℕ) (hand : ℕ) → (IsRow behind_jack 1 counts hand → IsSetup level × (hand ≡ 10)
    × AreExactly (IsBelow behind_jack 1 30) (slice_index counts 30)) × ¬ IsRow behind_jack 1 (replicate 30 0 ++ 209921 ∷ []) hand
row_with_jack counts hand = (λ row. (row.setup, row.hand_is, row.below 30 (omega arith)), λ row. absurd (omega (arith, row.few)))

table_with_jack : (open_deals plain : ℕ) (below : List (List ℕ)) → IsTable behind_jack open_deals plain below → AreExactly (IsBehind behind_jack) open_deals
    × (plain ≡ 9) × IsRow behind_jack 6 (get_or below 6 []) (plain + 6)
table_with_jack open_deals plain below table = (table.are_open, table.plain_is, table.rows 6 (omega arith))

too_large : (behind : Behind) (count : ℕ) (below : List (List ℕ)) → ¬ IsTable behind 209921 count below × ¬ IsTable behind count 97 below
too_large behind count below = (λ table. absurd (omega (arith, table.few)), λ table. absurd (omega (arith, table.small)))
