-- Worked examples of each part of a show: choices, fifteens, pairs and runs, rows and outcomes, and what agrees with the ranks that were shown. A card of
-- rank r is 4 * (r - 1), and 1, 2, 3 more for diamonds, hearts and spades.
use Rattle.std.proofs.Common.{arith, ◌≡◌, ◌∙◌, refl, sym, ap, subst, true, false, [], ◌∷◌, ◌+◌, List, ℕ, codes, Some, None}
use Rattle.std.specs.Prelude.{Bool, IfSome, length, map, replicate, slice_index_or, ◌<◌, ◌≤◌}
use Rattle.std.specs.List.{range_with_len}
use Rattle.std.proofs.lemmas.Bool.{both_ways}
use Rattle.crib_cards.specs.Sets.{rank_counts, set_where}
use Rattle.crib_cards.specs.declared.sides.Dealt.{Dealt}
use Rattle.crib_cards.specs.declared.sides.Side.{Side}
use Rattle.crib_cards.specs.declared.sides.Side.TheVariants.{Owner, Opponent}
use Rattle.crib_show.proofs.ExampleShows.{aces_and_fives, clubs_and_kings, four_aces, twos_and_aces}
use Rattle.crib_show.specs.Extremes.{AreExtremes, AreExtremesFor, AreKept, AreKeptIn, HasCards, IfKept}
use Rattle.crib_show.specs.Laws.{AreSameCards, IsHand, IsSameDeal, is_possible}
use Rattle.crib_show.specs.Outcome.{holds_of, no_row, order_of, outcome_from, outcome_of, row_of, rows_from}
use Rattle.crib_show.specs.Indices.{AreFour, below, many, index_among}
use Rattle.crib_show.specs.Show.{are_of_suit, choices, crib_flush, fifteen_points, hand_flush, is_fifteen, is_full_run, is_pair, is_prolonged}
use Rattle.crib_show.specs.Show.{crib_points, hand_points, jack_points, pair_points, plain_of_ranks, plain_points, run_points, with_and_without}
use Rattle.crib_show.specs.Words.{outcome_word, show_word}
use Rattle.crib_show.specs.Worst.{AgreesInShow, ArePlain, AreOwnPoints, HasDeal, IsFailure, IsFirstFailure, IsFirstFailureOrNone, hidden_crib}
use Rattle.crib_show.specs.Worst.{hidden_hand, hidden_total, plain_at, plain_with, with_dealt}
use Rattle.crib_show.specs.Worst.{IsGreatestCrib, IsGreatestHand, IsGreatestTotal, IsLeastCrib}
use Rattle.crib_show.specs.declared.worst.extremes.Extremes.{Extremes}
use Rattle.crib_show.specs.declared.worst.extremes.ExtremesByRanks.{ExtremesByRanks}
use Rattle.crib_show.specs.declared.deals.OwnPoints.{OwnPoints}
use Rattle.crib_show.specs.declared.deals.WorstShow.{WorstShow}
use Rattle.crib_cards.specs.Start.{hand_of}
use Rattle.crib_show.specs.declared.show.outcomes.Outcome.TheVariants.{Reached, Lost, Short}

-- ---- the ranks 7 8 9 7 6, the last of which is the starter's
pub all_choices_of_two : choices (7 ∷ 8 ∷ []) ≡ (7 ∷ 8 ∷ []) ∷ (7 ∷ []) ∷ (8 ∷ []) ∷ [] ∷ []
all_choices_of_two = refl

pub with_a_seven_and_without : with_and_without 7 ((8 ∷ []) ∷ [] ∷ []) ≡ (7 ∷ 8 ∷ []) ∷ (7 ∷ []) ∷ (8 ∷ []) ∷ [] ∷ []
with_a_seven_and_without = refl

pub fifteens : map is_fifteen ((7 ∷ 8 ∷ []) ∷ (7 ∷ 7 ∷ []) ∷ (8 ∷ 8 ∷ []) ∷ (5 ∷ 13 ∷ []) ∷ (1 ∷ 1 ∷ 13 ∷ 3 ∷ []) ∷ [])
    ≡ true ∷ false ∷ false ∷ true ∷ true ∷ []
fifteens = refl

pub pairs : map is_pair ((7 ∷ 7 ∷ []) ∷ (7 ∷ 8 ∷ []) ∷ (7 ∷ 7 ∷ 7 ∷ []) ∷ (7 ∷ []) ∷ []) ≡ true ∷ false ∷ false ∷ false ∷ []
pairs = refl

-- 7 8 9 is prolonged by a six and by a ten, and not by an ace or another nine
pub prolonged : map (λ rank. is_prolonged (3 ∷ rank ∷ 7 ∷ []) (7 ∷ 8 ∷ 9 ∷ [])) (1 ∷ 5 ∷ 6 ∷ 9 ∷ 10 ∷ 11 ∷ [])
    ≡ false ∷ false ∷ true ∷ false ∷ true ∷ false ∷ []
prolonged = refl

pub full_runs : map (is_full_run (7 ∷ 8 ∷ 9 ∷ 7 ∷ 6 ∷ [])) ((7 ∷ 8 ∷ 9 ∷ 6 ∷ []) ∷ (7 ∷ 8 ∷ 9 ∷ []) ∷ (8 ∷ 9 ∷ []) ∷ (6 ∷ 7 ∷ 7 ∷ 8 ∷ 9 ∷ []) ∷ [])
    ≡ true ∷ false ∷ false ∷ false ∷ []
full_runs = refl

-- 7 8, 8 7 and 9 6 are fifteen; there is one pair, and two runs of four
pub points_of_ranks : fifteen_points (7 ∷ 8 ∷ 9 ∷ 7 ∷ 6 ∷ []) ∷ pair_points (7 ∷ 8 ∷ 9 ∷ 7 ∷ 6 ∷ []) ∷ run_points (7 ∷ 8 ∷ 9 ∷ 7 ∷ 6 ∷ []) ∷
    plain_of_ranks (7 ∷ 8 ∷ 9 ∷ 7 ∷ 6 ∷ []) ∷ [] ≡ 6 ∷ 2 ∷ 8 ∷ 16 ∷ []
points_of_ranks = refl

pub points_of_cards : plain_points (24 ∷ 28 ∷ 32 ∷ 25 ∷ 20 ∷ []) ≡ 16
points_of_cards = refl

-- ---- suits
pub of_clubs : map (are_of_suit 4) ([] ∷ (8 ∷ 48 ∷ []) ∷ (8 ∷ 9 ∷ []) ∷ (9 ∷ 8 ∷ []) ∷ []) ≡ true ∷ true ∷ false ∷ false ∷ []
of_clubs = refl

pub flushes : map (hand_flush (4 ∷ 12 ∷ 20 ∷ 28 ∷ [])) (36 ∷ 37 ∷ []) ∷ map (crib_flush (4 ∷ 12 ∷ 20 ∷ 28 ∷ [])) (36 ∷ 37 ∷ []) ∷ []
    ≡ (5 ∷ 4 ∷ []) ∷ (5 ∷ 0 ∷ []) ∷ []
flushes = refl

-- a jack of the starter's suit counts, wherever it is; a queen doesn't, and a jack of another suit doesn't
pub jacks : map (λ card. jack_points (0 ∷ card ∷ 6 ∷ []) 8) (40 ∷ 41 ∷ 44 ∷ 36 ∷ []) ≡ 1 ∷ 0 ∷ 0 ∷ 0 ∷ []
jacks = refl

pub jacks_and_a_spade : map (λ card. jack_points (card ∷ 4 ∷ []) 11) (40 ∷ 42 ∷ 43 ∷ 47 ∷ []) ≡ 0 ∷ 0 ∷ 1 ∷ 0 ∷ []
jacks_and_a_spade = refl

pub of_spades : map (are_of_suit 7) ((3 ∷ 11 ∷ []) ∷ (2 ∷ 11 ∷ []) ∷ []) ≡ true ∷ false ∷ []
of_spades = refl

-- ---- the show of a deal: 9 for the pone, 2 for the dealer, 9 for the crib
abbrev counted : List (Bool × Side × ℕ)
counted = (false, Owner, 9) ∷ (false, Opponent, 2) ∷ (true, Opponent, 9) ∷ []

pub holds_of_sides : map (hand_of (holds_of clubs_and_kings)) (Owner ∷ Opponent ∷ []) ≡ (36 ∷ 32 ∷ 4 ∷ 28 ∷ []) ∷ (37 ∷ 49 ∷ 50 ∷ 47 ∷ []) ∷ []
holds_of_sides = refl

pub pone_dealer_crib : order_of clubs_and_kings ≡ counted
unfolding hand_points crib_points
pone_dealer_crib = refl

pub pone_is_the_opponent : map (λ (hand : Bool × Side × ℕ). hand.1) (order_of (record clubs_and_kings { dealer = Owner })) ≡ Opponent ∷ Owner ∷ Owner ∷ []
pone_is_the_opponent = refl

pub row_of_a_crib : row_of (true, Opponent, 9) (record { owner = 2; opponent = 13 })
    ≡ record { crib = true; side = Opponent; points = 9; scores = record { owner = 2; opponent = 13 } }
row_of_a_crib = refl

-- the dealer's hand decides, so the crib isn't counted
pub rows_to_the_end : rows_from 121 (record { owner = 2; opponent = 119 }) counted ≡
    record { crib = false; side = Owner; points = 9; scores = record { owner = 11; opponent = 119 } }
    ∷ record { crib = false; side = Opponent; points = 2; scores = record { owner = 11; opponent = 121 } } ∷ []
rows_to_the_end = refl

-- a hand without points has a row
pub row_without_points : rows_from 121 (record { owner = 2; opponent = 3 }) ((false, Opponent, 0) ∷ [])
    ≡ record { crib = false; side = Opponent; points = 0; scores = record { owner = 2; opponent = 3 } } ∷ []
row_without_points = refl

pub no_row_after_the_end : rows_from 11 (record { owner = 11; opponent = 0 }) counted ≡ []
no_row_after_the_end = refl

-- the owner reaches 11 first, and 12 not at all, whatever the crib brings to the opponent at 110
pub outcomes_by_target : map (λ target. outcome_from target false (record { owner = 2; opponent = 110 }) counted) (11 ∷ 12 ∷ []) ≡ Reached ∷ Lost ∷ []
unfolding outcome_from
outcomes_by_target = refl

pub outcome_without_hands : map (λ stop. outcome_from 121 stop (record { owner = 2; opponent = 120 }) []) (false ∷ true ∷ []) ≡ Short ∷ Reached ∷ []
unfolding outcome_from
outcome_without_hands = refl

pub words_of_hands : map show_word (true ∷ false ∷ []) ≡ codes "crib" ∷ codes "hand" ∷ []
words_of_hands = refl

pub words_of_outcomes : map outcome_word (None ∷ Some Reached ∷ Some Lost ∷ Some Short ∷ [])
    ≡ codes "open" ∷ codes "reached" ∷ codes "lost" ∷ codes "short" ∷ []
words_of_outcomes = refl

-- ---- numbers of points, hands and deals
pub possible_points : map is_possible (0 ∷ 18 ∷ 19 ∷ 24 ∷ 25 ∷ 26 ∷ 27 ∷ 28 ∷ 29 ∷ 30 ∷ [])
    ≡ true ∷ true ∷ false ∷ true ∷ false ∷ false ∷ false ∷ true ∷ true ∷ false ∷ []
possible_points = refl

pub five_are_no_hand : IsHand (0 ∷ 1 ∷ 2 ∷ 3 ∷ 4 ∷ []) 5 → ⊥
five_are_no_hand is = (let four = is.four in absurd (omega (arith, four)))

pub starter_is_not_held : IsHand (0 ∷ 1 ∷ 2 ∷ 3 ∷ []) 3 → ⊥
starter_is_not_held is = absurd (both_ways false refl is.distinct)

pub same_cards_in_another_order : AreSameCards (3 ∷ 4 ∷ 3 ∷ []) (3 ∷ 4 ∷ []) → ⊥
same_cards_in_another_order are = (let threes = are 3 in absurd (omega (arith, threes)))

pub another_throw : (hold : List ℕ) → IsSameDeal (record { hold = hold; throw = 3 ∷ 4 ∷ [] }) (record { hold = hold; throw = 3 ∷ 5 ∷ [] }) → ⊥
another_throw hold is = (let fives = is.throw 5 in absurd (omega (arith, fives)))

pub another_hold : (throw : List ℕ) → IsSameDeal (record { hold = 3 ∷ 4 ∷ []; throw = throw }) (record { hold = 3 ∷ 5 ∷ []; throw = throw }) → ⊥
another_hold throw is = (let fives = is.hold 5 in absurd (omega (arith, fives)))

-- ---- indices among the choices of ranks
pub sums_below : map (below (λ n. n + 1)) (0 ∷ 1 ∷ 4 ∷ []) ≡ 0 ∷ 1 ∷ 10 ∷ []
sums_below = refl

pub choices_of_ranks : map (many 2) (0 ∷ 1 ∷ 2 ∷ 3 ∷ []) ∷ map (many 0) (0 ∷ 1 ∷ []) ∷ [] ≡ (1 ∷ 2 ∷ 3 ∷ 4 ∷ []) ∷ (1 ∷ 0 ∷ []) ∷ []
choices_of_ranks = refl

-- two cards of three ranks: 2 0 0, 1 1 0, 1 0 1, 0 2 0, 0 1 1, 0 0 2
pub indices_of_two : map (index_among 2) ((2 ∷ 0 ∷ 0 ∷ []) ∷ (1 ∷ 1 ∷ 0 ∷ []) ∷ (1 ∷ 0 ∷ 1 ∷ []) ∷ (0 ∷ 2 ∷ 0 ∷ []) ∷ (0 ∷ 1 ∷ 1 ∷ []) ∷ (0 ∷ 0 ∷ 2 ∷ []) ∷ [])
    ≡ 0 ∷ 1 ∷ 2 ∷ 3 ∷ 4 ∷ 5 ∷ []
indices_of_two = refl

pub ranks_of_four : AreFour (rank_counts (1 ∷ 13 ∷ 1 ∷ 5 ∷ []))
ranks_of_four = record { four = refl; thirteen = refl }

pub ranks_of_three : AreFour (rank_counts (1 ∷ 13 ∷ 1 ∷ [])) → ⊥
ranks_of_three are = (let four = are.four in absurd (omega (arith, four)))

pub four_of_one_rank_alone : AreFour (4 ∷ []) → ⊥
four_of_one_rank_alone are = (let thirteen = are.thirteen in absurd (omega (arith, thirteen)))

-- ---- four aces were shown: AC is fixed
-- with KD the crib 4C 6D 5C 5D counts 8 for four fifteens, 2 for its pair and 6 for two runs
pub points_of_aces_and_fives : hidden_hand four_aces aces_and_fives ∷ hidden_crib four_aces aces_and_fives ∷ hidden_total four_aces aces_and_fives ∷ []
    ≡ 12 ∷ 16 ∷ 28 ∷ []
unfolding hand_points crib_points
points_of_aces_and_fives = refl

pub whole_deal : with_dealt four_aces aces_and_fives
    ≡ record (twos_and_aces Opponent (record { owner = 3; opponent = 93 }) 121) { opp = aces_and_fives; stop = true }
whole_deal = refl

pub plain_points_by_throw : plain_with 49 (12 ∷ 21 ∷ []) 5 5 ∷ plain_with 49 (12 ∷ 21 ∷ []) 5 1 ∷ [] ≡ 16 ∷ 9 ∷ []
plain_points_by_throw = refl

pub points_in_a_table : plain_at (range_with_len 0 169) 1 1 ∷ plain_at (range_with_len 0 169) 2 3 ∷ plain_at (range_with_len 0 169) 13 13 ∷ []
    ≡ 0 ∷ 15 ∷ 168 ∷ []
points_in_a_table = refl

pub three_aces_do_not_agree : AgreesInShow four_aces (record aces_and_fives { hold = 0 ∷ 1 ∷ 2 ∷ 8 ∷ [] }) → ⊥
three_aces_do_not_agree agrees = (let aces = ap first_count agrees.ranks_held in absurd (omega (arith, aces)))
  where
    first_count : List ℕ → ℕ
    first_count [] = 0
    first_count (count ∷ counts) = count

pub fixed_ace_is_held : AgreesInShow (record four_aces { fixed = 4 ∷ [] }) aces_and_fives → ⊥
fixed_ace_is_held agrees = absurd (both_ways false refl agrees.fixed_held)

pub starter_is_not_dealt : AgreesInShow four_aces (record aces_and_fives { throw = 49 ∷ 16 ∷ [] }) → ⊥
unfolding set_where
starter_is_not_dealt agrees = absurd (both_ways false refl agrees.deal.hidden_before)

pub no_failure_without_agreement : (AgreesInShow four_aces aces_and_fives → ⊥) → IsFailure four_aces aces_and_fives → ⊥
no_failure_without_agreement none is = none is.agrees

pub first_failure_in_pack_order : IsFirstFailure four_aces (record aces_and_fives { throw = 17 ∷ 16 ∷ [] }) → ⊥
first_failure_in_pack_order is = absurd (both_ways false refl is.in_order)

pub first_failure_fails : (IsFailure four_aces aces_and_fives → ⊥) → IsFirstFailure four_aces aces_and_fives → ⊥
first_failure_fails none is = none is.failure

-- ---- points that are kept: 255 represents none
pub nothing_kept : IfKept 255 (λ points. ⊥)
nothing_kept kept = absurd (kept refl)

pub wrong_points_kept : IfKept 254 (λ points. points ≡ 3) → ⊥
wrong_points_kept right = (let points = right (λ e. absurd (omega (arith, e))) in absurd (omega (arith, points)))

pub cards_of_a_show : HasCards 49 (12 ∷ 21 ∷ []) four_aces.unseen (0 ∷ []) four_aces
cards_of_a_show = record { starter_is = refl; throw_is = refl; unseen_is = refl; fixed_is = refl; are_four = record { four = refl; thirteen = refl } }

pub another_starter : (throw unseen fixed : List ℕ) → HasCards 48 throw unseen fixed four_aces → ⊥
another_starter throw unseen fixed has = (let card = has.starter_is in absurd (omega (arith, card)))

pub nothing_thrown : (unseen fixed : List ℕ) → HasCards 49 [] unseen fixed four_aces → ⊥
nothing_thrown unseen fixed has = (let cards = has.throw_is in absurd cc)

pub nothing_fixed : (throw unseen : List ℕ) → HasCards 49 throw unseen [] four_aces → ⊥
nothing_fixed throw unseen has = (let cards = has.fixed_is in absurd cc)

pub three_ranks_shown : (throw unseen fixed : List ℕ) → HasCards 49 throw unseen fixed (record four_aces { ranks = rank_counts (replicate 3 1) }) → ⊥
three_ranks_shown throw unseen fixed has = (let four = has.are_four.four in absurd (omega (arith, four)))

-- ---- the first failure: with fives thrown the opponent reaches 121, and 5C 5D come before 5C 5H
abbrev other_fives : Dealt
other_fives = record { hold = 0 ∷ 1 ∷ 2 ∷ 3 ∷ []; throw = 16 ∷ 18 ∷ [] }

fives_fail : IsFailure four_aces aces_and_fives
unfolding set_where outcome_from hand_points crib_points
fives_fail = record {
  agrees = record { deal = record { held = refl; thrown = refl; distinct = refl; hidden_before = refl }; ranks_held = refl; fixed_held = refl };
  fails = λ (e : Lost ≡ Reached). absurd cc;
}

pub they_lose : outcome_of (with_dealt four_aces aces_and_fives) ≡ Lost
unfolding outcome_from hand_points crib_points
they_lose = refl

pub later_fives_are_not_first : IsFirstFailure four_aces other_fives → ⊥
unfolding set_where
later_fives_are_not_first is = absurd (both_ways true (is.first aces_and_fives fives_fail) refl)

pub reached_is_no_failure : (dealt : Dealt) → outcome_of (with_dealt four_aces dealt) ≡ Reached → IsFailure four_aces dealt → ⊥
reached_is_no_failure dealt reached is = is.fails reached

pub row_of_nothing : no_row ≡ record { crib = false; side = Owner; points = 0; scores = record { owner = 0; opponent = 0 } }
row_of_nothing = refl

-- what is kept at the index of four ranks is right for them
pub kept_at_its_index : (throw unseen fixed : List ℕ) (all : List Extremes) (worst : WorstShow) (none : Extremes) → AreKeptIn 49 throw unseen fixed all →
    HasCards 49 throw unseen fixed worst → index_among 4 worst.ranks < length all → AreKept worst (slice_index_or all (index_among 4 worst.ranks) none)
kept_at_its_index throw unseen fixed all worst none kept = kept worst none

pub hand_is_kept_right : (kept : Extremes) → AreKept four_aces kept → IfKept kept.greatest_hand (IsGreatestHand four_aces)
hand_is_kept_right kept are = are.greatest_hand

pub cribs_are_kept_right : (kept : Extremes) → AreKept four_aces kept →
    IfKept kept.least_crib (IsLeastCrib four_aces) × IfKept kept.greatest_crib (IsGreatestCrib four_aces)
    × IfKept kept.greatest_total (IsGreatestTotal four_aces)
cribs_are_kept_right kept are = (are.least_crib, are.greatest_crib, are.greatest_total)

-- the first failure, or none where each deal reaches the goal
pub later_fives_or_none : IsFirstFailureOrNone four_aces (Some other_fives) → ⊥
later_fives_or_none is = later_fives_are_not_first is

pub none_where_fives_fail : IsFirstFailureOrNone four_aces None → ⊥
none_where_fives_fail never = fives_fail.fails (never aces_and_fives fives_fail.agrees)

-- with 5C 5D thrown the hand makes 12 and the crib 16, so that no greatest points are fewer, and no least crib is more
pub greatest_hand_is_12 : IsGreatestHand four_aces 11 → ⊥
unfolding hand_points
greatest_hand_is_12 is = (let most : 12 ≤ 11 = is.all aces_and_fives fives_fail.agrees in absurd (omega (arith, most)))

pub least_crib_is_16 : IsLeastCrib four_aces 17 → ⊥
unfolding crib_points
least_crib_is_16 is = (let least : 17 ≤ 16 = is.all aces_and_fives fives_fail.agrees in absurd (omega (arith, least)))

pub greatest_crib_is_16 : IsGreatestCrib four_aces 15 → ⊥
unfolding crib_points
greatest_crib_is_16 is = (let most : 16 ≤ 15 = is.all aces_and_fives fives_fail.agrees in absurd (omega (arith, most)))

pub greatest_total_is_28 : IsGreatestTotal four_aces 27 → ⊥
unfolding hand_points crib_points
greatest_total_is_28 is = (let most : 28 ≤ 27 = is.all aces_and_fives fives_fail.agrees in absurd (omega (arith, most)))

-- the first card and the last one are the jack of the starter's suit
pub jack_at_each_end : hand_points (40 ∷ 13 ∷ 22 ∷ 31 ∷ []) 4 ∷ crib_points (40 ∷ 13 ∷ 22 ∷ 31 ∷ []) 4 ∷ crib_points (13 ∷ 22 ∷ 31 ∷ 40 ∷ []) 4 ∷ []
    ≡ 1 ∷ 1 ∷ 1 ∷ []
unfolding hand_points crib_points
jack_at_each_end = refl

-- ---- the points of the owner's cards: four twos with KD make 12, and a crib 4C 6D QC 8C makes none
pub own_hand_makes_12 : (throw : List ℕ) (own : OwnPoints) → AreOwnPoints 49 (4 ∷ 5 ∷ 6 ∷ 7 ∷ []) throw own → own.hand ≡ 11 → ⊥
unfolding hand_points
own_hand_makes_12 throw own are eleven = (let hand : 11 ≡ 12 = sym eleven ∙ are.hand in absurd (omega (arith, hand)))

pub some_crib_makes_none : (hold : List ℕ) (own : OwnPoints) → AreOwnPoints 49 hold (12 ∷ 21 ∷ []) own → own.crib ≡ 1 → ⊥
unfolding crib_points
some_crib_makes_none hold own are one = (let bound : own.crib ≤ 0 = are.crib (44 ∷ 28 ∷ []) in absurd (omega (arith, bound, one)))

pub kept_points_of_the_crib : (hold points : List ℕ) (own : OwnPoints) → AreOwnPoints 49 hold (12 ∷ 21 ∷ []) own → own.plain ≡ Some points →
    ArePlain 49 (12 ∷ 21 ∷ []) points
kept_points_of_the_crib hold points own are some = subst (λ plain. IfSome plain (ArePlain 49 (12 ∷ 21 ∷ []))) some are.plain

pub two_fives_make_16 : (points : List ℕ) → ArePlain 49 (12 ∷ 21 ∷ []) points → plain_at points 5 5 ≡ 15 → ⊥
two_fives_make_16 points are fifteen =
    (let plain : 15 ≡ 16 = sym fifteen ∙ are.each 5 5 (omega arith, omega arith) (omega arith, omega arith) in absurd (omega (arith, plain)))

pub no_crib_makes_97 : (throw points : List ℕ) → ArePlain 49 throw points → plain_at points 1 1 ≡ 97 → ⊥
no_crib_makes_97 throw points are many = (let few = are.few 1 1 (omega arith, omega arith) (omega arith, omega arith) in absurd (omega (arith, few, many)))

-- ---- greatest and least points are those of some deal that agrees
pub some_deal_has_the_greatest_hand : ((dealt : Dealt) → AgreesInShow four_aces dealt → hidden_hand four_aces dealt ≡ 30 → ⊥) → IsGreatestHand four_aces 30 → ⊥
some_deal_has_the_greatest_hand none is = none is.some.0 is.some.1 is.some.2

pub some_deal_has_the_least_crib : ((dealt : Dealt) → AgreesInShow four_aces dealt → hidden_crib four_aces dealt ≡ 0 → ⊥) → IsLeastCrib four_aces 0 → ⊥
some_deal_has_the_least_crib none is = none is.some.0 is.some.1 is.some.2

pub some_deal_has_the_greatest_crib : ((dealt : Dealt) → AgreesInShow four_aces dealt → hidden_crib four_aces dealt ≡ 30 → ⊥) → IsGreatestCrib four_aces 30 → ⊥
some_deal_has_the_greatest_crib none is = none is.some.0 is.some.1 is.some.2

pub some_deal_has_the_greatest_total : ((dealt : Dealt) → AgreesInShow four_aces dealt → hidden_total four_aces dealt ≡ 60 → ⊥) →
    IsGreatestTotal four_aces 60 → ⊥
some_deal_has_the_greatest_total none is = none is.some.0 is.some.1 is.some.2

pub no_deal_to_agree : ((dealt : Dealt) → AgreesInShow four_aces dealt → ⊥) → HasDeal four_aces → ⊥
no_deal_to_agree none has = none has.0 has.1

pub nothing_unseen : (throw fixed : List ℕ) → HasCards 49 throw [] fixed four_aces → ⊥
unfolding set_where
nothing_unseen throw fixed has = (let cards = has.unseen_is in absurd cc)

pub kept_for_a_show : (shows : ExtremesByRanks) →
    AreExtremesFor four_aces shows ≡ AreExtremes 49 (4 ∷ 5 ∷ 6 ∷ 7 ∷ []) (12 ∷ 21 ∷ []) four_aces.unseen (0 ∷ []) shows
kept_for_a_show shows = refl

pub kept_parts : (shows : ExtremesByRanks) (unseen : List ℕ) → AreExtremes 49 (4 ∷ 5 ∷ 6 ∷ 7 ∷ []) (12 ∷ 21 ∷ []) unseen (0 ∷ []) shows →
    AreOwnPoints 49 (4 ∷ 5 ∷ 6 ∷ 7 ∷ []) (12 ∷ 21 ∷ []) shows.own × AreKeptIn 49 (12 ∷ 21 ∷ []) unseen (0 ∷ []) shows.kept
kept_parts shows unseen are = (are.own, are.kept)
