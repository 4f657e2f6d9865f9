-- Worked examples of what is counted in a hand and in the crib. A card of rank r is 4 * (r - 1), and 1, 2, 3 more for
-- diamonds, hearts and spades.
use Rattle.std.specs.Prelude.{◌≡◌, ℕ, List, [], ◌∷◌, false, refl, sum_by}
use Rattle.crib_game_sheet.specs.declared.game.combination.Kind.TheVariants.{Fifteen, Pair, Run, Flush, Jack}
use Rattle.crib_game_sheet.specs.declared.game.combination.Combination.{Combination}
use Rattle.crib_game_sheet.specs.GameShow.{combination, points_of, counts_as, combinations_of, flush_in_crib}
use Rattle.crib_game_sheet.specs.GameShow.{flush_in_hand, hand_combinations, crib_combinations}

abbrev fifteen : List ℕ → Combination
fifteen cards = combination Fifteen cards

abbrev pair : ℕ → ℕ → Combination
pair card other = combination Pair (card ∷ other ∷ [])

-- 5C 5D 5H JS with 5S
abbrev fives : List ℕ
fives = 16 ∷ 17 ∷ 18 ∷ 43 ∷ []

abbrev best : List Combination
best =
    fifteen (16 ∷ 17 ∷ 18 ∷ []) ∷ fifteen (16 ∷ 17 ∷ 19 ∷ []) ∷ fifteen (16 ∷ 18 ∷ 19 ∷ []) ∷ fifteen (16 ∷ 43 ∷ []) ∷ fifteen (17 ∷ 18 ∷ 19 ∷ [])
    ∷ fifteen (17 ∷ 43 ∷ []) ∷ fifteen (18 ∷ 43 ∷ []) ∷ fifteen (43 ∷ 19 ∷ [])
    ∷ pair 16 17 ∷ pair 16 18 ∷ pair 16 19 ∷ pair 17 18 ∷ pair 17 19 ∷ pair 18 19
    ∷ combination Jack (43 ∷ []) ∷ []

-- the best hand. 5C 5D 5H JS with 4C: the jack of another suit is not counted. 2C 3C 4D 7H with JC: nor is a jack that is the starter.
-- 3C 4D 5H 5S with KC: two runs. 2C 3D 4H 5S with 6C: no shorter run is counted
pub what_is_counted :
    (hand_combinations fives 19 ≡ best)
    × (crib_combinations fives 19 ≡ best)
    × (sum_by points_of best ≡ 29)
    × (hand_combinations fives 12
    ≡ fifteen (16 ∷ 17 ∷ 18 ∷ []) ∷ fifteen (16 ∷ 43 ∷ []) ∷ fifteen (17 ∷ 43 ∷ []) ∷ fifteen (18 ∷ 43 ∷ []) ∷ pair 16 17 ∷ pair 16 18 ∷ pair 17 18 ∷ [])
    × (hand_combinations (4 ∷ 8 ∷ 13 ∷ 26 ∷ []) 40 ≡ fifteen (4 ∷ 8 ∷ 40 ∷ []) ∷ combination Run (4 ∷ 8 ∷ 13 ∷ []) ∷ [])
    × (hand_combinations (8 ∷ 13 ∷ 18 ∷ 19 ∷ []) 48
    ≡ fifteen (18 ∷ 48 ∷ []) ∷ fifteen (19 ∷ 48 ∷ []) ∷ pair 18 19 ∷ combination Run (8 ∷ 13 ∷ 18 ∷ []) ∷ combination Run (8 ∷ 13 ∷ 19 ∷ []) ∷ [])
    × (hand_combinations (4 ∷ 9 ∷ 14 ∷ 19 ∷ []) 20
    ≡ fifteen (4 ∷ 9 ∷ 14 ∷ 20 ∷ []) ∷ fifteen (14 ∷ 19 ∷ 20 ∷ []) ∷ combination Run (4 ∷ 9 ∷ 14 ∷ 19 ∷ 20 ∷ []) ∷ [])
unfolding hand_combinations combinations_of crib_combinations
what_is_counted = (refl, refl, refl, refl, refl, refl, refl)

-- 2C 4C 6C 8C with TD and TC
abbrev clubs : List ℕ
clubs = 4 ∷ 12 ∷ 20 ∷ 28 ∷ []

-- in the last row 2C 4C 6C JC with 5C: the flush comes after what the ranks count, and the jack last
pub flushes_in_hand_and_crib :
    (hand_combinations clubs 37 ≡ combination Flush clubs ∷ [])
    × (crib_combinations clubs 37 ≡ [])
    × (hand_combinations clubs 36 ≡ combination Flush (4 ∷ 12 ∷ 20 ∷ 28 ∷ 36 ∷ []) ∷ [])
    × (crib_combinations clubs 36 ≡ combination Flush (4 ∷ 12 ∷ 20 ∷ 28 ∷ 36 ∷ []) ∷ [])
    × (crib_combinations (4 ∷ 12 ∷ 20 ∷ 40 ∷ []) 16 ≡ fifteen (12 ∷ 20 ∷ 16 ∷ []) ∷ fifteen (40 ∷ 16 ∷ [])
    ∷ combination Run (12 ∷ 20 ∷ 16 ∷ []) ∷ combination Flush (4 ∷ 12 ∷ 20 ∷ 40 ∷ 16 ∷ []) ∷ combination Jack (40 ∷ []) ∷ [])
unfolding hand_combinations combinations_of crib_combinations
flushes_in_hand_and_crib = (refl, refl, refl, refl, refl)

-- JC 4D 6H 8S with 2C, with the jack first and last. 2D 2C 6H 8S with KD and 4C 2C 8C 6C: the cards of a pair, and of a flush, are
-- in the order of the hand
pub cards_in_their_order :
    (hand_combinations (40 ∷ 13 ∷ 22 ∷ 31 ∷ []) 4 ∷ crib_combinations (40 ∷ 13 ∷ 22 ∷ 31 ∷ []) 4 ∷ []
    ≡ (combination Jack (40 ∷ []) ∷ []) ∷ (combination Jack (40 ∷ []) ∷ []) ∷ [])
    × (hand_combinations (13 ∷ 22 ∷ 31 ∷ 40 ∷ []) 4 ∷ crib_combinations (13 ∷ 22 ∷ 31 ∷ 40 ∷ []) 4 ∷ []
    ≡ (combination Jack (40 ∷ []) ∷ []) ∷ (combination Jack (40 ∷ []) ∷ []) ∷ [])
    × (hand_combinations (5 ∷ 4 ∷ 22 ∷ 31 ∷ []) 49 ∷ crib_combinations (5 ∷ 4 ∷ 22 ∷ 31 ∷ []) 49 ∷ [] ≡ (pair 5 4 ∷ []) ∷ (pair 5 4 ∷ []) ∷ [])
    × (flush_in_hand (12 ∷ 4 ∷ 28 ∷ 20 ∷ []) 36 ≡ combination Flush (12 ∷ 4 ∷ 28 ∷ 20 ∷ 36 ∷ []) ∷ [])
    × (flush_in_hand (12 ∷ 4 ∷ 28 ∷ 20 ∷ []) 37 ≡ combination Flush (12 ∷ 4 ∷ 28 ∷ 20 ∷ []) ∷ [])
    × (flush_in_crib (12 ∷ 4 ∷ 28 ∷ 20 ∷ []) 36 ≡ combination Flush (12 ∷ 4 ∷ 28 ∷ 20 ∷ 36 ∷ []) ∷ [])
unfolding hand_combinations crib_combinations combinations_of
cards_in_their_order = (refl, refl, refl, refl, refl, refl)

-- QC KD AH 2S with 8C. A flush and the jack aren't seen from ranks. No card is no flush, nor are 4C 6C 8C TC with 2D, first or last
pub what_is_not_counted :
    (hand_combinations (44 ∷ 49 ∷ 2 ∷ 7 ∷ []) 28 ≡ [])
    × (counts_as Flush (2 ∷ 4 ∷ 6 ∷ 8 ∷ []) (2 ∷ 4 ∷ 6 ∷ 8 ∷ []) ≡ false)
    × (counts_as Jack (11 ∷ []) (11 ∷ []) ≡ false)
    × (flush_in_hand [] 19 ≡ [])
    × (flush_in_hand (5 ∷ 12 ∷ 20 ∷ 28 ∷ []) 36 ∷ flush_in_hand (12 ∷ 20 ∷ 28 ∷ 5 ∷ []) 36 ∷ flush_in_crib (5 ∷ 12 ∷ 20 ∷ 28 ∷ []) 36
    ∷ flush_in_crib (12 ∷ 20 ∷ 28 ∷ 5 ∷ []) 36 ∷ [] ≡ [] ∷ [] ∷ [] ∷ [] ∷ [])
unfolding hand_combinations combinations_of
what_is_not_counted = (refl, refl, refl, refl, refl)
