-- What is counted in a hand and in the crib, with its cards.
use Rattle.std.specs.Prelude.{ℕ, ◌==◌, Bool, false, ◌&&◌, List, [], ◌∷◌, ◌++◌, length, map, filter, if◌then◌else◌}
use Rattle.crib_cards.specs.Cards.{rank_of, suit_of, jack}
use Rattle.crib_show.specs.Show.{choices, is_fifteen, is_pair, is_full_run, are_of_suit}
use Rattle.crib_game_sheet.specs.declared.game.combination.Kind.{Kind}
use Rattle.crib_game_sheet.specs.declared.game.combination.Kind.TheVariants.{Fifteen, Pair, Run, Flush, Jack}
use Rattle.crib_game_sheet.specs.declared.game.combination.Combination.{Combination}

-- a combination of these cards
abbrev pub combination : Kind → List ℕ → Combination
combination kind cards = record { kind = kind; cards = record { items = cards } }

-- a fifteen of no cards
abbrev pub no_combination : Combination
no_combination = combination Fifteen []

-- the points of a combination of this kind with this many cards
abbrev pub worth : Kind → ℕ → ℕ
worth Fifteen cards = 2
worth Pair cards = 2
worth Run cards = cards
worth Flush cards = cards
worth Jack cards = 1

-- the points of a combination
abbrev pub points_of : Combination → ℕ
points_of made = worth made.kind (length made.cards.items)

-- whether some of all the ranks are a fifteen, a pair, or a run that none of all the ranks prolongs. A flush and the
-- jack aren't seen from ranks
abbrev pub counts_as : Kind → List ℕ → List ℕ → Bool
counts_as Fifteen all ranks = is_fifteen ranks
counts_as Pair all ranks = is_pair ranks
counts_as Run all ranks = is_full_run all ranks
counts_as Flush all ranks = false
counts_as Jack all ranks = false

-- the choices from some cards whose ranks are of a kind, each as a combination
unfoldable pub combinations_of : Kind → List ℕ → List Combination
combinations_of kind all =
    map (combination kind) (filter (λ cards. counts_as kind (map rank_of all) (map rank_of cards)) (choices all))

-- the fifteens, pairs and runs among some cards. A hand and a crib have the same
abbrev pub plain_combinations : List ℕ → List Combination
plain_combinations all = combinations_of Fifteen all ++ combinations_of Pair all ++ combinations_of Run all

-- the flush in a hand: all five cards if they are of one suit, and otherwise the four in the hand if these are
abbrev pub flush_in_hand : List ℕ → ℕ → List Combination
flush_in_hand [] starter = []
flush_in_hand (card ∷ cards) starter =
    if are_of_suit card (cards ++ starter ∷ []) then combination Flush (card ∷ cards ++ starter ∷ []) ∷ []
    else if are_of_suit card cards then combination Flush (card ∷ cards) ∷ [] else []

-- the flush in a crib: all five cards if they are of one suit
abbrev pub flush_in_crib : List ℕ → ℕ → List Combination
flush_in_crib cards starter =
    if are_of_suit starter cards then combination Flush (cards ++ starter ∷ []) ∷ [] else []

-- the first jack of the starter's suit among some cards
abbrev pub jack_among : List ℕ → ℕ → List Combination
jack_among [] starter = []
jack_among (card ∷ cards) starter =
    if (rank_of card == jack) && (suit_of card == suit_of starter) then combination Jack (card ∷ []) ∷ []
    else jack_among cards starter

-- what is counted in a hand: fifteens, pairs, runs, the flush and the jack
unfoldable pub hand_combinations : List ℕ → ℕ → List Combination
hand_combinations cards starter =
    plain_combinations (cards ++ starter ∷ []) ++ flush_in_hand cards starter ++ jack_among cards starter

-- what is counted in a crib. Only its flush differs
unfoldable pub crib_combinations : List ℕ → ℕ → List Combination
crib_combinations cards starter =
    plain_combinations (cards ++ starter ∷ []) ++ flush_in_crib cards starter ++ jack_among cards starter
