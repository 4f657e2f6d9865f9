-- The law of what is counted in a show: nothing is listed twice.
use Rattle.std.specs.Prelude.{ℕ, List, ◌∷◌, IsTrue}
use Rattle.crib_cards.specs.Sets.{are_distinct, AreDifferent}
use Rattle.crib_game_sheet.specs.GameShow.{hand_combinations, crib_combinations}

-- if the four cards of a hand and the starter are all different, no two of its combinations are equal
abbrev pub HandListLaw : Type 0
HandListLaw =
    (cards : List ℕ) (starter : ℕ) → IsTrue (are_distinct (starter ∷ cards))
    → AreDifferent (hand_combinations cards starter)

-- if the four cards of a crib and the starter are all different, no two of its combinations are equal
abbrev pub CribListLaw : Type 0
CribListLaw =
    (cards : List ℕ) (starter : ℕ) → IsTrue (are_distinct (starter ∷ cards))
    → AreDifferent (crib_combinations cards starter)
