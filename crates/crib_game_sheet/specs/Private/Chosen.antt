-- Combinations, choice by choice.
use Rattle.std.specs.Prelude.{ℕ, List, [], ◌∷◌, ◌++◌, map, if◌then◌else◌}
use Rattle.crib_cards.specs.Cards.{rank_of}
use Rattle.crib_game_sheet.specs.declared.game.combination.Kind.{Kind}
use Rattle.crib_game_sheet.specs.declared.game.combination.Combination.{Combination}
use Rattle.crib_game_sheet.specs.GameShow.{combination, counts_as}

-- the combinations of a kind that begin with the cards that are taken, and have some of those that are left
unfoldable pub combinations_from : Kind → List ℕ → List ℕ → List ℕ → List Combination
combinations_from kind all taken [] =
    if counts_as kind all (map rank_of taken) then combination kind taken ∷ [] else []
combinations_from kind all taken (card ∷ left) =
    combinations_from kind all (taken ++ card ∷ []) left ++ combinations_from kind all taken left
