-- The combinations that are made choice by choice are those of all choices.
use Rattle.std.proofs.Common.{◌≡◌, ℕ, List, [], ◌∷◌, ◌++◌, map, filter, refl, sym, ap, ◌∙◌, append-nil, append_assoc, arith}
use Rattle.std.proofs.lemmas.List.{map-append}
use Rattle.std.proofs.lemmas.List.Elements.{filter-append}
use Rattle.crib_cards.specs.Cards.{rank_of}
use Rattle.crib_show.specs.Show.{choices}
use Rattle.crib_game_sheet.specs.declared.game.combination.Kind.{Kind}
use Rattle.crib_game_sheet.specs.GameShow.{combination, counts_as, combinations_of}
use Rattle.crib_game_sheet.specs.Private.Chosen.{combinations_from}
use Rattle.crib_game_sheet.proofs.CombinationPoints.{passing}

-- the same cards before each of some choices
abbrev behind : List ℕ → List (List ℕ) → List (List ℕ)
behind taken sets = map (λ cards. taken ++ cards) sets

behind_none : (sets : List (List ℕ)) → behind [] sets ≡ sets
behind_none [] = refl
behind_none (cards ∷ sets) = ap (λ others. cards ∷ others) (behind_none sets)

behind_one_more : (taken : List ℕ) (card : ℕ) (sets : List (List ℕ)) → behind taken (map (λ cards. card ∷ cards) sets) ≡ behind (taken ++ card ∷ []) sets
behind_one_more taken card [] = refl
behind_one_more taken card (cards ∷ sets) = λ i. sym (append_assoc taken (card ∷ []) cards) i ∷ behind_one_more taken card sets i

passing_both : (kind : Kind) (all : List ℕ) (sets others : List (List ℕ)) → passing kind all (sets ++ others) ≡ passing kind all sets ++ passing kind all others
passing_both kind all sets others =
    let passes = λ (cards : List ℕ). counts_as kind all (map rank_of cards) in
    ap (map (combination kind)) (filter-append passes sets others) ∙ map-append (combination kind) (filter passes sets) (filter passes others)

from_passes : (kind : Kind) (all taken left : List ℕ) → combinations_from kind all taken left ≡ passing kind all (behind taken (choices left))
unfolding combinations_from
from_passes kind all taken [] = grind (arith, append-nil taken)
from_passes kind all taken (card ∷ left) =
    rw (from_passes kind all (taken ++ card ∷ []) left, from_passes kind all taken left, ← behind_one_more taken card (choices left))
    (rw (← passing_both kind all (behind taken (map (λ cards. card ∷ cards) (choices left))) (behind taken (choices left)))
    (rw (map-append (λ cards. taken ++ cards) (map (λ cards. card ∷ cards) (choices left)) (choices left)) refl))

-- from no cards on they are all combinations of their kind
pub from_none : (kind : Kind) (all : List ℕ) → combinations_from kind (map rank_of all) [] all ≡ combinations_of kind all
unfolding combinations_of
from_none kind all = from_passes kind (map rank_of all) [] all ∙ ap (passing kind (map rank_of all)) (behind_none (choices all))
