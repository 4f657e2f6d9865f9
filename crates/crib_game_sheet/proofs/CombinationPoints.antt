-- The combinations of a hand or a crib add up to its points.
use Rattle.std.proofs.Common.{◌≡◌, ℕ, ◌+◌, ◌*◌, Bool, cond, List, [], ◌∷◌, ◌++◌, length, map, filter, sum_by, count_by}
use Rattle.std.proofs.Common.{refl, sym, ap, ◌∙◌, arith}
use Rattle.std.proofs.lemmas.List.{length-map}
use Rattle.std.proofs.lemmas.List.Sums.{sum_by-append, sum_by-cons}
use Rattle.crib_cards.specs.Cards.{rank_of}
use Rattle.crib_show.specs.Show.{choices, is_fifteen, is_pair, hand_flush, crib_flush, hand_points, crib_points, jack_points, plain_points}
use Rattle.crib_show.proofs.Choices.{sum_by-choices}
use Rattle.crib_show.proofs.ReorderedLists.{last_first}
use Rattle.crib_show.proofs.RankLaw.{plain_of_ranks-reordered}
use Rattle.crib_show.proofs.OrderLaw.{map-reordered}
use Rattle.crib_game_sheet.specs.declared.game.combination.Kind.{Kind}
use Rattle.crib_game_sheet.specs.declared.game.combination.Combination.{Combination}
use Rattle.crib_game_sheet.specs.GameShow.{combination, worth, points_of, counts_as, combinations_of, plain_combinations, flush_in_hand, flush_in_crib}
use Rattle.crib_game_sheet.specs.GameShow.{jack_among, hand_combinations, crib_combinations}

-- those of some choices that are of a kind, each as a combination
abbrev pub passing : Kind → List ℕ → List (List ℕ) → List Combination
passing kind all sets = map (combination kind) (filter (λ cards. counts_as kind all (map rank_of cards)) sets)

-- the points of a choice of ranks
abbrev counted : Kind → List ℕ → List ℕ → ℕ
counted kind all ranks = cond (counts_as kind all ranks) (worth kind (length ranks)) 0

passing_points : (kind : Kind) (all : List ℕ) (sets : List (List ℕ)) →
    sum_by points_of (passing kind all sets) ≡ sum_by (λ cards. counted kind all (map rank_of cards)) sets
passing_points kind all [] = refl
passing_points kind all (cards ∷ sets) =
    let one = sum_by-cons points_of (combination kind cards) (passing kind all sets) in
    let ranks = sum_by-cons (λ some. counted kind all (map rank_of some)) cards sets in
    grind (arith, passing_points kind all sets, length-map cards rank_of, one, ranks)

-- the ranks of the choices are the choices of the ranks
chosen_ranks : (f : List ℕ → ℕ) (cards : List ℕ) → sum_by (λ chosen. f (map rank_of chosen)) (choices cards) ≡ sum_by f (choices (map rank_of cards))
chosen_ranks f [] = refl
chosen_ranks f (card ∷ cards) =
    sum_by-choices (λ chosen. f (map rank_of chosen)) card cards
    ∙ (λ i. chosen_ranks (λ ranks. f (rank_of card ∷ ranks)) cards i + chosen_ranks f cards i)
    ∙ sym (sum_by-choices f (rank_of card) (map rank_of cards))

kind_points : (kind : Kind) (all : List ℕ) →
    sum_by points_of (combinations_of kind all) ≡ sum_by (counted kind (map rank_of all)) (choices (map rank_of all))
unfolding combinations_of
kind_points kind all =
    passing_points kind (map rank_of all) (choices all) ∙ chosen_ranks (counted kind (map rank_of all)) all

-- two points each
twice : (p : List ℕ → Bool) (sets : List (List ℕ)) → sum_by (λ set. cond (p set) 2 0) sets ≡ 2 * count_by p sets
twice p [] = refl
twice p (set ∷ sets) =
    grind (arith, twice p sets, sum_by-cons (λ set. cond (p set) 2 0) set sets, sum_by-cons (λ set. cond (p set) 1 0) set sets)

-- the points of the fifteens, pairs and runs
plain_sum : (all : List ℕ) → sum_by points_of (plain_combinations all) ≡ plain_points all
plain_sum all =
    omega (arith, sum_by-append points_of, kind_points, twice is_fifteen, twice is_pair)

plain_sum_of : (cards : List ℕ) (starter : ℕ) → sum_by points_of (plain_combinations (cards ++ starter ∷ [])) ≡ plain_points (starter ∷ cards)
plain_sum_of cards starter =
    plain_sum (cards ++ starter ∷ [])
    ∙ plain_of_ranks-reordered (map rank_of (cards ++ starter ∷ [])) (map rank_of (starter ∷ cards))
    (map-reordered rank_of (cards ++ starter ∷ []) (starter ∷ cards) (last_first cards starter))

hand_flush_sum : (cards : List ℕ) (starter : ℕ) → length cards ≡ 4 → sum_by points_of (flush_in_hand cards starter) ≡ hand_flush cards starter
hand_flush_sum [] starter four = refl
hand_flush_sum (a ∷ b ∷ c ∷ d ∷ []) starter four = grind (arith)
hand_flush_sum _ starter four = absurd (omega (arith, four))

crib_flush_sum : (cards : List ℕ) (starter : ℕ) → length cards ≡ 4 → sum_by points_of (flush_in_crib cards starter) ≡ crib_flush cards starter
crib_flush_sum (a ∷ b ∷ c ∷ d ∷ []) starter four = grind (arith)
crib_flush_sum _ starter four = absurd (omega (arith, four))

jack_sum : (cards : List ℕ) (starter : ℕ) → sum_by points_of (jack_among cards starter) ≡ jack_points cards starter
jack_sum [] starter = refl
jack_sum (card ∷ cards) starter = grind (arith, jack_sum cards starter)

-- what is listed part after part adds up to the points of the parts
listed_sum : (cards : List ℕ) (starter : ℕ) (flush : List Combination) {points : ℕ} {found flushed made : List Combination} →
    made ≡ flushed ++ jack_among cards starter → flushed ≡ found ++ flush → found ≡ plain_combinations (cards ++ starter ∷ []) →
    sum_by points_of flush ≡ points → sum_by points_of made ≡ plain_points (starter ∷ cards) + points + jack_points cards starter
listed_sum cards starter flush {found = found} {flushed = flushed} last next first is =
    omega (arith, ap (sum_by points_of) last, ap (sum_by points_of) next, ap (sum_by points_of) first, sum_by-append points_of, plain_sum_of, is, jack_sum)

pub hand_sum : (cards : List ℕ) (starter : ℕ) → length cards ≡ 4 → sum_by points_of (hand_combinations cards starter) ≡ hand_points cards starter
unfolding hand_combinations hand_points
hand_sum cards starter four = listed_sum cards starter (flush_in_hand cards starter) refl refl refl (hand_flush_sum cards starter four)

pub crib_sum : (cards : List ℕ) (starter : ℕ) → length cards ≡ 4 → sum_by points_of (crib_combinations cards starter) ≡ crib_points cards starter
unfolding crib_combinations crib_points
crib_sum cards starter four = listed_sum cards starter (flush_in_crib cards starter) refl refl refl (crib_flush_sum cards starter four)
