-- The greatest hand and the least crib, from rank counts and from the suits of the hidden cards. These definitions
-- follow the code. Worst defines what the public calls return.
use Rattle.std.specs.Prelude.{ℕ, ◌+◌, ◌==◌, nat_lt, max, min, Bool, not, ◌&&◌, ◌||◌, List}
use Rattle.std.specs.Prelude.{[], ◌∷◌, ◌++◌, map, replicate, if◌then◌else◌}
use Rattle.std.specs.List.{list_all}
use Rattle.crib_cards.specs.Cards.{card_of, suit_of, jack}
use Rattle.crib_cards.specs.Sets.{has, are_distinct, count_at, count_rank}
use Rattle.crib_show.specs.declared.deals.WorstShow.{WorstShow}
use Rattle.crib_show.specs.Show.{are_of_suit, crib_flush, hand_flush, jack_points}
use Rattle.crib_show.specs.Worst.{plain_with}

-- the ranks of cards in order, from their counts. The first count is that of the given rank
abbrev pub ranks_from : ℕ → List ℕ → List ℕ
ranks_from rank [] = []
ranks_from rank (count ∷ counts) = replicate count rank ++ ranks_from (rank + 1) counts

-- the cards of some ranks in one suit
abbrev pub cards_in_suit : ℕ → List ℕ → List ℕ
cards_in_suit suit ranks = map (λ rank. card_of rank suit) ranks

-- whether cards of the opponent's ranks may be the opponent's hold: they are different unseen cards, and the fixed ones
-- are among them
abbrev pub may_be_hold : WorstShow → List ℕ → Bool
may_be_hold worst cards = list_all (has worst.unseen) cards && list_all (has cards) worst.fixed && are_distinct cards

-- the points that suits add to a hand
abbrev pub suit_points : List ℕ → ℕ → ℕ
suit_points cards starter = hand_flush cards starter + jack_points cards starter

-- the points that suits add if the opponent's ranks are in one suit, or 0 if these cards can't be the hold
abbrev pub suited_points : WorstShow → List ℕ → ℕ → ℕ
suited_points worst ranks suit =
    if may_be_hold worst (cards_in_suit suit ranks) then suit_points (cards_in_suit suit ranks) worst.starter else 0

-- the jack of the starter's suit
abbrev pub right_jack : WorstShow → ℕ
right_jack worst = card_of jack (suit_of worst.starter)

-- whether the opponent may hold this jack: it is unseen, and it is fixed or the hold has more jacks than are fixed
abbrev pub may_have_jack : WorstShow → Bool
may_have_jack worst =
    has worst.unseen (right_jack worst)
    && (has worst.fixed (right_jack worst) || nat_lt (count_rank jack worst.fixed) (count_at worst.ranks jack))

-- the most points that suits can add to the opponent's hand of these ranks
abbrev pub most_suit_points : WorstShow → List ℕ → ℕ
most_suit_points worst ranks =
    max
    (max
    (max
    (max (if may_have_jack worst then 1 else 0) (suited_points worst ranks 0))
    (suited_points worst ranks 1))
    (suited_points worst ranks 2))
    (suited_points worst ranks 3)

-- whether a card may be thrown: it is unseen and not fixed
abbrev pub is_free : WorstShow → ℕ → Bool
is_free worst card = has worst.unseen card && not (has worst.fixed card)

-- whether enough unseen cards of two ranks are left for the throw, after the hold has its ranks
abbrev pub has_room : WorstShow → ℕ → ℕ → Bool
has_room worst first second =
    if first == second then nat_lt (count_at worst.ranks first + 1) (count_rank first worst.unseen)
    else
    nat_lt (count_at worst.ranks first) (count_rank first worst.unseen)
    && nat_lt (count_at worst.ranks second) (count_rank second worst.unseen)

-- the four cards of the crib with these two cards thrown
abbrev pub crib_with : WorstShow → ℕ → ℕ → List ℕ
crib_with worst first second = worst.own_throw ++ first ∷ second ∷ []

-- the points that suits add to the crib with these two cards thrown
abbrev pub crib_suit_points : WorstShow → ℕ → ℕ → ℕ
crib_suit_points worst first second =
    crib_flush (crib_with worst first second) worst.starter + jack_points (crib_with worst first second) worst.starter

-- more points than any crib has. It marks a throw that is not possible
abbrev pub no_crib : ℕ
no_crib = 255

-- the points that suits add to the crib with these two cards thrown, or no_crib if they cannot be thrown
abbrev pub thrown_suits : WorstShow → ℕ → ℕ → ℕ
thrown_suits worst first second =
    if is_free worst first && is_free worst second && not (first == second)
    then crib_suit_points worst first second
    else no_crib

-- the least points that suits add to the crib with a card and one of a rank thrown
abbrev pub least_suits_with : WorstShow → ℕ → ℕ → ℕ
least_suits_with worst first rank =
    min
    (min
    (min (thrown_suits worst first (card_of rank 0)) (thrown_suits worst first (card_of rank 1)))
    (thrown_suits worst first (card_of rank 2)))
    (thrown_suits worst first (card_of rank 3))

-- the least points that suits add to the crib with these two ranks thrown
abbrev pub least_suits : WorstShow → ℕ → ℕ → ℕ
least_suits worst first second =
    min
    (min
    (min (least_suits_with worst (card_of first 0) second) (least_suits_with worst (card_of first 1) second))
    (least_suits_with worst (card_of first 2) second))
    (least_suits_with worst (card_of first 3) second)

-- the points of fifteens, pairs and runs of the crib with these two ranks thrown
abbrev pub plain_crib : WorstShow → ℕ → ℕ → ℕ
plain_crib worst first second = plain_with worst.starter worst.own_throw first second

-- the points of the least crib with these two ranks thrown, or no_crib if no such throw is left
abbrev pub least_of_ranks : WorstShow → ℕ → ℕ → ℕ
least_of_ranks worst first second =
    if has_room worst first second then plain_crib worst first second + least_suits worst first second else no_crib

-- whether the crib may be of the starter's suit with these two ranks thrown: the owner's throw is of this suit, the
-- ranks are different, and their cards in this suit may be thrown
abbrev pub may_throw_flush : WorstShow → ℕ → ℕ → Bool
may_throw_flush worst first second =
    are_of_suit worst.starter worst.own_throw && not (first == second)
    && is_free worst (card_of first (suit_of worst.starter)) && is_free worst (card_of second (suit_of worst.starter))

-- whether the crib may have the jack of the starter's suit with these two ranks thrown: the owner threw it, or one of
-- the ranks is that of jacks and it may be thrown
abbrev pub may_throw_jack : WorstShow → ℕ → ℕ → Bool
may_throw_jack worst first second =
    has worst.own_throw (right_jack worst) || ((first == jack || second == jack) && is_free worst (right_jack worst))

-- the most points that suits may add to the crib with these two ranks thrown
abbrev pub most_crib_suits : WorstShow → ℕ → ℕ → ℕ
most_crib_suits worst first second =
    (if may_throw_flush worst first second then 5 else 0) + (if may_throw_jack worst first second then 1 else 0)
