-- Holds added up.
use Rattle.std.specs.Prelude.{◌≡◌, ℕ, ◌+◌, ◌*◌, ◌/◌, ◌%◌, ◌≤◌, cond, ◌==◌, Bool, List, [], ◌∷◌, map, length}
use Rattle.std.specs.Prelude.{slice_index, sum_by, IsTrue}
use Rattle.std.specs.List.{AllByRecursion}
use Rattle.crib_cards.specs.Cards.{card_of, rank_of, suit_of}
use Rattle.crib_cards.specs.Sets.{has, set_without_all, IsCardSet}
use Rattle.crib_cards.specs.Order.{are_rising}
use Rattle.crib_deals.specs.declared.sums.Sums.{Sums}
use Rattle.crib_deals.specs.declared.throws.Cribs.{Cribs}
use Rattle.crib_deals.specs.Tables.{suit_points}
use Rattle.crib_deals.specs.Throws.{is_below, partners, passing_throws}

-- the sum of some numbers, each as many times as a weight says. The first has the weight of a number, the next one that
-- of the next number
abbrev pub weigh_from : ℕ → (ℕ → ℕ) → List ℕ → ℕ
weigh_from first weight [] = 0
weigh_from first weight (number ∷ numbers) = number * weight first + weigh_from (first + 1) weight numbers

-- the sum over the holds of a kind
abbrev pub sum_where : (List ℕ → Bool) → (List ℕ → ℕ) → List (List ℕ) → ℕ
sum_where kind value holds = sum_by (λ hold. cond (kind hold) (value hold) 0) holds

-- the index of the suit of a card at an index of a hold: 4 times that, and the suit
abbrev pub index_at : ℕ → List ℕ → ℕ
index_at at hold = 4 * at + suit_of (slice_index hold at)

-- the weights of the four cards of a hold, by their indices
abbrev pub card_sum : (ℕ → ℕ) → List ℕ → ℕ
card_sum weight hold =
    weight (index_at 0 hold) + weight (index_at 1 hold) + weight (index_at 2 hold) + weight (index_at 3 hold)

-- the points of the crib with the cards of a hold at two indices
abbrev pub pair_at : List ℕ → List ℕ → ℕ → ℕ → ℕ
pair_at points hold at later = slice_index points (52 * slice_index hold at + slice_index hold later)

-- the weights of the points of the cribs with two cards of a hold
abbrev pub pair_sum : (ℕ → ℕ) → List ℕ → List ℕ → ℕ
pair_sum weight points hold =
    weight (pair_at points hold 0 1) + weight (pair_at points hold 0 2) + weight (pair_at points hold 0 3)
    + weight (pair_at points hold 1 2) + weight (pair_at points hold 1 3) + weight (pair_at points hold 2 3)

-- with how many unseen cards the card of some ranks with an index makes a crib below a limit
abbrev pub partners_at : Cribs → List ℕ → ℕ → ℕ → ℕ
partners_at cribs ranks limit index =
    partners (is_below cribs.points limit) (card_of (slice_index ranks (index / 4)) (index % 4)) cribs.unseen

-- these are the sums over the holds of a kind
pub record AreSums (points : List ℕ) (kind : List ℕ → Bool) (holds : List (List ℕ)) (sums : Sums) : Type 0 where
  pub count : sums.count ≡ sum_where kind (λ hold. 1) holds
  pub cards : (weight : ℕ → ℕ) →
      weigh_from 0 weight sums.cards ≡ sum_where kind (λ hold. card_sum weight hold) holds
  pub pairs : (weight : ℕ → ℕ) →
      weigh_from 0 weight sums.pairs ≡ sum_where kind (λ hold. pair_sum weight points hold) holds

-- whether the suits of a hold have so many points
abbrev pub of_suits : ℕ → ℕ → List ℕ → Bool
of_suits starter suits hold = suit_points hold starter == suits

-- no sums
abbrev pub no_sums : Sums
no_sums = record { count = 0; cards = []; pairs = [] }

-- the sums are small
pub record AreSmall (sums : Sums) : Type 0 where
  pub count : sums.count ≤ 256
  pub cards : weigh_from 0 (λ index. 1) sums.cards ≡ 4 * sums.count
  pub pairs : weigh_from 0 (λ points. 1) sums.pairs ≡ 6 * sums.count

-- a hold of unseen cards in pack order
pub record IsHeld (unseen hold : List ℕ) : Type 0 where
  pub four : length hold ≡ 4
  pub set : IsCardSet unseen
  pub rising : IsTrue (are_rising hold)
  pub among : (card : ℕ) → IsTrue (has hold card) → IsTrue (has unseen card)

-- holds of unseen cards with some ranks
abbrev pub AreHeld : List ℕ → List ℕ → List (List ℕ) → Type 0
AreHeld unseen ranks holds = AllByRecursion (λ hold. IsHeld unseen hold × (map rank_of hold ≡ ranks)) holds

-- how many deals with the holds of a kind have a crib with fewer points than a limit
abbrev pub left_below : Cribs → (List ℕ → Bool) → ℕ → List (List ℕ) → ℕ
left_below cribs kind limit holds =
    sum_where kind (λ hold. passing_throws (is_below cribs.points limit) (set_without_all cribs.unseen hold)) holds
