-- The ranks that are read off the counts of the ranks, and the cards of one suit.
use Rattle.std.proofs.Common.{◌≡◌, ℕ, zero, suc, ◌+◌, ◌-◌, ◌*◌, ◌/◌, ◌%◌, ◌<◌, true, cond, eqb, List, [], ◌∷◌, map, replicate, get_or, refl, sym}
use Rattle.std.proofs.Common.{ap, ◌∙◌, inl, inr, arith, ne_eqb}
use Rattle.std.specs.List.{list_all, AllByRecursion}
use Rattle.std.proofs.lemmas.Bool.{cases_lt, and_parts, eq-eqb, eqb-true}
use Rattle.std.proofs.lemmas.List.{get_or_past}
use Rattle.std.proofs.lemmas.List.Folds.{sum_by-replicate}
use Rattle.crib_cards.specs.Cards.{card_of, rank_of, suit_of, IsRank}
use Rattle.crib_cards.specs.Sets.{rank_counts}
use Rattle.crib_cards.proofs.CountLemmas.{count_at-rank_counts}
use Rattle.crib_show.specs.Private.Extremes.{ranks_from, cards_in_suit}
use Rattle.crib_show.proofs.PairTrials.{rank_back}
use Rattle.crib_show.proofs.RankLaw.{times, times-no_rank, reordered_from_times}
use Rattle.crib_show.proofs.ReorderedLists.{Reordered, nothing, behind, front, both}
use Rattle.crib_cards.proofs.SetCounts.{count_append}

-- ---- the ranks of counts

times-replicate : (n x y : ℕ) → times (replicate n x) y ≡ n * cond (eqb x y) 1 0
times-replicate n x y = sum_by-replicate (λ other. cond (eqb other y) 1 0) n x

times-same : (n x y : ℕ) → x ≡ y → times (replicate n x) y ≡ n
times-same n x y same = times-replicate n x y ∙ ap (λ b. n * cond b 1 0) (eq-eqb x y same) ∙ omega arith

times-other : (n x y : ℕ) → (x ≡ y → ⊥) → times (replicate n x) y ≡ 0
times-other n x y apart = times-replicate n x y ∙ ap (λ b. n * cond b 1 0) (ne_eqb x y apart) ∙ omega arith

times_below : (low number : ℕ) (counts : List ℕ) → number < low → times (ranks_from low counts) number ≡ 0
times_below low number [] below = refl
times_below low number (count ∷ counts) below =
    omega (
      arith,
      times-other count low number (λ same. omega arith),
      times_below (low + 1) number counts (omega arith),
      count_append (λ other. eqb other number) (replicate count low) (ranks_from (low + 1) counts),
    )

times_at : (low number k : ℕ) (counts : List ℕ) → number ≡ low + k → times (ranks_from low counts) number ≡ get_or counts k 0
times_at low number k [] is = refl
times_at low number zero (count ∷ counts) is =
    let here = times-same count low number (omega arith) in
    let rest = times_below (low + 1) number counts (omega arith) in
    let both = count_append (λ other. eqb other number) (replicate count low) (ranks_from (low + 1) counts) in
    omega (arith, here, rest, both)
times_at low number (suc k) (count ∷ counts) is =
    let here = times-other count low number (λ same. omega arith) in
    let rest = times_at (low + 1) number k counts (omega arith) in
    let both = count_append (λ other. eqb other number) (replicate count low) (ranks_from (low + 1) counts) in
    omega (arith, here, rest, both)

-- the ranks that are read off the counts of some ranks are these ranks
pub ranks_counted : (xs : List ℕ) → AllByRecursion IsRank xs → Reordered (ranks_from 1 (rank_counts xs)) xs
ranks_counted xs are =
    reordered_from_times (ranks_from 1 (rank_counts xs)) xs (λ number. elim (cases_lt number 1) [
      | inl low ↦ times_below 1 number (rank_counts xs) low ∙ sym (times-no_rank xs number are (λ is. omega (arith, is.0)))
      | inr above ↦
          let at : times (ranks_from 1 (rank_counts xs)) number ≡ get_or (rank_counts xs) (number - 1) 0 =
          times_at 1 number (number - 1) (rank_counts xs) (omega arith) in
          elim (cases_lt number 14) [
            | inl inside ↦ at ∙ count_at-rank_counts xs number (above, omega arith)
            | inr past ↦ at ∙ get_or_past (rank_counts xs) (number - 1) 0 (omega (arith, past))
                ∙ sym (times-no_rank xs number are (λ is. omega (arith, is.1)))
          ]
    ])

pub ranks_reordered : (xs ys : List ℕ) → Reordered xs ys → AllByRecursion IsRank xs → AllByRecursion IsRank ys
ranks_reordered xs ys nothing are = tt
ranks_reordered xs ys (behind x us vs r) are = (are.0, ranks_reordered us vs r are.1)
ranks_reordered xs ys (front x y us) are = (are.1.0, (are.0, are.1.1))
ranks_reordered xs ys (both us vs ws r s) are = ranks_reordered vs ws s (ranks_reordered us vs r are)

-- ---- cards of one suit

pub ranks-cards_in_suit : (suit : ℕ) (ranks : List ℕ) → suit < 4 → AllByRecursion IsRank ranks → map rank_of (cards_in_suit suit ranks) ≡ ranks
ranks-cards_in_suit suit [] small are = refl
ranks-cards_in_suit suit (rank ∷ ranks) small are =
    let same : rank_of (card_of rank suit) ≡ rank = rank_back rank suit small are.0.0 in
    λ i. same i ∷ ranks-cards_in_suit suit ranks small are.1 i

pub cards_in_suit-ranks : (suit : ℕ) (cards : List ℕ) → list_all (λ card. eqb (suit_of card) suit) cards ≡ true → cards_in_suit suit (map rank_of cards) ≡ cards
cards_in_suit-ranks suit [] all = refl
cards_in_suit-ranks suit (card ∷ cards) all =
    let parts = and_parts (eqb (suit_of card) suit) (list_all (λ other. eqb (suit_of other) suit) cards) all in
    let same : card_of (rank_of card) suit ≡ card = card_back card suit (eqb-true (suit_of card) suit parts.0) in
    λ i. same i ∷ cards_in_suit-ranks suit cards parts.1 i
  where
    card_back : (card suit : ℕ) → card % 4 ≡ suit → 4 * (card / 4 + 1 - 1) + suit ≡ card
    card_back card suit is = omega arith
