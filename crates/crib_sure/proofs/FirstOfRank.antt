-- The first card of a rank in a list.
use Rattle.std.proofs.Common.{◌≡◌, ℕ, ◌≤◌, true, false, eqb, List, [], ◌∷◌, Some, None, refl, sym, ap, ◌∙◌, inl, inr, arith}
use Rattle.std.proofs.lemmas.Bool.{cases_Bool, cond-true, cond-false, both_ways, eqb-true}
use Rattle.std.proofs.lemmas.Bool.Decides.{nat_tests}
use Rattle.crib_cards.proofs.Members.{has_here, has_there}
use Rattle.crib_cards.specs.Cards.{card_of, rank_of}
use Rattle.crib_cards.specs.Sets.{has, set_without, IsCardSet, first_of_list}
use Rattle.crib_cards.specs.Order.{are_rising}
use Rattle.crib_cards.proofs.SetWalks.{lowest_split}
use Rattle.crib_sure.specs.Private.Suits.{first_of_rank}
use Rattle.crib_cards.proofs.SetFacts.{rising_rest, rising_above}

-- if the list has a card of the rank, the first one is in the list and has the rank
pub record IsFound (rank : ℕ) (cards : List ℕ) : Type 0 where
  pub held : has cards (first_of_rank rank cards) ≡ true
  pub rank_is : rank_of (first_of_rank rank cards) ≡ rank

pub first_found : (rank : ℕ) (cards : List ℕ) (other : ℕ) → has cards other ≡ true → rank_of other ≡ rank → IsFound rank cards
first_found rank [] other h e = absurd (both_ways false refl h)
first_found rank (card ∷ cards) other h e = elim (cases_Bool (eqb (rank_of card) rank)) [
  | inl here ↦
      let first = cond-true (eqb (rank_of card) rank) card (first_of_rank rank cards) here in
      record { held = ap (has (card ∷ cards)) first ∙ has_here card cards; rank_is = ap rank_of first ∙ eqb-true (rank_of card) rank here }
  | inr there ↦
      let first = cond-false (eqb (rank_of card) rank) card (first_of_rank rank cards) there in
      let rest = first_found rank cards other (grind (arith, nat_tests, h, e, there)) e in
      record { held = ap (has (card ∷ cards)) first ∙ has_there card _ cards rest.held; rank_is = ap rank_of first ∙ rest.rank_is }
]

-- in a rising list it is the lowest card of the rank
pub first_lowest : (rank : ℕ) (cards : List ℕ) (other : ℕ) → are_rising cards ≡ true → has cards other ≡ true → rank_of other ≡ rank →
    first_of_rank rank cards ≤ other
first_lowest rank [] other rising h e = absurd (both_ways false refl h)
first_lowest rank (card ∷ cards) other rising h e =
    let rest = first_lowest rank cards other (rising_rest card cards rising) in grind (arith, nat_tests, h, e, rising_above card cards other rising, rest)

-- ---- a set, from its lowest card on
module _ (rank : ℕ) (rest next : List ℕ) (card rank_found : ℕ) (is : IsCardSet rest) (first : Some card ≡ first_of_list rest)
    (rank_is : rank_found ≡ rank_of card) where
  pub passes_on : next ≡ set_without rest card → eqb rank_found rank ≡ false → first_of_rank rank next ≡ first_of_rank rank rest
  passes_on without differs =
      ap (first_of_rank rank) without ∙ sym (cond-false (eqb (rank_of card) rank) card _ (ap (λ (r : ℕ). eqb r rank) (sym rank_is) ∙ differs))
      ∙ ap (first_of_rank rank) (sym (lowest_split rest card is first))

pub none_left : (rank : ℕ) (rest : List ℕ) → None ≡ first_of_list rest → first_of_rank rank rest ≡ card_of rank 0
none_left rank [] e = refl
none_left rank (card ∷ rest) e = absurd cc
