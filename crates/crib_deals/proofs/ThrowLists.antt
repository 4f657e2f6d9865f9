-- The deals with a hold and a throw of two of some cards: how many of them pass a test.
use Rattle.std.proofs.Common.{◌≡◌, ◌⊎◌, ℕ, ◌+◌, ◌-◌, ◌*◌, ◌<◌, ◌≤◌, Bool, true, false, cond, count_by, List, [], ◌∷◌, length, get_or, take, drop}
use Rattle.std.proofs.Common.{◌++◌, map, slice_index, refl, sym, ap, ◌∙◌, inl, inr, arith}
use Rattle.std.proofs.lemmas.List.{take_all}
use Rattle.std.proofs.lemmas.List.Sums.{sum_by-cons}
use Rattle.std.proofs.lemmas.Bool.Decides.{nat_tests}
use Rattle.std.proofs.lemmas.Bool.{and_from, both_ways, lt-ltb}
use Rattle.crib_cards.specs.Cards.{rank_of}
use Rattle.crib_cards.specs.Sets.{has}
use Rattle.crib_cards.specs.Order.{are_rising}
use Rattle.crib_cards.specs.declared.sides.Dealt.{Dealt}
use Rattle.crib_cards.proofs.Members.{has_here, has_there, has_cases}
use Rattle.crib_cards.proofs.SetFacts.{rising_rest, rising_above}
use Rattle.crib_know.proofs.CardLists.{count_all_of}
use Rattle.crib_deals.specs.Exact.{AreExactly}
use Rattle.crib_deals.specs.Throws.{passing_throws}
use Rattle.crib_deals.proofs.ExactCounts.{exactly_deal, exactly_either, exactly_none, exactly_same}

-- a throw of two of some cards
abbrev pub IsThrowOf : List ℕ → List ℕ → Type 0
IsThrowOf cards throw =
    (first : ℕ) × (second : ℕ) × (throw ≡ first ∷ second ∷ []) × (has cards first ≡ true) × (has cards second ≡ true) × (first < second)

-- a throw of a card and one of some others
abbrev IsThrowWith : ℕ → List ℕ → List ℕ → Type 0
IsThrowWith card others throw = (other : ℕ) × (has others other ≡ true) × (throw ≡ card ∷ other ∷ [])

module _ (hold : List ℕ) (held : are_rising hold ≡ true) (test : List ℕ → Bool) where
  -- a deal with the hold whose throw is of a kind and passes the test
  abbrev pub HasThrow : (List ℕ → Type 0) → Dealt → Type 0
  HasThrow Throw dealt = (dealt.hold ≡ hold) × Throw dealt.throw × (test dealt.throw ≡ true)

  one_throw : (throw : List ℕ) → are_rising throw ≡ true → AreExactly (HasThrow (λ thrown. thrown ≡ throw)) (cond (test throw) 1 0)
  one_throw throw rising = exactly_same (λ dealt order has. grind (arith, has)) (λ dealt order has. grind (arith, has))
      (exactly_deal (record { hold = hold; throw = throw }) (test throw) (and_from (are_rising hold) (are_rising throw) held rising))

  either_throw : (One Other Throw : List ℕ → Type 0) (count more : ℕ) → ((throw : List ℕ) → Throw throw → One throw ⊎ Other throw) →
      ((throw : List ℕ) → One throw → Throw throw) → ((throw : List ℕ) → Other throw → Throw throw) → ((throw : List ℕ) → One throw → Other throw → ⊥) →
      AreExactly (HasThrow One) count → AreExactly (HasThrow Other) more → AreExactly (HasThrow Throw) (count + more)
  either_throw One Other Throw count more parts one_is other_is apart =
      exactly_either (λ dealt has. elim (parts dealt.throw has.1) [ inl one ↦ inl (has.0, one, has.2) | inr other ↦ inr (has.0, other, has.2) ])
      (λ dealt has. (has.0, one_is dealt.throw has.1, has.2)) (λ dealt has. (has.0, other_is dealt.throw has.1, has.2))
      (λ dealt one other. apart dealt.throw one.1 other.1)

  with_first : (card : ℕ) (others : List ℕ) → are_rising others ≡ true → ((other : ℕ) → has others other ≡ true → card < other) →
      AreExactly (HasThrow (IsThrowWith card others)) (count_by (λ other. test (card ∷ other ∷ [])) others)
  with_first card [] rising above = exactly_none (λ dealt order has. both_ways false refl has.1.1)
  with_first card (other ∷ others) rising above =
      rw sum_by-cons (either_throw (λ throw. throw ≡ card ∷ other ∷ []) (IsThrowWith card others) (IsThrowWith card (other ∷ others)) _ _
      (λ throw t. elim (has_cases other t.0 others t.1) [ inl same ↦ inl (rw same t.2) | inr more ↦ inr (t.0, more, t.2) ])
      (λ throw two. (other, has_here other others, two)) (λ throw t. (t.0, has_there other t.0 others t.1, t.2))
      (λ throw two t. let same : other ≡ t.0 = ap (λ (xs : List ℕ). slice_index xs 1) (sym two ∙ t.2) in
      absurd (omega (arith, same, rising_above other others t.0 rising t.1)))
      (one_throw (card ∷ other ∷ []) (and_from _ _ (lt-ltb card other (above other (has_here other others))) refl))
      (with_first card others (rising_rest other others rising) (λ second inside. above second (has_there other second others inside))))

  pub all_throws : (cards : List ℕ) → are_rising cards ≡ true → AreExactly (HasThrow (IsThrowOf cards)) (passing_throws test cards)
  all_throws [] rising = exactly_none (λ dealt order has. both_ways false refl has.1.3)
  all_throws (card ∷ cards) rising =
      either_throw (IsThrowWith card cards) (IsThrowOf cards) (IsThrowOf (card ∷ cards)) _ _ parts
      (λ throw t. (card, t.0, t.2, has_here card cards, has_there card t.0 cards t.1, above t.0 t.1))
      (λ throw t. (t.0, t.1, t.2, has_there card t.0 cards t.3, has_there card t.1 cards t.4, t.5))
      (λ throw t below. absurd (omega (arith, ap (λ (xs : List ℕ). slice_index xs 0) (sym t.2 ∙ below.2), above below.0 below.3)))
      (with_first card cards (rising_rest card cards rising) above) (all_throws cards (rising_rest card cards rising))
    where
      above : (other : ℕ) → has cards other ≡ true → card < other
      above other inside = rising_above card cards other rising inside

      parts : (throw : List ℕ) → IsThrowOf (card ∷ cards) throw → IsThrowWith card cards throw ⊎ IsThrowOf cards throw
      parts throw (first, second, two, inside, also, less) = elim (has_cases card first cards inside) [
        | inl here ↦ inl (second, grind (arith, nat_tests, also, less, here), rw here two)
        | inr there ↦ inr (first, second, two, there, grind (arith, nat_tests, also, less, above first there), less)
      ]

-- ---- how many there are
pub every_throw : (cards : List ℕ) → length cards ≡ 41 → passing_throws (λ throw. true) cards ≡ 820
every_throw cards long = let count : 2 * passing_throws (λ throw. true) cards + 41 ≡ 41 * 41 = rw long at (twice cards) in omega (arith, count)
  where
    twice : (cards : List ℕ) → 2 * passing_throws (λ throw. true) cards + length cards ≡ length cards * length cards
    twice [] = refl
    twice (card ∷ cards) = let below = twice cards in grind (arith, below, count_all_of cards)

pub first_and_rest : (cards : List ℕ) (first : ℕ) → 1 ≤ length cards → first ≡ get_or cards 0 first → cards ≡ first ∷ take (length cards - 1) (drop 1 cards)
first_and_rest [] first some at = absurd (omega (arith, some))
first_and_rest (card ∷ cards) first some at = λ i. sym at i ∷ sym (take_all (length (card ∷ cards) - 1) cards (omega arith)) i

-- the ranks of two cards before some others
pub ranks_of_two : (cards : List ℕ) → length cards ≡ 2 → (first second : ℕ) (more : List ℕ) →
    rank_of (get_or cards 0 first) ∷ rank_of (get_or cards 1 second) ∷ more ≡ map rank_of cards ++ more
ranks_of_two (a ∷ b ∷ []) two first second more = refl
ranks_of_two cards two first second more = absurd (omega (arith, two))
