-- Lists and sets of the cards of a deal.
use Rattle.std.proofs.Common.{rules}
use Rattle.std.proofs.lemmas.Bool.Decides.{nat_tests}
use Rattle.std.proofs.lemmas.List.Sums.{count_by-le-length}
use Rattle.std.proofs.Common.{◌≡◌, ℕ, zero, suc, ◌+◌, ◌<◌, ◌≤◌, Bool, true, false, not, ◌&&◌, eqb, List, [], ◌∷◌, length}
use Rattle.std.proofs.Common.{length-append, take, count_by, refl, ap, ◌∙◌, arith}
use Rattle.std.specs.List.{filter, range_with_len}
use Rattle.std.proofs.lemmas.Bool.{both_ways}
use Rattle.crib_cards.specs.Cards.{IsCard, card_value}
use Rattle.crib_cards.specs.Sets.{has, are_distinct, set_of, set_where, set_without_all, IsCardSet}
use Rattle.crib_cards.proofs.SetLemmas.{set_where_agree}
use Rattle.crib_problem.specs.Setup.{Setup, IsSetup, known_cards, unseen_of}
use Rattle.crib_problem.proofs.StartLemmas.{each_has}
use Rattle.crib_know.proofs.CardLists.{count_sum, count_filter, Counted, found_by, has_set_from, count_here, each_member}
use Rattle.crib_cards.proofs.SetCounts.{count_by-set_of}
use Rattle.crib_cards.proofs.Members.{AreCards, AreAmong, has_here, has_there}
use Rattle.crib_cards.proofs.SetFacts.{are_distinct-set_where}
use Rattle.crib_cards.proofs.LowestCard.{in_set}

-- a card of value ten
abbrev pub is_ten : ℕ → Bool
is_ten card = eqb (card_value card) 10

-- ---- sets with and without some cards
count_split : (f p q : ℕ → Bool) (xs : List ℕ) → count_by f (filter p xs) ≡ count_by f (filter (λ c. p c && q c) xs) + count_by f
    (filter (λ c. p c && not (q c)) xs)
count_split f p q xs =
    let parts = count_sum (λ c. p c && f c) (λ c. (p c && q c) && f c) (λ c. (p c && not (q c)) && f c) xs (λ x. grind (arith, nat_tests)) in
    omega (arith, parts, count_filter f p xs, count_filter f (λ c. p c && q c) xs, count_filter f (λ c. p c && not (q c)) xs)

-- a set is the cards of a list and its other cards
pub split_set : (f p : ℕ → Bool) (xs : List ℕ) → are_distinct xs ≡ true → AreCards xs → ((card : ℕ) → has xs card ≡ true → p card ≡ true) →
    count_by f (set_where p) ≡ count_by f xs + count_by f (set_where (λ c. p c && not (has xs c)))
unfolding set_where
split_set f p xs distinct cards within =
    let both : set_where (λ c. p c && has xs c) ≡ set_of xs = set_where_agree (λ c. p c && has xs c) (has xs)
    (λ card is. grind (arith, nat_tests, within card)) in
    omega (arith, count_split f p (has xs) (range_with_len 0 52), ap (count_by f) both, count_by-set_of f xs distinct cards)

-- ---- a set and another that has all its cards
module _ (f : ℕ → Bool) (few many : List ℕ) (few_set : IsCardSet few) (many_set : IsCardSet many) (among : AreAmong many few) where
  pub count_rest : count_by f many ≡ count_by f few + count_by f (set_without_all many few)
  count_rest = ap (count_by f) many_set
      ∙ split_set f (has many) few (ap are_distinct few_set ∙ are_distinct-set_where (has few)) (λ card h. in_set few card few_set h) among

  -- a card of a kind that the other set has more
  pub other_card : count_by f few < count_by f many → Counted f (set_without_all many few)
  other_card less = let rest = count_rest in found_by f (set_without_all many few) (omega (arith, less, rest))

  pub count_less : (card : ℕ) → has many card ≡ true → has few card ≡ false → f card ≡ true → count_by f few < count_by f many
  count_less card held out passes = search (rules, has_set_from, in_set many card many_set held, count_here f (set_without_all many few) card, count_rest)

pub sixteen : count_by (λ card. eqb (card_value card) 10) (set_where (λ _. true)) ≡ 16
unfolding set_where
sixteen = refl

pub has_take : (n : ℕ) (xs : List ℕ) (card : ℕ) → has (take n xs) card ≡ true → has xs card ≡ true
has_take zero xs card h = absurd (both_ways false refl h)
has_take (suc n) [] card h = absurd (both_ways false refl h)
has_take (suc n) (x ∷ xs) card h = each_member (λ y. has (x ∷ xs) y ≡ true) x (take n xs) (has_here x xs) (λ y k. has_there x y xs (has_take n xs y k)) card h

-- the owner knows seven cards
known_seven : (problem : Setup) → IsSetup problem → length (known_cards problem) ≡ 7
known_seven problem setup = omega (arith, length-append problem.hold problem.thrown, setup.held, setup.two_thrown)

-- at least nine tens are unseen
pub tens_unseen : (problem : Setup) → IsSetup problem → 9 ≤ count_by is_ten (unseen_of problem)
tens_unseen problem setup =
    let split = split_set is_ten (λ _. true) (known_cards problem) setup.distinct (λ card h. each_has IsCard (known_cards problem) card setup.cards h)
    (λ card h. refl) in
    omega (arith, split, count_by-le-length is_ten (known_cards problem), known_seven problem setup, sixteen)
