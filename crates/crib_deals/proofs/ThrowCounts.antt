-- How many throws of the cards that a hold leaves make a crib below a limit, counted by inclusion and exclusion.
use Rattle.std.proofs.Common.{◌≡◌, ℕ, ◌+◌, ◌*◌, ◌<◌, Bool, false, not, ◌&&◌, eqb}
use Rattle.std.proofs.Common.{ltb, sum_by, List, [], ◌∷◌, ◌++◌, length, slice_index, get_or, take}
use Rattle.std.proofs.Common.{refl, sym, ap, ◌∙◌, arith}
use Rattle.std.proofs.Math.Nat.{min_comm, max_comm}
use Rattle.std.proofs.lemmas.Bool.Decides.{nat_tests}
use Rattle.std.proofs.lemmas.List.Sums.{sum_by-cons, sum_by_more}
use Rattle.crib_cards.specs.Sets.{set_without_all}
use Rattle.crib_cards.proofs.LowestCard.{in_set}
use Rattle.crib_cards.proofs.Members.{all_cards}
use Rattle.crib_cards.proofs.SetCounts.{count_append, count_cons}
use Rattle.crib_cards.proofs.SetLemmas.{eqb_turned}
use Rattle.crib_cards.proofs.SetFacts.{set_of-rising}
use Rattle.crib_know.proofs.CardLists.{none_counted, one_if}
use Rattle.crib_know.proofs.DealLists.{count_rest}
use Rattle.crib_show.proofs.RankLaw.{reordered_from_times}
use Rattle.crib_show.proofs.ReorderedLists.{Reordered, nothing, behind, front, both, count_by-reordered}
use Rattle.crib_deals.specs.Private.Sums.{IsHeld}
use Rattle.crib_deals.specs.Throws.{is_below, partners, passing_throws}

-- how many throws of a card and another card pass a test, for each of some cards
abbrev pub throws_with : (List ℕ → Bool) → List ℕ → List ℕ → ℕ
throws_with test cards others = sum_by (λ card. partners test card others) cards

module _ (test : List ℕ → Bool) (turned : (a b : ℕ) → test (a ∷ b ∷ []) ≡ test (b ∷ a ∷ [])) (alone : (a : ℕ) → test (a ∷ a ∷ []) ≡ false) where
  abbrev with : ℕ → ℕ → Bool
  with card other = test (card ∷ other ∷ [])

  throws-reordered : (xs ys : List ℕ) → Reordered xs ys → passing_throws test xs ≡ passing_throws test ys
  throws-reordered xs ys nothing = refl
  throws-reordered xs ys (behind x us vs r) = λ i. count_by-reordered (with x) us vs r i + throws-reordered us vs r i
  throws-reordered xs ys (front x y us) = omega (arith, count_cons (with x) y us, count_cons (with y) x us, ap one_if (turned x y))
  throws-reordered xs ys (both us vs ws r s) = throws-reordered us vs r ∙ throws-reordered vs ws s

  one_more : (card : ℕ) (cards others : List ℕ) → throws_with test cards (card ∷ others) ≡ partners test card cards + throws_with test cards others
  one_more card [] others = refl
  one_more card (next ∷ cards) others =
      let both = sum_by-cons (λ c. partners test c (card ∷ others)) next cards in
      let rest = sum_by-cons (λ c. partners test c others) next cards in
      omega (arith, both, rest, ap one_if (turned next card), one_more card cards others, count_cons (with card) next cards, count_cons (with next) card others)

  joined : (hold left : List ℕ) →
      passing_throws test left + throws_with test hold (hold ++ left) ≡ passing_throws test (hold ++ left) + passing_throws test hold
  joined [] left = refl
  joined (card ∷ hold) left =
      let rest = sum_by-cons (λ c. partners test c (card ∷ hold ++ left)) card hold in
      omega (arith, rest, joined hold left, one_more card hold (hold ++ left), none_counted _ (alone card), count_cons (with card) card (hold ++ left))

  -- a throw of two cards of a hold is counted with each of the two
  pub throws_left : (unseen hold : List ℕ) → IsHeld unseen hold →
      passing_throws test (set_without_all unseen hold) + throws_with test hold unseen ≡ passing_throws test unseen + passing_throws test hold
  throws_left unseen hold held =
      let left : List ℕ = set_without_all unseen hold in
      let set = sym (set_of-rising hold held.rising (all_cards hold (λ card h. in_set unseen card held.set (held.among card h)))) in
      let all = reordered_from_times unseen (hold ++ left)
      (λ n. count_rest (λ x. eqb x n) hold unseen set held.set held.among ∙ sym (count_append (λ x. eqb x n) hold left)) in
      (λ i. passing_throws test left + sum_by (λ card. count_by-reordered (with card) unseen (hold ++ left) all i) hold)
      ∙ joined hold left ∙ ap (λ (n : ℕ). n + passing_throws test hold) (sym (throws-reordered unseen (hold ++ left) all))

pub left_by_parts : (points : List ℕ) (limit : ℕ) (unseen hold : List ℕ) → IsHeld unseen hold →
    passing_throws (is_below points limit) (set_without_all unseen hold) + throws_with (is_below points limit) hold unseen
    ≡ passing_throws (is_below points limit) unseen + passing_throws (is_below points limit) hold
left_by_parts points limit unseen hold held = throws_left (is_below points limit)
    (λ a b i. not (eqb_turned a b i) && ltb (slice_index points (52 * min_comm a b i + max_comm a b i)) limit) (λ a. grind (arith, nat_tests)) unseen hold held

-- a sum over some cards, and one more
pub sum_more : (f : ℕ → ℕ) (cards : List ℕ) (i card : ℕ) {count more : ℕ} → i < length cards → card ≡ get_or cards i card → count ≡ sum_by f (take i cards) →
    more ≡ f card → count + more ≡ sum_by f (take (i + 1) cards)
sum_more f cards i card within is before here = omega (arith, sum_by_more f cards i card within, ap f is, before, here)
