-- The points of a crib with two cards that may be thrown.
use Rattle.std.proofs.Common.{◌≡◌, ◌≢◌, ℕ, ◌+◌, ◌<◌, ◌≤◌, Bool, true, not, cond, eqb, ◌&&◌, []}
use Rattle.std.proofs.Common.{◌∷◌, ap, ◌∙◌, inl, inr, arith}
use Rattle.std.proofs.lemmas.Bool.{cases_Bool, and_parts, and_from, not-true, cond-true}
use Rattle.std.proofs.lemmas.Bool.{cond-false, eqb-false, ne_eqb}
use Rattle.std.proofs.lemmas.Bool.Decides.{nat_tests}
use Rattle.std.proofs.lemmas.List.{map-append}
use Rattle.crib_cards.specs.Cards.{IsRank, card_of, rank_of, suit_of}
use Rattle.crib_show.specs.Private.Extremes.{crib_suit_points, crib_with, has_room, is_free, least_of_ranks}
use Rattle.crib_show.specs.Private.Extremes.{least_suits, least_suits_with, most_crib_suits, no_crib, plain_crib, thrown_suits}
use Rattle.crib_show.specs.Show.{crib_flush, crib_points, jack_points, plain_of_ranks}
use Rattle.crib_show.specs.declared.deals.WorstShow.{WorstShow}
use Rattle.crib_show.proofs.PairTrials.{four_below, four_is, card_back, rank_back, regroup}

-- a flush and a jack are six points at most
six : (flush jack_held : Bool) → cond flush 5 0 + cond jack_held 1 0 ≤ 6
six flush jack_held = grind (arith, nat_tests)

module _ (worst : WorstShow) where
  -- ---- two cards that may be thrown
  pub record MayThrow (x y : ℕ) : Type 0 where
    pub first_free : is_free worst x ≡ true
    pub second_free : is_free worst y ≡ true
    pub apart : x ≢ y
    pub room : has_room worst (rank_of x) (rank_of y) ≡ true

  -- so two different cards of ranks with room, found to be free
  pub may_throw : (x y p q : ℕ) → rank_of x ≡ p → rank_of y ≡ q → is_free worst x ≡ true → is_free worst y ≡ true → not (eqb x y) ≡ true →
      has_room worst p q ≡ true → MayThrow x y
  may_throw x y p q rank_x rank_y free_x free_y apart room = record {
    first_free = free_x;
    second_free = free_y;
    apart = eqb-false x y (not-true (eqb x y) apart);
    room = (λ i. has_room worst (rank_x i) (rank_y i)) ∙ room;
  }

  suits_of : (x y : ℕ) → MayThrow x y → thrown_suits worst x y ≡ crib_suit_points worst x y
  suits_of x y may =
      cond-true _ _ _ (and_from _ _ (and_from _ _ may.first_free may.second_free) (ap not (ne_eqb x y may.apart)))

  pub few_suits : (x y : ℕ) → crib_suit_points worst x y ≤ 6
  few_suits x y = six _ _

  pub few_most : (p q : ℕ) → most_crib_suits worst p q ≤ 6
  few_most p q = six _ _

  least_suits_below : (x y : ℕ) → least_suits worst (rank_of x) (rank_of y) ≤ thrown_suits worst x y
  least_suits_below x y =
      let p = rank_of x in
      let q = rank_of y in
      let first = four_below (λ s. least_suits_with worst (card_of p s) q) (suit_of x) (omega arith) in
      let second = four_below (λ t. thrown_suits worst (card_of p (suit_of x)) (card_of q t)) (suit_of y) (omega arith) in
      let back : thrown_suits worst (card_of p (suit_of x)) (card_of q (suit_of y)) ≡ thrown_suits worst x y =
      λ i. thrown_suits worst (card_back x i) (card_back y i) in
      omega (arith, first, second, back)

  -- ---- the points of the crib
  pub crib_of_ranks : (x y : ℕ) → crib_points (crib_with worst x y) worst.starter
      ≡ plain_crib worst (rank_of x) (rank_of y) + crib_suit_points worst x y
  unfolding crib_points
  crib_of_ranks x y =
      regroup _ _ (crib_flush (crib_with worst x y) worst.starter) (jack_points (crib_with worst x y) worst.starter)
      (ap (λ ranks. plain_of_ranks (rank_of worst.starter ∷ ranks)) (map-append rank_of worst.own_throw (x ∷ y ∷ [])))

  -- the crib with two cards that may be thrown has no fewer points than the least crib of their ranks
  pub above_least : (x y : ℕ) → MayThrow x y → least_of_ranks worst (rank_of x) (rank_of y) ≤ crib_points
      (crib_with worst x y) worst.starter
  above_least x y may =
      let least = cond-true _ (plain_crib worst (rank_of x) (rank_of y) + least_suits worst (rank_of x) (rank_of y)) no_crib may.room in
      omega (arith, least, least_suits_below x y, suits_of x y may, crib_of_ranks x y)

  -- if such a throw is left, some two cards give the least crib of the ranks
  pub record Reaches (points : ℕ) : Type 0 where
    pub x : ℕ
    pub y : ℕ
    pub may : MayThrow x y
    pub crib : crib_points (crib_with worst x y) worst.starter ≡ points

  pub reached : (p q points : ℕ) → IsRank p → IsRank q → points ≡ least_of_ranks worst p q → points < 255 → Reaches points
  reached p q points range_p range_q is low =
      elim (cases_Bool (has_room worst p q)) [
        | inr no_room ↦
            let none : least_of_ranks worst p q ≡ no_crib = cond-false _ _ _ no_room in
            absurd (omega (arith, is, none, low))
        | inl room ↦
            let sum : least_of_ranks worst p q ≡ plain_crib worst p q + least_suits worst p q =
            cond-true _ _ _ room in
            let first = four_is (λ s. least_suits_with worst (card_of p s) q) in
            let second = four_is (λ t. thrown_suits worst (card_of p first.0) (card_of q t)) in
            let x = card_of p first.0 in
            let y = card_of q second.0 in
            let rank_x : rank_of x ≡ p = rank_back p first.0 first.1 range_p.0 in
            let rank_y : rank_of y ≡ q = rank_back q second.0 second.1 range_q.0 in
            let test : Bool = is_free worst x && is_free worst y && not (eqb x y) in
            elim (cases_Bool test) [
              | inr fails ↦
                  absurd (omega (arith, is, sum, first.2, second.2, cond-false _ (crib_suit_points worst x y) no_crib fails, low))
              | inl passes ↦
                  let parts = and_parts _ _ passes in
                  let free = and_parts _ _ parts.0 in
                  record {
                    x = x;
                    y = y;
                    may = may_throw x y p q rank_x rank_y free.0 free.1 parts.1 room;
                    crib =
                        let ranks : crib_points (crib_with worst x y) worst.starter ≡ plain_crib worst p q + crib_suit_points worst x y =
                        crib_of_ranks x y ∙ (λ i. plain_crib worst (rank_x i) (rank_y i) + crib_suit_points worst x y) in
                        omega (arith, ranks, is, sum, first.2, second.2, cond-true _ (crib_suit_points worst x y) no_crib passes);
                  }
            ]
      ]
