-- Picks of cards that give no deal: a hold whose points meet a demand, and one with too many or too few cards of a rank.
use Rattle.std.proofs.Common.{◌≡◌, ℕ, zero, suc, ◌+◌, ◌<◌, ◌≤◌, Bool, true, false, cond, eqb, List, [], ◌∷◌, ◌++◌, map, None, refl, sym, ap, ◌∙◌}
use Rattle.std.proofs.Common.{inl, inr, arith}
use Rattle.std.specs.Prelude.{Option}
use Rattle.std.specs.Option.{option_or}
use Rattle.std.proofs.lemmas.Bool.{cases_Bool, and_left, and_parts, and_right, cond-false, eq-eqb}
use Rattle.std.proofs.lemmas.Slice.Eq.{bytes_eq-Decides}
use Rattle.crib_cards.specs.Cards.{IsRank, rank_of}
use Rattle.crib_cards.specs.Sets.{rank_counts, count_at, count_rank}
use Rattle.crib_cards.specs.declared.sides.Dealt.{Dealt}
use Rattle.crib_cards.proofs.CountLemmas.{count_at-rank_counts}
use Rattle.crib_cards.proofs.SetCounts.{count_cons, count_append}
use Rattle.crib_show.specs.Private.Listing.{first_pick, may_be_held, may_hold, may_miss, try_hold}
use Rattle.crib_show.specs.Show.{hand_points}
use Rattle.crib_show.specs.declared.deals.WorstShow.{WorstShow}
use Rattle.crib_show.specs.declared.worst.listing.Sought.{Sought}
use Rattle.crib_show.proofs.Exchange.{count_map}

-- ---- a property of the cards chosen and the cards left that stays, and with which no deal is given

module _ (gives : List ℕ → Option Dealt) (may : ℕ → Bool) (Dead : List ℕ → List ℕ → Type 0)
    (none : (taken cards : List ℕ) → Dead taken cards → gives taken ≡ None)
    (chosen : (taken cards : List ℕ) (card : ℕ) → Dead taken (card ∷ cards) → Dead (taken ++ card ∷ []) cards)
    (skipped : (taken cards : List ℕ) (card : ℕ) → Dead taken (card ∷ cards) → Dead taken cards) where
  neither : (b : Bool) → ◌≡◌ {A = Option Dealt} (option_or (cond b None None) None) None
  neither true = refl
  neither false = refl

  none_given : (taken : List ℕ) (n : ℕ) (cards : List ℕ) → Dead taken cards → first_pick gives may taken n cards ≡ None
  unfolding first_pick
  none_given taken zero cards dead = none taken cards dead
  none_given taken (suc n) [] dead = refl
  none_given taken (suc n) (card ∷ cards) dead =
      (λ i. option_or (cond (may card) (none_given (taken ++ card ∷ []) n cards (chosen taken cards card dead) i) None)
      (none_given taken (suc n) cards (skipped taken cards card dead) i))
      ∙ neither (may card)

module _ (worst : WorstShow) (sought : Sought) where
  -- ---- a hold with points that may not miss the demand
  pub low_hand : (hold : List ℕ) → may_miss sought (hand_points hold worst.starter) ≡ false → try_hold worst sought hold ≡ None
  low_hand hold low = cond-false _ _ _ (and_right _ _ low)

  -- ---- a hold with too many or too few cards of a rank
  module _ (rank : ℕ) (is : IsRank rank) where
    as_many : (hold : List ℕ) → may_hold worst hold ≡ true → count_rank rank hold ≡ count_at worst.ranks rank
    as_many hold may =
        let parts = and_parts _ _ may in
        sym (count_at-rank_counts (map rank_of hold) rank is ∙ count_map rank hold)
        ∙ ap (λ counts. count_at counts rank) ((bytes_eq-Decides (rank_counts (map rank_of hold)) worst.ranks).0 parts.0)

    not_as_many : (hold : List ℕ) → (count_rank rank hold ≡ count_at worst.ranks rank → ⊥) → try_hold worst sought hold ≡ None
    not_as_many hold apart = elim (cases_Bool (may_hold worst hold)) [
      | inl may ↦ absurd (apart (as_many hold may))
      | inr out ↦ cond-false _ _ _ (and_left _ _ out)
    ]

    abbrev of_rank : ℕ → Bool
    of_rank card = eqb (rank_of card) rank

    too_many : (taken : List ℕ) (n : ℕ) (cards : List ℕ) → count_at worst.ranks rank < count_rank rank taken →
        first_pick (try_hold worst sought) (may_be_held worst) taken n cards ≡ None
    too_many = none_given (try_hold worst sought) (may_be_held worst) (λ taken cards. count_at worst.ranks rank < count_rank rank taken)
        (λ taken cards more. not_as_many taken (λ same. omega (arith, more, same)))
        (λ taken cards card more. omega (arith, more, count_append of_rank taken (card ∷ [])))
        (λ taken cards card more. more)

    pub one_too_many : (taken : List ℕ) (card n : ℕ) (cards : List ℕ) → rank_of card ≡ rank → count_at worst.ranks rank ≤ count_rank rank taken →
        first_pick (try_hold worst sought) (may_be_held worst) (taken ++ card ∷ []) n cards ≡ None
    one_too_many taken card n cards same full =
        let one = count_cons of_rank card [] ∙ ap (λ b. cond b 1 0 + 0) (eq-eqb (rank_of card) rank same) in
        too_many (taken ++ card ∷ []) n cards (omega (arith, full, count_append of_rank taken (card ∷ []), one))

    pub too_few : (taken : List ℕ) (n : ℕ) (cards : List ℕ) → count_rank rank taken + count_rank rank cards < count_at worst.ranks rank →
        first_pick (try_hold worst sought) (may_be_held worst) taken n cards ≡ None
    too_few = none_given (try_hold worst sought) (may_be_held worst)
        (λ taken cards. count_rank rank taken + count_rank rank cards < count_at worst.ranks rank)
        (λ taken cards less. not_as_many taken (λ same. omega (arith, less, same)))
        (λ taken cards card less.
        omega (arith, less, count_append of_rank taken (card ∷ []), count_cons of_rank card [], count_cons of_rank card cards))
        (λ taken cards card less. omega (arith, less, count_cons of_rank card cards))
