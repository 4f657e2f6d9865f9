-- The loop that chooses the cards for the owner to try.
use Rattle.std.proofs.Common.{◌≡◌, ℕ, ◌+◌, ◌<◌, ◌≤◌, Bool, true, false, not, ◌&&◌, ◌||◌, cond, eqb, leb, List, [], ◌∷◌, ◌++◌, length, get_or, take, refl, sym}
use Rattle.std.proofs.Common.{ap, ◌∙◌, inl, inr, arith}
use Rattle.std.specs.List.{filter, list_any}
use Rattle.std.proofs.Math.ListN.{set, length-set}
use Rattle.std.proofs.lemmas.List.Elements.{filter-append}
use Rattle.std.proofs.lemmas.List.{append-nil, take_all, take_more, take_more_set}
use Rattle.std.proofs.Common.{zero, suc}
use Rattle.std.proofs.lemmas.Bool.{or_left, or_right}
use Rattle.std.proofs.lemmas.Bool.{cases_Bool, and_parts, eqb-true, eq-eqb, false_from_ne_true, leb-true}
use Rattle.crib_cards.specs.Cards.{rank_of, card_value}
use Rattle.crib_cards.specs.Sets.{has}
use Rattle.crib_cards.proofs.SetFacts.{has-filter}
use Rattle.crib_cards.proofs.SetLemmas.{eqb_turned, has-set_where}
use Rattle.crib_play.specs.Record.{count_of}
use Rattle.crib_play.specs.History.{Event}
use Rattle.crib_problem.specs.Setup.{Setup}
use Rattle.crib_problem.proofs.StartLemmas.{hold_is_card}
use Rattle.crib_know.specs.Knowledge.{Knowledge, own_cards, own_left, count_after, knowledge_after}
use Rattle.crib_know.specs.Hidden.{KnowsAfter}
use Rattle.crib_know.proofs.CardsLeft.{has-filter_parts}
use Rattle.crib_search.specs.Finder.{one_of_each_rank, options}
use Rattle.crib_search.specs.Private.Search.{may_play}
use Rattle.crib_search.specs.Private.States.{IsOption}
use Rattle.crib_search.proofs.Options.{other_rank, first_has, no_option, option_left}
use Rattle.crib_sure.proofs.AgreeingInSuitOrder.{filter_same}
use Rattle.crib_problem.proofs.HonestTurns.{none_any}

-- ---- filters
filter_both : (one other : ℕ → Bool) (cards : List ℕ) → filter one (filter other cards) ≡ filter (λ card. other card && one card) cards
filter_both one other [] = refl
filter_both one other (x ∷ cards) =
    elim (cases_Bool (other x)) [ inl kept ↦ rw (kept, filter_both one other cards) | inr left ↦ rw (left, filter_both one other cards) ]

-- ---- one of each rank
abbrev of_rank : ℕ → ℕ → Bool
of_rank rank card = eqb (rank_of card) rank

any_kept : (rank other : ℕ) → eqb rank other ≡ false → (cards : List ℕ) → list_any (of_rank other) (filter (other_rank rank) cards) ≡ list_any
    (of_rank other) cards
any_kept rank other apart [] = refl
any_kept rank other apart (x ∷ cards) =
    elim (cases_Bool (eqb (rank_of x) rank)) [
      | inl same ↦
          let lacks : eqb (rank_of x) other ≡ false = rw (eqb-true (rank_of x) rank same) apart in
          rw (same, lacks) (any_kept rank other apart cards)
      | inr differs ↦ rw (differs, any_kept rank other apart cards)
    ]

-- a filter of a list to which a number was added, or not
filter_push : (p : ℕ → Bool) (there : Bool) (cards : List ℕ) (card : ℕ) → filter p (cond there cards (cards ++ card ∷ [])) ≡ cond (not (p card) || there)
    (filter p cards) (filter p cards ++ card ∷ [])
filter_push p there cards card =
    elim (cases_Bool (p card)) [
      | inl kept ↦ elim (cases_Bool there) [ inl t ↦ rw (kept, t) | inr f ↦ rw (kept, f, filter-append p cards (card ∷ []), kept) ]
      | inr left ↦ elim (cases_Bool there) [ inl t ↦ rw (left, t) | inr f ↦ rw (left, f, filter-append p cards (card ∷ []), left, append-nil (filter p cards)) ]
    ]

first_push : (cards : List ℕ) (card : ℕ) → one_of_each_rank (cards ++ card ∷ []) ≡ cond (list_any (of_rank (rank_of card)) (one_of_each_rank cards))
    (one_of_each_rank cards) (one_of_each_rank cards ++ card ∷ [])
first_push [] card = refl
first_push (x ∷ cards) card =
    let firsts = one_of_each_rank cards in
    let there = list_any (of_rank (rank_of card)) firsts in
    rw (first_push cards card, filter_push (other_rank (rank_of x)) there firsts card, eqb_turned (rank_of card) (rank_of x))
    (elim (cases_Bool (eqb (rank_of x) (rank_of card))) [
      | inl same ↦ rw same
      | inr differs ↦
          rw (differs, any_kept (rank_of x) (rank_of card) differs firsts) (elim (cases_Bool there) [ inl t ↦ rw t | inr f ↦ rw f ])
    ])

-- ---- the options among some cards
abbrev pub options_of : Knowledge → List ℕ → List ℕ
options_of know cards = one_of_each_rank (filter (may_play know) cards)

pub options_playable : (know : Knowledge) (cards : List ℕ) (card : ℕ) → has (options_of know cards) card ≡ true → (has know.own_left card ≡ true) ×
    (count_of know.round.pile + card_value card ≤ 31)
options_playable know cards card h =
    let fit = (has-filter_parts (may_play know) cards card (first_has (filter (may_play know) cards) card h)).1 in
    let parts = and_parts (has know.own_left card) (leb (count_of know.round.pile + card_value card) 31) fit in
    (parts.0, leb-true (count_of know.round.pile + card_value card) 31 parts.1)

-- the options of the whole hold
pub hold_options : (know : Knowledge) (problem : Setup) (history : List Event) → KnowsAfter know problem history →
    options_of know problem.hold ≡ options problem history
hold_options know problem history knows =
    rw knows.knowledge
    (ap one_of_each_rank (filter_same (may_play (knowledge_after problem history)) (λ card. is_free card && fits_now card) problem.hold playable_is
    ∙ sym (filter_both fits_now is_free problem.hold)))
  where
    is_free : ℕ → Bool
    is_free card = not (has (own_cards history) card)

    fits_now : ℕ → Bool
    fits_now card = leb (count_after problem history + card_value card) 31

    playable_is : (card : ℕ) → has problem.hold card ≡ true → may_play (knowledge_after problem history) card ≡ (is_free card && fits_now card)
    playable_is card mine =
        rw (has-set_where (has (filter is_free problem.hold)) card (hold_is_card problem knows.setup card mine), has-filter is_free problem.hold card, mine)

-- ---- one card further
abbrev pub AreOptions : Knowledge → List ℕ → ℕ → ℕ → List ℕ → Type 0
AreOptions know hold index len cards = (len ≤ index) × (length cards ≡ 4) × (take len cards ≡ options_of know (take index hold))

module _ (know : Knowledge) (hold : List ℕ) (index len : ℕ) (cards : List ℕ) (before : AreOptions know hold index len cards) (within : index < length hold)
    (card : ℕ) (is : card ≡ get_or hold index card) where
  abbrev front : List ℕ
  front = filter (may_play know) (take index hold)

  next_front : filter (may_play know) (take (index + 1) hold) ≡ front ++ filter (may_play know) (card ∷ [])
  next_front = rw (take_more hold index card within, ← is) (filter-append (may_play know) (take index hold) (card ∷ []))

  pub step_skip : may_play know card ≡ false → AreOptions know hold (index + 1) len cards
  step_skip e = let le = before.0 in (omega (arith, le), before.1, rw (next_front, e, append-nil front) before.2)

  module _ (rank : ℕ) (rank_ok : rank ≡ rank_of card) where
    there_is : list_any (of_rank rank) (take len cards) ≡ list_any (of_rank (rank_of card)) (options_of know (take index hold))
    there_is = rw (rank_ok, before.2)

    pub step_same : may_play know card ≡ true → list_any (of_rank rank) (take len cards) ≡ true → AreOptions know hold (index + 1) len cards
    step_same e there =
        let le = before.0 in (omega (arith, le), before.1, rw (next_front, e, first_push front card, sym there_is ∙ there) before.2)

    pub step_new : length hold ≡ 4 → may_play know card ≡ true → list_any (of_rank rank) (take len cards) ≡ false → AreOptions know hold (index + 1) (len + 1)
        (set cards len card)
    step_new four e new =
        let le = before.0 in
        let all = before.1 in (
          omega (arith, le),
          length-set cards len card ∙ before.1,
          rw (next_front, e, first_push front card, sym there_is ∙ new, ← before.2)
              (take_more_set cards len card (omega (arith, le, all, within, four))),
        )

-- after all cards were looked at
pub options_end : (know : Knowledge) (problem : Setup) (history : List Event) → KnowsAfter know problem history → (hold cards : List ℕ) (index len : ℕ) →
    hold ≡ problem.hold → 4 ≤ index →
    AreOptions know hold index len cards → take len cards ≡ options problem history
options_end know problem history knows hold cards index len same past are =
    let four : length hold ≡ 4 = rw same knows.setup.held in
    rw (are.2, take_all index hold (omega (arith, four, past)), same) (hold_options know problem history knows)

-- if no card is an option, no card that is left fits
pub none_left_fits : (problem : Setup) (history : List Event) → ((card : ℕ) → IsOption problem history card → ⊥) →
    list_any (λ card. leb (count_after problem history + card_value card) 31) (own_left problem history) ≡ false
none_left_fits problem history none =
    none_any (λ card. leb (count_after problem history + card_value card) 31) (own_left problem history)
    (λ card left. false_from_ne_true (leb (count_after problem history + card_value card) 31)
    (λ fit. none card (option_left problem history card left (leb-true (count_after problem history + card_value card) 31 fit))))

-- if there is no card to try, no card fits
pub none_fits : (know next : Knowledge) (problem : Setup) (history : List Event) → KnowsAfter know problem history → next ≡ know →
    options problem history ≡ [] →
    list_any (λ card. leb (count_of next.round.pile + card_value card) 31) next.own_left ≡ false
none_fits know next problem history knows same none =
    rw (same, knows.knowledge) (none_left_fits problem history (no_option problem history none))

pub has_at : (cards : List ℕ) (index card : ℕ) → index < length cards → card ≡ get_or cards index card → has cards card ≡ true
has_at [] index card within is = absurd (omega (arith, within))
has_at (first ∷ cards) zero card within is = or_left (eqb first card) (has cards card) (eq-eqb first card (sym is))
has_at (first ∷ cards) (suc index) card within is = or_right (eqb first card) (has cards card) (has_at cards index card (omega (arith, within)) is)

-- the first of some cards, if it is the only one
pub has_first : (cards : List ℕ) (len card : ℕ) → len ≡ 1 → length (take len cards) ≡ len → has (take len cards) (get_or cards 0 card) ≡ true
has_first [] len card one whole = absurd (cc (rw one at whole))
has_first (first ∷ cards) len card one whole = rw one (or_left (eqb first first) _ (eq-eqb first first refl))
