-- The first pick of some cards that gives a deal.
use Rattle.std.proofs.Common.{◌≡◌, ◌⊎◌, ℕ, zero, suc, ◌+◌, ◌-◌, ◌<◌, ◌≤◌, Bool, true, false, cond, List, [], ◌∷◌, ◌++◌, length, take, set, Some, None, refl}
use Rattle.std.proofs.lemmas.Bool.Decides.{nat_tests}
use Rattle.std.proofs.Common.{sym, ap, ◌∙◌, inl, inr, subst, append_assoc, append-nil, arith}
use Rattle.std.specs.Prelude.{Option}
use Rattle.std.specs.Option.{option_or}
use Rattle.std.proofs.lemmas.Bool.{cases_Bool, cases_eq, both_ways, cond-true}
use Rattle.std.proofs.lemmas.List.{take_all}
use Rattle.crib_cards.specs.Order.{is_before}
use Rattle.crib_cards.specs.Sets.{has}
use Rattle.crib_cards.specs.declared.sides.Dealt.{Dealt}
use Rattle.crib_show.specs.Private.Listing.{first_pick}
use Rattle.crib_cards.proofs.Members.{AreAmong, has_here, has_there}
use Rattle.crib_show.proofs.RisingLists.{RisesFrom, none_below, rises_lower}
use Rattle.crib_cards.proofs.SetWalks.{take_set}
use Rattle.crib_cards.proofs.DictionaryOrder.{before_first, before_rest}

-- ---- one card after another

module _ (gives : List ℕ → Option Dealt) (may : ℕ → Bool) (taken : List ℕ) (n : ℕ) where
  pub pick_none : (cards : List ℕ) → cards ≡ [] → first_pick gives may taken (suc n) cards ≡ None
  unfolding first_pick
  pick_none cards is = ap (first_pick gives may taken (suc n)) is

  pub pick_found : (cards rest : List ℕ) (card : ℕ) (found : Dealt) → cards ≡ card ∷ rest → may card ≡ true →
      first_pick gives may (taken ++ card ∷ []) n rest ≡ Some found → first_pick gives may taken (suc n) cards ≡ Some found
  unfolding first_pick
  pick_found cards rest card found is may_it gives_it = rw (is, may_it, gives_it) refl

  pub pick_passed : (cards rest : List ℕ) (card : ℕ) → cards ≡ card ∷ rest → first_pick gives may (taken ++ card ∷ []) n rest ≡ None →
      first_pick gives may taken (suc n) cards ≡ first_pick gives may taken (suc n) rest
  unfolding first_pick
  pick_passed cards rest card is none = elim (cases_Bool (may card)) [ inl e ↦ rw (is, none, e) refl | inr e ↦ rw (is, e) refl ]

-- ---- the cards chosen so far, in an array of four

module _ (gives : List ℕ → Option Dealt) (may : ℕ → Bool) (hold : List ℕ) (len : ℕ) (four : length hold ≡ 4) where
  abbrev chosen : List ℕ → Option Dealt
  chosen cards = first_pick gives may (take len hold) (4 - len) cards

  left : len < 4 → 4 - len ≡ suc (4 - (len + 1))
  left less = omega arith

  abbrev with_card : ℕ → List ℕ → Option Dealt
  with_card card cards = first_pick gives may (take (len + 1) (set hold len card)) (4 - (len + 1)) cards

  with_card-is : (card : ℕ) (cards : List ℕ) → len < 4 → with_card card cards ≡ first_pick gives may (take len hold ++ card ∷ []) (4 - (len + 1)) cards
  with_card-is card cards less = ap (λ taken. first_pick gives may taken (4 - (len + 1)) cards) (take_set hold len card (omega (arith, four)))

  pub all_chosen : (cards : List ℕ) → len ≡ 4 → chosen cards ≡ gives hold
  unfolding first_pick
  all_chosen cards is =
      let none : 4 - len ≡ 0 = omega arith in
      ap (λ n. first_pick gives may (take len hold) n cards) none ∙ ap gives (take_all len hold (omega (arith, four)))

  pub none_left : (cards : List ℕ) → len < 4 → cards ≡ [] → chosen cards ≡ None
  none_left cards less is = ap (λ n. first_pick gives may (take len hold) n cards) (left less)
      ∙ pick_none gives may (take len hold) (4 - (len + 1)) cards is

  pub card_found : (cards rest : List ℕ) (card : ℕ) (found : Dealt) (given : Option Dealt) → len < 4 → cards ≡ card ∷ rest → may card ≡ true →
      given ≡ with_card card rest → given ≡ Some found → chosen cards ≡ Some found
  card_found cards rest card found given less is may_it same gives_it =
      ap (λ n. first_pick gives may (take len hold) n cards) (left less)
      ∙ pick_found gives may (take len hold) (4 - (len + 1)) cards rest card found is may_it (sym (same ∙ with_card-is card rest less) ∙ gives_it)

  -- no pick with a card gives a deal
  pub card_left : (cards rest : List ℕ) (card : ℕ) → len < 4 → cards ≡ card ∷ rest →
      first_pick gives may (take len hold ++ card ∷ []) (4 - (len + 1)) rest ≡ None → chosen cards ≡ chosen rest
  card_left cards rest card less is none =
      ap (λ n. first_pick gives may (take len hold) n cards) (left less)
      ∙ pick_passed gives may (take len hold) (4 - (len + 1)) cards rest card is none
      ∙ ap (λ n. first_pick gives may (take len hold) n rest) (sym (left less))

  pub card_passed : (cards rest : List ℕ) (card : ℕ) (given : Option Dealt) → len < 4 → cards ≡ card ∷ rest → given ≡ with_card card rest →
      given ≡ None → chosen cards ≡ chosen rest
  card_passed cards rest card given less is same none = card_left cards rest card less is (sym (same ∙ with_card-is card rest less) ∙ none)

-- ---- if a deal is given, some pick gives it

option_or_cases : (o p : Option Dealt) (found : Dealt) → option_or o p ≡ Some found → (o ≡ Some found) ⊎ ((o ≡ None) × (p ≡ Some found))
option_or_cases (Some dealt) p found e = inl e
option_or_cases None p found e = inr (refl, e)

pub cond_some : (b : Bool) (o : Option Dealt) (found : Dealt) → cond b o None ≡ Some found → (b ≡ true) × (o ≡ Some found)
cond_some true o found e = (refl, e)
cond_some false o found e = absurd cc

-- n rising cards of a list, each of which may be chosen
pub record IsPick (may : ℕ → Bool) (low n : ℕ) (cards more : List ℕ) : Type 0 where
  pub number : length more ≡ n
  pub rises : RisesFrom low more
  pub among : AreAmong cards more
  pub each_may : (x : ℕ) → has more x ≡ true → may x ≡ true

module _ (may : ℕ → Bool) where
  pub pick_only : (low : ℕ) (cards : List ℕ) → IsPick may low 0 cards []
  pick_only low cards = record { number = refl; rises = tt; among = λ x h. absurd (both_ways _ refl h); each_may = λ x h. absurd (both_ways _ refl h) }

  pub pick_first : (low n card : ℕ) (cards more : List ℕ) → low ≤ card → may card ≡ true → IsPick may (card + 1) n cards more →
      IsPick may low (suc n) (card ∷ cards) (card ∷ more)
  pick_first low n card cards more above may_it pick = record {
    number = ap suc pick.number;
    rises = (above, pick.rises);
    among = λ x h. grind (arith, nat_tests, pick.among x, h);
    each_may = λ x h. grind (arith, nat_tests, pick.each_may x, may_it, h);
  }

  pub pick_later : (low n card : ℕ) (cards more : List ℕ) → low ≤ card → IsPick may (card + 1) n cards more → IsPick may low n (card ∷ cards) more
  pick_later low n card cards more above pick = record {
    number = pick.number;
    rises = rises_lower (card + 1) low more (omega (arith, above)) pick.rises;
    among = λ x h. has_there card x cards (pick.among x h);
    each_may = pick.each_may;
  }

  -- a pick without its first card, which is the first of the list
  pub pick_rest : (low n card first : ℕ) (cards more : List ℕ) → card ≡ first → IsPick may low (suc n) (card ∷ cards) (first ∷ more) →
      IsPick may (card + 1) n cards more
  pick_rest low n card first cards more same pick =
      let number = pick.number in
      let rises_more : RisesFrom (card + 1) more = subst (λ k. RisesFrom (k + 1) more) (sym same) pick.rises.1 in
      record {
        number = omega (arith, number);
        rises = rises_more;
        among = λ x h. grind (arith, nat_tests, pick.among x (has_there first x more h), none_below (card + 1) more x rises_more h);
        each_may = λ x h. pick.each_may x (has_there first x more h);
      }

  below : (card first low : ℕ) (cards : List ℕ) → RisesFrom low (card ∷ cards) → has (card ∷ cards) first ≡ true → (card ≡ first → ⊥) → card < first
  below card first low cards rises h apart = grind (arith, nat_tests, none_below (card + 1) cards first rises.1)

  -- a pick whose first card is not the first of the list
  pub pick_beyond : (low n card first : ℕ) (cards more : List ℕ) → RisesFrom low (card ∷ cards) → (card ≡ first → ⊥) →
      IsPick may low (suc n) (card ∷ cards) (first ∷ more) →
      (card < first) × IsPick may (card + 1) (suc n) cards (first ∷ more)
  pick_beyond low n card first cards more rises apart pick =
      let less : card < first = below card first low cards rises (pick.among first (has_here first more)) apart in
      let rises_more : RisesFrom (card + 1) (first ∷ more) = (omega (arith, less), pick.rises.1) in (
        less,
        record {
          number = pick.number;
          rises = rises_more;
          among = λ x h. grind (arith, nat_tests, pick.among x h, none_below (card + 1) (first ∷ more) x rises_more h);
          each_may = pick.each_may;
        },
      )

pub record Gave (gives : List ℕ → Option Dealt) (may : ℕ → Bool) (taken : List ℕ) (low n : ℕ) (cards : List ℕ) (found : Dealt) : Type 0 where
  pub more : List ℕ
  pub pick : IsPick may low n cards more
  pub gave : gives (taken ++ more) ≡ Some found

module _ (gives : List ℕ → Option Dealt) (may : ℕ → Bool) where
  pub gave_from : (taken : List ℕ) (low n : ℕ) (cards : List ℕ) (found : Dealt) → RisesFrom low cards → first_pick gives may taken n cards ≡ Some found →
      Gave gives may taken low n cards found
  unfolding first_pick
  gave_from taken low zero cards found rises e = record { more = []; pick = pick_only may low cards; gave = ap gives (append-nil taken) ∙ e }
  gave_from taken low (suc n) [] found rises e = absurd cc
  gave_from taken low (suc n) (card ∷ cards) found rises e =
      elim (option_or_cases _ _ found e) [
        | inl first ↦
            let parts = cond_some _ _ found first in
            let rest = gave_from (taken ++ card ∷ []) (card + 1) n cards found rises.1 parts.1 in
            record {
              more = card ∷ rest.more;
              pick = pick_first may low n card cards rest.more rises.0 parts.0 rest.pick;
              gave = ap gives (sym (append_assoc taken (card ∷ []) rest.more)) ∙ rest.gave;
            }
        | inr later ↦
            let rest = gave_from taken (card + 1) (suc n) cards found rises.1 later.1 in
            record { more = rest.more; pick = pick_later may low (suc n) card cards rest.more rises.0 rest.pick; gave = rest.gave }
      ]

  -- ---- Q holds of what some pick gives, and of all that earlier picks give: then it holds of what the first pick gives
  module _ (Q : Option Dealt → Type 0) (never : Q None → ⊥) where
    option_or_first : (o p : Option Dealt) → Q o → Q (option_or o p)
    option_or_first (Some dealt) p is = is
    option_or_first None p is = absurd (never is)

    option_or_later : (o p : Option Dealt) → ((found : Dealt) → o ≡ Some found → Q (Some found)) → Q p → Q (option_or o p)
    option_or_later (Some dealt) p earlier is = earlier dealt refl
    option_or_later None p earlier is = is

    pub first_gives : (taken : List ℕ) (low n : ℕ) (cards more : List ℕ) → RisesFrom low cards → IsPick may low n cards more → Q (gives (taken ++ more)) →
        ((other : List ℕ) (found : Dealt) → length other ≡ n → is_before other more ≡ true → gives (taken ++ other) ≡ Some found → Q (Some found)) →
        Q (first_pick gives may taken n cards)
    unfolding first_pick
    first_gives taken low zero cards [] rises pick is earlier = subst (λ xs. Q (gives xs)) (append-nil taken) is
    first_gives taken low zero cards (first ∷ more) rises pick is earlier = let number = pick.number in absurd (omega (arith, number))
    first_gives taken low (suc n) cards [] rises pick is earlier = let number = pick.number in absurd (omega (arith, number))
    first_gives taken low (suc n) [] (first ∷ more) rises pick is earlier = absurd (both_ways _ refl (pick.among first (has_here first more)))
    first_gives taken low (suc n) (card ∷ cards) (first ∷ more) rises pick is earlier =
        elim (cases_eq card first) [
          | inl same ↦
              let start : Q (gives ((taken ++ card ∷ []) ++ more)) = subst (λ xs. Q (gives xs)) (sym (append_assoc taken (card ∷ []) more))
              (subst (λ k. Q (gives (taken ++ k ∷ more))) (sym same) is) in
              let with_it : Q (first_pick gives may (taken ++ card ∷ []) n cards) = first_gives (taken ++ card ∷ []) (card + 1) n cards more rises.1
              (pick_rest may low n card first cards more same pick) start
              (λ other found len before gave. earlier (card ∷ other) found (ap suc len) (subst (λ k. is_before (card ∷ other) (k ∷ more) ≡ true) same
              (before_rest card other more before)) (ap gives (sym (append_assoc taken (card ∷ []) other)) ∙ gave)) in
              let is_may : may card ≡ true = ap may same ∙ pick.each_may first (has_here first more) in
              option_or_first _ _ (subst Q (sym (cond-true _ _ _ is_may)) with_it)
          | inr apart ↦
              let beyond = pick_beyond may low n card first cards more rises apart pick in
              option_or_later _ _ (λ found e.
              let parts = cond_some _ _ found e in
              let sooner = gave_from (taken ++ card ∷ []) (card + 1) n cards found rises.1 parts.1 in
              earlier (card ∷ sooner.more) found (ap suc sooner.pick.number) (before_first card first sooner.more more beyond.0)
              (ap gives (sym (append_assoc taken (card ∷ []) sooner.more)) ∙ sooner.gave))
              (first_gives taken (card + 1) (suc n) cards (first ∷ more) rises.1 beyond.1 is earlier)
        ]
