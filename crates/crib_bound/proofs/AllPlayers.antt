-- Why a strategy that sees no suits bounds players who see suits too. Take such a player, and all renamings of the free
-- cards. Each gives a player who sees no suits, and takes the cards of a rank for those that its names put first. If a
-- deal beats that one, then the deal with these first cards beats the player who sees suits. Over all renamings each deal
-- is reached as often.
use Rattle.std.proofs.Common.{◌≡◌, ℕ, zero, suc, ◌+◌, ◌*◌, ◌≤◌, Bool, true, false, cond, eqb, leb, ◌&&◌, List, [], ◌∷◌, sum_by}
use Rattle.std.proofs.Common.{refl, sym, ap, ◌∙◌, inl, inr, arith}
use Rattle.std.specs.Cmp.Lexicographic.{pointwise, bytes_decides}
use Rattle.std.specs.List.{list_any}
use Rattle.std.proofs.lemmas.Bool.{and_from, and_parts, both_ways, cases_lt, leb-true, or_cases, or_left, or_right}
use Rattle.std.proofs.lemmas.Bool.Decides.{nat_tests}
use Rattle.std.proofs.lemmas.List.Sums.{sum_by-cons}
use Rattle.std.proofs.lemmas.Nat.{mul-le}
use Rattle.crib_cards.specs.Deals.{is_in_pack_order}
use Rattle.crib_cards.specs.declared.sides.Dealt.{Dealt}
use Rattle.crib_cards.specs.declared.sides.Side.TheVariants.{Opponent}
use Rattle.crib_cards.proofs.SetFacts.{are_distinct-set_where}
use Rattle.crib_play.specs.History.{event_of}
use Rattle.crib_problem.specs.Setup.{Setup, IsSetup, IsDealOf, is_stop}
use Rattle.crib_deals.specs.Exact.{AreExactly, IsIn}
use Rattle.crib_players.specs.Players.{Player}
use Rattle.crib_bound.specs.BeatenPlayers.{BeatsPlayer}
use Rattle.crib_bound.specs.Worth.{IsStrategy}
use Rattle.crib_bound.specs.Laws.{SuitsLaw}
use Rattle.crib_bound.proofs.Amounts.{part_few, passing, sum_images, sum_less, sum_same}
use Rattle.crib_bound.proofs.Bounds.{Loses, event_card, lost}
use Rattle.crib_bound.proofs.HoldUnits.{pone_outcome}
use Rattle.crib_bound.proofs.LowestDeals.{IsKept, Lowered, is_free_of, lowered}
use Rattle.crib_bound.proofs.Recast.{HasFirst}
use Rattle.crib_bound.proofs.RecastPlayers.{beats_too, choice_as}
use Rattle.crib_bound.proofs.RenamedDeals.{free_are, free_cards, pulled, pulled_apart, pulled_count, pulled_deal, pulled_has, pulled_order, pulled_twice}
use Rattle.crib_bound.proofs.Swaps.{IsRenaming, exchanged, swap, total, total_has, total_less, total_some, total_sums, total_swapped, total_times}

-- ---- whether a deal is in a list
same_deal : Dealt → Dealt → Bool
same_deal dealt other = pointwise eqb dealt.hold other.hold && pointwise eqb dealt.throw other.throw

is_in : List Dealt → Dealt → Bool
is_in deals dealt = list_any (λ other. same_deal other dealt) deals

in_from : (deals : List Dealt) (dealt : Dealt) → IsIn dealt deals → is_in deals dealt ≡ true
unfolding is_in same_deal
in_from [] dealt h = absurd h
in_from (first ∷ deals) dealt (inl is) =
    or_left _ _ (and_from _ _ ((bytes_decides first.hold dealt.hold).1 (ap (λ (d : Dealt). d.hold) is))
    ((bytes_decides first.throw dealt.throw).1 (ap (λ (d : Dealt). d.throw) is)))
in_from (first ∷ deals) dealt (inr h) = or_right _ _ (in_from deals dealt h)

in_to : (deals : List Dealt) (dealt : Dealt) → is_in deals dealt ≡ true → IsIn dealt deals
unfolding is_in same_deal
in_to [] dealt h = absurd (both_ways false refl h)
in_to (first ∷ deals) dealt h = elim (or_cases _ _ h) [
  | inl is ↦
      let parts = and_parts _ _ is in
      let holds = (bytes_decides first.hold dealt.hold).0 parts.0 in
      let throws = (bytes_decides first.throw dealt.throw).0 parts.1 in
      inl (λ i. record { hold = holds i; throw = throws i })
  | inr there ↦ inr (in_to deals dealt there)
]

module _ {problem : Setup} (setup : IsSetup problem) (dealer : problem.dealer ≡ Opponent) (goal : is_stop problem.goal ≡ false) (parts value count : ℕ)
    (player : Player) (strategy : IsStrategy event_of problem parts value) (exact : AreExactly (BeatsPlayer problem player) count) where
  abbrev free : List ℕ
  free = free_cards problem

  -- what the player loses who takes the cards of a rank for those that the names put first
  loses_by : (name : ℕ → ℕ) → Loses event_of event_card problem (choice_as problem name player) strategy.deals strategy.amounts value
  loses_by name = lost event_of event_card problem (choice_as problem name player) parts value strategy

  share : (ℕ → ℕ) → Dealt → ℕ
  share name dealt = (loses_by name).share dealt

  -- whether some of a deal is lost for some names
  is_lost : Dealt → Bool
  is_lost dealt = leb 1 (total free (λ name. share name dealt))

  hit : (ℕ → ℕ) → Dealt → ℕ
  hit name dealt = cond (is_in exact.deals (pulled name dealt)) 1 0

  counted : (ℕ → ℕ) → Dealt → ℕ
  counted name dealt = cond (is_lost dealt && is_in exact.deals (pulled name dealt)) 1 0

  lost_deal : (dealt : Dealt) → IsIn dealt strategy.deals → is_lost dealt ≡ true → IsDealOf problem dealt
  unfolding is_lost share
  lost_deal dealt h some =
      let one = total_has free (λ name. share name dealt) (free_are problem) (leb-true 1 _ some) in
      ((loses_by one.0).beats dealt h one.2).by.deal

  -- ---- for one deal
  module _ (dealt : Dealt) (h : IsIn dealt strategy.deals) where
    order : is_in_pack_order dealt ≡ true
    order = strategy.in_order dealt h

    -- an exchange moves the deals that are reached
    kept : IsKept problem (λ one. total free (λ name. hit name one))
    unfolding hit
    kept one x y deal in_order free_x free_y same =
        (λ i. total free (λ name. cond (is_in exact.deals (pulled_twice setup name (swap x y)
        (exchanged x y free_x free_y (free_are problem x free_x).1 (free_are problem y free_y).1 same) one deal i)) 1 0))
        ∙ total_swapped free (are_distinct-set_where _) (λ name. cond (is_in exact.deals (pulled name one)) 1 0) x y free_x free_y same

    module _ (deal : IsDealOf problem dealt) where
      low : Lowered problem (λ one. total free (λ name. hit name one)) dealt
      low = lowered setup (λ one. total free (λ name. hit name one)) kept dealt deal order

      first : (name : ℕ → ℕ) → IsRenaming free name → HasFirst problem name dealt (pulled name low.other)
      first name is = record {
        setup = setup;
        deal = deal;
        also = pulled_deal setup is low.other low.deal;
        counts = λ rank. pulled_count setup is low.other low.deal (is_free_of problem rank) (λ card i. is.inside card i && eqb (is.ranks card i) rank)
            ∙ low.counts rank;
        first = λ card lower held free_card free_lower same below.
            pulled_has setup is low.other low.deal lower
            ∙ low.lowest (name card) (name lower) (sym (pulled_has setup is low.other low.deal card) ∙ held) (is.inside card ∙ free_card)
            (is.inside lower ∙ free_lower) (is.ranks lower ∙ same ∙ sym (is.ranks card)) below;
      }

      -- if it is lost, the deal with the first cards beats the player
      reached : (name : ℕ → ℕ) → IsRenaming free name → 1 ≤ share name dealt → is_in exact.deals (pulled name low.other) ≡ true
      unfolding share
      reached name is some =
          in_from exact.deals (pulled name low.other) ((exact.each (pulled name low.other)).1 (
            pulled_order name low.other,
            beats_too problem name player (first name is) ((loses_by name).beats dealt h some)
                (λ scores. pone_outcome setup scores dealer goal (pulled name low.other) dealt (pulled_deal setup is low.other low.deal) deal),
          ))

      share_few : (name : ℕ → ℕ) → IsRenaming free name → share name dealt ≤ parts * hit name low.other
      unfolding hit share
      share_few name is = go (share name dealt) refl
        where
          within_parts : (its : ℕ → ℕ) → share its dealt ≤ parts
          within_parts its =
              let within = (loses_by its).within dealt h in
              let few = strategy.few dealt h in
              omega (arith, within, few)

          go : (amount : ℕ) → share name dealt ≡ amount → share name dealt ≤ parts * cond (is_in exact.deals (pulled name low.other)) 1 0
          go zero none = omega (arith, none)
          go (suc amount) some = rw (reached name is (omega (arith, some))) (let few = within_parts name in omega (arith, few))

      shares_few : total free (λ name. share name dealt) ≤ parts * total free (λ name. hit name dealt)
      shares_few =
          let less = total_less free (λ name. share name dealt) (λ name. parts * hit name low.other) (free_are problem) share_few in
          let times = total_times free parts (λ name. hit name low.other) in
          let same = ap (λ (n : ℕ). parts * n) low.same in
          omega (arith, less, times, same)

    -- those that are lost are counted
    lost_few : (is : Bool) → is_lost dealt ≡ is → total free (λ name. share name dealt) ≤ parts * total free (λ name. counted name dealt)
    unfolding is_lost counted hit
    lost_few true is =
        let few = shares_few (lost_deal dealt h is) in
        rw is few
    lost_few false is =
        let none : total free (λ name. share name dealt) ≡ 0 = no_more (total free (λ name. share name dealt)) is in
        omega (arith, none)
      where
        no_more : (amount : ℕ) → leb 1 amount ≡ false → amount ≡ 0
        no_more amount e = grind (arith, nat_tests, e)

  -- ---- for all deals
  -- with each renaming at most all deals that beat the player are reached
  counted_within : (name : ℕ → ℕ) → IsRenaming free name → sum_by (counted name) strategy.deals ≤ sum_by (λ dealt. 1) exact.deals
  unfolding counted
  counted_within name is =
      sum_images (pulled name) (counted name) (λ dealt. 1) strategy.deals exact.deals strategy.different
      (λ dealt h. part_few (is_lost dealt && is_in exact.deals (pulled name dealt)) 1)
      (λ dealt h some. in_to exact.deals (pulled name dealt) (and_parts _ _ (passing _ some)).1)
      (λ dealt other h k some more same.
      pulled_apart setup is dealt other (lost_deal dealt h (and_parts _ _ (passing _ some)).0) (lost_deal other k (and_parts _ _ (passing _ more)).0)
      (strategy.in_order dealt h) (strategy.in_order other k) same)

  counted_few : (name : ℕ → ℕ) → IsRenaming free name → sum_by (counted name) strategy.deals ≤ count * 1
  counted_few name is = omega (arith, counted_within name is, sum_same 1 exact.deals, exact.counted)

  all_names : ℕ
  all_names = total free (λ name. 1)

  all_deals : value * all_names ≤ parts * (count * all_names)
  unfolding all_names share
  all_deals =
      let each = total_less free (λ name. value * 1) (λ name. sum_by (share name) strategy.deals) (free_are problem)
      (λ name is. let enough = enough_of name in omega (arith, enough)) in
      let whole = total_times free value (λ name. 1) in
      let turned = total_sums free share strategy.deals in
      let parted = sum_less (λ dealt. total free (λ name. share name dealt)) (λ dealt. parts * total free (λ name. counted name dealt)) strategy.deals
      (λ dealt h. lost_few dealt h (is_lost dealt) refl) in
      let times = sum_times parts (λ dealt. total free (λ name. counted name dealt)) strategy.deals in
      let back = ap (λ (n : ℕ). parts * n) (sym (total_sums free counted strategy.deals)) in
      let few = mul-le parts (total free (λ name. sum_by (counted name) strategy.deals)) parts (total free (λ name. count * 1)) (omega arith)
      (total_less free (λ name. sum_by (counted name) strategy.deals) (λ name. count * 1) (free_are problem) counted_few) in
      let all = ap (λ (n : ℕ). parts * n) (total_times free count (λ name. 1)) in
      omega (arith, each, whole, turned, parted, times, back, few, all)
    where
      enough_of : (name : ℕ → ℕ) → value ≤ sum_by (share name) strategy.deals
      enough_of name = (loses_by name).enough

      sum_times : (k : ℕ) (f : Dealt → ℕ) (deals : List Dealt) → sum_by (λ dealt. k * f dealt) deals ≡ k * sum_by f deals
      sum_times k f [] = omega arith
      sum_times k f (dealt ∷ deals) =
          let more : k * (f dealt + sum_by f deals) ≡ k * f dealt + k * sum_by f deals = grind arith in
          sum_by-cons (λ one. k * f one) dealt deals ∙ ap (λ n. k * f dealt + n) (sum_times k f deals) ∙ sym more
          ∙ ap (λ n. k * n) (sym (sum_by-cons f dealt deals))

  bound : value ≤ parts * count
  unfolding all_names
  bound = elim (cases_lt (parts * count) value) [
    | inl more ↦
        let least = mul-le (parts * count + 1) all_names value all_names (omega (arith, more)) (omega arith) in
        let much : (parts * count + 1) * all_names ≡ parts * (count * all_names) + all_names = grind arith in
        absurd (omega (arith, some_names, least, much, all_deals))
    | inr few ↦ few
  ]
    where
      some_names : 1 ≤ all_names
      some_names = total_some free

pub suits : SuitsLaw
suits problem setup reaches parts value count player strategy exact = bound setup reaches.0 reaches.1 parts value count player strategy exact
