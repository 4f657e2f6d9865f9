-- Demands that are joined at the indices of choices.
use Rattle.std.proofs.Common.{◌≡◌, ℕ, ◌+◌, ◌*◌, ◌<◌, ◌≤◌, Bool, true, false, ◌&&◌, List, [], ◌∷◌, ◌++◌}
use Rattle.std.proofs.Common.{filter, get_or, length, set, take, min, max}
use Rattle.std.proofs.Common.{refl, ap, ◌∙◌, inl, inr, arith}
use Rattle.std.proofs.lemmas.Bool.{cases_Bool}
use Rattle.std.proofs.lemmas.Bool.Decides.{nat_tests}
use Rattle.std.proofs.lemmas.List.{append-nil, get_or-set_same, get_or-set_other, take_more_set}
use Rattle.std.proofs.lemmas.List.Elements.{filter_more}
use Rattle.crib_cards.specs.Sets.{has}
use Rattle.crib_cards.proofs.SetFacts.{has-filter}
use Rattle.crib_cards.proofs.SetLemmas.{has_push}
use Rattle.crib_show.specs.declared.demands.Demand.{Demand}
use Rattle.crib_show.specs.Demands.{IsMetByAll, is_met}
use Rattle.crib_beaten.specs.Beaten.{counts_of, demand_of}
use Rattle.crib_beaten.specs.Private.Demands.{AreJoined, IsJoined}

-- ---- two demands, and the one that all deals meet
abbrev pub both : Demand → Demand → Demand
both one other = record { hand = min one.hand other.hand; total = min one.total other.total; crib = max one.crib other.crib }

pub met_both : (one other : Demand) (hand crib : ℕ) → is_met (both one other) hand crib ≡ (is_met one hand crib && is_met other hand crib)
met_both one other hand crib = grind (arith, nat_tests)

abbrev pub no_demand : Demand
no_demand = record { hand = 29; total = 58; crib = 0 }

pub met_by_any : IsMetByAll no_demand
met_by_any hand crib few also = grind (arith, nat_tests, few, also)

-- ---- demands joined at some indices
-- nothing is joined
unjoined : {Kind : Demand → Type 0} {old new : Demand} → Kind no_demand → new ≡ old → IsJoined Kind old new
unjoined {old = old} kind same = record {
  more = no_demand;
  kind = kind;
  joins = λ hand crib few also. grind (arith, nat_tests, ap (λ (demand : Demand). is_met demand hand crib) same, few, also);
}

module _ {choices : List (List ℕ)} {indices : List ℕ} where
  pub joined_none : {Kind : List ℕ → Demand → Type 0} (old : List Demand) → ((counts : List ℕ) → Kind counts no_demand) → AreJoined Kind choices indices old old
  joined_none old all = record { here = λ index h. unjoined (all _) refl; elsewhere = λ index h. refl }

  pub joined_as : {Kind Also : List ℕ → Demand → Type 0} {old new : List Demand} →
      ((counts : List ℕ) (demand : Demand) → Kind counts demand → Also counts demand) →
      AreJoined Kind choices indices old new → AreJoined Also choices indices old new
  joined_as also are = record {
    here = λ index h. let is = are.here index h in record { more = is.more; kind = also _ _ is.kind; joins = is.joins };
    elsewhere = are.elsewhere;
  }

  pub joined_both : {One Other Both : List ℕ → Demand → Type 0} {old mid new : List Demand} →
      ((counts : List ℕ) (one other : Demand) → One counts one → Other counts other → Both counts (both one other)) →
      AreJoined One choices indices old mid → AreJoined Other choices indices mid new → AreJoined Both choices indices old new
  joined_both {old = old} two first second = record {
    here = λ index h. let one = first.here index h in let other = second.here index h in record {
      more = both one.more other.more;
      kind = two _ _ _ one.kind other.kind;
      joins = λ hand crib few also.
          grind (arith, nat_tests, one.joins hand crib few also, other.joins hand crib few also, met_both one.more other.more hand crib);
    };
    elsewhere = λ index h. second.elsewhere index h ∙ first.elsewhere index h;
  }

  -- at those that pass a test, where the others have nothing to join
  pub joined_kept : {Kind Also : List ℕ → Demand → Type 0} {old new : List Demand} {left : List ℕ} (test : List ℕ → Bool) →
      ((counts : List ℕ) (demand : Demand) → test counts ≡ true → Kind counts demand → Also counts demand) →
      ((counts : List ℕ) → test counts ≡ false → Also counts no_demand) → left ≡ filter (λ index. test (counts_of choices index)) indices →
      AreJoined Kind choices left old new → AreJoined Also choices indices old new
  joined_kept {left = left} test some none kept are = record {
    here = λ index h. elim (cases_Bool (test (counts_of choices index))) [
      | inl passed ↦
          let is = are.here index (has_left index ∙ (λ i. h i && passed i)) in
          record { more = is.more; kind = some _ _ passed is.kind; joins = is.joins }
      | inr failed ↦ unjoined (none _ failed) (are.elsewhere index (has_left index ∙ (λ i. h i && failed i)))
    ];
    elsewhere = λ index h. are.elsewhere index (has_left index ∙ ap (λ (b : Bool). b && test (counts_of choices index)) h);
  }
    where
      has_left : (index : ℕ) → has left index ≡ (has indices index && test (counts_of choices index))
      has_left index = ap (λ (listed : List ℕ). has listed index) kept ∙ has-filter _ indices index

-- ---- indices kept in a walk over some indices
module _ (test : ℕ → Bool) (indices : List ℕ) (i count : ℕ) (kept : List ℕ) (inside : i < length indices)
    (so_far : take count kept ≡ filter test (take i indices)) where
  abbrev index : ℕ
  index = get_or indices i 0

  pub none_kept : test index ≡ false → take count kept ≡ filter test (take (i + 1) indices)
  none_kept fails = grind (arith, so_far, append-nil (filter test (take i indices)), filter_more test indices i 0 inside, fails)

  pub one_kept : count < length kept → test index ≡ true → take (count + 1) (set kept count index) ≡ filter test (take (i + 1) indices)
  one_kept room passes = grind (arith, so_far, take_more_set kept count index room, filter_more test indices i 0 inside, passes)

-- room for the indices that are left after a turn, and for those after the turns that follow
pub room_after : {many before after room : ℕ} (few : ℕ) → many * before ≤ room → after < before → few ≤ many →
    (few * after + many ≤ room) × (few * after ≤ room)
room_after few enough falls fewer = (grind (arith, enough, falls, fewer), grind (arith, enough, falls, fewer))

-- ---- a demand joined at one more index
pub one_more_index : {demand : Demand} {seen : List ℕ} {index : ℕ} {old mid : List Demand} {choices : List (List ℕ)} (joined : Demand) → index < length mid →
    ((hand crib : ℕ) → is_met joined hand crib ≡ (is_met (demand_of mid index) hand crib && is_met demand hand crib)) →
    AreJoined (λ _ more. more ≡ demand) choices seen old mid → AreJoined (λ _ more. more ≡ demand) choices (seen ++ index ∷ []) old (set mid index joined)
one_more_index {demand} {seen} {index} {old} {mid} joined small join are = record {
  here = λ other h. record {
    more = demand;
    kind = refl;
    joins = λ hand crib few also.
        after (λ d. is_met d hand crib) other h (λ there. let is = are.here other there in rw is.kind at (is.joins hand crib few also)) (join hand crib);
  };
  elsewhere = λ other h. grind (arith, nat_tests, has_push seen index other, h, are.elsewhere other, get_or-set_other mid index other joined);
}
  where
    after : (met : Demand → Bool) (other : ℕ) → has (seen ++ index ∷ []) other ≡ true →
        (has seen other ≡ true → met (demand_of mid other) ≡ (met (demand_of old other) && met demand)) →
        met joined ≡ (met (demand_of mid index) && met demand) → met (demand_of (set mid index joined) other) ≡ (met (demand_of old other) && met demand)
    after met other h was with_it =
        let here = get_or-set_same mid index joined in
        let there = get_or-set_other mid index other joined in
        grind (arith, nat_tests, h, was, with_it, small, has_push seen index other, are.elsewhere other, here, there)
