-- What is kept of a show is right for each other with the same cards.
use Rattle.std.proofs.Common.{◌≡◌, ℕ, ◌+◌, ◌<◌, ◌≤◌, ◌++◌, List, IsTrue, length, replicate, set, refl, sym, ap, ◌∙◌, subst, inl, inr}
use Rattle.std.proofs.lemmas.Bool.{cases_eq}
use Rattle.std.proofs.lemmas.Grind.{get_or-set_at}
use Rattle.std.proofs.lemmas.List.{get_or-set_other, get_or-replicate, length-replicate, length-set}
use Rattle.std.specs.List.{list_all}
use Rattle.crib_cards.specs.Deals.{IsDeal}
use Rattle.crib_cards.specs.Sets.{has}
use Rattle.crib_cards.specs.declared.sides.Dealt.{Dealt}
use Rattle.crib_show.specs.Show.{hand_points, crib_points}
use Rattle.crib_show.specs.Private.Indices.{IsIndex}
use Rattle.crib_show.specs.Indices.{AreFour, index_among}
use Rattle.crib_show.specs.Extremes.{AreKept, AreKeptIn, HasCards}
use Rattle.crib_show.proofs.IndexLemmas.{choice_of_index}
use Rattle.crib_show.specs.Worst.{AgreesInShow, hidden_crib, hidden_hand, hidden_total}
use Rattle.crib_show.specs.declared.deals.WorstShow.{WorstShow}
use Rattle.crib_show.specs.declared.worst.extremes.Extremes.{Extremes}

-- ---- two shows with the same cards
agrees_there : (starter : ℕ) (throw unseen fixed : List ℕ) (one other : WorstShow) → HasCards starter throw unseen fixed one →
    HasCards starter throw unseen fixed other → one.ranks ≡ other.ranks → (dealt : Dealt) → AgreesInShow one dealt → AgreesInShow other dealt
agrees_there starter throw unseen fixed one other here there same dealt agrees = record {
  deal = subst (λ cards. IsDeal cards dealt) (here.unseen_is ∙ sym there.unseen_is) agrees.deal;
  ranks_held = agrees.ranks_held ∙ same;
  fixed_held = subst (λ cards. IsTrue (list_all (has dealt.hold) cards)) (here.fixed_is ∙ sym there.fixed_is) agrees.fixed_held;
}

module _ (starter : ℕ) (throw unseen fixed : List ℕ) (worst other : WorstShow) (here : HasCards starter throw unseen fixed worst)
    (there : HasCards starter throw unseen fixed other) (same : worst.ranks ≡ other.ranks) where
  starters : worst.starter ≡ other.starter
  starters = here.starter_is ∙ sym there.starter_is

  hands : (dealt : Dealt) → hidden_hand worst dealt ≡ hidden_hand other dealt
  hands dealt = ap (hand_points dealt.hold) starters

  cribs : (dealt : Dealt) → hidden_crib worst dealt ≡ hidden_crib other dealt
  cribs dealt = λ i. crib_points ((here.throw_is ∙ sym there.throw_is) i ++ dealt.throw) (starters i)

  totals : (dealt : Dealt) → hidden_total worst dealt ≡ hidden_total other dealt
  totals dealt = λ i. hands dealt i + cribs dealt i

  -- what some deal has, and what all deals have, is the same there, as far as the points are
  some_there : (f : WorstShow → Dealt → ℕ) → ((dealt : Dealt) → f worst dealt ≡ f other dealt) → (points : ℕ) →
      (dealt : Dealt) × AgreesInShow worst dealt × (f worst dealt ≡ points) → (dealt : Dealt) × AgreesInShow other dealt × (f other dealt ≡ points)
  some_there f equal points some = (some.0, agrees_there starter throw unseen fixed worst other here there same some.0 some.1, sym (equal some.0) ∙ some.2)

  all_there : (f : WorstShow → Dealt → ℕ) → ((dealt : Dealt) → f worst dealt ≡ f other dealt) → (P : ℕ → Type 0) →
      ((dealt : Dealt) → AgreesInShow worst dealt → P (f worst dealt)) → (dealt : Dealt) → AgreesInShow other dealt → P (f other dealt)
  all_there f equal P all dealt agrees = subst P (equal dealt)
      (all dealt (agrees_there starter throw unseen fixed other worst there here (sym same) dealt agrees))

  kept_there : (kept : Extremes) → AreKept worst kept → AreKept other kept
  kept_there kept is = record {
    greatest_hand = λ k.
        let most = is.greatest_hand k in
        record { some = some_there hidden_hand hands _ most.some; all = all_there hidden_hand hands (λ n. n ≤ kept.greatest_hand) most.all };
    least_crib = λ k.
        let least = is.least_crib k in
        record { some = some_there hidden_crib cribs _ least.some; all = all_there hidden_crib cribs (λ n. kept.least_crib ≤ n) least.all };
    greatest_crib = λ k.
        let most = is.greatest_crib k in
        record { some = some_there hidden_crib cribs _ most.some; all = all_there hidden_crib cribs (λ n. n ≤ kept.greatest_crib) most.all };
    greatest_total = λ k.
        let most = is.greatest_total k in
        record { some = some_there hidden_total totals _ most.some; all = all_there hidden_total totals (λ n. n ≤ kept.greatest_total) most.all };
  }

-- a show has its own cards
own_cards : (worst : WorstShow) → AreFour worst.ranks → HasCards worst.starter worst.own_throw worst.unseen worst.fixed worst
own_cards worst are = record { starter_is = refl; throw_is = refl; unseen_is = refl; fixed_is = refl; are_four = are }

-- at first nothing is kept, which is right
pub kept_new : (starter : ℕ) (throw unseen fixed : List ℕ) (n : ℕ) (kept : Extremes) → ((worst : WorstShow) → AreKept worst kept) →
    AreKeptIn starter throw unseen fixed (replicate n kept)
kept_new starter throw unseen fixed n kept right = λ worst none has inside.
    let index = index_among 4 worst.ranks in
    subst (AreKept worst) (sym (get_or-replicate n index kept none (subst (λ k. index < k) (length-replicate n kept) inside))) (right worst)

-- what is right of a show is kept at its index
pub kept_with : (worst : WorstShow) (all : List Extremes) (index : ℕ) (here : Extremes) → IsIndex worst.ranks index → AreKept worst here →
    AreKeptIn worst.starter worst.own_throw worst.unseen worst.fixed all → AreKeptIn worst.starter worst.own_throw worst.unseen worst.fixed (set all index here)
kept_with worst all index here is right kept = λ other none has inside.
    let within : index_among 4 other.ranks < length all = subst (λ k. index_among 4 other.ranks < k) (length-set all index here) inside in
    elim (cases_eq (index_among 4 other.ranks) index) [
      | inl at ↦
          let same : worst.ranks ≡ other.ranks = choice_of_index worst.ranks other.ranks is.are_four has.are_four (sym is.index_is ∙ sym at) in
          subst (AreKept other) (sym (get_or-set_at all index (index_among 4 other.ranks) here none at (subst (λ k. k < length all) at within)))
          (kept_there worst.starter worst.own_throw worst.unseen worst.fixed worst other (own_cards worst is.are_four) has same here right)
      | inr elsewhere ↦
          subst (AreKept other) (sym (get_or-set_other all index (index_among 4 other.ranks) here none elsewhere))
          (kept other none has within)
    ]
