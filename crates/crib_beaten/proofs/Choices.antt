-- The choices of four ranks in order, each at its index.
use Rattle.std.proofs.Common.{◌≡◌, ℕ, ◌+◌, ◌<◌, false, List, length, set, sym, ap, ◌∙◌, inl, inr, arith}
use Rattle.std.specs.Prelude.{IsTrue}
use Rattle.std.proofs.lemmas.Bool.{both_ways, cases_eq, cases_lt}
use Rattle.std.proofs.lemmas.List.{get_or-set_same, get_or-set_other}
use Rattle.crib_cards.specs.Sets.{rank_counts}
use Rattle.crib_show.specs.Indices.{index_among}
use Rattle.crib_show.proofs.IndexLemmas.{choice_of_index, index_few}
use Rattle.crib_beaten.specs.Beaten.{counts_of}
use Rattle.crib_deals.specs.Choices.{are_in_order, ranks_of_number}
use Rattle.crib_beaten.specs.Private.Rows.{AreListed, IsChoice, counts_of_number, place}
use Rattle.crib_beaten.proofs.HoldNumbers.{four_numbered, place_before}

-- the index of the ranks with a number
abbrev pub index_at : ℕ → ℕ
index_at number = index_among 4 (counts_of_number number)

pub index_small : (number : ℕ) → number < 28561 → index_at number < 1820
index_small number small = index_few (counts_of_number number) (four_numbered number small)

-- the counts of ranks are those of the choices in order with a smaller number, each at its index
abbrev pub AreChoices : ℕ → List (List ℕ) → Type 0
AreChoices number choices =
    (n : ℕ) → n < number → IsTrue (are_in_order (ranks_of_number n)) → counts_of choices (index_at n) ≡ counts_of_number n

module _ (number : ℕ) (choices : List (List ℕ)) (so_far : AreChoices number choices) where
  pub not_chosen : are_in_order (ranks_of_number number) ≡ false → AreChoices (number + 1) choices
  not_chosen no_order n less is = elim (cases_lt n number) [
    | inl before ↦ so_far n before is
    | inr least ↦ let same : n ≡ number = omega (arith, less, least) in absurd (both_ways _ no_order (rw same at is))
  ]

  pub chosen : number < 28561 → length choices ≡ 1820 → AreChoices (number + 1) (set choices (index_at number) (counts_of_number number))
  chosen small long n less is = elim (cases_eq (index_at n) (index_at number)) [
    | inl same ↦
        let counts = choice_of_index _ _ (four_numbered number small) (four_numbered n (omega (arith, less, small))) (sym same) in
        let inside = index_small number small in
        ap (λ k. counts_of (set choices (index_at number) (counts_of_number number)) k) same
        ∙ get_or-set_same choices (index_at number) _ _ (omega (arith, inside, long)) ∙ counts
    | inr apart ↦ elim (cases_lt n number) [
      | inl before ↦ get_or-set_other choices (index_at number) (index_at n) _ _ apart ∙ so_far n before is
      | inr least ↦ let same : n ≡ number = omega (arith, less, least) in absurd (apart (ap index_at same))
    ]
  ]

-- ---- the same by their places
module _ (number : ℕ) (choices : List (List ℕ)) (so_far : AreListed number choices) where
  pub one_listed : {ranks : List ℕ} → IsChoice number ranks → length choices ≡ 1820 → AreListed (number + 1) (set choices (place number) (rank_counts ranks))
  one_listed choice long n less is = elim (cases_lt n number) [
    | inl before ↦
        let apart = place_before n number before is in
        get_or-set_other choices (place number) (place n) _ _ (λ same. absurd (omega (arith, apart, same))) ∙ so_far n before is
    | inr least ↦
        let same : n ≡ number = omega (arith, less, least) in
        rw (same, choice.numbered) (get_or-set_same choices (place number) _ _ (omega (arith, choice.small, long)))
  ]
