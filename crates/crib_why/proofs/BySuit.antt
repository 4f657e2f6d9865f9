-- The ranks after which suits decide: one rank more, and the four cards of a rank.
use Rattle.std.proofs.Common.{◌≡◌, ◌⊎◌, ◌↔◌, ℕ, zero, suc, get_or, Bool, ◌+◌, ◌-◌, ◌%◌, ◌<◌, ◌≤◌, List, [], ◌∷◌, ◌++◌, length, map, None, Some}
use Rattle.std.proofs.Common.{refl, sym, ap, subst, ◌∙◌, inl, inr, arith}
use Rattle.std.specs.Prelude.{IsTrue}
use Rattle.std.specs.List.{range_with_len}
use Rattle.std.proofs.lemmas.Bool.{cases_lt}
use Rattle.std.proofs.lemmas.List.FromFn.{map-range_with_len_more}
use Rattle.crib_cards.specs.Cards.{card_of, rank_of, suit_number, suit_of}
use Rattle.crib_cards.specs.declared.suits.Suit.TheVariants.{Clubs, Diamonds, Hearts, Spades}
use Rattle.crib_cards.specs.declared.sides.Side.TheVariants.{Opponent}
use Rattle.crib_cards.specs.declared.moves.Move.TheVariants as move
use Rattle.crib_cards.specs.declared.moves.Act.{Act}
use Rattle.crib_problem.specs.Played.{AreAllowed, act_refusal}
use Rattle.crib_problem.specs.Setup.{IsSetup, Setup, opening_basis_of, played_back}
use Rattle.crib_search.specs.Winnable.{IsWinnable, after_card}
use Rattle.crib_show.proofs.PairTrials.{card_back, rank_back}
use Rattle.crib_players.proofs.Longer.{back}
use Rattle.crib_why.specs.Answer.{AreThose, IsSureAfter}

module _ (is : ℕ → Type 0) where
  pub one_more : (numbers found : List ℕ) (number : ℕ) → AreThose is numbers found → is number → AreThose is (numbers ++ number ∷ []) (found ++ number ∷ [])
  unfolding AreThose
  one_more [] found number e it = inl ([], it, refl, ap (λ (l : List ℕ). l ++ number ∷ []) e)
  one_more (first ∷ numbers) found number those it = elim those [
    | inl (others, here, more, e) ↦ inl (others ++ number ∷ [], here, one_more numbers others number more it, ap (λ (l : List ℕ). l ++ number ∷ []) e)
    | inr (not_here, more) ↦ inr (not_here, one_more numbers found number more it)
  ]

  pub none_more : (numbers found : List ℕ) (number : ℕ) → AreThose is numbers found → ¬ is number → AreThose is (numbers ++ number ∷ []) found
  unfolding AreThose
  none_more [] found number e isnt = inr (isnt, e)
  none_more (first ∷ numbers) found number those isnt = elim those [
    | inl (others, here, more, e) ↦ inl (others, here, none_more numbers others number more isnt, e)
    | inr (not_here, more) ↦ inr (not_here, none_more numbers found number more isnt)
  ]

  pub few_found : (numbers found : List ℕ) → AreThose is numbers found → length found ≤ length numbers
  unfolding AreThose
  few_found [] found e = rw e (omega arith)
  few_found (first ∷ numbers) found those = elim those [
    | inl (others, here, more, e) ↦ rw e (let few = few_found numbers others more in omega (arith, few))
    | inr (not_here, more) ↦ let few = few_found numbers found more in omega (arith, few)
  ]

all_same : (numbers : List ℕ) → map (λ (n : ℕ). n) numbers ≡ numbers
all_same [] = refl
all_same (n ∷ numbers) = ap (λ (l : List ℕ). n ∷ l) (all_same numbers)

-- the ranks up to one, by those before it
pub ranks_more : (before rank : ℕ) → before + 1 ≡ rank → range_with_len 1 rank ≡ range_with_len 1 before ++ rank ∷ []
ranks_more before rank e =
    ap (range_with_len 1) (sym e) ∙ sym (all_same (range_with_len 1 (before + 1)))
    ∙ map-range_with_len_more (λ (n : ℕ). n) 1 before rank (omega (arith, e))
    ∙ ap (λ (l : List ℕ). l ++ rank ∷ []) (all_same (range_with_len 1 before))

-- those of the ranks up to a number, by those before it
pub next_number : (is : ℕ → Type 0) (number : ℕ) (found : List ℕ) → 1 ≤ number → AreThose is (range_with_len 1 (number - 1) ++ number ∷ []) found →
    AreThose is (range_with_len 1 (number + 1 - 1)) found
next_number is number found some those =
    let now : number + 1 - 1 ≡ number = omega (arith, some) in
    subst (λ (ranks : List ℕ). AreThose is ranks found)
    (sym (ranks_more (number - 1) number (omega (arith, some))) ∙ ap (range_with_len 1) (sym now)) those

pub no_number : (is : ℕ → Type 0) → AreThose is (range_with_len 1 (1 - 1)) []
unfolding AreThose
no_number is = refl

-- what is true of the four cards of a rank is true of each card of it
pub each_card : (rank : ℕ) (holds : ℕ → Type 0) → ((suit : ℕ) → suit < 4 → holds (card_of rank suit)) → (card : ℕ) → rank_of card ≡ rank → holds card
each_card rank holds four card same =
    subst holds (ap (λ (r : ℕ). card_of r (suit_of card)) (sym same) ∙ card_back card) (four (suit_of card) (small card))
  where
    small : (card : ℕ) → card % 4 < 4
    small card = omega arith

abbrev theirs : ℕ → Act
theirs card = record { side = Opponent; what = move.Card card }

-- with a card that is refused there is no problem
pub none_after : (problem : Setup) (card number : ℕ) → act_refusal (opening_basis_of problem) (played_back problem) (theirs card) ≡ Some number →
    ¬ IsSetup (after_card problem card)
none_after problem card number refused setup =
    let allowed = subst (AreAllowed (opening_basis_of problem)) (back problem (theirs card)) setup.allowed in
    let e : None ≡ Some number = sym allowed.1 ∙ refused in cc

-- a plan is sure after a card exactly if one is for the problem with it
pub sure_both : (problem next : Setup) (card : ℕ) (is : Bool) → next ≡ after_card problem card → IsSetup next → (IsTrue is ↔ IsWinnable next) →
    IsTrue is ↔ IsSureAfter problem card
sure_both problem next card is same setup both = (
  λ so valid. subst IsWinnable same (both.0 so),
  λ sure. both.1 (subst IsWinnable (sym same) (sure (subst IsSetup same setup))),
)

-- the suits in the order in which they are tried
pub suit_at : (index : ℕ) → index < 4 → suit_number (get_or (Clubs ∷ Diamonds ∷ Hearts ∷ Spades ∷ []) index Clubs) ≡ index
suit_at zero small = refl
suit_at (suc zero) small = refl
suit_at (suc (suc zero)) small = refl
suit_at (suc (suc (suc zero))) small = refl
suit_at (suc (suc (suc (suc more)))) small = absurd (omega (arith, small))

pub one_suit_more : (holds : ℕ → Type 0) (rank index card : ℕ) → card ≡ card_of rank index → ((suit : ℕ) → suit < index → holds (card_of rank suit)) →
    holds card → (suit : ℕ) → suit < index + 1 → holds (card_of rank suit)
one_suit_more holds rank index card e before here suit less = elim (cases_lt suit index) [
  | inl small ↦ before suit small
  | inr large ↦ let same : index ≡ suit = omega (arith, large, less) in subst holds (e ∙ ap (card_of rank) same) here
]

-- a card of a rank and of one of these suits has that rank
pub rank_is : (rank index card : ℕ) → 1 ≤ rank → index < 4 → card ≡ card_of rank index → rank_of card ≡ rank
rank_is rank index card some small e = ap rank_of e ∙ rank_back rank index small some
