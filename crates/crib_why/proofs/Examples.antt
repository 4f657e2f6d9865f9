-- Worked examples of answers that are not right, of suits that decide, and of how many games there may be.
use Rattle.std.proofs.Common.{◌≡◌, ℕ, Bool, true, false, ltb, ◌<◌, ◌%◌, List, [], ◌∷◌, length, drop, get_or, refl, ap, subst, sym, inl, inr, arith}
use Rattle.std.proofs.lemmas.Bool.{and_parts, ltb-true}
use Rattle.std.specs.List.{list_all}
use Rattle.crib_cards.specs.Cards.{rank_of}
use Rattle.crib_problem.specs.Setup.{IsSetup, Setup}
use Rattle.crib_game.specs.declared.section.game.Game.{Game}
use Rattle.crib_plan.specs.declared.plan.Node.{Node}
use Rattle.crib_sure.specs.Sure.{IsSure}
use Rattle.crib_search.specs.Winnable.{IsWinnable, IsWinnableAfter, after_card}
use Rattle.crib_players.specs.Players.{IsSurePlayer, Player}
use Rattle.crib_players.specs.Refutations.{Refutes}
use Rattle.crib_why.specs.Answer.{AreBySuit, AreThose, HasFewGames, IsBySuit, IsRightWhy, IsSureAfter}
use Rattle.crib_why.specs.declared.why.Why.{Why}
use Rattle.crib_why.specs.declared.why.Why.TheVariants as why
use Rattle.crib_why.specs.Private.Search.{orders}

-- some plan is sure, but none is
no_plan_is_sure : (A : Type 0) (problem : Setup) → ((plan : List Node) → IsSure problem plan → ⊥) → IsRightWhy {A = A} problem why.Sure → ⊥
no_plan_is_sure A problem none is = none is.plan is.sure

-- suits decide, but a plan that sees none is sure, or no player is
a_plan_is_sure : (A : Type 0) (problem : Setup) (found : List ℕ) → IsWinnable problem → IsRightWhy {A = A} problem (why.BySuits (record { items = found })) → ⊥
a_plan_is_sure A problem found winnable is = is.0 winnable

no_player_is_sure : (A : Type 0) (problem : Setup) (found : List ℕ) →
    ((player : Player) → IsSurePlayer problem player → ⊥) → IsRightWhy {A = A} problem (why.BySuits (record { items = found })) → ⊥
no_player_is_sure A problem found none is = none is.1.0 is.1.1

-- games are given that don't refute
abbrev has_games : {A : Type 0} → Why A → Bool
has_games why.Sure = false
has_games (why.Refuted games) = true
has_games (why.BySuits found) = false

nothing_refutes : (A : Type 0) (problem : Setup) (answer : Why A) → has_games answer ≡ true → ((games : List Game) → Refutes problem games → ⊥) →
    IsRightWhy problem answer → ⊥
nothing_refutes A problem why.Sure e none right = cc
nothing_refutes A problem (why.Refuted games) e none right = none games.items right
nothing_refutes A problem (why.BySuits found) e none right = cc

-- 24 games are few enough, and 25 are too many
abbrev games_in : {A : Type 0} → Why A → ℕ
games_in why.Sure = 0
games_in (why.Refuted games) = length games.items
games_in (why.BySuits found) = 0

few_enough : (A : Type 0) (answer : Why A) → games_in answer ≡ 24 → HasFewGames answer
few_enough A why.Sure e = absurd (omega (arith, e))
few_enough A (why.Refuted games) e = omega (arith, e)
few_enough A (why.BySuits found) e = absurd (omega (arith, e))

too_many : (A : Type 0) (answer : Why A) → games_in answer ≡ 25 → HasFewGames answer → ⊥
too_many A why.Sure e few = omega (arith, e)
too_many A (why.Refuted games) e few = omega (arith, e, few)
too_many A (why.BySuits found) e few = omega (arith, e)

-- ---- suits that decide

-- a card that may come next leaves no plan sure
no_plan_after_a_card : (problem : Setup) (card : ℕ) → IsSetup (after_card problem card) → (IsWinnable (after_card problem card) → ⊥) →
    IsSureAfter problem card → ⊥
no_plan_after_a_card problem card setup none sure = none (sure setup)

-- of a rank there is such a card, or one plan is sure after all its cards
one_card_is_lost : (problem : Setup) (card : ℕ) → (IsSureAfter problem card → ⊥) → IsBySuit problem (rank_of card) → ⊥
one_card_is_lost problem card lost by = lost (by.each card refl)

one_plan_for_all : (problem : Setup) (rank : ℕ) → IsWinnableAfter problem rank → IsBySuit problem rank → ⊥
one_plan_for_all problem rank winnable by = by.none winnable

-- some plan is sure after each jack, but none after all of them
jacks : (problem : Setup) → ((card : ℕ) → rank_of card ≡ 11 → IsWinnable (after_card problem card)) → (IsWinnableAfter problem 11 → ⊥) → IsBySuit problem 11
jacks problem each none = record { each = λ card jack setup. each card jack; none = none }

-- the even ones of some numbers
abbrev IsEven : ℕ → Type 0
IsEven number = number % 2 ≡ 0

even_numbers : AreThose IsEven (1 ∷ 2 ∷ 4 ∷ 5 ∷ 6 ∷ []) (2 ∷ 4 ∷ 6 ∷ [])
unfolding AreThose
even_numbers = inr (
  λ e. omega (arith, e),
  inl (4 ∷ 6 ∷ [], refl, inl (6 ∷ [], refl, inr (λ e. omega (arith, e), inl ([], refl, refl, refl)), refl), refl),
)

one_is_left_out : AreThose IsEven (2 ∷ []) [] → ⊥
unfolding AreThose
one_is_left_out those = elim those [
  | inl (others, is, more, e) ↦ cc
  | inr (isnt, more) ↦ isnt refl
]

one_is_odd : AreThose IsEven (1 ∷ []) (1 ∷ []) → ⊥
unfolding AreThose
one_is_odd those = elim those [
  | inl (others, is, more, e) ↦ omega (arith, is)
  | inr (isnt, more) ↦ cc
]

one_too_many : AreThose IsEven [] (2 ∷ []) → ⊥
unfolding AreThose
one_too_many e = cc

first_left_out : (is : ℕ → Type 0) (number : ℕ) (numbers : List ℕ) → is number → AreThose is (number ∷ numbers) [] → ⊥
unfolding AreThose
first_left_out is number numbers it those = elim those [
  | inl (others, here, more, e) ↦ cc
  | inr (isnt, more) ↦ isnt it
]

-- if suits decide after an ace, it is among the ranks
no_ace : (problem : Setup) → IsBySuit problem 1 → AreBySuit problem [] → ⊥
no_ace problem by those =
    first_left_out (IsBySuit problem) 1 (2 ∷ 3 ∷ 4 ∷ 5 ∷ 6 ∷ 7 ∷ 8 ∷ 9 ∷ 10 ∷ 11 ∷ 12 ∷ 13 ∷ []) by those

no_ace_told : (A : Type 0) (problem : Setup) → IsBySuit problem 1 → IsRightWhy {A = A} problem (why.BySuits (record { items = [] })) → ⊥
no_ace_told A problem by right = no_ace problem by right.2

-- if suits decide after an ace and a two alone, these are the ranks, and an ace isn't named twice
abbrev ends_above : ℕ → List ℕ → Type 0
ends_above few numbers = list_all (ltb few) numbers ≡ true

none_above : (is : ℕ → Type 0) (few : ℕ) (numbers : List ℕ) → ends_above few numbers → ((number : ℕ) → few < number → is number → ⊥) → AreThose is numbers []
unfolding AreThose
none_above is few [] above none = refl
none_above is few (number ∷ numbers) above none =
    let parts = and_parts (ltb few number) (list_all (ltb few) numbers) above in
    inr (none number (ltb-true few number parts.0), none_above is few numbers parts.1 none)

ace_and_two : (problem : Setup) → IsBySuit problem 1 → IsBySuit problem 2 → ((rank : ℕ) → 2 < rank → IsBySuit problem rank → ⊥) →
    AreBySuit problem (1 ∷ 2 ∷ [])
unfolding AreThose
ace_and_two problem ace two none =
    inl (2 ∷ [], ace, inl ([], two, none_above (IsBySuit problem) 2 (3 ∷ 4 ∷ 5 ∷ 6 ∷ 7 ∷ 8 ∷ 9 ∷ 10 ∷ 11 ∷ 12 ∷ 13 ∷ []) refl none, refl), refl)

lower : (is : ℕ → Type 0) (low : ℕ) (numbers found : List ℕ) → ends_above low numbers → AreThose is numbers (low ∷ found) → ⊥
unfolding AreThose
lower is low [] found above those = cc
lower is low (number ∷ numbers) found above those =
    let parts = and_parts (ltb low number) (list_all (ltb low) numbers) above in
    let more = ltb-true low number parts.0 in
    elim those [
      | inl (others, here, after, e) ↦ (let same : low ≡ number = ap (λ (list : List ℕ). get_or list 0 0) e in omega (arith, more, same))
      | inr (isnt, after) ↦ lower is low numbers found parts.1 after
    ]

lower_twice : (is : ℕ → Type 0) (low : ℕ) (numbers : List ℕ) → ends_above low numbers → AreThose is (low ∷ numbers) (low ∷ low ∷ []) → ⊥
unfolding AreThose
lower_twice is low numbers above those = elim those [
  | inl (others, here, after, e) ↦
      let same : low ∷ [] ≡ others = ap (λ (list : List ℕ). drop 1 list) e in
      lower is low numbers [] above (subst (AreThose is numbers) (sym same) after)
  | inr (isnt, after) ↦ lower is low numbers (low ∷ []) above after
]

pub ace_twice : (problem : Setup) → AreBySuit problem (1 ∷ 1 ∷ []) → ⊥
ace_twice problem those = lower_twice (IsBySuit problem) 1 (2 ∷ 3 ∷ 4 ∷ 5 ∷ 6 ∷ 7 ∷ 8 ∷ 9 ∷ 10 ∷ 11 ∷ 12 ∷ 13 ∷ []) refl those

-- ---- how many games there may be

-- four cards can be played in 24 orders, three in 6, and none in one
orders_of_cards : (orders 4 ≡ 24) × (orders 3 ≡ 6) × (orders 0 ≡ 1)
orders_of_cards = (refl, refl, refl)
