-- Games that refute after each card of the owner, put together card by card, and how many they are.
use Rattle.std.proofs.Common.{◌≡◌, ℕ, zero, suc, ◌+◌, ◌-◌, ◌*◌, ◌≤◌, true, false, List, [], ◌∷◌, ◌++◌, length, refl, sym, ap, subst, ◌∙◌, inl, inr, arith}
use Rattle.std.specs.Prelude.{◌⊎◌, Some, slice_get}
use Rattle.std.proofs.lemmas.Bool.{both_ways, cases_Bool}
use Rattle.std.proofs.lemmas.List.{length-append}
use Rattle.std.proofs.lemmas.Option.{none-some}
use Rattle.crib_cards.specs.Sets.{has}
use Rattle.crib_cards.proofs.Members.{has_cases, has_here, has_there}
use Rattle.crib_problem.specs.Setup.{Setup}
use Rattle.crib_know.specs.Knowledge.{Knowledge, own_left, played_events}
use Rattle.crib_know.specs.Hidden.{KnowsAfter}
use Rattle.crib_game.specs.declared.section.game.Game.{Game}
use Rattle.crib_players.specs.Players.{own_card}
use Rattle.crib_players.specs.Refutations.{Refutes}
use Rattle.crib_players.specs.Laws.{longer, HasAfter, MayPlay}
use Rattle.crib_players.proofs.Longer.{cards}
use Rattle.crib_why.specs.Private.Search.{orders, own_count}
use Rattle.crib_why.proofs.FewGames.{one_less, room_start}

-- ---- indices of joined lists
front_at : (front rest : List Game) (index : ℕ) (game : Game) → slice_get front index ≡ Some game → slice_get (front ++ rest) index ≡ Some game
front_at [] rest index game at = absurd (none-some game at)
front_at (first ∷ front) rest zero game at = at
front_at (first ∷ front) rest (suc index) game at = front_at front rest index game at

rest_at : (front rest : List Game) (index n : ℕ) (game : Game) → slice_get rest index ≡ Some game → n ≡ length front + index →
    slice_get (front ++ rest) n ≡ Some game
rest_at [] rest index n game at e = subst (λ (k : ℕ). slice_get rest k ≡ Some game) (omega (arith, e)) at
rest_at (first ∷ front) rest index zero game at e = absurd (omega (arith, e))
rest_at (first ∷ front) rest index (suc n) game at e = rest_at front rest index n game at (omega (arith, e))

-- a game of joined lists is one of the first list, or one of the second
abbrev IsOfEither : List Game → List Game → ℕ → Game → Type 0
IsOfEither front rest index game = (slice_get front index ≡ Some game) ⊎ ((other : ℕ) × (slice_get rest other ≡ Some game))

of_either : (front rest : List Game) (index : ℕ) (game : Game) → slice_get (front ++ rest) index ≡ Some game → IsOfEither front rest index game
of_either [] rest index game at = inr (index, at)
of_either (first ∷ front) rest zero game at = inl at
of_either (first ∷ front) rest (suc index) game at = of_either front rest index game at

-- ---- games after the owner's cards, tried one by one: for each card that is no longer among the rest and that the owner may play there are some
-- that refute after it, and there are no others. There is room for those of the rest
pub record AreFor (problem : Setup) (rest : List ℕ) (games : List Game) : Type 0 where
  pub left : (card : ℕ) → has rest card ≡ true → has (own_left problem (played_events problem)) card ≡ true
  pub each : (card : ℕ) → has rest card ≡ false → MayPlay problem card → HasAfter problem games card
  pub from : (index : ℕ) (game : Game) → slice_get games index ≡ Some game →
      (card : ℕ) × (after : HasAfter problem games card) × (other : ℕ) × (slice_get after.others other ≡ Some game)
  pub room : length games + length rest * orders (own_count problem - 1) ≤ orders (own_count problem)

with_more : (problem : Setup) (games more : List Game) (card : ℕ) → HasAfter problem games card → HasAfter problem (games ++ more) card
with_more problem games more card after = record {
  others = after.others;
  refutes = after.refutes;
  among = λ index game at. (let found = after.among index game at in (found.0, front_at games more found.0 game found.1));
}

new_after : (problem : Setup) (games more : List Game) (card : ℕ) → Refutes (longer problem (own_card card)) more → HasAfter problem (games ++ more) card
new_after problem games more card refutes = record {
  others = more;
  refutes = refutes;
  among = λ index game at. (length games + index, rest_at games more index (length games + index) game at refl);
}

-- a card that is not among the others is the first one, or not among all
first_or_none : (first card : ℕ) (others : List ℕ) → has others card ≡ false → (first ≡ card) ⊎ (has (first ∷ others) card ≡ false)
first_or_none first card others gone = elim (cases_Bool (has (first ∷ others) card)) [
  | inl among ↦ elim (has_cases first card others among) [ inl same ↦ inl same | inr there ↦ absurd (both_ways (has others card) gone there) ]
  | inr none ↦ inr none
]

room_after : (games more first others each all : ℕ) → games + first * each ≤ all → first ≡ others + 1 → more ≤ each → games + more + others * each ≤ all
room_after games more first others each all room one few =
    let split : first * each ≡ others * each + each = ap (λ (n : ℕ). n * each) one ∙ omega arith in
    omega (arith, room, split, few)

module _ (problem : Setup) where
  -- before the first card
  pub for_none : ((card : ℕ) → MayPlay problem card → has (own_left problem (played_events problem)) card ≡ true) →
      AreFor problem (own_left problem (played_events problem)) []
  for_none may = record {
    left = λ card among. among;
    each = λ card gone can. absurd (both_ways _ gone (may card can));
    from = λ index game at. absurd (none-some game at);
    room = (let start = room_start (own_count problem) in omega (arith, start));
  }

  module _ (first : ℕ) (others : List ℕ) (games : List Game) (are : AreFor problem (first ∷ others) games) where
    -- a card that may not be played
    pub for_skipped : (MayPlay problem first → ⊥) → AreFor problem others games
    for_skipped not = record {
      left = λ card among. are.left card (has_there first card others among);
      each = λ card gone may. elim (first_or_none first card others gone) [
        | inl same ↦ absurd (not (subst (MayPlay problem) (sym same) may))
        | inr none ↦ are.each card none may
      ];
      from = are.from;
      room =
          let less = room_after (length games) 0 (length (first ∷ others)) (length others) (orders (own_count problem - 1)) (orders (own_count problem))
          are.room (omega arith) (omega arith) in
          omega (arith, less);
    }

    -- a card after which more games refute
    pub for_more : (more : List Game) → Refutes (longer problem (own_card first)) more →
        length more ≤ orders (own_count (longer problem (own_card first))) → AreFor problem others (games ++ more)
    unfolding with_more new_after
    for_more more refutes few = record {
      left = λ card among. are.left card (has_there first card others among);
      each = λ card gone may. elim (first_or_none first card others gone) [
        | inl same ↦ subst (HasAfter problem (games ++ more)) same (new_after problem games more first refutes)
        | inr none ↦ with_more problem games more card (are.each card none may)
      ];
      from = λ index game at. elim (of_either games more index game at) [
        | inl old ↦ (let found = are.from index game old in (found.0, with_more problem games more found.0 found.1, found.2, found.3))
        | inr new ↦ (first, new_after problem games more first refutes, new.0, new.1)
      ];
      room =
          let one = one_less problem first (are.left first (has_here first others)) in
          let few_here : length more ≤ orders (own_count problem - 1) =
          subst (λ (n : ℕ). length more ≤ orders n) (omega (arith, one)) few in
          subst (λ (n : ℕ). n + length others * orders (own_count problem - 1) ≤ orders (own_count problem)) (sym (length-append games more))
          (room_after (length games) (length more) (length (first ∷ others)) (length others) (orders (own_count problem - 1)) (orders (own_count problem))
          are.room (omega arith) few_here);
    }

  -- games for all cards refute, if the owner may play one
  pub for_all : (games : List Game) → AreFor problem [] games → (card : ℕ) → MayPlay problem card → Refutes problem games
  for_all games are card may =
      let after = are.each card refl may in
      let first = after.refutes.some in
      let found = after.among 0 first.0 first.1 in
      cards problem games (some_game games found.0 first.0 found.1) are.from (λ other can. are.each other refl can)
    where
      some_game : (games : List Game) (index : ℕ) (game : Game) → slice_get games index ≡ Some game → (first : Game) × (slice_get games 0 ≡ Some first)
      some_game [] index game at = absurd (none-some game at)
      some_game (first ∷ games) index game at = (first, refl)

  -- and they are few
  pub all_few : (games : List Game) → AreFor problem [] games → length games ≤ orders (own_count problem)
  all_few games are = omega (arith, are.room)

-- the first of the rest is left
pub first_left : {know : Knowledge} {problem : Setup} {rest others : List ℕ} {first : ℕ} {games : List Game} →
    KnowsAfter know problem (played_events problem) → AreFor problem rest games → rest ≡ first ∷ others → has know.own_left first ≡ true
first_left {know} {problem} {rest} {others} {first} {games} knows are is =
    ap (λ (k : Knowledge). has k.own_left first) knows.knowledge ∙ are.left first (ap (λ (cards : List ℕ). has cards first) is ∙ has_here first others)
