-- A worked example: whatever plan, two deals at least beat it. The opponent leads a king, the owner has four fours, and an ace
-- makes fifteen.
use Rattle.std.proofs.Common.{◌≡◌, ◌≢◌, ℕ, ◌≤◌, true, false, Bool, ◌&&◌, List, [], ◌∷◌, map, refl, sym}
use Rattle.std.proofs.Common.{ap, ◌∙◌, subst, inl, inr, arith}
use Rattle.std.specs.List.{AllByRecursion}
use Rattle.std.proofs.lemmas.Bool.{and_parts, both_ways}
use Rattle.std.proofs.lemmas.List.{append-nil}
use Rattle.crib_cards.proofs.Members.{has_cases}
use Rattle.crib_cards.specs.Sets.{has, set_where}
use Rattle.crib_cards.specs.Deals.{is_in_pack_order}
use Rattle.crib_cards.specs.declared.letters.Letter.TheVariants.{Seen}
use Rattle.crib_cards.specs.declared.moves.Move.TheVariants as move
use Rattle.crib_cards.specs.declared.moves.Move.{Move}
use Rattle.crib_cards.specs.declared.sides.Side.TheVariants.{Owner, Opponent}
use Rattle.crib_cards.specs.declared.sides.Dealt.{Dealt}
use Rattle.crib_play.specs.Legal.{fits, IsLegal, MayCome}
use Rattle.crib_play.specs.History.{Event, Own, Theirs, event_of, acts_of}
use Rattle.crib_show.specs.declared.show.outcomes.Outcome.TheVariants as outcome
use Rattle.crib_problem.specs.declared.problem.Version.TheVariants.{Two}
use Rattle.crib_problem.specs.declared.problem.Goal.TheVariants.{Win}
use Rattle.crib_problem.specs.Setup.{Setup, IsDealOf, start_of, hands_of}
use Rattle.crib_game.specs.Replay.{is_done_for, outcome_for, play_scores}
use Rattle.crib_plan.specs.declared.plan.Node.{Node}
use Rattle.crib_deals.specs.Exact.{IsIn, AreExactly}
use Rattle.crib_beaten.specs.Beaten.{Beats}
use Rattle.crib_bound.specs.Laws.{IsMultiple}
use Rattle.crib_bound.specs.Worth.{EachCard, MissesAfter, MayPlayAfter, IsWorthIf, IsStrategy}
use Rattle.crib_bound.specs.Worth.IsWorthIf.{Missed, Barred, Turn, Choice}
use Rattle.crib_bound.proofs.Plans.{plan}
use Rattle.crib_show.specs.Outcome.{outcome_from}

abbrev fours : List ℕ
fours = 12 ∷ 13 ∷ 14 ∷ 15 ∷ []

abbrev pub problem : Setup
problem = record {
  version = Two;
  dealer = Owner;
  scores = record { owner = 0; opponent = 120 };
  starter = 49;
  hold = fours;
  thrown = 20 ∷ 21 ∷ [];
  goal = Win;
  played = [];
}

-- three aces and a king
abbrev with_throw : List ℕ → Dealt
with_throw throw = record { hold = 0 ∷ 1 ∷ 2 ∷ 48 ∷ []; throw = throw }

abbrev deals : List Dealt
deals = with_throw (28 ∷ 29 ∷ []) ∷ with_throw (28 ∷ 30 ∷ []) ∷ []

each_is_a_deal : AllByRecursion (IsDealOf problem) deals
unfolding set_where
each_is_a_deal = (
  record { deal = record { held = refl; thrown = refl; distinct = refl; hidden_before = refl }; fixed = refl },
  (record { deal = record { held = refl; thrown = refl; distinct = refl; hidden_before = refl }; fixed = refl }, tt),
)

-- a king, a four, an ace
abbrev after_king : List Event
after_king = Theirs (Seen 13) ∷ []

abbrev after_ace : ℕ → List Event
after_ace card = Theirs (Seen 1) ∷ Own (move.Card card) ∷ after_king

abbrev king_led : List Move
king_led = move.Card 48 ∷ []

king_is_led : (throw : List ℕ) → IsLegal (start_of problem) (hands_of problem (with_throw throw)) king_led
king_is_led throw = (tt, record { not_done = refl; may_take = (refl, refl) })

abbrev fifteen : ℕ → List Move
fifteen card = move.Card 0 ∷ move.Card card ∷ king_led

lost : (throw : List ℕ) → IsDealOf problem (with_throw throw) → (card : ℕ) →
    MayCome (start_of problem) (hands_of problem (with_throw throw)) (move.Card card) king_led →
    MayCome (start_of problem) (hands_of problem (with_throw throw)) (move.Card 0) (move.Card card ∷ king_led) →
    is_done_for problem (fifteen card) ≡ true → map event_of (acts_of Opponent (fifteen card)) ≡ after_ace card →
    outcome_for problem (with_throw throw) (play_scores problem (fifteen card)) ≡ outcome.Lost →
    MissesAfter event_of problem (after_ace card) (with_throw throw)
lost throw deal card four ace done seen end = record {
  played = fifteen card;
  looks = record {
    deal = deal;
    legal = ((king_is_led throw, four), ace);
    begins = record { later = acts_of Opponent (fifteen card); parts = sym (append-nil (acts_of Opponent (fifteen card))) };
    seen = seen;
  };
  missed = record { done = done; missed = λ reached. (let is_reached : outcome.Lost ≡ outcome.Reached = sym end ∙ reached in cc) };
}

each_lost : (throw : List ℕ) → IsDealOf problem (with_throw throw) →
    AllByRecursion (λ card. MissesAfter event_of problem (after_ace card) (with_throw throw)) fours
unfolding outcome_from
each_lost throw deal = (
  lost throw deal 12 (record { not_done = refl; may_take = (refl, refl) }) (record { not_done = refl; may_take = (refl, refl) }) refl refl refl,
  (
    lost throw deal 13 (record { not_done = refl; may_take = (refl, refl) }) (record { not_done = refl; may_take = (refl, refl) }) refl refl refl,
    (
      lost throw deal 14 (record { not_done = refl; may_take = (refl, refl) }) (record { not_done = refl; may_take = (refl, refl) }) refl refl refl,
      (lost throw deal 15 (record { not_done = refl; may_take = (refl, refl) }) (record { not_done = refl; may_take = (refl, refl) }) refl refl refl, tt),
    ),
  ),
)

each_four : (P : ℕ → Type 0) (xs : List ℕ) → AllByRecursion P xs → (card : ℕ) → has xs card ≡ true → P card
each_four P [] all card h = absurd (both_ways false refl h)
each_four P (x ∷ xs) all card h = elim (has_cases x card xs h) [ inl here ↦ subst P here all.0 | inr there ↦ each_four P xs all.1 card there ]

lost_with : (throw : List ℕ) → IsDealOf problem (with_throw throw) → (card : ℕ) → has fours card ≡ true →
    MissesAfter event_of problem (after_ace card) (with_throw throw)
lost_with throw deal = each_four (λ card. MissesAfter event_of problem (after_ace card) (with_throw throw)) fours (each_lost throw deal)

abbrev any_four : ℕ → Bool
any_four card = has fours card && fits king_led card

fours_may_be_played : (throw : List ℕ) → IsDealOf problem (with_throw throw) → MayPlayAfter event_of problem after_king any_four (with_throw throw)
fours_may_be_played throw deal = record {
  played = king_led;
  looks = record { deal = deal; legal = king_is_led throw; begins = record { later = acts_of Opponent king_led; parts = refl }; seen = refl };
  not_done = refl;
  asked = refl;
  cards = λ card. refl;
}

-- what holds of both deals
each_deal : (P : Dealt → Type 0) → ((throw : List ℕ) → IsDealOf problem (with_throw throw) → P (with_throw throw)) → (dealt : Dealt) →
    IsIn dealt deals → P dealt
each_deal P each dealt (inl e) = subst P e (each (28 ∷ 29 ∷ []) each_is_a_deal.0)
each_deal P each dealt (inr (inl e)) = subst P e (each (28 ∷ 30 ∷ []) each_is_a_deal.1.0)
each_deal P each dealt (inr (inr none)) = absurd none

abbrev one_each : Dealt → ℕ
one_each dealt = 1

king_then_ace : IsWorthIf event_of problem EachCard deals [] one_each 2
king_then_ace =
    Turn [] one_each 2 (Theirs (Seen 13)) (λ card is. absurd cc)
    (Choice after_king one_each 2 any_four 12 refl tt
    (λ dealt h some. each_deal (MayPlayAfter event_of problem after_king any_four) fours_may_be_played dealt h)
    (λ card may allowed. Turn (Own (move.Card card) ∷ after_king) one_each 2 (Theirs (Seen 1)) (λ other is. absurd cc)
    (Missed (after_ace card) one_each (λ dealt h some.
    each_deal (MissesAfter event_of problem (after_ace card)) (λ throw deal. lost_with throw deal card (and_parts _ _ may).0) dealt h))))

-- where no card is allowed, all is lost at the owner's turn
barred : IsWorthIf event_of problem (λ turns card. ⊥) deals [] one_each 2
barred =
    Turn [] one_each 2 (Theirs (Seen 13)) (λ card is. absurd cc)
    (Barred after_king one_each any_four 12 refl
    (λ dealt h some. each_deal (MayPlayAfter event_of problem after_king any_four) fours_may_be_played dealt h) (λ card may none. none))

two_deals : with_throw (28 ∷ 29 ∷ []) ≢ with_throw (28 ∷ 30 ∷ [])
two_deals same = both_ways false refl (ap (λ (dealt : Dealt). has dealt.throw 30) same)

both_in_order : (dealt : Dealt) → IsIn dealt deals → is_in_pack_order dealt ≡ true
both_in_order dealt (inl e) = ap is_in_pack_order (sym e)
both_in_order dealt (inr (inl e)) = ap is_in_pack_order (sym e)
both_in_order dealt (inr (inr none)) = absurd none

strategy : IsStrategy event_of problem 1 2
strategy = record {
  deals = deals;
  different = ((two_deals, tt), (tt, tt));
  in_order = both_in_order;
  amounts = one_each;
  few = λ dealt h. omega arith;
  worth = king_then_ace;
}

pub two_at_least : (nodes : List Node) (count : ℕ) → AreExactly (Beats problem nodes) count → 2 ≤ count
two_at_least nodes count exact = omega (arith, plan problem 1 2 count nodes strategy exact)

-- ---- units
-- with two holds go 1,640 deals, and a thousand deals go with no number of holds
pub deals_of_two_holds : IsMultiple 1640 820
deals_of_two_holds = (2, refl)

pub a_thousand_deals : IsMultiple 1000 820 → ⊥
a_thousand_deals many = let is = many.1 in absurd (omega (arith, is))
