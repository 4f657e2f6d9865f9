-- How many cards the owner has left after one more turn, and in how many orders they can be played.
use Rattle.std.proofs.Common.{◌≡◌, ℕ, zero, suc, ◌+◌, ◌-◌, ◌*◌, ◌≤◌, true, not, List, ◌∷◌, length, map, sym, ap, subst, ◌∙◌, arith}
use Rattle.crib_cards.specs.Sets.{has, set_of, set_without}
use Rattle.crib_cards.specs.declared.moves.Move.{Move}
use Rattle.crib_cards.specs.declared.moves.Act.{Act}
use Rattle.crib_cards.proofs.LowestCard.{in_set}
use Rattle.crib_cards.proofs.Members.{AreAmong}
use Rattle.crib_cards.proofs.SetCounts.{length-count_all, length-set_without}
use Rattle.crib_cards.proofs.SetFacts.{IsCardSet-set_of, has-set_of, in_set_where}
use Rattle.crib_play.specs.History.{event_of}
use Rattle.crib_problem.specs.Setup.{Setup, IsSetup}
use Rattle.crib_problem.proofs.StartLemmas.{hold_four}
use Rattle.crib_know.specs.Knowledge.{own_cards, own_left, played_events}
use Rattle.crib_know.proofs.CallLemmas.{left_less}
use Rattle.crib_know.proofs.CardsLeft.{has-filter_parts}
use Rattle.crib_know.proofs.DealLists.{count_rest}
use Rattle.crib_players.specs.Players.{own_card}
use Rattle.crib_players.specs.Laws.{longer}
use Rattle.crib_players.proofs.Longer.{back}
use Rattle.crib_why.proofs.SureAfter.{own_go, theirs}
use Rattle.crib_why.specs.Private.Search.{orders, own_count}

module _ (problem : Setup) where
  events_after : (act : Act) → played_events (longer problem act) ≡ event_of act ∷ played_events problem
  events_after act = ap (map event_of) (back problem act)

  left_after : (act : Act) → own_left (longer problem act) (played_events (longer problem act)) ≡ own_left problem (event_of act ∷ played_events problem)
  left_after act = ap (own_left problem) (events_after act)

  -- a card of the owner leaves one less
  pub one_less : (card : ℕ) → has (own_left problem (played_events problem)) card ≡ true → own_count problem ≡ own_count (longer problem (own_card card)) + 1
  one_less card left =
      let now = own_left problem (played_events problem) in
      let set = IsCardSet-set_of _ in
      let less : set_without now card ≡ own_left (longer problem (own_card card)) (played_events (longer problem (own_card card))) =
      left_less problem.hold (own_cards (played_events problem)) card ∙ sym (left_after (own_card card)) in
      length-set_without now card set (in_set now card set left) left ∙ ap (λ (cards : List ℕ). length cards + 1) less

  -- another turn leaves as many
  pub same_after_go : own_count (longer problem own_go) ≡ own_count problem
  same_after_go = ap length (left_after own_go)

  pub same_after_theirs : (what : Move) → own_count (longer problem (theirs what)) ≡ own_count problem
  same_after_theirs what = ap length (left_after (theirs what))

-- before the first card there is room for the games of each
pub room_start : (left : ℕ) → left * orders (left - 1) ≤ orders left
room_start zero = omega arith
room_start (suc others) =
    let same : suc others - 1 ≡ others = omega arith in
    subst (λ (n : ℕ). suc others * orders n ≤ suc others * orders others) (sym same) (omega arith)

-- there is always one order
pub some_order : (count : ℕ) → 1 ≤ orders count
some_order zero = omega arith
some_order (suc others) = let before = some_order others in omega (arith, before)

few_of_four : (count : ℕ) → count ≤ 4 → orders count ≤ 24
few_of_four zero few = omega arith
few_of_four (suc zero) few = omega arith
few_of_four (suc (suc zero)) few = omega arith
few_of_four (suc (suc (suc zero))) few = omega arith
few_of_four (suc (suc (suc (suc zero)))) few = omega arith
few_of_four (suc (suc (suc (suc (suc more))))) few = absurd (omega (arith, few))

-- the owner has at most four cards, so there are at most 24 games
pub at_most : (problem : Setup) → IsSetup problem → orders (own_count problem) ≤ 24
at_most problem setup =
    let left = own_left problem (played_events problem) in
    let rest = count_rest (λ _. true) left (set_of problem.hold) (IsCardSet-set_of _) (IsCardSet-set_of _) among in
    few_of_four (own_count problem) (omega (arith, rest, length-count_all left, length-count_all (set_of problem.hold), hold_four problem setup))
  where
    among : AreAmong (set_of problem.hold) (own_left problem (played_events problem))
    among card left =
        let here = in_set_where _ card left in
        let held = has-filter_parts (λ c. not (has (own_cards (played_events problem)) c)) problem.hold card here.1 in
        has-set_of problem.hold card here.0 ∙ held.0
