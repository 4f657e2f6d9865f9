-- The fixed cards: those that the opponent played in the opening.
use Rattle.std.proofs.Common.{rules}
use Rattle.std.proofs.Common.{◌≡◌, ℕ, true, false, not, ◌||◌, eqb, cond, List, [], ◌∷◌, Some, None, ap}
use Rattle.std.proofs.lemmas.Bool.{false_from_ne_true, or_parts, or_right, both_ways}
use Rattle.crib_cards.specs.Cards.{IsCard}
use Rattle.crib_cards.specs.Sets.{has, are_distinct}
use Rattle.crib_cards.specs.declared.sides.Side.{Side}
use Rattle.crib_cards.specs.declared.sides.Side.TheVariants.{Owner, Opponent}
use Rattle.crib_cards.specs.declared.moves.Move.{Move}
use Rattle.crib_cards.specs.declared.moves.Move.TheVariants as move
use Rattle.crib_cards.specs.declared.moves.Act.{Act}
use Rattle.crib_problem.specs.Played.{OpeningBasis, cards_with, cards_played, cards_by, seen_by, shows_seen, turn_refusal, asked_by}
use Rattle.crib_problem.specs.Played.{count_by_acts, own_left_by, least_by, is_over_by, act_refusal, AreAllowed}
use Rattle.crib_problem.specs.Refusals.{already_over}
use Rattle.crib_problem.specs.Setup.{Setup, IsSetup, IsMove, known_cards, unseen_of, opening_basis_of, played_back, fixed_cards}
use Rattle.crib_problem.proofs.Setups.{AllMoves}
use Rattle.crib_problem.proofs.AskedHolds.{none_of_either, MayTurn, may_turn}
use Rattle.crib_know.proofs.CardLists.{has_set_from, each_member}
use Rattle.crib_problem.proofs.HonestTurns.{moves_back}
use Rattle.crib_cards.proofs.Members.{AreCards}

-- ---- what holds of an act that is allowed
abbrev pub Allowed : OpeningBasis → List Act → Act → Type 0
Allowed basis before act =
    MayTurn (seen_by basis before) (asked_by basis before) (count_by_acts basis before) (own_left_by basis before) (least_by basis before) act

pub allowed_parts : (basis : OpeningBasis) (before : List Act) (act : Act) → act_refusal basis before act ≡ None → Allowed basis before act
allowed_parts basis before act e =
    may_turn (seen_by basis before) (asked_by basis before) (count_by_acts basis before) (own_left_by basis before) (least_by basis before) act
    (none_of_either (turn_refusal (seen_by basis before) (asked_by basis before) (count_by_acts basis before) (own_left_by basis before)
    (least_by basis before) act) (cond (is_over_by basis (act ∷ before)) (Some already_over) None) e).0

-- ---- the opponent's cards among acts
-- the opponent's cards among the acts are cards of the pack, all different, and none of the known ones
pub record AreShown (basis : OpeningBasis) (acts : List Act) : Type 0 where
  pub cards : AreCards (cards_by Opponent acts)
  pub distinct : are_distinct (cards_by Opponent acts) ≡ true
  pub unknown : (card : ℕ) → has (cards_by Opponent acts) card ≡ true → has basis.known card ≡ false
  pub played : (card : ℕ) → has (cards_by Opponent acts) card ≡ true → has (cards_played acts) card ≡ true

-- a move adds its card to those played
played_on : (what : Move) (cards : List ℕ) (card : ℕ) → has cards card ≡ true → has (cards_with what cards) card ≡ true
played_on (move.Card first) cards card h = or_right (eqb first card) (has cards card) h
played_on move.Go cards card h = h

pub shown_card : (basis : OpeningBasis) (before : List Act) (card : ℕ) → IsCard card → has (seen_by basis before) card ≡ false → (has basis.known card ≡ false)
    ×
    (has (cards_played before) card ≡ false)
shown_card basis before card is e =
    or_parts (has basis.known card) (has (cards_played before) card) (false_from_ne_true (has basis.known card || has (cards_played before) card)
    (λ seen. both_ways (has (seen_by basis before) card) e (has_set_from (λ c. has basis.known c || has (cards_played before) c) card is seen)))

next_shown : (basis : OpeningBasis) (before : List Act) (side : Side) (what : Move) → AreShown basis before → IsMove what →
    shows_seen (seen_by basis before) side what ≡ false → AreShown basis (record { side = side; what = what } ∷ before)
next_shown basis before Owner what shown is e = search (rules, shown.cards, shown.distinct, shown.unknown, played_on what (cards_played before))
next_shown basis before Opponent move.Go shown is e = assumption
next_shown basis before Opponent (move.Card first) shown is e =
    search (rules, shown_card basis before first is e, false_from_ne_true, shown.played first, each_member, shown.cards, shown.distinct, shown.unknown)

pub are_shown : (basis : OpeningBasis) (acts : List Act) → AllMoves acts → AreAllowed basis acts → AreShown basis acts
are_shown basis [] moves allowed = search rules
are_shown basis (act ∷ before) moves allowed =
    next_shown basis before act.side act.what (are_shown basis before moves.1 allowed.0) moves.0 (allowed_parts basis before act allowed.1).unseen

-- ---- the fixed cards of a problem
module _ (problem : Setup) (setup : IsSetup problem) where
  pub back_moves : AllMoves (played_back problem)
  back_moves = moves_back problem.played setup.moves

  shown : AreShown (opening_basis_of problem) (played_back problem)
  shown = are_shown (opening_basis_of problem) (played_back problem) back_moves setup.allowed

  pub fixed_are_cards : AreCards (fixed_cards problem)
  fixed_are_cards = shown.cards

  pub fixed_distinct : are_distinct (fixed_cards problem) ≡ true
  fixed_distinct = shown.distinct

  pub fixed_unseen : (card : ℕ) → has (fixed_cards problem) card ≡ true → has (unseen_of problem) card ≡ true
  fixed_unseen card h = has_set_from (λ c. not (has (known_cards problem) c)) card (shown.cards card h) (ap not (shown.unknown card h))
