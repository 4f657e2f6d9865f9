-- Bounds on legal records: at most three gos follow a card, and there are at most 29 turns.
use Rattle.std.proofs.Common.{rules}
use Rattle.crib_play.specs.Laws.{GosLaw, FirstTurnLaw, LengthLaw, HighGoLaw}
use Rattle.std.proofs.Common.{◌≡◌, ℕ, ◌+◌, ◌-◌, ◌*◌, ◌≤◌, Bool, true, false, cond, not, ◌&&◌, eqb, List, [], ◌∷◌, length, length-append, refl}
use Rattle.std.proofs.Common.{sym, ap, ◌∙◌, inl, inr, arith}
use Rattle.std.specs.List.{list_any}
use Rattle.std.proofs.lemmas.Bool.Decides.{nat_tests}
use Rattle.std.proofs.Math.Bool.{and-true, and-false}
use Rattle.std.proofs.lemmas.Bool.{cases_Bool, or_parts, both_ways, false≢true, true≢false, le-leb, eqb-false}
use Rattle.crib_cards.specs.Cards.{rank_of, card_value}
use Rattle.crib_cards.specs.Sides.{other_side, same_side, are_decided}
use Rattle.crib_cards.specs.Start.{Start, pone_of, Hands}
use Rattle.crib_cards.specs.declared.sides.Side.{Side}
use Rattle.crib_cards.specs.declared.sides.Side.TheVariants.{Owner, Opponent}
use Rattle.crib_cards.specs.declared.letters.Letter.{Letter}
use Rattle.crib_cards.specs.declared.letters.Letter.TheVariants.{Seen, Go}
use Rattle.crib_play.specs.Record.{Record, cards_in, is_begun, sequence_of, pile_of, closes, mover, cards_played}
use Rattle.crib_play.specs.Score.{scores_after, is_done}
use Rattle.crib_play.proofs.RecordStates.{is_go_first, first_card, closes-go}
use Rattle.crib_play.proofs.SilentGos.{other_twice}
use Rattle.crib_cards.specs.declared.moves.Move.{Move}
use Rattle.crib_cards.specs.declared.moves.Move.TheVariants as move
use Rattle.crib_play.specs.Legal.{IsDealt, letters_of, cards_left, fits, MayTake, MayCome, IsLegal}
use Rattle.crib_play.specs.History.{gos_since}
use Rattle.crib_play.proofs.TurnFacts.{Play, play_of, played_card, played_go, high_go}

-- ---- cards played and cards left
pub played_both : (pone : Side) (past : Record) → length (cards_in past) ≡ cards_played pone Owner past + cards_played pone Opponent past
played_both pone [] = omega arith
played_both pone (Seen rank ∷ past) =
    rw (played_card pone Owner past rank, played_card pone Opponent past rank, length-append (cards_in past) (rank ∷ []))
    (one_more (mover pone past) (length (cards_in past)) (cards_played pone Owner past) (cards_played pone Opponent past) (played_both pone past))
  where
    one_more : (m : Side) (k a b : ℕ) → k ≡ a + b → k + 1 ≡ cond (same_side m Owner) (a + 1) a + cond (same_side m Opponent) (b + 1) b
    one_more Owner k a b e = omega arith
    one_more Opponent k a b e = omega arith
played_both pone (Go ∷ past) = rw (played_go pone Owner past, played_go pone Opponent past) (played_both pone past)

module _ (start : Start) (hands : Hands) (past : List Move) (p : Play start hands past) where
  -- at most eight cards are played in a legal record
  pub eight_at_most : length (cards_in (letters_of past)) ≤ 8
  eight_at_most = omega (arith, played_both (pone_of start) (letters_of past), p.left Owner, p.left Opponent)

  -- where neither side holds a card, eight are played
  eight_by : (m : Side) → length (cards_left hands m past) ≡ 0 → length (cards_left hands (other_side m) past) ≡ 0 → length (cards_in (letters_of past)) ≡ 8
  eight_by Owner a b = omega (arith, played_both (pone_of start) (letters_of past), p.left Owner, p.left Opponent)
  eight_by Opponent a b = omega (arith, played_both (pone_of start) (letters_of past), p.left Owner, p.left Opponent)

pub not_eight : (start : Start) (past : Record) → is_done start past ≡ false → length (cards_in past) ≡ 8 → ⊥
not_eight start past d e =
    eqb-false (length (cards_in past)) 8 (or_parts (are_decided start.target (scores_after start past)) (eqb (length (cards_in past)) 8) d).1 e

-- ---- an empty pile
none_begun : (pile : List ℕ) → is_begun pile ≡ false → pile ≡ []
none_begun [] e = refl
none_begun (rank ∷ pile) e = absurd (true≢false e)

all_fit : (past : List Move) → is_begun (pile_of (letters_of past)) ≡ false → (card : ℕ) → fits past card ≡ true
all_fit past e card = rw (none_begun (pile_of (letters_of past)) e) (le-leb (0 + card_value card) 31 (omega arith))

none_where_all : (f : ℕ → Bool) → ((x : ℕ) → f x ≡ true) → (xs : List ℕ) → list_any f xs ≡ false → length xs ≡ 0
none_where_all f all [] e = refl
none_where_all f all (x ∷ xs) e = absurd (both_ways (f x) (or_parts (f x) (list_any f xs) e).0 (all x))

-- a player who says go over an empty pile holds no card
pub out_of_cards : (hands : Hands) (side : Side) (past : List Move) → is_begun (pile_of (letters_of past)) ≡ false → MayTake hands side move.Go past →
    length (cards_left hands side past) ≡ 0
out_of_cards hands side past e none = none_where_all (fits past) (all_fit past e) (cards_left hands side past) none

-- no go comes before the first card
no_first_go : (start : Start) (hands : Hands) → IsDealt hands → MayCome start hands move.Go [] → ⊥
no_first_go start hands dealt may = search (rules, play_of start hands dealt [] tt, out_of_cards hands (pone_of start) [])

-- ---- the gos after a card
-- how many gos at most follow the last card, by whether the last turn is a go in this count and whether the pile has a card. A pile that has a card has at most
-- one go over it, as the last turn. Two gos close a pile, and a third one follows only where its player has no card left
abbrev most_gos : Bool → Bool → ℕ
most_gos went begun = cond begun (cond went 1 0) (cond went 3 2)

-- one go more closes the pile if it is the second one over it
most_more : (went begun : Bool) (n : ℕ) → (went ≡ true → begun ≡ true) → n ≤ most_gos went begun →
    n + 1 ≤ most_gos (not (went && begun)) (begun && not (went && begun))
most_more true true n on few = omega arith
most_more true false n on few = absurd (false≢true (on refl))
most_more false true n on few = omega arith
most_more false false n on few = omega arith

go_first : (c : Bool) (recent : List Letter) → is_go_first (cond c [] (Go ∷ recent)) ≡ not c
go_first c recent = grind (arith, nat_tests)

go_begun : (c : Bool) (recent : List Letter) → is_begun (cards_in (cond c [] (Go ∷ recent))) ≡ (is_begun (cards_in recent) && not c)
go_begun true recent = sym (and-false (is_begun (cards_in recent)))
go_begun false recent = sym (and-true (is_begun (cards_in recent)))

pub record Bounds (start : Start) (hands : Hands) (past : List Move) : Type 0 where
  pub gos : gos_since (letters_of past) ≤ most_gos (is_go_first (sequence_of (letters_of past))) (is_begun (pile_of (letters_of past)))
  pub out : is_begun (pile_of (letters_of past)) ≡ false → is_go_first (sequence_of (letters_of past)) ≡ true →
      length (cards_left hands (other_side (mover (pone_of start) (letters_of past))) past) ≡ 0
  pub first : length (cards_in (letters_of past)) ≡ 0 → past ≡ []
  pub long : length past + 3 ≤ 4 * length (cards_in (letters_of past)) + gos_since (letters_of past) + 3 * (1 - length (cards_in (letters_of past)))

at_most_three : (start : Start) (hands : Hands) (past : List Move) → Bounds start hands past → gos_since (letters_of past) ≤ 3
at_most_three start hands past b = grind (arith, nat_tests, b.gos)

long_card : (n k more g : ℕ) → more ≡ k + 1 → g ≤ 3 → n + 3 ≤ 4 * k + g + 3 * (1 - k) → (k ≡ 0 → n ≡ 0) → n + 1 + 3 ≤ 4 * more + 0 + 3 * (1 - more)
long_card n k more g e three long none = search rules

bounds_card : (start : Start) (hands : Hands) (past : List Move) (card : ℕ) → Bounds start hands past → Bounds start hands (move.Card card ∷ past)
bounds_card start hands past card b =
    let number : length (cards_in (letters_of (move.Card card ∷ past))) ≡ length (cards_in (letters_of past)) + 1 =
    length-append (cards_in (letters_of past)) (rank_of card ∷ []) in
    let empty : length (cards_in (letters_of past)) ≡ 0 → length past ≡ 0 = λ e. ap (λ (moves : List Move). length moves) (b.first e) in
    let long = long_card (length past) (length (cards_in (letters_of past))) (length (cards_in (letters_of (move.Card card ∷ past))))
    (gos_since (letters_of past)) number (at_most_three start hands past b) b.long empty in
    record {
      gos = omega arith;
      out = λ _ e. absurd
          (both_ways (is_go_first (sequence_of (letters_of (move.Card card ∷ past))))
          (first_card (closes (Seen (rank_of card)) (letters_of past)) (rank_of card) (sequence_of (letters_of past))) e);
      first = λ e. absurd (omega (arith, number, e));
      long = omega (arith, long);
    }

module _ (start : Start) (hands : Hands) (dealt : IsDealt hands) (past : List Move) (p : Play start hands past) (may : MayCome start hands move.Go past)
    (b : Bounds start hands past) where
  abbrev recent : List Letter
  recent = sequence_of (letters_of past)

  abbrev begun : Bool
  begun = is_begun (pile_of (letters_of past))

  -- there is no second go over an empty pile
  never_twice : is_go_first recent ≡ true → begun ≡ true
  never_twice went =
      elim (cases_Bool begun) [
        | inl on ↦ on
        | inr off ↦ absurd
            (not_eight start (letters_of past) may.not_done
            (eight_by start hands past p (mover (pone_of start) (letters_of past))
            (out_of_cards hands (mover (pone_of start) (letters_of past)) past off may.may_take) (b.out off went)))
      ]

  bounds_go : Bounds start hands (move.Go ∷ past)
  bounds_go = record {
    gos = rw (go_first (closes Go (letters_of past)) recent, go_begun (closes Go (letters_of past)) recent, closes-go start (letters_of past))
        (most_more (is_go_first recent) begun (gos_since (letters_of past)) never_twice b.gos);
    out = λ off went. elim (cases_Bool (closes Go (letters_of past))) [
      | inl shut ↦ absurd (false≢true (rw shut at went))
      | inr open_now ↦
          ap (λ (side : Side). length (cards_left hands side past)) (other_twice (mover (pone_of start) (letters_of past)))
          ∙ out_of_cards hands (mover (pone_of start) (letters_of past)) past (rw open_now at off) may.may_take
    ];
    first = λ e. absurd (no_first_go start hands dealt (rw (b.first e) at may));
    long = (let long = b.long in omega (arith, long));
  }

bounds_turn : (start : Start) (hands : Hands) → IsDealt hands → (turn : Move) (past : List Move) → Play start hands past → MayCome start hands turn past →
    Bounds start hands past → Bounds start hands (turn ∷ past)
bounds_turn start hands dealt (move.Card card) past p may b = bounds_card start hands past card b
bounds_turn start hands dealt move.Go past p may b = bounds_go start hands dealt past p may b

pub bounds_of : (start : Start) (hands : Hands) → IsDealt hands → (past : List Move) → IsLegal start hands past → Bounds start hands past
bounds_of start hands dealt [] legal = record { gos = omega arith; out = λ _ e. absurd (false≢true e); first = λ _. refl; long = omega arith }
bounds_of start hands dealt (turn ∷ past) legal =
    bounds_turn start hands dealt turn past (play_of start hands dealt past legal.0) legal.1 (bounds_of start hands dealt past legal.0)

-- ---- the laws
pub three_gos : GosLaw
three_gos start hands played dealt legal = at_most_three start hands played (bounds_of start hands dealt played legal)

pub no_first_turn : FirstTurnLaw
no_first_turn start hands played dealt legal = (bounds_of start hands dealt played legal).first

long_turn : (start : Start) (hands : Hands) (turn : Move) (past : List Move) → Play start hands (turn ∷ past) → MayCome start hands turn past →
    Bounds start hands (turn ∷ past) → length (turn ∷ past) ≤ 29
long_turn start hands (move.Card card) past p may b =
    search (rules, eight_at_most start hands (move.Card card ∷ past) p, length-append (cards_in (letters_of past)) (rank_of card ∷ []))
long_turn start hands move.Go past p may b =
    search (rules, at_most_three start hands (move.Go ∷ past) b, eight_at_most start hands (move.Go ∷ past) p, not_eight start (letters_of past) may.not_done)

pub at_most_29 : LengthLaw
at_most_29 start hands [] dealt legal = omega arith
at_most_29 start hands (turn ∷ past) dealt legal =
    long_turn start hands turn past (play_of start hands dealt (turn ∷ past) legal) legal.1 (bounds_of start hands dealt (turn ∷ past) legal)

pub high_visible_go : HighGoLaw
high_visible_go start hands past dealt legal heard =
    high_go start hands past (play_of start hands dealt past legal.0) (mover (pone_of start) (letters_of past)) legal.1.may_take heard
