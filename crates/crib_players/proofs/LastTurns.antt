-- Legal records by the acts that they end with.
use Rattle.std.proofs.Common.{◌≡◌, ◌⊎◌, ℕ, not, true, false, List, [], ◌∷◌, ◌++◌, refl, sym, ap, subst, ◌∙◌, inl, inr}
use Rattle.std.proofs.lemmas.Bool.{cases_Bool, both_ways, and_parts}
use Rattle.crib_cards.specs.Sets.{has}
use Rattle.crib_cards.specs.Letters.{letter_of}
use Rattle.crib_cards.specs.Start.{Start, Hands, pone_of}
use Rattle.crib_cards.specs.declared.sides.Side.{Side}
use Rattle.crib_cards.specs.declared.sides.Side.TheVariants.{Owner, Opponent}
use Rattle.crib_cards.specs.declared.moves.Move.{Move}
use Rattle.crib_cards.specs.declared.moves.Move.TheVariants as move
use Rattle.crib_cards.specs.declared.moves.Act.{Act}
use Rattle.crib_cards.proofs.Members.{has_cases}
use Rattle.crib_cards.proofs.SetFacts.{has-filter}
use Rattle.crib_play.specs.Record.{mover}
use Rattle.crib_play.specs.Score.{is_done}
use Rattle.crib_play.specs.Filled.{is_visible}
use Rattle.crib_play.specs.Standing.{IsStart}
use Rattle.crib_play.specs.Legal.{letters_of, cards_of, cards_left, fits, IsDealt, MayTake, MayCome, IsLegal}
use Rattle.crib_play.specs.History.{acts_of, act_by, filled_moves, moves_of}
use Rattle.crib_play.proofs.FilledRecords.{acts_visible, acts_silent}
use Rattle.crib_play.proofs.LegalRecords.{filled_before}
use Rattle.crib_problem.specs.Played.{cards_by}

-- ---- lists of acts
-- acts that are some others, or go on after them
pub record GoOn (acts before : List Act) : Type 0 where
  pub act : Act
  pub later : List Act
  pub parts : acts ≡ later ++ act ∷ before

on_from : (act : Act) (later before : List Act) → GoOn (act ∷ later ++ before) before
on_from act [] before = record { act = act; later = []; parts = refl }
on_from act (next ∷ later) before =
    let rest = on_from next later before in record { act = rest.act; later = act ∷ rest.later; parts = ap (λ (acts : List Act). act ∷ acts) rest.parts }

pub go_on : (later before : List Act) → (later ++ before ≡ before) ⊎ GoOn (later ++ before) before
go_on [] before = inl refl
go_on (act ∷ later) before = inr (on_from act later before)

pub heads : (act other : Act) (acts others : List Act) → act ∷ acts ≡ other ∷ others → act ≡ other
heads act other acts others same = cc

tails : (act other : Act) (acts others : List Act) → act ∷ acts ≡ other ∷ others → acts ≡ others
tails act other acts others same = cc

no_acts : (later before : List Act) (act : Act) → [] ≡ later ++ act ∷ before → ⊥
no_acts [] before act same = cc
no_acts (next ∷ later) before act same = cc

-- ---- a legal record whose last turn is visible: this act, after those before it
pub record LastTurn (start : Start) (hands : Hands) (act : Act) (before : List Act) : Type 0 where
  pub turn : Move
  pub past : List Move
  pub legal : IsLegal start hands (turn ∷ past)
  pub shows : acts_of (pone_of start) (turn ∷ past) ≡ act ∷ before
  pub is : act_by (pone_of start) turn past ≡ act
  pub filled : past ≡ filled_moves start (moves_of before)

module _ (start : Start) (hands : Hands) (is : IsStart start) (dealt : IsDealt hands) where
  abbrev pone : Side
  pone = pone_of start

  last_here : (turn : Move) (past : List Move) (act : Act) (before : List Act) → IsLegal start hands (turn ∷ past) →
      is_visible pone (letter_of turn) (letters_of past) ≡ true → acts_of pone (turn ∷ past) ≡ act ∷ before → LastTurn start hands act before
  last_here turn past act before legal v shows =
      let same = sym (acts_visible pone turn past v) ∙ shows in
      record {
        turn = turn;
        past = past;
        legal = legal;
        shows = shows;
        is = heads (act_by pone turn past) act (acts_of pone past) before same;
        filled = sym (filled_before start hands turn past is dealt legal.0 legal.1 v)
            ∙ ap (λ (acts : List Act). filled_moves start (moves_of acts)) (tails (act_by pone turn past) act (acts_of pone past) before same);
      }

  -- a legal record with some acts begins with one that has these acts, but for some of the last ones
  pub last_turn : (played : List Move) (later before : List Act) (act : Act) → IsLegal start hands played → acts_of pone played ≡ later ++ act ∷ before →
      LastTurn start hands act before
  last_turn [] later before act legal shows = absurd (no_acts later before act shows)
  last_turn (turn ∷ past) [] before act legal shows =
      elim (cases_Bool (is_visible pone (letter_of turn) (letters_of past))) [
        | inl v ↦ last_here turn past act before legal v shows
        | inr v ↦ last_turn past [] before act legal.0 (sym (acts_silent pone turn past v) ∙ shows)
      ]
  last_turn (turn ∷ past) (next ∷ later) before act legal shows =
      elim (cases_Bool (is_visible pone (letter_of turn) (letters_of past))) [
        | inl v ↦ last_turn past later before act legal.0
            (tails (act_by pone turn past) next (acts_of pone past) (later ++ act ∷ before) (sym (acts_visible pone turn past v) ∙ shows))
        | inr v ↦ last_turn past (next ∷ later) before act legal.0 (sym (acts_silent pone turn past v) ∙ shows)
      ]

  -- a record after which the owner may play a card is the filled record of its acts
  pub before_card : (past : List Move) (acts : List Act) (card : ℕ) → IsLegal start hands past → acts_of pone past ≡ acts →
      is_done start (letters_of past) ≡ false → mover pone (letters_of past) ≡ Owner → has (cards_left hands Owner past) card ≡ true →
      fits past card ≡ true → past ≡ filled_moves start (moves_of acts)
  before_card past acts card legal shows going who left fit =
      let may : MayCome start hands (move.Card card) past = record {
        not_done = going;
        may_take = subst (λ (side : Side). MayTake hands side (move.Card card) past) (sym who) (left, fit);
      } in
      sym (filled_before start hands (move.Card card) past is dealt legal may refl)
      ∙ ap (λ (acts : List Act). filled_moves start (moves_of acts)) shows

-- ---- the opponent holds each card that they play
module _ (hands : Hands) (before : List Act) (past : List Move) (card : ℕ) where
  held_by : (side : Side) (turn : Move) → MayTake hands side turn past → (has (cards_by Opponent before) card ≡ true → has hands.opponent card ≡ true) →
      has (cards_by Opponent (record { side = side; what = turn } ∷ before)) card ≡ true → has hands.opponent card ≡ true
  held_by Owner turn take rest h = rest h
  held_by Opponent move.Go take rest h = rest h
  held_by Opponent (move.Card first) take rest h =
      elim (has_cases first card (cards_by Opponent before) h) [
        | inl same ↦
            let both = sym (has-filter (λ c. not (has (cards_of past) c)) hands.opponent first) ∙ take.0 in
            subst (λ (c : ℕ). has hands.opponent c ≡ true) same (and_parts (has hands.opponent first) (not (has (cards_of past) first)) both).0
        | inr there ↦ rest there
      ]

pub opponents_held : (start : Start) (hands : Hands) (played : List Move) → IsLegal start hands played → (card : ℕ) →
    has (cards_by Opponent (acts_of (pone_of start) played)) card ≡ true → has hands.opponent card ≡ true
opponents_held start hands [] legal card h = absurd (both_ways false refl h)
opponents_held start hands (turn ∷ past) legal card h =
    let pone = pone_of start in
    let rest = opponents_held start hands past legal.0 card in
    let H : List Act → Type 0 = λ acts. has (cards_by Opponent acts) card ≡ true in
    elim (cases_Bool (is_visible pone (letter_of turn) (letters_of past))) [
      | inl v ↦
          held_by hands (acts_of pone past) past card (mover pone (letters_of past)) turn legal.1.may_take rest (subst H (acts_visible pone turn past v) h)
      | inr v ↦ rest (subst H (acts_silent pone turn past v) h)
    ]
