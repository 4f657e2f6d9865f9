-- Judging an act by the round and the cards that are left gives the same refusal as judging it by the record.
use Rattle.std.proofs.Common.{◌≡◌, ℕ, ◌+◌, ◌≤◌, ◌<◌, Bool, true, cond, not, List, [], ◌∷◌, ◌++◌, length, get_or, take, drop, reverse, Option}
use Rattle.std.proofs.Common.{Some, None, refl, sym, ap, subst, ◌∙◌, arith}
use Rattle.std.specs.List.{filter, AllByRecursion}
use Rattle.std.proofs.lemmas.List.{take_more, reverse-append, length-reverse, length-take-le}
use Rattle.crib_cards.specs.Cards.{IsCard, card_value}
use Rattle.crib_cards.specs.Letters.{letter_of}
use Rattle.crib_cards.specs.Sets.{has, set_of, set_without}
use Rattle.crib_cards.specs.Sides.{same_side}
use Rattle.crib_cards.specs.Start.{Start, pone_of, Hands, hand_of}
use Rattle.crib_cards.specs.declared.sides.Side.{Side}
use Rattle.crib_cards.specs.declared.sides.Side.TheVariants.{Owner, Opponent}
use Rattle.crib_cards.specs.declared.moves.Move.{Move}
use Rattle.crib_cards.specs.declared.moves.Move.TheVariants as move
use Rattle.crib_cards.specs.declared.moves.Act.{Act}
use Rattle.crib_play.specs.declared.turns.Turn.TheVariants as turns
use Rattle.crib_play.specs.Record.{mover, count_of, pile_of}
use Rattle.crib_play.specs.Score.{asks, is_done, side_asked}
use Rattle.crib_play.specs.Filled.{filled_record, is_visible}
use Rattle.crib_play.specs.Standing.{Standing, standing_after, MayShow, StandsFor}
use Rattle.crib_play.specs.Legal.{IsDealt, letters_of, cards_of, cards_left, fits}
use Rattle.crib_play.specs.History.{filled_moves, moves_of}
use Rattle.crib_play.proofs.CardLemmas.{has_played}
use Rattle.crib_play.proofs.TurnFacts.{play_of, filter_all}
use Rattle.crib_play.proofs.FilledRecords.{letters_filled, may_show, cards_filled}
use Rattle.crib_play.proofs.LegalRecords.{legal_filled, visible_after}
use Rattle.crib_game.specs.declared.fault.GameFault.{GameFault}
use Rattle.crib_game.specs.declared.replaying.judging.HeldCards.{HeldCards}
use Rattle.crib_game.specs.declared.replaying.judging.JudgedGame.{JudgedGame}
use Rattle.crib_game.specs.declared.replaying.remark.Remark.{Remark}
use Rattle.crib_game.specs.Replay.{Judge, first_fault, move_fault_at, move_fault, act_fault, acts_fault}
use Rattle.crib_game.specs.Private.Judging.{is_over, held_cards_of, held_cards_after, left_by, fault_at, MayShowAt}
use Rattle.crib_game.specs.Private.Walking.{IsJudged}
use Rattle.crib_game.proofs.ActFaults.{IsRight, act_right, legal_acts}
use Rattle.crib_game.proofs.HeldSets.{has-set_of, any-set_of, all_filter, set_without_filter}
use Rattle.crib_problem.proofs.HonestTurns.{all_from_back}

pub left_filled : (start : Start) (hands : Hands) (side : Side) (seen : List Move) → cards_left hands side (filled_moves start seen) ≡ cards_left hands side
    seen
left_filled start hands side seen = ap (λ (cards : List ℕ). filter (λ card. not (has cards card)) (hand_of hands side)) (cards_filled start seen)

-- ---- the cards that are left
-- the hands have only cards of the pack
pub record AreCards (hands : Hands) : Type 0 where
  pub owner : AllByRecursion IsCard hands.owner
  pub opponent : AllByRecursion IsCard hands.opponent

pub all_left : (hands : Hands) (side : Side) (seen : List Move) → AreCards hands → AllByRecursion IsCard (cards_left hands side seen)
all_left hands Owner seen are = all_filter (λ card. not (has (cards_of seen) card)) hands.owner are.owner
all_left hands Opponent seen are = all_filter (λ card. not (has (cards_of seen) card)) hands.opponent are.opponent

held_left : (hands : Hands) (side : Side) (seen : List Move) → held_cards_of (left_by hands seen) side ≡ set_of (cards_left hands side seen)
held_left hands Owner seen = refl
held_left hands Opponent seen = refl

pub held_start : (hands : Hands) → ◌≡◌ {A = HeldCards} (record { owner = set_of hands.owner; opponent = set_of hands.opponent }) (left_by hands [])
held_start hands = λ i. record { owner = set_of (sym (filter_all hands.owner) i); opponent = set_of (sym (filter_all hands.opponent) i) }

held_step : (hands : Hands) (turn : Move) (seen : List Move) → held_cards_after (left_by hands seen) turn ≡ left_by hands (turn ∷ seen)
held_step hands (move.Card card) seen =
    let without = λ (x : ℕ). has_played (cards_of seen) card x in
    let mine : set_without (set_of (cards_left hands Owner seen)) card ≡ set_of (cards_left hands Owner (move.Card card ∷ seen)) =
    set_without_filter hands.owner (λ x. not (has (cards_of seen) x)) (λ x. not (has (cards_of seen ++ card ∷ []) x)) card without in
    let theirs : set_without (set_of (cards_left hands Opponent seen)) card ≡ set_of (cards_left hands Opponent (move.Card card ∷ seen)) =
    set_without_filter hands.opponent (λ x. not (has (cards_of seen) x)) (λ x. not (has (cards_of seen ++ card ∷ []) x)) card without in
    λ i. record { owner = mine i; opponent = theirs i }
held_step hands move.Go seen = refl

-- ---- one act
asked_step : (remark : Remark) (done : Bool) (who side : Side) (wrong : Option GameFault) (number : ℕ) →
    first_fault remark (is_over (cond done turns.Over (side_asked who))) (asks (cond done turns.Over (side_asked who)) side) wrong number
    ≡ first_fault remark done (same_side side who) wrong number
asked_step remark done who side wrong number = grind arith

move_step : (hands : Hands) (side : Side) (turn : Move) (past : List Move) (number : ℕ) → AreCards hands →
    move_fault_at (count_of (pile_of (letters_of past))) (set_of (cards_left hands side past)) turn number ≡ move_fault hands side turn past number
move_step hands side (move.Card card) past number are = rw (has-set_of (cards_left hands side past) card (all_left hands side past are)) refl
move_step hands side move.Go past number are = rw (any-set_of (fits past) (cards_left hands side past) (all_left hands side past are)) refl

-- the round after some turns represents the filled record of their moves
pub shows_filled : (table : Standing) (start : Start) (seen : List Move) → table ≡ standing_after start (filled_record start (letters_of seen)) →
    table ≡ standing_after start (letters_of (filled_moves start seen))
shows_filled table start seen shows = shows ∙ ap (standing_after start) (sym (letters_filled start seen))

fault_is : (judge : Judge) (table : Standing) (start : Start) (hands : Hands) (act : Act) (seen : List Move) (number : ℕ) → AreCards hands →
    table ≡ standing_after start (filled_record start (letters_of seen)) →
    fault_at (judge act (filled_moves start seen)) table (set_of (cards_left hands act.side seen)) act number ≡ act_fault judge start hands act
    (filled_moves start seen) number
fault_is judge table start hands act seen number are shows =
    let past = filled_moves start seen in
    let remark = judge act past in
    let done = is_done start (letters_of past) in
    let who = mover (pone_of start) (letters_of past) in
    ap (λ (x : Standing). fault_at remark x (set_of (cards_left hands act.side seen)) act number) (shows_filled table start seen shows)
    ∙ ap (λ (cards : List ℕ). fault_at remark (standing_after start (letters_of past)) (set_of cards) act number) (sym (left_filled start hands act.side seen))
    ∙ asked_step remark done who act.side
    (move_fault_at (count_of (pile_of (letters_of past))) (set_of (cards_left hands act.side past)) act.what number) number
    ∙ ap (λ (wrong : Option GameFault). first_fault remark done (same_side act.side who) wrong number) (move_step hands act.side act.what past number are)

-- ---- the first refusal stays the first
pub fault_stays : (judge : Judge) (start : Start) (hands : Hands) (later before : List Act) (fault : GameFault) →
    acts_fault judge start hands before ≡ Some fault → acts_fault judge start hands (later ++ before) ≡ Some fault
fault_stays judge start hands [] before fault e = e
fault_stays judge start hands (act ∷ later) before fault e = rw (fault_stays judge start hands later before fault e) refl

pub fault_here : (judge : Judge) (start : Start) (hands : Hands) (act : Act) (before : List Act) (fault : Option GameFault) →
    acts_fault judge start hands before ≡ None →
    act_fault judge start hands act (filled_moves start (moves_of before)) (length before + 1) ≡ fault → acts_fault judge start hands (act ∷ before) ≡ fault
fault_here judge start hands act before fault none is = rw none is

-- ---- the acts so far
pub judged_start : {judge : Judge} {start : Start} {hands : Hands} (walk : JudgedGame) → StandsFor walk.round start [] →
    walk.held ≡ record { owner = set_of hands.owner; opponent = set_of hands.opponent } → IsJudged judge start hands walk []
judged_start {hands} walk stands holds = record { stands = stands; clear = refl; holds = holds ∙ held_start hands }

module _ {judge : Judge} {start : Start} {hands : Hands} {walk : JudgedGame} {before : List Act} (are : AreCards hands)
    (j : IsJudged judge start hands walk before) (act : Act) where
  abbrev past : List Move
  past = filled_moves start (moves_of before)

  judged_is : (number : ℕ) → fault_at (judge act past) walk.round (held_cards_of walk.held act.side) act number ≡ act_fault judge start hands act past number
  judged_is number =
      ap (λ (cards : List ℕ). fault_at (judge act past) walk.round cards act number) (ap (λ (h : HeldCards). held_cards_of h act.side) j.holds
      ∙ held_left hands act.side (moves_of before))
      ∙ fault_is judge walk.round start hands act (moves_of before) number are j.stands.shows

  pub judged_fault : (fault : Option GameFault) → fault_at (judge act past) walk.round (held_cards_of walk.held act.side) act (length before + 1) ≡ fault →
      acts_fault judge start hands (act ∷ before) ≡ fault
  judged_fault fault e = fault_here judge start hands act before fault j.clear (sym (judged_is (length before + 1)) ∙ e)

  module _ (e : fault_at (judge act past) walk.round (held_cards_of walk.held act.side) act (length before + 1) ≡ None) where
    pub judged_right : IsRight judge start hands act past
    judged_right = act_right judge start hands act past (length before + 1) (sym (judged_is (length before + 1)) ∙ e)

    pub judged_visible : IsDealt hands → is_visible (pone_of start) (letter_of act.what) (letters_of past) ≡ true
    judged_visible dealt =
        visible_after start hands act.what (moves_of before) j.stands.started dealt (legal_acts judge start hands before j.clear) judged_right.may

    shows_at : (turn : Move) → MayShow (letter_of turn) (letters_of past) → MayShowAt turn walk.round
    shows_at (move.Card card) may =
        subst (λ (x : Standing). count_of x.pile + card_value card ≤ 31) (sym (shows_filled walk.round start (moves_of before) j.stands.shows)) may
    shows_at move.Go may = subst (λ (x : Standing). 22 ≤ count_of x.pile) (sym (shows_filled walk.round start (moves_of before) j.stands.shows)) may

    pub judged_shows : IsDealt hands → MayShowAt act.what walk.round
    judged_shows dealt =
        shows_at act.what
        (may_show start hands act.what past
        (play_of start hands dealt past (legal_filled start hands (moves_of before) dealt (legal_acts judge start hands before j.clear))) judged_right.may
        (judged_visible dealt))

    pub judged_next : (new : JudgedGame) → StandsFor new.round start (letter_of act.what ∷ letters_of (moves_of before)) →
        new.held ≡ held_cards_after walk.held act.what → IsJudged judge start hands new (act ∷ before)
    judged_next new stands is = record {
      stands = stands;
      clear = judged_fault None e;
      holds = is ∙ ap (λ (h : HeldCards). held_cards_after h act.what) j.holds ∙ held_step hands act.what (moves_of before);
    }

-- ---- the acts of a list
pub reverse_more : (acts : List Act) (i : ℕ) (act : Act) → i < length acts → reverse (take (i + 1) acts) ≡ get_or acts i act ∷ reverse (take i acts)
reverse_more acts i act lt = ap reverse (take_more acts i act lt) ∙ reverse-append (take i acts) (get_or acts i act ∷ [])

pub fault_all : (judge : Judge) (start : Start) (hands : Hands) (acts : List Act) (i : ℕ) (act : Act) (fault : GameFault) → i < length acts →
    act ≡ get_or acts i act →
    acts_fault judge start hands (act ∷ reverse (take i acts)) ≡ Some fault → acts_fault judge start hands (reverse acts) ≡ Some fault
fault_all judge start hands acts i act fault lt at e =
    ap (acts_fault judge start hands) (all_from_back acts i act lt at)
    ∙ fault_stays judge start hands (reverse (drop (i + 1) acts)) (act ∷ reverse (take i acts))
    fault e

pub length_before : (acts : List Act) (i : ℕ) → i < length acts → length (reverse (take i acts)) ≡ i
length_before acts i lt = length-reverse (take i acts) ∙ length-take-le i acts (omega arith)
