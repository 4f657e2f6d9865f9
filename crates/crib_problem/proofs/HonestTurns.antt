-- Proves that the visible turns of a legal record are allowed, where the deal is not done after it.
use Rattle.std.proofs.Common.{◌≡◌, ℕ, ◌+◌, ◌≤◌, Bool, true, false, not, ◌&&◌, ◌||◌, leb, List, [], ◌∷◌, ◌++◌, reverse, ◌<◌, length, ap}
use Rattle.std.proofs.Common.{None, refl, sym, ap, subst, ◌∙◌, arith, take, drop, get_or}
use Rattle.std.specs.List.{list_any, filter}
use Rattle.std.proofs.lemmas.Bool.{cond_both, cond-false, or_from}
use Rattle.std.proofs.lemmas.Bool.Decides.{nat_tests}
use Rattle.std.proofs.lemmas.List.{length-reverse, reverse-append, reverse-reverse, take_more, take-append-drop}
use Rattle.crib_cards.specs.Cards.{IsCard, card_value}
use Rattle.crib_cards.specs.Sets.{has}
use Rattle.crib_cards.specs.Letters.{letter_of}
use Rattle.crib_cards.specs.Deals.{IsDeal}
use Rattle.crib_cards.specs.Start.{Start, Hands, pone_of}
use Rattle.crib_cards.specs.declared.sides.Side.{Side}
use Rattle.crib_cards.specs.declared.sides.Side.TheVariants.{Owner, Opponent}
use Rattle.crib_cards.specs.declared.sides.Dealt.{Dealt}
use Rattle.crib_cards.specs.declared.moves.Move.{Move}
use Rattle.crib_cards.specs.declared.moves.Move.TheVariants as move
use Rattle.crib_cards.specs.declared.moves.Act.{Act}
use Rattle.crib_cards.proofs.SetLemmas.{has-set_where}
use Rattle.crib_cards.proofs.Members.{has_here, has_there}
use Rattle.crib_cards.proofs.SetFacts.{has-append, has-filter, in_set_where}
use Rattle.crib_play.specs.declared.turns.Turn.{Turn}
use Rattle.crib_play.specs.declared.turns.Turn.TheVariants as turns
use Rattle.crib_play.specs.Record.{Record, mover, count_of, pile_of}
use Rattle.crib_play.specs.Score.{is_done, side_asked, asked_after}
use Rattle.crib_play.specs.Filled.{is_visible}
use Rattle.crib_play.specs.Least.{least_of}
use Rattle.crib_play.specs.Legal.{IsDealt, letters_of, cards_of, cards_left, fits, MayTake, MayCome, IsLegal}
use Rattle.crib_play.specs.History.{acts_of, visible_moves, filled_moves}
use Rattle.crib_play.specs.Fitting.{fits_at}
use Rattle.crib_play.proofs.CardLemmas.{none_passes}
use Rattle.crib_play.proofs.FilledRecords.{acts_visible, acts_silent, acts_fewer, letters_filled}
use Rattle.crib_play.proofs.LegalRecords.{filled_before}
use Rattle.crib_play.proofs.LeastValues.{least_left}
use Rattle.crib_play.proofs.RecordBounds.{at_most_29, high_visible_go}
use Rattle.crib_problem.specs.Played.{OpeningBasis, cards_played, record_by, count_by_acts, asked_by, own_left_by, seen_by, least_by, shows_seen}
use Rattle.crib_problem.specs.Played.{move_refusal, turn_refusal, is_over_by, act_refusal, AreAllowed}
use Rattle.crib_problem.specs.declared.problem.Version.{Version}
use Rattle.crib_problem.specs.declared.problem.Version.TheVariants.{Two}
use Rattle.crib_problem.specs.Setup.{Setup, IsSetup, IsMove, CanSay, known_cards, unseen_of, start_of, opening_basis_of, hands_of}
use Rattle.crib_problem.proofs.Setups.{AllMoves, with_opening}
use Rattle.crib_problem.proofs.StartLemmas.{started, hold_is_card, theirs_unseen, hands_dealt}

-- ---- the acts of a record play the cards of the record
has_acts : (pone : Side) (past : List Move) (card : ℕ) → has (cards_played (acts_of pone past)) card ≡ has (cards_of past) card
has_acts pone [] card = refl
has_acts pone (move.Card first ∷ past) card = grind (arith, nat_tests, has_acts pone past card, has-append (cards_of past) (first ∷ []) card)
has_acts pone (move.Go ∷ past) card = grind (arith, has_acts pone past card)

-- ---- moves with cards of the pack
pub moves_append : (xs ys : List Act) → AllMoves xs → AllMoves ys → AllMoves (xs ++ ys)
moves_append [] ys a b = b
moves_append (x ∷ xs) ys a b = (a.0, moves_append xs ys a.1 b)

pub moves_back : (acts : List Act) → AllMoves acts → AllMoves (reverse acts)
moves_back [] all = tt
moves_back (act ∷ acts) all = subst AllMoves (sym (reverse-append (act ∷ []) acts)) (moves_append (reverse acts) (act ∷ []) (moves_back acts all.1) (all.0, tt))

pub reverse_more : (acts : List Act) (i : ℕ) (act : Act) → i < length acts → act ≡ get_or acts i act → reverse (take (i + 1) acts) ≡ act ∷ reverse (take i acts)
reverse_more acts i act lt at = ap reverse (take_more acts i act lt) ∙ reverse-append (take i acts) (get_or acts i act ∷ [])
    ∙ ap (λ x. x ∷ reverse (take i acts)) (sym at)

pub all_from_back : (acts : List Act) (i : ℕ) (act : Act) → i < length acts → act ≡ get_or acts i act → reverse acts ≡ reverse (drop (i + 1) acts)
    ++ (act ∷ reverse (take i acts))
all_from_back acts i act lt at =
    ap reverse (sym (take-append-drop (i + 1) acts)) ∙ reverse-append (take (i + 1) acts) (drop (i + 1) acts)
    ∙ ap (λ xs. reverse (drop (i + 1) acts) ++ xs) (reverse_more acts i act lt at)

-- ---- an act that is not refused
not_refused : (seen : List ℕ) (asked : Turn) (count : ℕ) (own : List ℕ) (least : ℕ) (side : Side) (what : Move) → shows_seen seen side what ≡ false →
    asked ≡ side_asked side → move_refusal count own least side what ≡ None →
    turn_refusal seen asked count own least (record { side = side; what = what }) ≡ None
not_refused seen asked count own least side what unseen turn may = grind arith

pub none_any : (f : ℕ → Bool) (xs : List ℕ) → ((card : ℕ) → has xs card ≡ true → f card ≡ false) → list_any f xs ≡ false
none_any f [] each = refl
none_any f (x ∷ xs) each = or_from (f x) (list_any f xs) (each x (has_here x xs)) (none_any f xs (λ card h. each card (has_there x card xs h)))

-- a card that is left of some cards is one of them, and was not played
left_held : (cards : List ℕ) (past : List Move) (card : ℕ) → has (filter (λ c. not (has (cards_of past) c)) cards) card ≡ true →
    (has cards card ≡ true) × (has (cards_of past) card ≡ false)
left_held cards past card h = grind (arith, nat_tests, h, has-filter (λ c. not (has (cards_of past) c)) cards card)

module _ (problem : Setup) (setup : IsSetup problem) (dealt : Dealt) (deal : IsDeal (unseen_of problem) dealt) where
  abbrev start : Start
  start = start_of problem

  abbrev pone : Side
  pone = pone_of start

  abbrev hands : Hands
  hands = hands_of problem dealt

  abbrev basis : OpeningBasis
  basis = opening_basis_of problem

  abbrev real : IsDealt hands
  real = hands_dealt problem setup dealt deal

  -- ---- before a visible turn
  module _ (past : List Move) (legal : IsLegal start hands past) where
    abbrev acts : List Act
    acts = acts_of pone past

    -- the owner's cards left, by the acts and by the record
    own_has : (card : ℕ) → IsCard card → has (own_left_by basis acts) card ≡ has (cards_left hands Owner past) card
    own_has card is =
        let left = has-set_where (λ c. has problem.hold c && not (has (cards_played acts) c)) card is in
        grind (arith, nat_tests, left, has_acts pone past card, has-filter (λ c. not (has (cards_of past) c)) problem.hold card)

    own_held : (card : ℕ) → has (cards_left hands Owner past) card ≡ true → has (own_left_by basis acts) card ≡ true
    own_held card h = own_has card (hold_is_card problem setup card (left_held problem.hold past card h).0) ∙ h

    own_kept : (card : ℕ) → has (own_left_by basis acts) card ≡ true → has (cards_left hands Owner past) card ≡ true
    own_kept card h =
        let is = (in_set_where (λ c. has problem.hold c && not (has (cards_played acts) c)) card h).0 in
        sym (own_has card is) ∙ h

    -- a card left to the opponent was not seen
    theirs_hidden : (card : ℕ) → has (cards_left hands Opponent past) card ≡ true → has (seen_by basis acts) card ≡ false
    theirs_hidden card h =
        let left = left_held dealt.hold past card h in
        let hidden = theirs_unseen problem setup dealt deal card left.0 in
        grind (arith, nat_tests, has-set_where (λ c. has (known_cards problem) c || has (cards_played acts) c) card hidden.0, has_acts pone past card)

    -- the record is the filled record of its acts
    module _ (same : filled_moves start (visible_moves pone past) ≡ past) where
      record_same : record_by basis acts ≡ letters_of past
      record_same = sym (letters_filled start (visible_moves pone past)) ∙ ap letters_of same

      count_same : count_by_acts basis acts ≡ count_of (pile_of (letters_of past))
      count_same = ap (λ (record_of : Record). count_of (pile_of record_of)) record_same

      least_same : least_by basis acts ≡ least_of pone Opponent (letters_of past)
      least_same = ap (least_of pone Opponent) record_same

      fits_same : (card : ℕ) → fits_at (count_by_acts basis acts) card ≡ fits past card
      fits_same card = ap (λ (n : ℕ). leb (n + card_value card) 31) count_same

  -- ---- a visible turn
  module _ (past : List Move) (legal : IsLegal start hands past) (same : filled_moves start (visible_moves pone past) ≡ past) where
    abbrev before : List Act
    before = acts_of pone past

    may_move : (side : Side) (turn : Move) → MayTake hands side turn past → (turn ≡ move.Go → 22 ≤ count_of (pile_of (letters_of past))) →
        (shows_seen (seen_by basis before) side turn ≡ false) ×
        (move_refusal (count_by_acts basis before) (own_left_by basis before) (least_by basis before) side turn ≡ None)
    may_move Owner (move.Card card) take high = grind (arith, nat_tests, own_held past legal card take.0, fits_same past legal same card, take.1)
    may_move Owner move.Go take high =
        let none = none_any (fits_at (count_by_acts basis before)) (own_left_by basis before)
        (λ card h. fits_same past legal same card ∙ none_passes (fits past) (cards_left hands Owner past) card take (own_kept past legal card h)) in
        grind (arith, none)
    may_move Opponent (move.Card card) take high =
        let told = least_left start hands Opponent past card legal take.0 in
        grind (arith, nat_tests, told, theirs_hidden past legal card take.0, least_same past legal same, fits_same past legal same card, take.1)
    may_move Opponent move.Go take high = grind (arith, nat_tests, count_same past legal same, high refl)

    asked_mover : is_done start (letters_of past) ≡ false → asked_by basis before ≡ side_asked (mover pone (letters_of past))
    asked_mover going = ap (asked_after start) (record_same past legal same) ∙ cond-false (is_done start (letters_of past)) turns.Over
        (side_asked (mover pone (letters_of past))) going

    high_go : (turn : Move) → MayCome start hands turn past → is_visible pone (letter_of turn) (letters_of past) ≡ true → turn ≡ move.Go →
        22 ≤ count_of (pile_of (letters_of past))
    high_go (move.Card card) may v e = absurd cc
    high_go move.Go may v e = high_visible_go start hands past real (legal, may) v

    allowed_turn : (turn : Move) → MayCome start hands turn past → is_visible pone (letter_of turn) (letters_of past) ≡ true →
        is_over_by basis (acts_of pone (turn ∷ past)) ≡ false → act_refusal basis before (record { side = mover pone (letters_of past); what = turn }) ≡ None
    allowed_turn turn may v going =
        let side = mover pone (letters_of past) in
        let act : Act = record { side = side; what = turn } in
        let parts = may_move side turn may.may_take (high_go turn may v) in
        let over : is_over_by basis (act ∷ before) ≡ false = ap (is_over_by basis) (sym (acts_visible pone turn past v)) ∙ going in
        let none = not_refused (seen_by basis before) (asked_by basis before) (count_by_acts basis before) (own_left_by basis before) (least_by basis before)
        side turn parts.0 (asked_mover may.not_done) parts.1 in
        rw (none, over) refl

  -- ---- all visible turns of a record
  pub honest : (played : List Move) → IsLegal start hands played → is_over_by basis (acts_of pone played) ≡ false → AreAllowed basis (acts_of pone played)
  honest [] legal going = tt
  honest (turn ∷ past) legal going =
      cond_both (is_visible pone (letter_of turn) (letters_of past)) _ _ (λ (acts : List Act). AreAllowed basis acts)
      (λ v.
      let same = filled_before start hands turn past (started problem setup) real legal.0 legal.1 v in
      let before_going : is_over_by basis (acts_of pone past) ≡ false = ap (is_done start) (record_same past legal.0 same) ∙ legal.1.not_done in
      (honest past legal.0 before_going, allowed_turn past legal.0 same turn legal.1 v going))
      (λ v. honest past legal.0 (ap (is_over_by basis) (sym (acts_silent pone turn past v)) ∙ going))

  -- ---- a problem with these acts as its opening
  -- a card that is played is a card of the two holds
  move_is : (side : Side) (turn : Move) (past : List Move) → MayTake hands side turn past → IsMove turn
  move_is Owner (move.Card card) past take = hold_is_card problem setup card (left_held problem.hold past card take.0).0
  move_is Opponent (move.Card card) past take = (theirs_unseen problem setup dealt deal card (left_held dealt.hold past card take.0).0).0
  move_is side move.Go past take = tt

  pub moves_are : (played : List Move) → IsLegal start hands played → AllMoves (acts_of pone played)
  moves_are [] legal = tt
  moves_are (turn ∷ past) legal =
      cond_both (is_visible pone (letter_of turn) (letters_of past)) _ _ AllMoves
      (λ v. (move_is (mover pone (letters_of past)) turn past legal.1.may_take, moves_are past legal.0)) (λ v. moves_are past legal.0)

  pub may_begin : (played : List Move) → problem.version ≡ Two → IsLegal start hands played → is_over_by basis (acts_of pone played) ≡ false →
      IsSetup (record problem { played = reverse (acts_of pone played) })
  may_begin played two legal going =
      let acts = acts_of pone played in
      let A : List Act → Type 0 = λ listed. AreAllowed basis listed in
      let S : Version → Type 0 = λ version. CanSay version problem.goal (reverse acts) in
      let long = at_most_29 start hands played real legal in
      with_opening problem (reverse acts) setup (subst S (sym two) tt) (omega (arith, long, acts_fewer pone played, length-reverse acts))
      (moves_back acts (moves_are played legal)) (subst A (sym (reverse-reverse acts)) (honest played legal going))
