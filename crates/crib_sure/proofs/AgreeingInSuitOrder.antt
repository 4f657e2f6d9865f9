-- A deal that agrees with a history has a record of that history in which the opponent plays equal ranks in suit order.
use Rattle.std.proofs.Common.{◌≡◌, ℕ, ◌+◌, ◌≤◌, Bool, true, false, cond, not, ◌&&◌, eqb, leb, ltb, List, [], ◌∷◌, ◌++◌, map, length, count_by, refl}
use Rattle.std.proofs.Common.{sym, ap, ◌∙◌, arith}
use Rattle.std.specs.List.{list_any, list_all}
use Rattle.std.proofs.lemmas.Bool.{and_parts, or_left, both_ways, eqb-true, eq-eqb, ne_eqb, lt-ltb, false_from_ne_true}
use Rattle.std.proofs.lemmas.Bool.Decides.{nat_tests}
use Rattle.crib_cards.proofs.SetLemmas.{has_push}
use Rattle.crib_cards.specs.Cards.{rank_of, rank_value, card_value}
use Rattle.crib_cards.specs.Sets.{has, are_distinct, set_of, set_without}
use Rattle.crib_cards.specs.Sides.{same_side}
use Rattle.crib_cards.specs.Order.{are_rising}
use Rattle.crib_cards.specs.Start.{Start, pone_of, Hands}
use Rattle.crib_cards.specs.declared.sides.Dealt.{Dealt}
use Rattle.crib_cards.specs.declared.sides.Side.{Side}
use Rattle.crib_cards.specs.declared.sides.Side.TheVariants.{Owner, Opponent}
use Rattle.crib_cards.specs.declared.letters.Letter.TheVariants.{Seen, Go}
use Rattle.crib_cards.specs.declared.moves.Move.{Move}
use Rattle.crib_cards.specs.declared.moves.Move.TheVariants as move
use Rattle.crib_cards.specs.declared.moves.Act.{Act}
use Rattle.crib_cards.proofs.SetFacts.{are_rising-set_where}
use Rattle.crib_play.specs.Record.{mover, count_of, pile_of}
use Rattle.crib_play.specs.Score.{is_done}
use Rattle.crib_play.specs.Legal.{IsDealt, letters_of, cards_of, cards_left, fits, MayTake, MayCome}
use Rattle.crib_play.specs.History.{Event, Own, Theirs, event_of, event_by, filled_moves, AreLegal, moves_of}
use Rattle.crib_play.proofs.CardLemmas.{none_passes, has_played}
use Rattle.crib_play.proofs.TurnFacts.{filter_all}
use Rattle.crib_problem.specs.Setup.{Setup, IsSetup, start_of, hands_of, played_back, fixed_cards, IsDealOf}
use Rattle.crib_problem.specs.Played.{cards_by, cards_with}
use Rattle.crib_know.specs.Knowledge.{own_cards, their_ranks, played_events}
use Rattle.crib_know.proofs.FixedCards.{fixed_distinct}
use Rattle.crib_know.proofs.Events.{events, plays_filled}
use Rattle.crib_know.proofs.CardsLeft.{remaining, left_remaining, left_and_played, own_played, has-filter_parts}
use Rattle.crib_know.proofs.Deals.{dealt_is, hold_cards}
use Rattle.crib_know.proofs.CardLists.{count_here, count_none_of, found_by}
use Rattle.crib_game.proofs.HeldSets.{set_without_filter}
use Rattle.crib_cards.proofs.SetFacts as sets
use Rattle.crib_sure.specs.SuitOrder.{is_in_suit_order}
use Rattle.crib_sure.specs.Private.Suits.{first_of_rank, act_of_event, left_after_acts, acts_in_suits}
use Rattle.crib_sure.proofs.FirstOfRank.{IsFound, first_found, first_lowest}
use Rattle.crib_cards.proofs.Members.{distinct_apart}
use Rattle.crib_problem.proofs.HonestTurns.{none_any}
use Rattle.std.proofs.Common.{filter}
use Rattle.crib_cards.proofs.Members.{has_here, has_there}

-- an event shows whose turn it was
pub same_side_of : (side other : Side) (what move : Move) → event_by side what ≡ event_by other move → side ≡ other
same_side_of Owner Owner what move e = refl
same_side_of Opponent Opponent what move e = refl
same_side_of side other what move e = absurd cc

-- ---- lists
pub filter_same : (p q : ℕ → Bool) (xs : List ℕ) → ((x : ℕ) → has xs x ≡ true → p x ≡ q x) → filter p xs ≡ filter q xs
filter_same p q [] same = refl
filter_same p q (x ∷ xs) same =
    let rest = filter_same p q xs (λ y h. same y (has_there x y xs h)) in λ i. cond (same x (has_here x xs) i) (x ∷ rest i) (rest i)

-- some cards of the opponent, and that of a move
abbrev pub theirs_with : Side → Move → List ℕ → List ℕ
theirs_with side what cards = cond (same_side side Opponent) (cards_with what cards) cards

module _ {problem : Setup} {dealt : Dealt} (setup : IsSetup problem) (deal : IsDealOf problem dealt) where
  abbrev start : Start
  start = start_of problem

  abbrev hands : Hands
  hands = hands_of problem dealt

  pub dealt_ok : IsDealt hands
  dealt_ok = dealt_is problem setup dealt deal

  -- how many of the opponent's cards are in the opening
  abbrev few : ℕ
  few = length (fixed_cards problem)

  abbrev left : List Move → List ℕ
  left seen = remaining (cards_of seen) dealt.hold

  left_same : (seen : List Move) (card : ℕ) → has (cards_left hands Opponent (filled_moves start seen)) card ≡ has (left seen) card
  left_same seen card = ap (λ (cards : List ℕ). has cards card) (left_remaining start hands Opponent seen)

  -- the acts are legal and show a history, and the opponent plays his cards after the opening in suit order
  pub record Suited (acts : List Act) (history : List Event) : Type 0 where
    pub legal : AreLegal start hands (moves_of acts)
    pub seen : map event_of acts ≡ history
    pub shows : events start (moves_of acts) ≡ history
    pub left_is : left_after_acts dealt.hold acts ≡ set_of (left (moves_of acts))
    pub theirs : (card : ℕ) → has dealt.hold card ≡ true → has (cards_of (moves_of acts)) card ≡ has (cards_by Opponent acts) card
    pub suits : is_in_suit_order few dealt.hold (cards_by Opponent acts) ≡ true

  suited_start : Suited [] []
  suited_start = record { legal = tt; seen = refl; shows = refl; left_is = sym (ap set_of (filter_all dealt.hold)); theirs = λ card held. refl; suits = refl }

  -- ---- one turn more
  module _ (seen : List Move) (legal : AreLegal start hands seen) (acts : List Act) (before : Suited acts (events start seen)) where
    abbrev history : List Event
    history = events start seen

    abbrev suit : List Move
    suit = moves_of acts

    abbrev theirs : List ℕ
    theirs = cards_by Opponent acts

    letters_same : letters_of (filled_moves start suit) ≡ letters_of (filled_moves start seen)
    letters_same = plays_filled start hands history (record { seen = suit; legal = before.legal; shows = before.shows })
        ∙ sym (plays_filled start hands history (record { seen = seen; legal = legal; shows = refl }))

    fits_same : (card other : ℕ) → card_value card ≡ card_value other → fits (filled_moves start suit) card ≡ fits (filled_moves start seen) other
    fits_same card other e = (λ i. leb (count_of (pile_of (letters_same i)) + e i) 31)

    own_left_same : cards_left hands Owner (filled_moves start suit) ≡ cards_left hands Owner (filled_moves start seen)
    own_left_same =
        left_remaining start hands Owner suit
        ∙ filter_same _ _ problem.hold (λ card mine. ap not (own_played start hands dealt_ok card mine suit before.legal
        ∙ ap (λ (h : List Event). has (own_cards h) card) before.shows ∙ sym (own_played start hands dealt_ok card mine seen legal)))
        ∙ sym (left_remaining start hands Owner seen)

    own_take : (turn : Move) → MayTake hands Owner turn (filled_moves start seen) → MayTake hands Owner turn (filled_moves start suit)
    own_take (move.Card card) take = (ap (λ (cards : List ℕ). has cards card) own_left_same ∙ take.0, fits_same card card refl ∙ take.1)
    own_take move.Go take = (λ i. list_any (λ card. leb (count_of (pile_of (letters_same i)) + card_value card) 31) (own_left_same i)) ∙ take

    -- as many cards of each rank are left
    counts_same : (f : ℕ → Bool) → count_by (λ card. f (rank_of card)) (left suit) ≡ count_by (λ card. f (rank_of card)) (left seen)
    counts_same f =
        let same = ap (λ (h : List Event). count_by f (their_ranks h)) before.shows in
        omega (arith, left_and_played start hands dealt_ok f suit before.legal, same, left_and_played start hands dealt_ok f seen legal)

    -- one act more, which shows an event
    with_act : (side : Side) (turn suited : Move) (event : Event) → mover (pone_of start) (letters_of (filled_moves start seen)) ≡ side →
        MayCome start hands turn (filled_moves start seen) →
        (MayTake hands side turn (filled_moves start seen) → MayTake hands side suited (filled_moves start suit)) → event_by side suited ≡ event →
        left_after_acts dealt.hold (record { side = side; what = suited } ∷ acts) ≡ set_of (left (suited ∷ suit)) →
        ((card : ℕ) → has dealt.hold card ≡ true → has (cards_of (suited ∷ suit)) card ≡ has (theirs_with side suited theirs) card) →
        is_in_suit_order few dealt.hold (theirs_with side suited theirs) ≡ true → Suited (record { side = side; what = suited } ∷ acts) (event ∷ history)
    with_act side turn suited event m may take e left_is theirs_are order =
        let who = ap (mover (pone_of start)) letters_same ∙ m in
        record {
          legal = (before.legal, record { not_done = ap (is_done start) letters_same ∙ may.not_done; may_take = rw who (take (rw m at may.may_take)) });
          seen = (λ i. e i ∷ before.seen i);
          shows = ap (λ (s : Side). event_by s suited ∷ events start suit) who ∙ (λ i. e i ∷ before.shows i);
          left_is = left_is;
          theirs = theirs_are;
          suits = order;
        }

    left_card : (card : ℕ) → set_without (left_after_acts dealt.hold acts) card ≡ set_of (remaining (cards_of suit ++ card ∷ []) dealt.hold)
    left_card card = ap (λ (set : List ℕ). set_without set card) before.left_is ∙ set_without_filter dealt.hold _ _ card (has_played (cards_of suit) card)

    -- the owner's turn
    own_suited : (turn : Move) → mover (pone_of start) (letters_of (filled_moves start seen)) ≡ Owner → MayCome start hands turn (filled_moves start seen) →
        Suited (record { side = Owner; what = turn } ∷ acts) (Own turn ∷ history)
    own_suited (move.Card card) m may =
        let take = rw m at may.may_take in
        let mine : has problem.hold card ≡ true = (has-filter_parts _ problem.hold card take.0).0 in
        with_act Owner (move.Card card) (move.Card card) (Own (move.Card card)) m may (own_take (move.Card card)) refl (left_card card) (λ other held.
        let apart = ne_eqb card other (λ e. both_ways _ (rw e at (distinct_apart problem.hold dealt.hold card dealt_ok.distinct mine)) held) in
        grind (arith, nat_tests, has_push (cards_of suit) card other, apart, before.theirs other held)) before.suits
    own_suited move.Go m may = with_act Owner move.Go move.Go (Own move.Go) m may (own_take move.Go) refl before.left_is before.theirs before.suits

    -- the opponent's card: another one of its rank that is left
    card_suited : (card other : ℕ) → has (left suit) other ≡ true → rank_of other ≡ rank_of card → is_in_suit_order few dealt.hold (other ∷ theirs) ≡ true →
        mover (pone_of start) (letters_of (filled_moves start seen)) ≡ Opponent → MayCome start hands (move.Card card) (filled_moves start seen) →
        Suited (record { side = Opponent; what = move.Card other } ∷ acts) (Theirs (Seen (rank_of card)) ∷ history)
    card_suited card other mine rank_is order m may =
        with_act Opponent (move.Card card) (move.Card other) (Theirs (Seen (rank_of card))) m may
        (λ take. (left_same suit other ∙ mine, fits_same other card (ap rank_value rank_is) ∙ take.1)) (ap (λ (rank : ℕ). Theirs (Seen rank)) rank_is)
        (left_card other) (λ held is. grind (arith, nat_tests, has_push (cards_of suit) other held, before.theirs held is)) order

    -- the first of its rank
    module _ (card : ℕ) where
      abbrev first : ℕ
      first = first_of_rank (rank_of card) (left_after_acts dealt.hold acts)

      abbrev rank_same : ℕ → Bool
      rank_same other = eqb (rank_of other) (rank_of card)

      in_left : (other : ℕ) → has (left suit) other ≡ true → has (left_after_acts dealt.hold acts) other ≡ true
      in_left other h = ap (λ (set : List ℕ). has set other) before.left_is
          ∙ sets.has-set_of (left suit) other (hold_cards problem setup dealt deal other (has-filter_parts _ dealt.hold other h).0) ∙ h

      is_found : has (left seen) card ≡ true → IsFound (rank_of card) (left_after_acts dealt.hold acts)
      is_found held =
          let one = count_here rank_same (left seen) card held (eq-eqb (rank_of card) (rank_of card) refl) in
          let found = found_by rank_same (left suit) (omega (arith, one, counts_same (λ rank. eqb rank (rank_of card)))) in
          first_found (rank_of card) _ found.card (in_left found.card found.held) (eqb-true (rank_of found.card) (rank_of card) found.passes)

      first_left : IsFound (rank_of card) (left_after_acts dealt.hold acts) → has (left suit) first ≡ true
      first_left found = (sets.in_set_where (has (left suit)) first (ap (λ (set : List ℕ). has set first) (sym before.left_is) ∙ found.held)).1

      -- the hold has no card that should have been played before it
      none_before : rank_of first ≡ rank_of card → (other : ℕ) → has dealt.hold other ≡ true →
          (eqb (rank_of other) (rank_of first) && ltb other first && not (has theirs other)) ≡ false
      none_before rank_is other is =
          let rising = ap are_rising before.left_is ∙ are_rising-set_where (has (left suit)) in
          let low : has (left suit) other ≡ true → rank_of other ≡ rank_of card → first ≤ other =
          λ there e. first_lowest (rank_of card) (left_after_acts dealt.hold acts) other rising (in_left other there) e in
          grind (arith, nat_tests, is, before.theirs other is, sets.has-filter (λ c. not (has (cards_of suit) c)) dealt.hold other, rank_is, low)

      first_suited : mover (pone_of start) (letters_of (filled_moves start seen)) ≡ Opponent → MayCome start hands (move.Card card) (filled_moves start seen) →
          Suited (record { side = Opponent; what = move.Card first } ∷ acts) (Theirs (Seen (rank_of card)) ∷ history)
      first_suited m may =
          let take = rw m at may.may_take in
          let found = is_found (sym (left_same seen card) ∙ take.0) in
          card_suited card first (first_left found) found.rank_is
          (grind (arith, nat_tests, none_any _ dealt.hold (none_before found.rank_is), before.suits)) m may

    go_suited : mover (pone_of start) (letters_of (filled_moves start seen)) ≡ Opponent → MayCome start hands move.Go (filled_moves start seen) →
        Suited (record { side = Opponent; what = move.Go } ∷ acts) (Theirs Go ∷ history)
    go_suited m may = with_act Opponent move.Go move.Go (Theirs Go) m may (λ none.
        let f : ℕ → Bool = λ rank. leb (count_of (pile_of (letters_of (filled_moves start seen))) + rank_value rank) 31 in
        let zero = count_none_of (λ card. f (rank_of card)) (left seen) (λ card held. none_passes _ _ card none (left_same seen card ∙ held)) in
        none_any _ _ (λ card held. fits_same card card refl ∙ false_from_ne_true _ (λ is.
        let one = count_here (λ c. f (rank_of c)) (left suit) card (sym (left_same suit card) ∙ held) is in omega (arith, one, counts_same f, zero))))
        refl before.left_is before.theirs before.suits

  -- ---- the opening
  early_order : (cards : List ℕ) → length cards ≤ few → is_in_suit_order few dealt.hold cards ≡ true
  early_order [] most = refl
  early_order (card ∷ cards) most = or_left _ _ (lt-ltb (length cards) few (omega (arith, most)))

  -- the opponent's cards of some acts of the opening: different cards of the hold, and no more than the opening has
  abbrev AreEarly : List ℕ → Type 0
  AreEarly cards = (are_distinct cards ≡ true) × (list_all (has dealt.hold) cards ≡ true) × (length cards ≤ few)

  early_before : (side : Side) (what : Move) (cards : List ℕ) → AreEarly (theirs_with side what cards) → AreEarly cards
  early_before Opponent (move.Card card) cards early = grind (arith, nat_tests, early)
  early_before Opponent move.Go cards early = early
  early_before Owner what cards early = early

  played_turn : (side : Side) (what turn : Move) (seen : List Move) (legal : AreLegal start hands seen) (acts : List Act) → Suited acts (events start seen) →
      mover (pone_of start) (letters_of (filled_moves start seen)) ≡ side → event_by side turn ≡ event_by side what →
      MayCome start hands turn (filled_moves start seen) → AreEarly (theirs_with side what (cards_by Opponent acts)) →
      Suited (record { side = side; what = what } ∷ acts) (event_by side turn ∷ events start seen)
  played_turn Owner what turn seen legal acts before m same may early =
      let e : turn ≡ what = cc in rw (← e) (own_suited seen legal acts before turn m may)
  played_turn Opponent (move.Card other) (move.Card card) seen legal acts before m same may early =
      let rank_is : rank_of other ≡ rank_of card = cc in
      let in_hold : has dealt.hold other ≡ true = (and_parts _ _ early.1).0 in
      let mine : has (left (moves_of acts)) other ≡ true =
      grind (arith, nat_tests, sets.has-filter (λ c. not (has (cards_of (moves_of acts)) c)) dealt.hold other, in_hold, before.theirs other in_hold, early.0) in
      card_suited seen legal acts before card other mine rank_is (early_order (other ∷ cards_by Opponent acts) early.2) m may
  played_turn Opponent move.Go move.Go seen legal acts before m same may early = go_suited seen legal acts before m may
  played_turn Opponent what turn seen legal acts before m same may early = absurd cc

  played_suited : (acts : List Act) (seen : List Move) → AreLegal start hands seen → events start seen ≡ map event_of acts →
      AreEarly (cards_by Opponent acts) → Suited acts (events start seen)
  played_suited [] [] legal e early = suited_start
  played_suited (act ∷ acts) (turn ∷ seen) legal e early =
      let first : event_by (mover (pone_of start) (letters_of (filled_moves start seen))) turn ≡ event_by act.side act.what = cc in
      let rest : events start seen ≡ map event_of acts = cc in
      let side = same_side_of _ act.side turn act.what first in
      let before = played_suited acts seen legal.0 rest (early_before act.side act.what (cards_by Opponent acts) early) in
      rw side (played_turn act.side act.what turn seen legal.0 acts before side (rw side at first) legal.1 early)
  played_suited acts seen legal e early = absurd cc

  -- ---- all turns
  suited_turn : (side : Side) (turn : Move) (seen : List Move) → AreLegal start hands seen → (acts : List Act) → Suited acts (events start seen) →
      mover (pone_of start) (letters_of (filled_moves start seen)) ≡ side → MayCome start hands turn (filled_moves start seen) →
      Suited (act_of_event (event_by side turn) (left_after_acts dealt.hold acts) ∷ acts) (event_by side turn ∷ events start seen)
  suited_turn Owner turn seen legal acts before m may = own_suited seen legal acts before turn m may
  suited_turn Opponent (move.Card card) seen legal acts before m may = first_suited seen legal acts before card m may
  suited_turn Opponent move.Go seen legal acts before m may = go_suited seen legal acts before m may

  pub suited : (later : List Event) (seen : List Move) → AreLegal start hands seen → events start seen ≡ later ++ played_events problem →
      Suited (acts_in_suits dealt.hold (played_back problem) later) (events start seen)
  suited [] seen legal e = played_suited (played_back problem) seen legal e (fixed_distinct problem setup, deal.fixed, omega arith)
  suited (event ∷ later) [] legal e = absurd cc
  suited (event ∷ later) (turn ∷ seen) legal e =
      let first : event_by (mover (pone_of start) (letters_of (filled_moves start seen))) turn ≡ event = cc in
      let rest : events start seen ≡ later ++ played_events problem = cc in
      rw (← first) (suited_turn _ turn seen legal.0 _ (suited later seen legal.0 rest) refl legal.1)
