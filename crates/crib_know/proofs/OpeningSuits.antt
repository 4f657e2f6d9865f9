-- Each hidden deal that agrees has a legal record that begins with the very cards of the opening, suits included.
use Rattle.std.proofs.Common.{arith}
use Rattle.std.proofs.lemmas.Bool.Decides.{nat_tests}
use Rattle.crib_problem.proofs.AskedHolds.{asked_open}
use Rattle.std.proofs.Math.Bool.{or-false, or_comm}
use Rattle.std.proofs.Common.{◌≡◌, ℕ, ◌+◌, Bool, true, false, not, ◌||◌, eqb, List, [], ◌∷◌, ◌++◌, map, refl, sym, ap, subst, ◌∙◌}
use Rattle.std.proofs.lemmas.Bool.{le-leb, or_left, or_right}
use Rattle.crib_cards.specs.Cards.{rank_of, card_value}
use Rattle.crib_cards.specs.Sets.{has}
use Rattle.crib_cards.specs.Start.{Start, pone_of, Hands}
use Rattle.crib_cards.specs.declared.sides.Side.{Side}
use Rattle.crib_cards.specs.declared.sides.Side.TheVariants.{Owner, Opponent}
use Rattle.crib_cards.specs.declared.sides.Dealt.{Dealt}
use Rattle.crib_cards.specs.declared.letters.Letter.TheVariants.{Seen, Go}
use Rattle.crib_cards.specs.Letters.{letter_of}
use Rattle.crib_cards.specs.declared.moves.Move.{Move}
use Rattle.crib_cards.specs.declared.moves.Move.TheVariants as move
use Rattle.crib_cards.specs.declared.moves.Act.{Act}
use Rattle.crib_cards.proofs.SetFacts.{has-append}
use Rattle.crib_play.specs.Record.{mover}
use Rattle.crib_play.specs.Filled.{filled_record}
use Rattle.crib_play.specs.Standing.{IsStart}
use Rattle.crib_play.specs.Legal.{IsDealt, letters_of, cards_of}
use Rattle.crib_play.specs.History.{filled_moves, AreLegal, Event, Own, Theirs, event_by, event_of, acts_of, moves_of, act_by, history_letters}
use Rattle.crib_play.proofs.FilledRecords.{letters_filled, cards_filled}
use Rattle.crib_play.proofs.LegalRecords.{visible_filled, legal_filled, acts_more}
use Rattle.crib_play.proofs.RecordsReached.{asked_mover}
use Rattle.crib_problem.specs.Setup.{Setup, IsSetup, IsMove, start_of, opening_basis_of, hands_of, played_back, fixed_cards, IsDealOf}
use Rattle.crib_problem.specs.Played.{OpeningBasis, cards_played, cards_by, seen_by, asked_by, shows_seen, AreAllowed}
use Rattle.crib_problem.proofs.StartLemmas.{started}
use Rattle.crib_problem.proofs.Setups.{AllMoves, without_opening}
use Rattle.crib_know.specs.Knowledge.{played_events, count_after}
use Rattle.crib_know.specs.Private.Knowledge.{at_first_lead}
use Rattle.crib_know.specs.Hidden.{AgreesWith, BeginsAfter}
use Rattle.crib_know.proofs.LedHistories.{IsLed}
use Rattle.crib_know.specs.Laws.{IsPlayedOn, SuitLaw}
use Rattle.crib_know.proofs.Events.{Plays, NextPlay, events, history_events, play_more}
use Rattle.crib_know.proofs.CardsLeft.{eqb_same, has-filter_from}
use Rattle.crib_know.proofs.Deals.{dealt_is}
use Rattle.crib_know.proofs.AgreeingIsPassing.{MightPlay, own_is, theirs_is}
use Rattle.crib_know.proofs.PassingIsAgreeing.{MightCome, PassesAfter, may_might, next_play, passes_less, turn_of, fits_same, agrees_passes}
use Rattle.crib_know.proofs.FixedCards.{allowed_parts, shown_card, back_moves}
use Rattle.crib_know.proofs.RecordTurns.{agreeing_led}
use Rattle.crib_know.proofs.OpeningLawProofs.{allowed_led}
use Rattle.crib_cards.proofs.Members.{all_has}

-- ---- lists of cards
pub or_turned : (a b : Bool) → (a || (b || false)) ≡ (b || a)
or_turned a b = ap (λ (c : Bool). a || c) (or-false b) ∙ or_comm a b

has_cards : (acts : List Act) (card : ℕ) → has (cards_of (moves_of acts)) card ≡ has (cards_played acts) card
has_cards [] card = refl
has_cards (act ∷ before) card = by_move act.what (has_cards before card)
  where
    by_move : (what : Move) → has (cards_of (moves_of before)) card ≡ has (cards_played before) card →
        has (cards_of (moves_of (record { side = act.side; what = what } ∷ before))) card ≡ has
        (cards_played (record { side = act.side; what = what } ∷ before)) card
    by_move (move.Card first) rest = has-append (cards_of (moves_of before)) (first ∷ []) card ∙ or_turned (has (cards_of (moves_of before)) card)
        (eqb first card) ∙ ap (λ (b : Bool). eqb first card || b) rest
    by_move move.Go rest = rest

-- ---- the acts of a filled record
record EndsWith (whole last : List Act) : Type 0 where
  later : List Act
  parts : whole ≡ later ++ last

acts_end : (start : Start) (hands : Hands) (front seen : List Move) → IsStart start → IsDealt hands → AreLegal start hands (front ++ seen) →
    EndsWith (acts_of (pone_of start) (filled_moves start (front ++ seen))) (acts_of (pone_of start) (filled_moves start seen))
acts_end start hands [] seen is dealt legal = record { later = []; parts = refl }
acts_end start hands (turn ∷ front) seen is dealt legal =
    let rest = acts_end start hands front seen is dealt legal.0 in
    let act : Act = act_by (pone_of start) turn (filled_moves start (front ++ seen)) in
    record { later = act ∷ rest.later; parts = acts_more start hands turn (front ++ seen) is dealt legal ∙ ap (λ (acts : List Act). act ∷ acts) rest.parts }

module _ (problem : Setup) (setup : IsSetup problem) (dealt : Dealt) (deal : IsDealOf problem dealt) where
  abbrev bare : Setup
  bare = at_first_lead problem

  abbrev bare_is : IsSetup bare
  bare_is = without_opening problem setup

  bare_deal : IsDealOf bare dealt
  bare_deal = record { deal = deal.deal; fixed = refl }

  abbrev start : Start
  start = start_of problem

  abbrev hands : Hands
  hands = hands_of problem dealt

  abbrev basis : OpeningBasis
  basis = opening_basis_of problem

  -- these hands play the very acts
  record Exact (acts : List Act) : Type 0 where
    plays : Plays start hands (map event_of acts)
    exact : plays.seen ≡ moves_of acts

  -- the opponent plays the very card
  that_card : (before : List Act) (so_far : Exact before) (card : ℕ) → MightPlay bare (map event_of before) (rank_of card) → has dealt.hold card ≡ true →
      has (cards_played before) card ≡ false → NextPlay start hands (Theirs (Seen (rank_of card))) (map event_of before) so_far.plays
  that_card before so_far card might mine fresh =
      let past = filled_moves start so_far.plays.seen in
      let lacks : has (cards_of past) card ≡ false = ap (λ (cards : List ℕ). has cards card) (cards_filled start so_far.plays.seen ∙ ap cards_of so_far.exact)
      ∙ has_cards before card ∙ fresh in
      turn_of bare bare_is dealt bare_deal (map event_of before) so_far.plays Opponent (move.Card card) might.asked (
        has-filter_from (λ c. not (has (cards_of past) c)) dealt.hold card mine (ap not lacks),
        fits_same bare bare_is dealt bare_deal (map event_of before) so_far.plays card ∙ le-leb (count_after bare (map event_of before) + card_value card) 31
            might.fits,
      )

  is_go : (turn : Move) → letter_of turn ≡ Go → turn ≡ move.Go
  is_go move.Go e = refl
  is_go (move.Card card) e = absurd cc

  -- the very turn
  record ThatTurn (before : List Act) (so_far : Exact before) (event : Event) (what : Move) : Type 0 where
    next : NextPlay start hands event (map event_of before) so_far.plays
    same : next.turn ≡ what

  that_turn : (before : List Act) (so_far : Exact before) (side : Side) (what : Move) → MightCome bare (map event_of before) (event_by side what) →
      shows_seen (seen_by basis before) side what ≡ false → IsMove what →
      ((card : ℕ) → has (cards_by Opponent (record { side = side; what = what } ∷ before)) card ≡ true → has dealt.hold card ≡ true) →
      PassesAfter bare bare_is dealt bare_deal (event_by side what ∷ map event_of before) → ThatTurn before so_far (event_by side what) what
  unfolding turn_of that_card
  that_turn before so_far Owner what might unseen is held passes =
      let next = next_play bare bare_is dealt bare_deal (Own what) (map event_of before) so_far.plays might passes in
      record { next = next; same = (own_is (mover (pone_of start) (filled_record start (history_letters (map event_of before)))) next.turn what next.shows).1 }
  that_turn before so_far Opponent move.Go might unseen is held passes =
      let next = next_play bare bare_is dealt bare_deal (Theirs Go) (map event_of before) so_far.plays might passes in
      let side = mover (pone_of start) (filled_record start (history_letters (map event_of before))) in
      record { next = next; same = is_go next.turn (theirs_is side next.turn Go next.shows).1 }
  that_turn before so_far Opponent (move.Card card) might unseen is held passes =
      let mine = held card (or_left (eqb card card) (has (cards_by Opponent before) card) (eqb_same card)) in
      record { next = that_card before so_far card might mine (shown_card basis before card is unseen).1; same = refl }

  held_before : (act : Act) (before : List Act) (card : ℕ) → has (cards_by Opponent before) card ≡ true → has (cards_by Opponent (act ∷ before)) card ≡ true
  held_before act before card h = by_act act.side act.what
    where
      by_act : (side : Side) (what : Move) → has (cards_by Opponent (record { side = side; what = what } ∷ before)) card ≡ true
      by_act Owner what = h
      by_act Opponent move.Go = h
      by_act Opponent (move.Card first) = or_right (eqb first card) (has (cards_by Opponent before) card) h

  exact_plays : (acts : List Act) → AllMoves acts → AreAllowed basis acts → IsLed bare (map event_of acts) →
      ((card : ℕ) → has (cards_by Opponent acts) card ≡ true → has dealt.hold card ≡ true) →
      PassesAfter bare bare_is dealt bare_deal (map event_of acts) → Exact acts
  unfolding play_more
  exact_plays [] moves allowed led held passes = record { plays = record { seen = []; legal = tt; shows = refl }; exact = refl }
  exact_plays (act ∷ before) moves allowed led held passes =
      let event = event_of act in
      let history = map event_of before in
      let might = may_might bare bare_is history event led.1 in
      let so_far = exact_plays before moves.1 allowed.0 led.0 (λ card h. held card (held_before act before card h))
      (passes_less bare bare_is dealt bare_deal event history might passes) in
      let that = that_turn before so_far act.side act.what might (allowed_parts basis before act allowed.1).unseen moves.0 held passes in
      record { plays = play_more start hands event history so_far.plays that.next; exact = λ i. that.same i ∷ so_far.exact i }

  -- the acts of a record that plays the very acts
  acts_exact : (acts : List Act) → AreAllowed basis acts → AreLegal start hands (moves_of acts) → acts_of (pone_of start) (filled_moves start (moves_of acts))
      ≡ acts
  acts_exact [] allowed legal = refl
  acts_exact (act ∷ before) allowed legal =
      let past = filled_moves start (moves_of before) in
      let side : mover (pone_of start) (letters_of past) ≡ act.side = ap (mover (pone_of start)) (letters_filled start (moves_of before))
      ∙ (asked_mover start (filled_record start (letters_of (moves_of before))) act.side (asked_open (asked_by basis before) act.side
      (allowed_parts basis before act allowed.1).turn)).1 in
      acts_more start hands act.what (moves_of before) (started problem setup) (dealt_is problem setup dealt deal) legal
      ∙ (λ i. record { side = side i; what = act.what } ∷ acts_of (pone_of start) past)
      ∙ ap (λ (acts : List Act). act ∷ acts) (acts_exact before allowed.0 legal.0)

  -- ---- later turns
  abbrev events_played : List Event
  events_played = played_events problem

  record From (history : List Event) : Type 0 where
    plays : Plays start hands history
    front : List Move
    parts : plays.seen ≡ front ++ moves_of (played_back problem)

  from_later : (later : List Event) → IsLed problem (later ++ events_played) → PassesAfter problem setup dealt deal (later ++ events_played) →
      (PassesAfter problem setup dealt deal events_played → From events_played) → From (later ++ events_played)
  unfolding play_more
  from_later [] led passes base = base passes
  from_later (event ∷ later) led passes base =
      let history = later ++ events_played in
      let might = may_might problem setup history event led.1 in
      let so_far = from_later later led.0 (passes_less problem setup dealt deal event history might passes) base in
      let next = next_play problem setup dealt deal event history so_far.plays might passes in
      record { plays = play_more start hands event history so_far.plays next; front = next.turn ∷ so_far.front; parts = λ i. next.turn ∷ so_far.parts i }

  pub suited : (history : List Event) → BeginsAfter problem history → AgreesWith problem history dealt → IsPlayedOn problem history dealt
  suited history begun agrees =
      let A : List Event → Type 0 = λ h. AgreesWith problem h dealt in
      let here = subst A begun.parts agrees in
      let led = agreeing_led problem setup dealt (begun.later ++ events_played) here in
      let base : PassesAfter problem setup dealt deal events_played → From events_played =
      λ passes. (let exact = exact_plays (played_back problem) (back_moves problem setup) setup.allowed
      (allowed_led problem setup (played_back problem) (back_moves problem setup) setup.allowed)
      (λ card h. all_has (has dealt.hold) (fixed_cards problem) card deal.fixed h) passes in
      record { plays = exact.plays; front = []; parts = exact.exact }) in
      let from = from_later begun.later led (agrees_passes problem setup dealt deal (begun.later ++ events_played) here) base in
      let is = started problem setup in
      let dealt_ok = dealt_is problem setup dealt deal in
      let L : List Move → Type 0 = λ seen. AreLegal start hands seen in
      let legal = subst L from.parts from.plays.legal in
      let ends = acts_end start hands from.front (moves_of (played_back problem)) is dealt_ok legal in
      let exact = acts_exact (played_back problem) setup.allowed (legal_end from.front (moves_of (played_back problem)) legal) in
      let whole_legal = legal_filled start hands from.plays.seen dealt_ok from.plays.legal in
      record {
        played = filled_moves start from.plays.seen;
        legal = whole_legal;
        shows = history_events start hands (filled_moves start from.plays.seen) is dealt_ok whole_legal
            ∙ ap (events start) (visible_filled start hands from.plays.seen is dealt_ok from.plays.legal) ∙ from.plays.shows ∙ sym begun.parts;
        begins = grind (arith, nat_tests);
      }
    where
      legal_end : (front seen : List Move) → AreLegal start hands (front ++ seen) → AreLegal start hands seen
      legal_end [] seen legal = legal
      legal_end (turn ∷ front) seen legal = legal_end front seen legal.0

pub suit_law : SuitLaw
suit_law problem history dealt setup begun agrees = suited problem setup dealt agrees.0 history begun agrees
