-- Proves the laws of what comes next: whoever plays a sure plan is never stuck, and a card that comes next may be played.
use Rattle.std.proofs.Common.{◌≡◌, ℕ, ◌+◌, Bool, true, false, cond, not, ◌&&◌, eqb, List, [], ◌∷◌, ◌++◌, map, reverse, Option, Some, None, Result, Ok, Err}
use Rattle.std.proofs.Common.{◌⊎◌, append_assoc, refl, sym, ap, subst, ◌∙◌, inl, inr, arith}
use Rattle.std.specs.List.{list_all, list_any}
use Rattle.std.specs.Option.{option_or}
use Rattle.std.proofs.lemmas.Bool.{and_parts, both_ways, cases_Bool, eqb-true, not-false}
use Rattle.std.proofs.lemmas.List.{reverse-append, append-nil}
use Rattle.crib_cards.specs.Sets.{has}
use Rattle.crib_cards.specs.Sides.{same_side}
use Rattle.crib_cards.specs.Start.{Hands, Start, pone_of}
use Rattle.crib_cards.specs.declared.sides.Side.{Side}
use Rattle.crib_cards.specs.declared.sides.Side.TheVariants.{Owner, Opponent}
use Rattle.crib_cards.specs.declared.sides.Dealt.{Dealt}
use Rattle.crib_cards.specs.declared.moves.Move.{Move}
use Rattle.crib_cards.specs.declared.moves.Move.TheVariants as move
use Rattle.crib_cards.specs.declared.moves.Act.{Act}
use Rattle.crib_text.specs.Refusals.{Refusal}
use Rattle.crib_text.proofs.ReadingLemmas.{ok_is}
use Rattle.crib_play.specs.Record.{mover}
use Rattle.crib_play.specs.Score.{is_done}
use Rattle.crib_play.specs.Filled.{filled_record}
use Rattle.crib_play.specs.Fitting.{fits_at}
use Rattle.crib_play.specs.Legal.{IsLegal, letters_of, cards_left, fits}
use Rattle.crib_play.specs.History.{Event, event_of, event_by, filled_moves, history_letters, history_of}
use Rattle.crib_play.specs.declared.turns.Turn.{Turn}
use Rattle.crib_play.specs.declared.turns.Turn.TheVariants as turns
use Rattle.crib_play.proofs.LegalRecords.{legal_filled, visible_filled}
use Rattle.crib_play.proofs.RecordsReached.{asked_mover}
use Rattle.crib_problem.specs.Played.{act_refusal, cards_by, cards_with, is_over_by}
use Rattle.crib_problem.specs.Refusals.{already_over}
use Rattle.crib_problem.proofs.Setups.{AllMoves}
use Rattle.crib_problem.specs.Setup.{Setup, IsSetup, IsMove, IsDealOf, hands_of, opening_basis_of, played_back, start_of, unseen_of}
use Rattle.crib_cards.specs.Deals.{IsDeal}
use Rattle.crib_play.specs.History.{Agrees}
use Rattle.crib_problem.proofs.StartLemmas.{started}
use Rattle.crib_problem.proofs.MadeProblems.{with_one_more}
use Rattle.crib_know.specs.Knowledge.{asked_now, count_after, own_left, played_events}
use Rattle.crib_know.specs.Hidden.{AgreesWith, BeginsAfter}
use Rattle.crib_know.proofs.AgreeingIsPassing.{past_same, mover_same}
use Rattle.crib_know.proofs.Deals.{dealt_is}
use Rattle.crib_know.proofs.Events.{Plays, events, history_events, plays_of}
use Rattle.crib_know.proofs.OpeningLawProofs.{played_agrees, played_dealt}
use Rattle.crib_know.proofs.PassingIsAgreeing.{own_may}
use Rattle.crib_plan.specs.declared.plan.Next.{Next}
use Rattle.crib_plan.specs.declared.plan.Node.{Node}
use Rattle.crib_plan.specs.Places.{stated_card}
use Rattle.crib_game.specs.Following.{is_playable, is_stuck, place_of}
use Rattle.crib_game.specs.Followed.{is_stated, strays_at}
use Rattle.crib_sure.specs.Sure.{IsFollowed, IsSure}
use Rattle.crib_sure.specs.HistoryPlaces.{FollowsBy, IsStatedEvent, place_by}
use Rattle.crib_sure.proofs.PlaceByHistory.{follows_at_start, follows_from, not_stuck, place_history}
use Rattle.crib_sure.proofs.RecordsFromOpening.{BegunPlays, begun_plays}
use Rattle.crib_next.specs.Next.{acts_with, after_end, history_with, next_after, next_by, next_for, next_from, place_with}
use Rattle.crib_next.specs.Next.{stated_next, turn_refusal, unless_ending, unless_refused}
use Rattle.crib_next.specs.Laws.{CardLaw, SureLaw}
use Rattle.crib_next.specs.declared.next.NextTurn.{NextTurn}
use Rattle.crib_next.specs.declared.next.NextTurn.TheVariants.{Go, Over, Play, Stuck}
use Rattle.crib_next.specs.Private.Walking.{IsAfter}
use Rattle.crib_next.proofs.TurnRefusals.{ends}
use Rattle.crib_next.proofs.WalkedTurns.{after_more, after_none, begins, none_after, refusal_same, some_after}

-- ---- whoever plays a sure plan is not stuck after a history that follows it
module _ (problem : Setup) (plan : List Node) (history : List Event) (setup : IsSetup problem) (begun : BeginsAfter problem history)
    (follows : FollowsBy plan problem.played history) (sure : IsSure problem plan) (dealt : Dealt) (agrees : AgreesWith problem history dealt) where
  abbrev start : Start
  start = start_of problem

  abbrev hands : Hands
  hands = hands_of problem dealt

  abbrev pone : Side
  pone = pone_of start

  deal : IsDealOf problem dealt
  deal = agrees.0

  shown : Plays start hands history
  shown = plays_of start hands history (started problem setup) (dealt_is problem setup dealt deal) agrees.1

  begun_shown : BegunPlays problem dealt history
  begun_shown = begun_plays problem setup dealt deal history begun shown

  abbrev plays : Plays start hands history
  plays = begun_shown.plays

  abbrev played : List Move
  played = filled_moves start plays.seen

  legal : IsLegal start hands played
  legal = legal_filled start hands plays.seen (dealt_is problem setup dealt deal) plays.legal

  shows : history_of pone played ≡ history
  shows = history_events start hands played (started problem setup) (dealt_is problem setup dealt deal) legal
      ∙ ap (events start) (visible_filled start hands plays.seen (started problem setup) (dealt_is problem setup dealt deal) plays.legal) ∙ plays.shows

  followed : IsFollowed problem plan dealt played
  followed = record {
    deal = deal;
    legal = legal;
    begins = begun_shown.begins;
    follows = follows_from plan problem.played pone played (subst (FollowsBy plan problem.played) (sym shows) follows);
  }

  abbrev stated : Option ℕ
  stated = stated_card plan (place_by plan problem.played history)

  place_is : place_of plan problem.played pone played ≡ place_by plan problem.played history
  place_is = place_history plan problem.played pone played ∙ ap (place_by plan problem.played) shows

  free : is_stuck plan problem.played start hands played ≡ false
  free = sure.never_stuck dealt played followed

  owner_free : asked_now problem history ≡ turns.Owner → list_any (fits_at (count_after problem history)) (own_left problem history) ≡ true →
      is_playable hands played stated ≡ true
  owner_free asked some =
      let asks = asked_mover start (filled_record start (history_letters history)) Owner asked in
      let is_going : is_done start (letters_of played) ≡ false = ap (is_done start) (past_same problem setup dealt deal history plays) ∙ asks.0 in
      let is_mover : mover pone (letters_of played) ≡ Owner = mover_same problem setup dealt deal history plays ∙ asks.1 in
      let any : list_any (fits played) (cards_left hands Owner played) ≡ true = elim (cases_Bool (list_any (fits played) (cards_left hands Owner played))) [
        | inl is ↦ is
        | inr none ↦
            let may = own_may problem setup dealt deal history plays move.Go is_mover (record { not_done = is_going; may_take = rw is_mover none }) in
            absurd (both_ways (list_any (fits_at (count_after problem history)) (own_left problem history)) may.1 some)
      ] in
      let playable : Bool = is_playable hands played (stated_card plan (place_of plan problem.played pone played)) in
      ap (λ (place : Next). is_playable hands played (stated_card plan place)) (sym place_is)
      ∙ not_stuck (is_done start (letters_of played)) (same_side (mover pone (letters_of played)) Owner)
      (list_any (fits played) (cards_left hands Owner played)) playable free is_going (ap (λ (s : Side). same_side s Owner) is_mover) any

  plays_stated : asked_now problem history ≡ turns.Owner → (card : Option ℕ) → is_playable hands played card ≡ true →
      stated_next (count_after problem history) (own_left problem history) card ≡ Stuck → ⊥
  plays_stated asked None is e = absurd cc
  plays_stated asked (Some card) is e =
      let parts = and_parts (has (cards_left hands Owner played) card) (fits played card) is in
      let asks = asked_mover start (filled_record start (history_letters history)) Owner asked in
      let is_going : is_done start (letters_of played) ≡ false = ap (is_done start) (past_same problem setup dealt deal history plays) ∙ asks.0 in
      let is_mover : mover pone (letters_of played) ≡ Owner = mover_same problem setup dealt deal history plays ∙ asks.1 in
      let may = own_may problem setup dealt deal history plays (move.Card card) is_mover (record { not_done = is_going; may_take = rw is_mover parts }) in
      grind (arith, may.1, may.2, e)

  next_free : (asked : Turn) → asked_now problem history ≡ asked →
      next_for asked (count_after problem history) (own_left problem history) stated ≡ Stuck → ⊥
  next_free turns.Opponent asked e = absurd cc
  next_free turns.Over asked e = absurd cc
  next_free turns.Owner asked e = elim (cases_Bool (list_any (fits_at (count_after problem history)) (own_left problem history))) [
    | inl some ↦ plays_stated asked stated (owner_free asked some) (rw some at e)
    | inr none ↦ (let wrong = rw none at e in absurd cc)
  ]

  pub never_stuck : next_by problem history stated ≡ Stuck → ⊥
  never_stuck e = next_free (asked_now problem history) refl e

-- ---- a deal of the problem with the turns so far in its opening is one of the problem
fixed_with : (hold : List ℕ) (same : Bool) (what : Move) (cards : List ℕ) → list_all (has hold) (cond same (cards_with what cards) cards) ≡ true →
    list_all (has hold) cards ≡ true
fixed_with hold true (move.Card card) cards all = (and_parts (has hold card) _ all).1
fixed_with hold true move.Go cards all = all
fixed_with hold false what cards all = all

fixed_more : (hold : List ℕ) (side : Side) (before acts : List Act) → list_all (has hold) (cards_by side (before ++ acts)) ≡ true →
    list_all (has hold) (cards_by side acts) ≡ true
fixed_more hold side [] acts all = all
fixed_more hold side (act ∷ before) acts all =
    fixed_more hold side before acts (fixed_with hold (same_side act.side side) act.what (cards_by side (before ++ acts)) all)

some_agrees : (problem : Setup) (plan : List Node) (before : List Act) (at : Setup) (place : Next) → IsAfter problem plan before at place →
    (dealt : Dealt) × AgreesWith problem (history_with problem before) dealt
some_agrees problem plan before at place is =
    let dealt : Dealt = played_dealt at is.setup in
    let agrees : AgreesWith at (played_events at) dealt = played_agrees at is.setup in
    let F : List Act → Type 0 = λ acts. list_all (has dealt.hold) (cards_by Opponent acts) ≡ true in
    let A : List Act → Type 0 = λ acts. Agrees (start_of at) (hands_of at dealt) (map event_of acts) in
    let S : Setup → Type 0 = λ p. Agrees (start_of p) (hands_of p dealt) (history_with problem before) in (
      dealt,
      (
        record {
          deal = subst (λ (p : Setup). IsDeal (unseen_of p) dealt) is.same agrees.0.deal;
          fixed = fixed_more dealt.hold Opponent before (played_back problem) (subst F is.acts agrees.0.fixed);
        },
        subst S is.same (subst A is.acts agrees.1),
      ),
    )

-- ---- a turn that is not refused
is_stated_card : (stated : Option ℕ) (card : ℕ) → is_stated stated card ≡ true → stated ≡ Some card
is_stated_card None card e = absurd cc
is_stated_card (Some other) card e = ap Some (eqb-true other card e)

stated_turn : (plan : List Node) (place : Next) (side : Side) (what : Move) → strays_at plan place side what ≡ false →
    IsStatedEvent plan place (event_by side what)
stated_turn plan place Owner (move.Card card) e =
    is_stated_card (stated_card plan place) card (not-false (is_stated (stated_card plan place) card) e)
stated_turn plan place Owner move.Go e = tt
stated_turn plan place Opponent what e = tt

fine_or_end : (rule : Option ℕ) → unless_ending rule ≡ None → (rule ≡ None) ⊎ (rule ≡ Some already_over)
fine_or_end None e = inl refl
fine_or_end (Some number) e = elim (cases_Bool (eqb number already_over)) [
  | inl is ↦ inr (ap Some (eqb-true number already_over is))
  | inr other ↦ (let wrong : Some number ≡ None = rw other at e in absurd cc)
]

none_parts : (over : Bool) (rule : Option ℕ) (stray : Bool) → cond over (Some 45) (option_or (unless_ending rule) (cond stray (Some 46) None)) ≡ None →
    (unless_ending rule ≡ None) × (stray ≡ false)
none_parts over rule stray e = grind arith

not_refused : (line : ℕ) (refusal : Option ℕ) (later : Result NextTurn Refusal) (next : NextTurn) → unless_refused line refusal later ≡ Ok next →
    (refusal ≡ None) × (later ≡ Ok next)
not_refused line None later next e = (refl, e)
not_refused line (Some number) later next e = absurd cc

-- nobody is stuck once the deal is done
over_is_free : (problem : Setup) (plan : List Node) (before : List Act) (line : ℕ) (turns : List Act) →
    is_over_by (opening_basis_of problem) (acts_with problem before) ≡ true → next_from problem plan line before turns ≡ Ok Stuck → ⊥
over_is_free problem plan before line [] over e =
    let next : ◌≡◌ {A = Result NextTurn Refusal} (Ok Over) (Ok Stuck) = sym (none_after problem plan before line over [] (omega arith)) ∙ e in
    absurd cc
over_is_free problem plan before line (act ∷ turns) over e =
    let next : ◌≡◌ {A = Result NextTurn Refusal} (Err (record { line = line; number = after_end })) (Ok Stuck) =
    sym (some_after problem plan before line over (act ∷ turns) (omega arith)) ∙ e in
    absurd cc

-- a turn after which the owner is stuck at last
record Step (problem : Setup) (plan : List Node) (before : List Act) (act : Act) : Type 0 where
  fine : strays_at plan (place_with problem plan before) act.side act.what ≡ false
  later : Setup
  place : Next
  is_after : IsAfter problem plan (act ∷ before) later place

step : (problem : Setup) (plan : List Node) (before : List Act) (line : ℕ) (act : Act) (turns : List Act) (at : Setup) (place : Next) → IsMove act.what →
    IsAfter problem plan before at place → turn_refusal problem plan before act ≡ None → next_from problem plan line (act ∷ before) turns ≡ Ok Stuck →
    Step problem plan before act
step problem plan before line act turns at place move is fine more =
    let parts =
    none_parts (is_over_by (opening_basis_of problem) (acts_with problem before)) (act_refusal (opening_basis_of problem) (acts_with problem before) act)
    (strays_at plan (place_with problem plan before) act.side act.what) fine in
    elim (fine_or_end (act_refusal (opening_basis_of problem) (acts_with problem before) act) parts.0) [
      | inl none ↦
          let valid = with_one_more at act is.setup move (refusal_same problem plan before at place is act ∙ none) in
          record { fine = parts.1; later = _; place = _; is_after = after_more problem plan before at place is act _ valid refl }
      | inr end ↦
          absurd (over_is_free problem plan (act ∷ before) line turns (ends (opening_basis_of problem) (acts_with problem before) act end) more)
    ]

module _ (problem : Setup) (plan : List Node) (sure : IsSure problem plan) (setup : IsSetup problem) where
  stuck_free : (turns before : List Act) (line : ℕ) (at : Setup) (place : Next) → AllMoves turns → IsAfter problem plan before at place →
      FollowsBy plan problem.played (history_with problem before) → next_from problem plan line before turns ≡ Ok Stuck → ⊥
  stuck_free [] before line at place moves is follows e =
      let agrees = some_agrees problem plan before at place is in
      never_stuck problem plan (history_with problem before) setup (begins problem before) follows sure agrees.0 agrees.1 (ok_is _ Stuck e)
  stuck_free (act ∷ turns) before line at place moves is follows e =
      let parts = not_refused line (turn_refusal problem plan before act) (next_from problem plan (line + 1) (act ∷ before) turns) Stuck e in
      let one = step problem plan before (line + 1) act turns at place moves.0 is parts.0 parts.1 in
      stuck_free turns (act ∷ before) (line + 1) one.later one.place moves.1 one.is_after
      (follows, λ late. stated_turn plan (place_with problem plan before) act.side act.what one.fine) parts.1

pub sure_law : SureLaw
sure_law problem plan line turns setup are sure e =
    stuck_free problem plan sure setup turns [] line problem _ are.moves (after_none problem plan _ setup refl) (follows_at_start plan problem) e

-- ---- what comes next is that after all turns
ends_at : (problem : Setup) (plan : List Node) (turns before : List Act) (line : ℕ) (next : NextTurn) → next_from problem plan line before turns ≡ Ok next →
    next_after problem plan (reverse turns ++ before) ≡ next
ends_at problem plan [] before line next e = ok_is _ next e
ends_at problem plan (act ∷ turns) before line next e =
    let turned : reverse (act ∷ turns) ++ before ≡ reverse turns ++ act ∷ before =
    rw (reverse-append (act ∷ []) turns) (append_assoc (reverse turns) (act ∷ []) before) in
    let parts = not_refused line (turn_refusal problem plan before act) (next_from problem plan (line + 1) (act ∷ before) turns) next e in
    ap (next_after problem plan) turned ∙ ends_at problem plan turns (act ∷ before) (line + 1) next parts.1

-- the parts of an answer that plays a card
stated_parts : (count : ℕ) (left : List ℕ) (stated : Option ℕ) (card : ℕ) → stated_next count left stated ≡ Play card →
    (stated ≡ Some card) × (has left card ≡ true) × (fits_at count card ≡ true)
stated_parts count left None card e = absurd cc
stated_parts count left (Some other) card e = elim (cases_Bool (has left other && fits_at count other)) [
  | inl both ↦
      let same : other ≡ card = (let plays : Play other ≡ Play card = rw both at e in cc) in
      let parts = and_parts (has left other) (fits_at count other) both in
      (ap Some same, ap (has left) (sym same) ∙ parts.0, ap (fits_at count) (sym same) ∙ parts.1)
  | inr not_both ↦ (let wrong : Stuck ≡ Play card = rw not_both at e in absurd cc)
]

play_parts : (asked : Turn) (count : ℕ) (left : List ℕ) (stated : Option ℕ) (card : ℕ) → next_for asked count left stated ≡ Play card →
    (asked ≡ turns.Owner) × (stated ≡ Some card) × (has left card ≡ true) × (fits_at count card ≡ true)
play_parts turns.Opponent count left stated card e = absurd cc
play_parts turns.Over count left stated card e = absurd cc
play_parts turns.Owner count left stated card e = elim (cases_Bool (list_any (fits_at count) left)) [
  | inl some ↦ (let parts = stated_parts count left stated card (rw some at e) in (refl, parts.0, parts.1, parts.2))
  | inr none ↦ (let wrong : Go ≡ Play card = rw none at e in absurd cc)
]

pub next_is_after : (problem : Setup) (plan : List Node) (line : ℕ) (turns : List Act) (next : NextTurn) →
    next_from problem plan line [] turns ≡ Ok next → next_after problem plan (reverse turns) ≡ next
next_is_after problem plan line turns next e =
    ap (next_after problem plan) (sym (append-nil (reverse turns))) ∙ ends_at problem plan turns [] line next e

pub card_law : CardLaw
card_law problem plan line turns card e =
    let parts = play_parts _ _ _ _ card (next_is_after problem plan line turns (Play card) e) in
    record { asked = parts.0; stated = parts.1; held = parts.2; fits = parts.3 }
