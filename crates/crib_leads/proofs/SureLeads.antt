-- A sure plan after a card of the owner, and one that begins with this card.
use Rattle.std.proofs.Common.{◌≡◌, ℕ, true, false, not, ◌&&◌, List, [], ◌∷◌, ◌++◌, map, Option, Some, None, refl, sym, ap, subst, ◌∙◌, inl, inr, append_assoc}
use Rattle.std.proofs.Common.{arith, ◌↔◌, ◌⊎◌}
use Rattle.std.specs.List.{list_all, list_any}
use Rattle.std.specs.Option.{option_map}
use Rattle.std.proofs.lemmas.Bool.{and_parts, both_ways, cases_Bool, not-false}
use Rattle.std.proofs.lemmas.Bool.Decides.{nat_tests}
use Rattle.std.proofs.lemmas.List.{map-append}
use Rattle.std.proofs.lemmas.Option.{none-some, same_Some}
use Rattle.crib_cards.specs.Sets.{has}
use Rattle.crib_cards.specs.Sides.{same_side}
use Rattle.crib_cards.specs.Start.{Hands, Start, pone_of}
use Rattle.crib_cards.specs.declared.sides.Dealt.{Dealt}
use Rattle.crib_cards.specs.declared.sides.Side.{Side}
use Rattle.crib_cards.specs.declared.sides.Side.TheVariants.{Opponent, Owner}
use Rattle.crib_cards.specs.declared.moves.Act.{Act}
use Rattle.crib_cards.specs.declared.moves.Move.{Move}
use Rattle.crib_cards.specs.declared.moves.Move.TheVariants as move
use Rattle.crib_cards.proofs.Members.{any_found, any_from}
use Rattle.crib_cards.proofs.SetFacts.{has-append, in_set_where}
use Rattle.crib_play.specs.Fitting.{fits_at}
use Rattle.crib_play.specs.Record.{Record, count_of, mover, pile_of}
use Rattle.crib_play.specs.Score.{is_done}
use Rattle.crib_play.specs.Legal.{MayTake, cards_left, cards_of, fits, letters_of}
use Rattle.crib_play.specs.History.{Event, Own, acts_of, event_of, filled_moves, history_of, moves_of}
use Rattle.crib_play.proofs.FilledRecords.{filled_whole, letters_filled, not_silent_done}
use Rattle.crib_play.proofs.RecordsReached.{asked_mover}
use Rattle.crib_show.specs.declared.show.outcomes.Outcome.TheVariants.{Reached}
use Rattle.crib_problem.specs.Played.{OpeningBasis, asked_by, cards_by, cards_played, count_by_acts, own_left_by}
use Rattle.crib_problem.specs.Refusals.{does_not_fit, not_held}
use Rattle.crib_problem.specs.Setup.{IsDealOf, IsSetup, Setup, fixed_cards, hands_of, opening_basis_of, played_back, start_of}
use Rattle.crib_problem.proofs.AskedHolds.{MayFollow, asked_open, none_of_two}
use Rattle.crib_problem.proofs.StartLemmas.{hands_dealt, started}
use Rattle.crib_plan.specs.declared.plan.Next.{Next}
use Rattle.crib_plan.specs.declared.plan.Next.TheVariants.{End, To}
use Rattle.crib_plan.specs.declared.plan.Node.{Node}
use Rattle.crib_plan.specs.declared.plan.Node.TheVariants.{Play}
use Rattle.crib_plan.specs.Places.{node_at, place_after_card, plan_start, stated_card}
use Rattle.crib_know.specs.Knowledge.{played_events}
use Rattle.crib_know.specs.Hidden.{BeginsAfter}
use Rattle.crib_game.specs.Following.{is_playable, is_stuck, place_of}
use Rattle.crib_game.specs.Replay.{is_done_for, outcome_for, play_scores}
use Rattle.crib_sure.specs.HistoryPlaces.{FollowsBy, IsStatedEvent, place_by}
use Rattle.crib_sure.specs.Sure.{IsFollowed, IsSure}
use Rattle.crib_sure.proofs.PlaceByHistory.{begun_late, follows_at_start, follows_from, follows_to, place_at_start, place_history, place_later}
use Rattle.crib_check.proofs.ExtendedGames.{follows_earlier}
use Rattle.crib_search.specs.Winnable.{IsWinnable}
use Rattle.crib_players.specs.Players.{own_card}
use Rattle.crib_players.specs.Refutations.{may_play}
use Rattle.crib_players.specs.Laws.{longer}
use Rattle.crib_players.proofs.LastTurns.{GoOn, LastTurn, before_card, go_on, last_turn}
use Rattle.crib_players.proofs.Longer.{back, begins_shorter}
use Rattle.crib_players.proofs.SurePlayers.{Loss, loss, opening_going, playable_is}
use Rattle.crib_leads.specs.Laws.{BeginsWith, IsWinnableWith}
use Rattle.crib_leads.proofs.MovedPlans.{IsMoved, alike_states, follows_too, history_alike, moved, moved_node, with_first}

-- ---- a card that is not refused may be played
acts_have : (acts : List Act) (card : ℕ) → has (cards_played acts) card ≡ has (cards_of (moves_of acts)) card
acts_have [] card = refl
acts_have (act ∷ acts) card = by_move act.what (acts_have acts card)
  where
    by_move : (what : Move) → has (cards_played acts) card ≡ has (cards_of (moves_of acts)) card →
        has (cards_played (record { side = Owner; what = what } ∷ acts)) card ≡ has (cards_of (what ∷ moves_of acts)) card
    by_move (move.Card first) rest = grind (arith, nat_tests, rest, has-append (cards_of (moves_of acts)) (first ∷ []) card)
    by_move move.Go rest = rest

may_be_played : (problem : Setup) (before : List Act) (card : ℕ) → MayFollow (opening_basis_of problem) before (own_card card) →
    may_play problem before card ≡ true
may_be_played problem before card may =
    let basis : OpeningBasis = opening_basis_of problem in
    let parts = none_of_two (not (has (own_left_by basis before) card)) (not (fits_at (count_by_acts basis before) card)) not_held does_not_fit None may.may in
    let left = (in_set_where (λ c. has problem.hold c && not (has (cards_played before) c)) card (not-false (has (own_left_by basis before) card) parts.0)).1 in
    let fit : fits (filled_moves (start_of problem) (moves_of before)) card ≡ true =
    ap (λ (past : Record). fits_at (count_of (pile_of past)) card) (letters_filled (start_of problem) (moves_of before))
    ∙ not-false (fits_at (count_by_acts basis before) card) parts.1 in
    grind (arith, nat_tests, left, fit, acts_have before card)

module _ (problem : Setup) (setup : IsSetup problem) (card : ℕ) where
  abbrev start : Start
  start = start_of problem

  abbrev pone : Side
  pone = pone_of start

  abbrev next : Setup
  next = longer problem (own_card card)

  abbrev acts_before : List Act
  acts_before = played_back problem

  -- the history of the opening, and that with the card
  abbrev opening : List Event
  opening = played_events problem

  abbrev base : List Event
  base = Own (move.Card card) ∷ opening

  base_is : played_events next ≡ base
  base_is = ap (map event_of) (back problem (own_card card))

  begun_opening : BeginsAfter problem opening
  begun_opening = record { later = []; parts = refl }

  pub begun_before : (later : List Event) → BeginsAfter problem (later ++ base)
  begun_before later = record { later = later ++ Own (move.Card card) ∷ []; parts = sym (append_assoc later (Own (move.Card card) ∷ []) opening) }

  begun_after : (later : List Event) → BeginsAfter next (later ++ base)
  begun_after later = record { later = later; parts = ap (λ (rest : List Event). later ++ rest) (sym base_is) }

  -- ---- a plan directly after the card
  module _ (plan : List Node) where
    place_before : place_by plan problem.played base ≡ place_after_card plan (plan_start plan)
    place_before =
        place_later plan problem (Own (move.Card card)) opening begun_opening ∙ ap (place_after_card plan) (place_at_start plan problem)

    place_after : place_by plan next.played base ≡ plan_start plan
    place_after = ap (place_by plan next.played) (sym base_is) ∙ place_at_start plan next

    pub follows_before : BeginsWith plan card → FollowsBy plan problem.played base
    follows_before begins = (follows_at_start plan problem, λ late. ap (stated_card plan) (place_at_start plan problem) ∙ begins)

    follows_after : FollowsBy plan next.played base
    follows_after = subst (FollowsBy plan next.played) base_is (follows_at_start plan next)

  -- ---- the deals are the same
  same_fixed : fixed_cards next ≡ fixed_cards problem
  same_fixed = ap (cards_by Opponent) (back problem (own_card card))

  pub same_deal : (dealt : Dealt) → IsDealOf next dealt ↔ IsDealOf problem dealt
  same_deal dealt =
      let Fixed : List ℕ → Type 0 = λ cards. list_all (has dealt.hold) cards ≡ true in (
        λ deal. record { deal = deal.deal; fixed = subst Fixed same_fixed deal.fixed },
        λ deal. record { deal = deal.deal; fixed = subst Fixed (sym same_fixed) deal.fixed },
      )

  -- ---- a plan that begins with the card, and one that states the same cards after it
  module _ (before after : List Node) (begins : BeginsWith before card)
      (same : (later : List Event) →
      stated_card before (place_by before problem.played (later ++ base)) ≡ stated_card after (place_by after next.played (later ++ base))) where
    module _ (dealt : Dealt) (played : List Move) where
      abbrev hands : Hands
      hands = hands_of problem dealt

      module _ (later : List Event) (shows : history_of pone played ≡ later ++ base) where
        same_stuck : is_stuck before problem.played start hands played ≡ is_stuck after next.played start hands played
        same_stuck =
            ap (λ (stated : Option ℕ). not (is_done start (letters_of played)) && same_side (mover pone (letters_of played)) Owner
            && list_any (fits played) (cards_left hands Owner played) && not (is_playable hands played stated))
            (ap (stated_card before) (place_history before problem.played pone played ∙ ap (place_by before problem.played) shows)
            ∙ same later ∙ ap (stated_card after) (sym (place_history after next.played pone played ∙ ap (place_by after next.played) shows)))

      -- ---- a record with the card that follows the second plan
      module _ (is : IsFollowed next after dealt played) where
        shows_after : history_of pone played ≡ map event_of is.begins.later ++ base
        shows_after =
            ap (map event_of) is.begins.parts ∙ map-append event_of is.begins.later (played_back next)
            ∙ ap (λ (rest : List Event). map event_of is.begins.later ++ rest) base_is

        followed_before : IsFollowed problem before dealt played
        followed_before = record {
          deal = (same_deal dealt).0 is.deal;
          legal = is.legal;
          begins = begins_shorter problem (own_card card) (acts_of pone played) is.begins;
          follows = follows_from before problem.played pone played
              (subst (FollowsBy before problem.played) (sym shows_after)
              (follows_too after before next problem base begun_after begun_before (λ later. sym (same later)) (follows_before before begins)
              (map event_of is.begins.later) (subst (FollowsBy after next.played) shows_after (follows_to after next.played pone played is.follows))));
        }

    pub sure_after : IsSure problem before → IsSure next after
    sure_after sure = record {
      never_stuck = λ dealt played is.
          sym (same_stuck dealt played (map event_of is.begins.later) (shows_after dealt played is))
          ∙ sure.never_stuck dealt played (followed_before dealt played is);
      reached = λ dealt played is done. sure.reached dealt played (followed_before dealt played is) done;
    }

    -- ---- the card may be played
    module _ (may : MayFollow (opening_basis_of problem) acts_before (own_card card)) (dealt : Dealt) (played : List Move)
        (is : IsFollowed problem before dealt played) where
      abbrev held : Hands
      held = hands_of problem dealt

      abbrev filled : List Move
      filled = filled_moves start (moves_of acts_before)

      playable : is_playable held filled (Some card) ≡ true
      playable = playable_is problem dealt acts_before card ∙ may_be_played problem acts_before card may

      asks_owner : mover pone (letters_of filled) ≡ Owner
      asks_owner =
          ap (mover pone) (letters_filled start (moves_of acts_before))
          ∙ (asked_mover start _ Owner (asked_open (asked_by (opening_basis_of problem) acts_before) Owner may.turn)).1

      -- the record is no longer than the opening
      module _ (shows : acts_of pone played ≡ acts_before) where
        states_card : stated_card before (place_of before problem.played pone played) ≡ Some card
        states_card =
            ap (stated_card before) (place_history before problem.played pone played
            ∙ ap (λ (acts : List Act). place_by before problem.played (map event_of acts)) shows ∙ place_at_start before problem) ∙ begins

        not_lost : Loss start held played (Some card) → is_stuck before problem.played start held played ≡ false
        not_lost lost =
            let found = any_found (fits played) (cards_left held Owner played) lost.some in
            let same_moves = before_card start held (started problem setup) (hands_dealt problem setup dealt is.deal.deal) played acts_before found.0
            is.legal shows lost.going lost.who found.1 found.2 in
            absurd (both_ways (is_playable held played (Some card)) lost.none
            (ap (λ (past : List Move). is_playable held past (Some card)) same_moves ∙ playable))

        free : is_stuck before problem.played start held played ≡ false
        free = elim (cases_Bool (is_stuck before problem.played start held played)) [
          | inl stuck ↦
              not_lost (subst (Loss start held played) states_card
              (loss (λ acts. stated_card before (place_of before problem.played pone played)) start held played stuck))
          | inr fine ↦ fine
        ]

        not_yet : is_done start (letters_of played) ≡ true → ⊥
        not_yet done =
            let whole = filled_whole start held played (started problem setup) (hands_dealt problem setup dealt is.deal.deal) is.legal
            (not_silent_done start (letters_of played) done) in
            both_ways (is_done start (letters_of filled)) (opening_going problem setup)
            (ap (λ (moves : List Move). is_done start (letters_of moves)) (ap (λ (acts : List Act). filled_moves start (moves_of acts)) (sym shows) ∙ whole)
            ∙ done)

      -- the record goes on, and the card is the next act
      module _ (act : Act) (later : List Act) (parts : acts_of pone played ≡ later ++ act ∷ acts_before) where
        last : LastTurn start held act acts_before
        last = last_turn start held (started problem setup) (hands_dealt problem setup dealt is.deal.deal) played later acts_before act is.legal parts

        owners : mover pone (letters_of last.past) ≡ Owner
        owners = ap (λ (past : List Move). mover pone (letters_of past)) last.filled ∙ asks_owner

        stated_act : IsStatedEvent before (plan_start before) (event_of act)
        stated_act =
            let history : history_of pone played ≡ map event_of later ++ event_of act ∷ opening =
            ap (map event_of) parts ∙ map-append event_of later (act ∷ acts_before) in
            let follows = follows_earlier before problem.played (map event_of later) (event_of act ∷ opening)
            (subst (FollowsBy before problem.played) history (follows_to before problem.played pone played is.follows)) in
            subst (λ (place : Next). IsStatedEvent before place (event_of act)) (place_at_start before problem)
            (follows.1 (begun_late problem opening begun_opening))

        by_turn : (turn : Move) → record { side = mover pone (letters_of last.past); what = turn } ≡ act →
            MayTake held (mover pone (letters_of last.past)) turn last.past → act ≡ own_card card
        by_turn (move.Card other) is_act take =
            let own : act ≡ own_card other = sym is_act ∙ ap (λ (side : Side). record { side = side; what = move.Card other }) owners in
            let stated : stated_card before (plan_start before) ≡ Some other =
            subst (λ (a : Act). IsStatedEvent before (plan_start before) (event_of a)) own stated_act in
            own ∙ ap own_card (same_Some other card (sym stated ∙ begins))
        by_turn move.Go is_act take =
            let none : list_any (fits last.past) (cards_left held Owner last.past) ≡ false =
            subst (λ (side : Side). MayTake held side move.Go last.past) owners take in
            let both = and_parts (has (cards_left held Owner last.past) card) (fits last.past card)
            (ap (λ (past : List Move). is_playable held past (Some card)) last.filled ∙ playable) in
            absurd (both_ways (list_any (fits last.past) (cards_left held Owner last.past)) none
            (any_from (fits last.past) (cards_left held Owner last.past) card both.0 both.1))

        plays_card : act ≡ own_card card
        plays_card = by_turn last.turn last.is last.legal.1.may_take

        with_card : acts_of pone played ≡ later ++ own_card card ∷ acts_before
        with_card = parts ∙ ap (λ (a : Act). later ++ a ∷ acts_before) plays_card

        shows_before : history_of pone played ≡ map event_of later ++ base
        shows_before = ap (map event_of) with_card ∙ map-append event_of later (own_card card ∷ acts_before)

        followed_after : IsFollowed next after dealt played
        followed_after = record {
          deal = (same_deal dealt).1 is.deal;
          legal = is.legal;
          begins = record { later = later; parts = with_card ∙ ap (λ (rest : List Act). later ++ rest) (sym (back problem (own_card card))) };
          follows = follows_from after next.played pone played
              (subst (FollowsBy after next.played) (sym shows_before)
              (follows_too before after problem next base begun_before begun_after same (follows_after after) (map event_of later)
              (subst (FollowsBy before problem.played) shows_before (follows_to before problem.played pone played is.follows))));
        }

      cases : (acts_of pone played ≡ acts_before) ⊎ GoOn (acts_of pone played) acts_before
      cases = elim (go_on is.begins.later acts_before) [
        | inl same_acts ↦ inl (is.begins.parts ∙ same_acts)
        | inr more ↦ inr (record { act = more.act; later = more.later; parts = is.begins.parts ∙ more.parts })
      ]

      never_stuck : IsSure next after → is_stuck before problem.played start held played ≡ false
      never_stuck sure = elim cases [
        | inl shows ↦ free shows
        | inr more ↦
            same_stuck dealt played (map event_of more.later) (shows_before more.act more.later more.parts)
            ∙ sure.never_stuck dealt played (followed_after more.act more.later more.parts)
      ]

      reached : IsSure next after → is_done_for problem played ≡ true → outcome_for problem dealt (play_scores problem played) ≡ Reached
      reached sure done = elim cases [
        | inl shows ↦ absurd (not_yet shows done)
        | inr more ↦ sure.reached dealt played (followed_after more.act more.later more.parts) done
      ]

    pub sure_before : MayFollow (opening_basis_of problem) acts_before (own_card card) → IsSure next after → IsSure problem before
    sure_before may sure = record {
      never_stuck = λ dealt played is. never_stuck may dealt played is sure;
      reached = λ dealt played is done. reached may dealt played is sure done;
    }

  -- ---- a plan for after the card, and the plan that begins with the card
  module _ (after : List Node) where
    abbrev pub with_card_first : List Node
    with_card_first = Play card (moved (plan_start after)) ∷ map moved_node after

    states_first : (later : List Event) →
        stated_card with_card_first (place_by with_card_first problem.played (later ++ base)) ≡ stated_card after (place_by after next.played (later ++ base))
    states_first later =
        alike_states after with_card_first (place_by after next.played (later ++ base)) (place_by with_card_first problem.played (later ++ base))
        (history_alike after with_card_first next problem base begun_after begun_before
        (λ twin node some. with_first (Play card (moved (plan_start after))) after)
        (rw (place_after after, place_before with_card_first) (with_first (Play card (moved (plan_start after))) after (plan_start after))) later)

    pub first_sure : MayFollow (opening_basis_of problem) acts_before (own_card card) → IsSure next after → IsSure problem with_card_first
    first_sure may sure = sure_before with_card_first after refl states_first may sure

  -- ---- a plan that begins with the card, and the plan for after the card
  module _ (before : List Node) (begins : BeginsWith before card) where
    abbrev first_place : Next
    first_place = place_after_card before (plan_start before)

    -- it begins with the node at the place after the card, if there is one
    abbrev pub rest_from : Option Node → List Node
    rest_from None = []
    rest_from (Some node) = moved_node node ∷ map moved_node before

    rest_moved : (node : Option Node) → IsMoved before (rest_from node)
    rest_moved None twin node some = absurd (no_node twin some)
      where
        no_node : (twin : Next) → node_at [] twin ≡ Some node → ⊥
        no_node End some = none-some node some
        no_node (To index) some = none-some node some
    rest_moved (Some first) twin node some = with_first (moved_node first) before

    starts_alike : (node : Option Node) → node_at before first_place ≡ node →
        node_at (rest_from node) (plan_start (rest_from node)) ≡ option_map moved_node (node_at before first_place)
    starts_alike None is = ap (option_map moved_node) (sym is)
    starts_alike (Some first) is = ap (option_map moved_node) (sym is)

    abbrev pub rest : List Node
    rest = rest_from (node_at before first_place)

    states_rest : (later : List Event) →
        stated_card before (place_by before problem.played (later ++ base)) ≡ stated_card rest (place_by rest next.played (later ++ base))
    states_rest later =
        sym (alike_states before rest (place_by before problem.played (later ++ base)) (place_by rest next.played (later ++ base))
        (history_alike before rest problem next base begun_before begun_after (rest_moved (node_at before first_place))
        (rw (place_after rest, place_before before) (starts_alike (node_at before first_place) refl)) later))

    pub rest_sure : IsSure problem before → IsSure next rest
    rest_sure sure = sure_after before rest begins states_rest sure

  -- some plan is sure after the card exactly if some plan that begins with it is sure
  pub sure_card : MayFollow (opening_basis_of problem) acts_before (own_card card) → IsWinnable next ↔ IsWinnableWith problem card
  sure_card may = (
    λ is. record { plan = with_card_first is.plan; sure = first_sure is.plan may is.sure; begins = refl },
    λ is. record { plan = rest is.plan is.begins; sure = rest_sure is.plan is.begins is.sure },
  )
