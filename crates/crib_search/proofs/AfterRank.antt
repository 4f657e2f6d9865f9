-- When one plan is sure after each card of a rank that the opponent may play next.
use Rattle.std.proofs.Common.{◌≡◌, ℕ, Bool, true, false, not, ◌&&◌, cond, leb, List, [], ◌∷◌, ◌++◌, length, length-append, map, reverse, refl, sym, ap, ◌∙◌}
use Rattle.std.proofs.Common.{Option, ◌↔◌, ◌+◌, suc, Some, None, append_assoc, subst, arith}
use Rattle.std.specs.Prelude.{is_some}
use Rattle.std.specs.List.{list_all, list_any}
use Rattle.std.proofs.lemmas.Bool.{and_parts, and_from, both_ways, false_from_ne_true}
use Rattle.std.proofs.lemmas.List.{reverse-append, reverse-reverse}
use Rattle.crib_cards.specs.Cards.{rank_of}
use Rattle.crib_cards.specs.Sets.{has}
use Rattle.crib_cards.specs.Sides.{same_side}
use Rattle.crib_cards.specs.Start.{Start, pone_of, Hands}
use Rattle.crib_cards.specs.declared.sides.Side.{Side}
use Rattle.crib_cards.specs.declared.sides.Side.TheVariants.{Owner, Opponent}
use Rattle.crib_cards.specs.declared.sides.Dealt.{Dealt}
use Rattle.crib_cards.specs.declared.letters.Letter.TheVariants.{Seen}
use Rattle.crib_cards.specs.declared.moves.Move.{Move}
use Rattle.crib_cards.specs.declared.moves.Move.TheVariants as move
use Rattle.crib_cards.specs.declared.moves.Act.{Act}
use Rattle.crib_play.specs.declared.turns.Turn.TheVariants as turns
use Rattle.crib_play.specs.Record.{Record, mover}
use Rattle.crib_play.specs.Score.{is_done}
use Rattle.crib_play.specs.Filled.{filled_record}
use Rattle.crib_play.specs.Legal.{letters_of, cards_of, cards_left, fits, MayTake}
use Rattle.crib_play.specs.History.{Event, Theirs, event_of, acts_of, filled_moves, history_letters, history_of, moves_of, Agrees}
use Rattle.crib_problem.specs.declared.problem.Version.TheVariants.{Two}
use Rattle.crib_problem.specs.Played.{OpeningBasis, asked_by, count_by_acts, is_over_by, least_by, own_left_by, seen_by, turn_refusal, AreAllowed}
use Rattle.crib_problem.specs.Refusals.{already_over}
use Rattle.crib_problem.specs.Setup.{Setup, IsSetup, fixed_cards, start_of, hands_of, opening_basis_of, played_back, IsDealOf}
use Rattle.crib_problem.proofs.AskedHolds.{none_of_either, none_of_one}
use Rattle.crib_problem.proofs.HonestTurns.{may_begin}
use Rattle.crib_problem.proofs.MadeProblems.{in_version_two}
use Rattle.crib_problem.proofs.StartLemmas.{started}
use Rattle.crib_plan.specs.declared.plan.Next.{Next}
use Rattle.crib_plan.specs.declared.plan.Node.{Node}
use Rattle.crib_plan.specs.Places.{stated_card}
use Rattle.crib_game.specs.Following.{place_of, is_playable}
use Rattle.crib_know.specs.Knowledge.{Knowledge, asked_now, played_events}
use Rattle.crib_know.specs.Hidden.{AgreesWith, BeginsAfter, CanShow, KnowsAfter}
use Rattle.crib_know.specs.Private.Ahead.{turns_ahead}
use Rattle.crib_know.proofs.AgreeingIsPassing.{theirs_is}
use Rattle.crib_know.proofs.CardsLeft.{has-filter_parts}
use Rattle.crib_know.proofs.Deals.{dealt_is}
use Rattle.crib_know.proofs.Events.{plays_of}
use Rattle.crib_know.proofs.OpeningLawProofs.{letters_same, played_agrees, played_dealt, played_led}
use Rattle.crib_know.proofs.RecordTurns.{agrees_before}
use Rattle.crib_sure.specs.HistoryPlaces.{is_late, place_after_event, place_by, FollowsBy}
use Rattle.crib_sure.specs.Private.Suits.{first_of_rank, left_after_acts}
use Rattle.crib_sure.proofs.PlaceByHistory.{place_history}
use Rattle.crib_sure.proofs.RecordsFromOpening.{suited_acts, suited_legal, suited_turns}
use Rattle.crib_search.specs.declared.nodes.DraftPlace.{DraftPlace}
use Rattle.crib_search.specs.declared.nodes.DraftNode.{DraftNode}
use Rattle.crib_search.specs.Trees.{Tree, plan_of_tree}
use Rattle.crib_search.specs.Private.Nodes.{NamesFound}
use Rattle.crib_search.specs.Private.Search.{IsAnswer}
use Rattle.crib_search.specs.Finder.{Finds}
use Rattle.crib_search.specs.Winnable.{after_card, IsWinnableAfter}
use Rattle.crib_search.proofs.FoundIsSure.{sure_from}
use Rattle.crib_search.proofs.NoTreeNoPlan.{none_is_found, over_done, sure_serves, Serves}
use Rattle.crib_search.proofs.TreeWalks.{plan_stands}

-- ---- the place of a plan depends on how long the opening is, and on nothing else of it
module _ (plan : List Node) (one other : List Act) (long : length one ≡ length other) where
  same_late : (history : List Event) → is_late one history ≡ is_late other history
  same_late history = ap (λ (n : ℕ). leb n (length history)) long

  same_by : (history : List Event) → place_by plan one history ≡ place_by plan other history
  same_by [] = refl
  same_by (event ∷ history) = λ i. cond (same_late history i) (place_after_event plan (same_by history i) event) (same_by history i)

  same_place : (pone : Side) (past : List Move) → place_of plan one pone past ≡ place_of plan other pone past
  same_place pone past = place_history plan one pone past ∙ same_by (history_of pone past) ∙ sym (place_history plan other pone past)

  same_follows : (history : List Event) → FollowsBy plan one history → FollowsBy plan other history
  same_follows [] follows = tt
  same_follows (event ∷ history) follows =
      (same_follows history follows.0, λ late. rw (← same_by history) (follows.1 (same_late history ∙ late)))

-- ---- one more turn
module _ (problem : Setup) (card : ℕ) where
  abbrev next : Setup
  next = after_card problem card

  abbrev act : Act
  act = record { side = Opponent; what = move.Card card }

  back : played_back next ≡ act ∷ played_back problem
  back = reverse-append problem.played (act ∷ [])

  long_next : length next.played ≡ length problem.played + 1
  long_next = length-append problem.played (act ∷ [])

  events_next : (rank : ℕ) → rank_of card ≡ rank → played_events next ≡ Theirs (Seen rank) ∷ played_events problem
  events_next rank same = ap (map event_of) back ∙ ap (λ (r : ℕ). Theirs (Seen r) ∷ played_events problem) same

  shorter_deal : (dealt : Dealt) → IsDealOf next dealt → IsDealOf problem dealt
  shorter_deal dealt deal =
      let fixed : list_all (has dealt.hold) (card ∷ fixed_cards problem) ≡ true = rw back at deal.fixed in
      record { deal = deal.deal; fixed = (and_parts (has dealt.hold card) (list_all (has dealt.hold) (fixed_cards problem)) fixed).1 }

  longer_deal : (dealt : Dealt) → IsDealOf problem dealt → has dealt.hold card ≡ true → IsDealOf next dealt
  longer_deal dealt deal held = record {
    deal = deal.deal;
    fixed = rw back (and_from (has dealt.hold card) (list_all (has dealt.hold) (fixed_cards problem)) held deal.fixed);
  }

  shorter_begun : (history : List Event) → BeginsAfter next history → BeginsAfter problem history
  shorter_begun history begun =
      let event = Theirs (Seen (rank_of card)) in
      record {
        later = begun.later ++ event ∷ [];
        parts = begun.parts ∙ ap (λ (rest : List Event). begun.later ++ rest) (events_next (rank_of card) refl)
            ∙ sym (append_assoc begun.later (event ∷ []) (played_events problem));
      }

-- the history after the rank
abbrev pub rank_shown : Setup → ℕ → List Event
rank_shown problem rank = Theirs (Seen rank) ∷ played_events problem

module _ (problem : Setup) (setup : IsSetup problem) (rank : ℕ) where
  abbrev start : Start
  start = start_of problem

  abbrev basis : OpeningBasis
  basis = opening_basis_of problem

  abbrev shown : List Event
  shown = rank_shown problem rank

  over_same : (card : ℕ) → rank_of card ≡ rank →
      is_over_by basis (act problem card ∷ played_back problem) ≡ is_done start (filled_record start (history_letters shown))
  over_same card same = ap (λ (letters : Record). is_done start (filled_record start letters))
      (sym (letters_same (act problem card ∷ played_back problem)) ∙ ap (λ (r : ℕ). Seen r ∷ history_letters (played_events problem)) same)

  -- ---- where there is no such problem, or where a tree is found
  pub unshown_wins : (CanShow problem (played_events problem) (Seen rank) → ⊥) → IsWinnableAfter problem rank
  unshown_wins none = record {
    plan = [];
    sure = λ card same is. (
        let dealt = played_dealt (next problem card) is in
        let agrees = played_agrees (next problem card) is in
        let shows = subst (Agrees start (hands_of problem dealt)) (events_next problem card rank same) agrees.1 in
        absurd (none (dealt, (shorter_deal problem card dealt agrees.0, shows)))
        );
  }

  pub over_wins : asked_now problem shown ≡ turns.Over → IsWinnableAfter problem rank
  over_wins over = record {
    plan = [];
    sure = λ card same is. (
        let before = played_back problem in
        let allowed = subst (AreAllowed basis) (back problem card) is.allowed in
        let going = none_of_one (is_over_by basis (act problem card ∷ before)) already_over
        (none_of_either (turn_refusal (seen_by basis before) (asked_by basis before) (count_by_acts basis before) (own_left_by basis before)
        (least_by basis before) (act problem card)) (cond (is_over_by basis (act problem card ∷ before)) (Some already_over) None) allowed.1).1 in
        absurd (both_ways (is_over_by basis (act problem card ∷ before)) going
        (over_same card same ∙ over_done start (filled_record start (history_letters shown)) over))
        );
  }

  pub tree_wins : (more : ℕ) (tree : Tree) → Finds more problem shown (Some tree) → IsWinnableAfter problem rank
  tree_wins more tree finds = record {
    plan = plan_of_tree tree;
    sure = λ card same is.
        sure_from problem setup Two (next problem card).played is (shorter_deal problem card) (plan_of_tree tree) tree
        (more, subst (λ history. Finds more problem history (Some tree)) (sym (events_next problem card rank same)) finds) (plan_stands tree);
  }

  -- ---- a card of the rank in a deal that shows it
  record Opened (dealt : Dealt) : Type 0 where
    card : ℕ
    same : rank_of card ≡ rank
    valid : IsSetup (next problem card)
    deal : IsDealOf (next problem card) dealt

  opened : (asked_now problem shown ≡ turns.Over → ⊥) → (dealt : Dealt) → AgreesWith problem shown dealt → Opened dealt
  opened going dealt agrees =
      let hands : Hands = hands_of problem dealt in
      let later : List Event = Theirs (Seen rank) ∷ [] in
      let plays = plays_of start hands shown (started problem setup) (dealt_is problem setup dealt agrees.0) agrees.1 in
      let suited = suited_turns setup agrees.0 later plays in
      let card : ℕ = first_of_rank rank (left_after_acts dealt.hold (played_back problem)) in
      let listed : List Act = act problem card ∷ played_back problem in
      let past : List Move = filled_moves start (moves_of (played_back problem)) in
      let is = theirs_is (mover (pone_of start) (letters_of past)) (move.Card card) (Seen rank) (let shows = suited.shows in cc) in
      let same : rank_of card ≡ rank = let letters = is.1 in cc in
      let take : MayTake hands Opponent (move.Card card) past = rw is.0 at suited.legal.1.may_take in
      let acts : acts_of (pone_of start) (filled_moves start (moves_of listed)) ≡ listed = suited_acts setup agrees.0 later plays in
      let not_over : is_over_by basis listed ≡ false =
      over_same card same ∙ false_from_ne_true (is_done start (filled_record start (history_letters shown))) (λ done. going (rw done)) in
      let made = may_begin (record problem { version = Two }) (in_version_two problem setup) dealt agrees.0.deal (filled_moves start (moves_of listed)) refl
      (suited_legal setup agrees.0 later plays) (rw acts not_over) in
      let opening : reverse listed ≡ (next problem card).played =
      reverse-append (act problem card ∷ []) (played_back problem)
      ∙ ap (λ (front : List Act). front ++ act problem card ∷ []) (reverse-reverse problem.played) in
      record {
        card = card;
        same = same;
        valid = subst (λ (played : List Act). IsSetup (record problem { version = Two; played = played })) (ap reverse acts ∙ opening) made;
        deal = longer_deal problem card dealt agrees.0 (has-filter_parts (λ c. not (has (cards_of past) c)) dealt.hold card take.0).0;
      }

  -- a deal that agrees with a history also agrees with the beginning of it
  agrees_first : (dealt : Dealt) (later : List Event) → AgreesWith problem (later ++ shown) dealt → AgreesWith problem shown dealt
  agrees_first dealt [] agrees = agrees
  agrees_first dealt (event ∷ later) agrees = agrees_first dealt later (agrees_before problem setup dealt event (later ++ shown) agrees)

-- ---- where no tree is found, no plan is sure after each card
module _ (problem : Setup) (setup : IsSetup problem) (first : ℕ) (winnable : IsWinnableAfter problem (rank_of first))
    (going : asked_now problem (rank_shown problem (rank_of first)) ≡ turns.Over → ⊥) where
  abbrev given : List Act
  given = (next problem first).played

  serves : (dealt : Dealt) (history : List Event) → AgreesWith problem history dealt → BeginsAfter (next problem first) history →
      FollowsBy winnable.plan given history → Serves problem winnable.plan given history dealt
  serves dealt history agrees begun follows =
      let parts = begun.parts ∙ ap (λ (rest : List Event). begun.later ++ rest) (events_next problem first (rank_of first) refl) in
      let open_to = opened problem setup (rank_of first) going dealt
      (agrees_first problem setup (rank_of first) dealt begun.later (subst (λ h. AgreesWith problem h dealt) parts agrees)) in
      let other : Setup = next problem open_to.card in
      let long : length given ≡ length other.played = long_next problem first ∙ sym (long_next problem open_to.card) in
      let served = sure_serves other open_to.valid winnable.plan (winnable.sure open_to.card open_to.same open_to.valid) dealt history
      (open_to.deal, agrees.1)
      (record {
        later = begun.later;
        parts = parts ∙ ap (λ (rest : List Event). begun.later ++ rest) (sym (events_next problem open_to.card (rank_of first) open_to.same));
      })
      (same_follows winnable.plan given other.played long history follows) in
      record {
        plays = served.plays;
        unstuck = ap (λ (place : Next). stuck_at (filled_moves (start_of problem) served.plays.seen) place)
            (same_place winnable.plan given other.played long (pone_of (start_of problem)) (filled_moves (start_of problem) served.plays.seen))
            ∙ served.unstuck;
        reached = served.reached;
      }
    where
      stuck_at : List Move → Next → Bool
      stuck_at past place =
          not (is_done (start_of problem) (letters_of past)) && same_side (mover (pone_of (start_of problem)) (letters_of past)) Owner
          && list_any (fits past) (cards_left (hands_of problem dealt) Owner past)
          && not (is_playable (hands_of problem dealt) past (stated_card winnable.plan place))

  none_wins : (more : ℕ) → CanShow problem (played_events problem) (Seen (rank_of first)) → Finds more problem (rank_shown problem (rank_of first)) None → ⊥
  none_wins more can finds =
      let events = events_next problem first (rank_of first) refl in
      none_is_found problem setup winnable.plan (next problem first) (shorter_begun problem first) serves more
      (rw events (played_led problem setup, can)) (rw events finds)

pub no_tree_no_win : (problem : Setup) → IsSetup problem → (rank more : ℕ) → CanShow problem (played_events problem) (Seen rank) →
    (asked_now problem (rank_shown problem rank) ≡ turns.Over → ⊥) → Finds more problem (rank_shown problem rank) None → IsWinnableAfter problem rank → ⊥
no_tree_no_win problem setup rank more can going =
    let open_to = opened problem setup rank going can.0 can.1 in
    subst
    (λ (r : ℕ). CanShow problem (played_events problem) (Seen r) → (asked_now problem (rank_shown problem r) ≡ turns.Over → ⊥) →
    Finds more problem (rank_shown problem r) None → IsWinnableAfter problem r → ⊥)
    open_to.same (λ can going finds winnable. none_wins problem setup open_to.card winnable going more can finds) can going

-- ---- what the search finds after the rank
module _ (problem : Setup) (setup : IsSetup problem) (rank : ℕ) (know : Knowledge) (knows : KnowsAfter know problem (rank_shown problem rank)) where
  asked_same : know.round.asked ≡ asked_now problem (rank_shown problem rank)
  asked_same = ap (λ (k : Knowledge). k.round.asked) knows.knowledge

  pub over_found : know.round.asked ≡ turns.Over → IsWinnableAfter problem rank
  over_found over = over_wins problem setup rank (sym asked_same ∙ over)

  module _ (can : CanShow problem (played_events problem) (Seen rank)) (going : know.round.asked ≡ turns.Over → ⊥) (draft_nodes : List DraftNode) where
    by_tree : (found : Option DraftPlace) (more : ℕ) (tree : Option Tree) → NamesFound draft_nodes tree found →
        Finds more problem (rank_shown problem rank) tree → (is_some found ≡ true) ↔ IsWinnableAfter problem rank
    by_tree found more (Some tree) names finds = (λ is. tree_wins problem setup rank more tree finds, λ winnable. ap is_some names.1)
    by_tree found more None names finds = (
      λ is. absurd (both_ways (is_some found) (ap is_some names) is),
      λ winnable. absurd (no_tree_no_win problem setup rank more can (λ over. going (asked_same ∙ over)) finds winnable),
    )

    pub found_exactly : (found : Option DraftPlace) → IsAnswer problem draft_nodes know found → (is_some found ≡ true) ↔ IsWinnableAfter problem rank
    found_exactly found answer =
        let here = answer.each (rank_shown problem rank) (turns_ahead know) knows (omega arith) in by_tree found (suc (turns_ahead know)) here.0 here.1 here.2
