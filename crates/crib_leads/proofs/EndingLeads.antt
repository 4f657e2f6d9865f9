-- A card of the owner that may come next, and the verdict on it. The card may end the deal.
use Rattle.std.proofs.Common.{◌≡◌, ◌↔◌, ℕ, true, false, not, ◌&&◌, List, [], ◌∷◌, length, map, Option, Some, None, refl, sym, ap, subst, ◌∙◌, arith}
use Rattle.std.specs.Prelude.{IsTrue}
use Rattle.std.specs.List.{list_any}
use Rattle.std.proofs.lemmas.Bool.{both_ways, eqb-true, le-leb}
use Rattle.std.proofs.lemmas.List.{length-map}
use Rattle.crib_cards.specs.Sides.{same_side}
use Rattle.crib_cards.specs.Start.{Start, pone_of}
use Rattle.crib_cards.specs.declared.sides.Dealt.{Dealt}
use Rattle.crib_cards.specs.declared.sides.Side.TheVariants.{Owner}
use Rattle.crib_cards.specs.declared.moves.Act.{Act}
use Rattle.crib_cards.specs.declared.moves.Move.{Move}
use Rattle.crib_cards.specs.declared.moves.Move.TheVariants as move
use Rattle.crib_play.specs.Filled.{filled_record}
use Rattle.crib_play.specs.Record.{Record, mover}
use Rattle.crib_play.specs.Score.{is_done, scores_after}
use Rattle.crib_play.specs.Legal.{IsLegal, cards_left, fits, letters_of}
use Rattle.crib_play.specs.History.{Event, Own, acts_of, event_of, history_letters, history_of, moves_of}
use Rattle.crib_play.proofs.FilledRecords.{letters_filled, not_silent_done}
use Rattle.crib_show.specs.Outcome.{outcome_of}
use Rattle.crib_show.specs.declared.show.outcomes.Outcome.TheVariants as outcome
use Rattle.crib_problem.specs.Refusals.{already_over}
use Rattle.crib_problem.specs.Setup.{IsDealOf, IsSetup, Setup, hands_of, opening_basis_of, played_back, start_of}
use Rattle.crib_plan.specs.declared.plan.Next.{Next}
use Rattle.crib_plan.specs.declared.plan.Node.{Node}
use Rattle.crib_plan.specs.Places.{stated_card}
use Rattle.crib_know.specs.Knowledge.{played_events}
use Rattle.crib_know.proofs.Events.{plays_filled}
use Rattle.crib_know.proofs.FixedCards.{allowed_parts}
use Rattle.crib_know.proofs.OpeningLawProofs.{letters_same}
use Rattle.crib_game.specs.declared.section.game.Game.{Game}
use Rattle.crib_game.specs.Following.{is_playable, is_stuck}
use Rattle.crib_game.specs.Replay.{is_done_for, outcome_for, play_scores}
use Rattle.crib_sure.specs.HistoryPlaces.{FollowsBy, IsStatedEvent, place_by}
use Rattle.crib_sure.specs.Shows.{IsReachedBehind, full_behind}
use Rattle.crib_sure.specs.Sure.{IsFollowed}
use Rattle.crib_sure.proofs.PlaceByHistory.{follows_to, place_history}
use Rattle.crib_check.specs.Missed.{IsMissedWith}
use Rattle.crib_search.specs.Winnable.{IsWinnable}
use Rattle.crib_search.proofs.NoTreeNoPlan.{over_done, sure_serves}
use Rattle.crib_search.proofs.RecordHistories.{letters_whole}
use Rattle.crib_players.specs.Players.{AreBy, IsPlayedBy, follower_of, own_card}
use Rattle.crib_players.specs.Laws.{longer}
use Rattle.crib_players.proofs.SurePlayers.{is_over_with, none_lost, whole}
use Rattle.crib_leads.specs.declared.verdict.LeadVerdict.{LeadVerdict}
use Rattle.crib_leads.specs.declared.verdict.LeadVerdict.TheVariants.{Beaten, Missed, Reached, Sure}
use Rattle.crib_leads.specs.Leads.{HasEnded, IsVerdictBy, IsVerdictOn, is_next, is_sure, refusal_of}
use Rattle.crib_leads.specs.Laws.{IsWinnableWith, SureLeadLaw, VerdictLaw}
use Rattle.crib_leads.proofs.EndedTurns.{may_end, over_now}
use Rattle.crib_leads.proofs.SureLeads.{begun_before, follows_before, same_deal, sure_card}

-- ---- a record that follows a plan is one of the player who follows the plan
module _ (problem : Setup) (plan : List Node) where
  by_plan : (acts : List Act) → FollowsBy plan problem.played (map event_of acts) → AreBy (length problem.played) (follower_of problem plan) acts
  by_plan [] follows = tt
  by_plan (act ∷ before) follows = (
    by_plan before follows.0,
    λ late card is.
        subst (λ (a : Act). IsStatedEvent plan (place_by plan problem.played (map event_of before)) (event_of a)) is
        (follows.1 (le-leb (length problem.played) (length (map event_of before)) (omega (arith, late, length-map before event_of)))),
  )

  played_by : (dealt : Dealt) (played : List Move) → IsFollowed problem plan dealt played → IsPlayedBy problem (follower_of problem plan) dealt played
  played_by dealt played is = record {
    deal = is.deal;
    legal = is.legal;
    begins = is.begins;
    by = by_plan (acts_of (pone_of (start_of problem)) played) (follows_to plan problem.played (pone_of (start_of problem)) played is.follows);
  }

module _ (problem : Setup) (setup : IsSetup problem) (card : ℕ) where
  abbrev start : Start
  start = start_of problem

  abbrev act : Act
  act = own_card card

  abbrev next : Setup
  next = longer problem act

  abbrev history : List Event
  history = Own (move.Card card) ∷ played_events problem

  -- the outcome of a record that is done depends on its history
  outcome_behind : (dealt : Dealt) (played : List Move) → IsDealOf problem dealt → IsLegal start (hands_of problem dealt) played →
      history_of (pone_of start) played ≡ history → is_done_for problem played ≡ true →
      outcome_for problem dealt (play_scores problem played) ≡ outcome_of (full_behind problem history dealt)
  outcome_behind dealt played deal legal shows done =
      ap (λ (letters : Record). outcome_for problem dealt (scores_after start letters))
      (letters_whole problem setup dealt deal played legal (not_silent_done start (letters_of played) done)
      ∙ ap (λ (h : List Event). filled_record start (history_letters h)) shows)

  -- ---- a card that ends the deal
  module _ (refused : refusal_of problem act ≡ Some already_over) where
    done_then : is_done start (filled_record start (history_letters history)) ≡ true
    done_then = over_done start (filled_record start (history_letters history)) (over_now problem act refused)

    over : is_over_with problem act ≡ true
    over = ap (is_done start) (letters_filled start (moves_of (act ∷ played_back problem))
        ∙ ap (filled_record start) (sym (letters_same (act ∷ played_back problem)))) ∙ done_then

    -- if the goal is reached with it, a plan with no node is sure after it
    module _ (dealt : Dealt) (played : List Move) (is : IsFollowed next [] dealt played) where
      by_nothing : IsPlayedBy next (follower_of next []) dealt played
      by_nothing = played_by next [] dealt played is

      shows : history_of (pone_of start) played ≡ history
      shows = ap (map event_of) (whole problem setup act over by_nothing)

      free : is_stuck [] next.played start (hands_of problem dealt) played ≡ false
      free =
          ap (λ (place : Next). not (is_done start (letters_of played)) && same_side (mover (pone_of start) (letters_of played)) Owner
          && list_any (fits played) (cards_left (hands_of problem dealt) Owner played)
          && not (is_playable (hands_of problem dealt) played (stated_card [] place))) (place_history [] next.played (pone_of start) played)
          ∙ none_lost problem setup act over by_nothing

      reached_then : IsReachedBehind problem history → is_done_for problem played ≡ true →
          outcome_for problem dealt (play_scores problem played) ≡ outcome.Reached
      reached_then reached done =
          let deal = (same_deal problem setup card dealt).0 is.deal in
          outcome_behind dealt played deal is.legal shows done ∙ reached dealt (deal, (played, is.legal, shows))

    after_reached : IsReachedBehind problem history → IsWinnable next
    after_reached reached = record {
      plan = [];
      sure = record {
        never_stuck = λ dealt played is. free dealt played is;
        reached = λ dealt played is done. reached_then dealt played is reached done;
      };
    }

    -- if some plan that begins with it is sure, the goal is reached with it
    reached_with : IsWinnableWith problem card → IsReachedBehind problem history
    reached_with is dealt agrees =
        let served = sure_serves problem setup is.plan is.sure dealt history agrees (begun_before problem setup card [])
        (follows_before problem setup card is.plan is.begins) in
        let letters = plays_filled start (hands_of problem dealt) history served.plays in
        ap (λ (past : Record). outcome_for problem dealt (scores_after start past)) (sym letters)
        ∙ served.reached (ap (is_done start) letters ∙ done_then)

    pub sure_end : IsReachedBehind problem history ↔ IsWinnableWith problem card
    sure_end = (λ reached. (sure_card problem setup card (may_end problem act refused)).0 (after_reached reached), reached_with)

  -- ---- what a verdict says
  not_missed : (game : Game) → IsMissedWith problem act game → IsReachedBehind problem history → ⊥
  not_missed game is reached =
      let shows : history_of (pone_of start) is.played ≡ history =
      ap (map event_of) (is.of_game.acts ∙ is.acts) ∙ ap (λ (event : Event). event ∷ played_events problem) is.alike in
      is.missed (outcome_behind game.opp is.played is.of_game.deal is.of_game.legal shows is.done
      ∙ reached game.opp (is.of_game.deal, (is.played, is.of_game.legal, shows)))

  says_ended : (verdict : LeadVerdict) → HasEnded problem act verdict → IsTrue (is_sure verdict) ↔ IsReachedBehind problem history
  says_ended (Sure nodes) is = absurd is
  says_ended (Beaten beaten open_deals) is = absurd is
  says_ended Reached is = (λ e. is, λ reached. refl)
  says_ended Missed is = (λ e. absurd (both_ways false refl e), λ reached. absurd (not_missed is.0 is.1 reached))

  says_on : (verdict : LeadVerdict) → IsVerdictOn next verdict → IsTrue (is_sure verdict) ↔ IsWinnable next
  says_on (Sure nodes) is = (λ e. record { plan = is.plan; sure = is.sure }, λ winnable. refl)
  says_on (Beaten beaten open_deals) is = (λ e. absurd (both_ways false refl e), λ winnable. absurd (is.none winnable))
  says_on Reached is = absurd is
  says_on Missed is = absurd is

  going : refusal_of problem act ≡ None → IsWinnable next ↔ IsWinnableWith problem card
  going none = sure_card problem setup card (allowed_parts (opening_basis_of problem) (played_back problem) act none)

  by_refusal : (verdict : LeadVerdict) (refusal : Option ℕ) → refusal_of problem act ≡ refusal → IsTrue (is_next refusal) →
      IsVerdictBy refusal problem act verdict → IsTrue (is_sure verdict) ↔ IsWinnableWith problem card
  by_refusal verdict None same may is =
      let says = says_on verdict is in
      let sure = going same in (λ e. sure.0 (says.0 e), λ with_card. says.1 (sure.1 with_card))
  by_refusal verdict (Some number) same may is =
      let says = says_ended verdict is in
      let sure = sure_end (same ∙ ap Some (eqb-true number already_over may)) in (λ e. sure.0 (says.0 e), λ with_card. says.1 (sure.1 with_card))

pub sure_law : SureLeadLaw
sure_law problem card setup none = going problem setup card none

pub verdict_law : VerdictLaw
verdict_law problem card verdict setup may is = by_refusal problem setup card verdict (refusal_of problem (own_card card)) refl may is
