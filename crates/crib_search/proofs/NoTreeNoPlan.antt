-- If no tree is found, no plan is sure.
use Rattle.std.proofs.Common.{◌≡◌, ℕ, zero, suc, ◌+◌, true, false, List, [], ◌∷◌, Option, Some, None, refl, sym, ap, ◌∙◌, inl, inr}
use Rattle.std.specs.List.{list_any}
use Rattle.std.proofs.lemmas.Bool.{and_parts, both_ways, leb-true, true_from_ne_false}
use Rattle.crib_cards.specs.Cards.{card_value, rank_of}
use Rattle.crib_cards.specs.Sets.{has}
use Rattle.crib_cards.specs.Sides.{same_side}
use Rattle.crib_cards.specs.Start.{Start, pone_of, Hands}
use Rattle.crib_cards.specs.declared.sides.Side.{Side}
use Rattle.crib_cards.specs.declared.sides.Side.TheVariants.{Owner}
use Rattle.crib_cards.specs.declared.sides.Dealt.{Dealt}
use Rattle.crib_cards.specs.declared.letters.Letter.{Letter}
use Rattle.crib_cards.specs.declared.letters.Letter.TheVariants.{Seen}
use Rattle.crib_cards.specs.declared.moves.Move.{Move}
use Rattle.crib_cards.specs.declared.moves.Move.TheVariants as move
use Rattle.crib_cards.specs.declared.moves.Act.{Act}
use Rattle.crib_play.specs.declared.turns.Turn.{Turn}
use Rattle.crib_play.specs.declared.turns.Turn.TheVariants as turns
use Rattle.crib_play.specs.Record.{Record, mover}
use Rattle.crib_play.specs.Score.{scores_after, is_done, side_asked, asked_after}
use Rattle.crib_play.specs.Filled.{filled_record}
use Rattle.crib_play.specs.Legal.{letters_of, cards_left, fits, MayCome, IsLegal}
use Rattle.crib_play.specs.History.{filled_moves, Event, Own, Theirs, history_of, history_letters}
use Rattle.crib_play.proofs.RecordsReached.{asked_mover}
use Rattle.crib_show.specs.Outcome.{outcome_of}
use Rattle.crib_show.specs.declared.show.outcomes.Outcome.TheVariants.{Reached}
use Rattle.crib_problem.specs.Setup.{Setup, IsSetup, start_of, hands_of, IsDealOf}
use Rattle.crib_problem.proofs.StartLemmas.{started}
use Rattle.crib_plan.specs.declared.plan.Node.{Node}
use Rattle.crib_plan.specs.Places.{stated_card}
use Rattle.crib_game.specs.Replay.{is_done_for, outcome_for, play_scores}
use Rattle.crib_game.specs.Following.{place_of, is_playable, is_stuck}
use Rattle.crib_know.specs.Knowledge.{played_events, count_after, asked_now}
use Rattle.crib_know.proofs.LedHistories as know
use Rattle.crib_know.specs.Hidden.{AgreesWith, BeginsAfter}
use Rattle.crib_know.proofs.LedHistories.{IsLed}
use Rattle.crib_know.proofs.Events.{Plays, plays_of}
use Rattle.crib_know.proofs.PassingIsAgreeing.{agrees_passes, passing_agrees}
use Rattle.crib_know.proofs.Deals.{dealt_is}
use Rattle.crib_know.proofs.KnowledgeFacts.{begin_more, first_deal_is}
use Rattle.crib_sure.specs.Sure.{IsFollowed, IsSure}
use Rattle.crib_sure.specs.Shows.{full_behind}
use Rattle.crib_search.specs.Finder.{Found, options, OwnerFinds, Tries, Finds}
use Rattle.crib_sure.specs.HistoryPlaces.{place_by, IsStatedEvent, FollowsBy}
use Rattle.crib_sure.proofs.PlaceByHistory.{follows_at_start, place_history, follows_from}
use Rattle.crib_sure.proofs.RecordsFromOpening.{begun_plays}
use Rattle.crib_search.specs.Private.States.{IsOption}
use Rattle.crib_search.proofs.Options.{option_is, option_from, no_option, option_left, left_option}
use Rattle.crib_search.proofs.RecordHistories.{legal_past, history_past, letters_past, left_of, fits_past, led_by_record}
use Rattle.crib_search.proofs.FoundBySide.{for_turn, tries_there, opponent_none}
use Rattle.crib_search.proofs.AlikeHistories.{AreAlike, sight_of, alike_more, letters_alike, asked_alike, theirs_alike, least_alike, option_alike, show_alike}
use Rattle.crib_cards.proofs.Members.{has_here, any_from}
use Rattle.crib_sure.proofs.PlaceByHistory.{not_stuck}
use Rattle.crib_search.proofs.CardsToTry.{none_left_fits}

-- a deal whose play is over is done
pub over_done : (start : Start) (past : Record) → asked_after start past ≡ turns.Over → is_done start past ≡ true
over_done start past e = true_from_ne_false (is_done start past) (λ going. asked_some (mover (pone_of start) past) (rw going at e))
  where
    asked_some : (side : Side) → side_asked side ≡ turns.Over → ⊥
    asked_some Owner h = cc
    asked_some side h = cc

playable_some : (hands : Hands) (past : List Move) (stated : Option ℕ) → is_playable hands past stated ≡ true → (card : ℕ) × (stated ≡ Some card) ×
    (has (cards_left hands Owner past) card ≡ true) × (fits past card ≡ true)
playable_some hands past None e = absurd (both_ways false refl e)
playable_some hands past (Some card) e = let parts = and_parts (has (cards_left hands Owner past) card) (fits past card) e in (card, refl, parts.0, parts.1)

-- ---- the visible turns of a deal that show a history, and what a plan does after them
pub record Serves (problem : Setup) (plan : List Node) (given : List Act) (history : List Event) (dealt : Dealt) : Type 0 where
  pub plays : Plays (start_of problem) (hands_of problem dealt) history
  pub unstuck : is_stuck plan given (start_of problem) (hands_of problem dealt) (filled_moves (start_of problem) plays.seen) ≡ false
  pub reached : is_done_for problem (filled_moves (start_of problem) plays.seen) ≡ true →
      outcome_for problem dealt (play_scores problem (filled_moves (start_of problem) plays.seen)) ≡ Reached

pub sure_serves : (problem : Setup) → IsSetup problem → (plan : List Node) → IsSure problem plan → (dealt : Dealt) (history : List Event) →
    AgreesWith problem history dealt → BeginsAfter problem history → FollowsBy plan problem.played history → Serves problem plan problem.played history dealt
sure_serves problem setup plan sure dealt history agrees begun follows =
    let start = start_of problem in
    let hands = hands_of problem dealt in
    let real = dealt_is problem setup dealt agrees.0 in
    let some = begun_plays problem setup dealt agrees.0 history begun (plays_of start hands history (started problem setup) real agrees.1) in
    let past : List Move = filled_moves start some.plays.seen in
    let followed : IsFollowed problem plan dealt past = record {
      deal = agrees.0;
      legal = legal_past problem setup dealt agrees.0 history some.plays;
      begins = some.begins;
      follows = follows_from plan problem.played (pone_of start) past (rw (history_past problem setup dealt agrees.0 history some.plays) follows);
    } in
    record { plays = some.plays; unstuck = sure.never_stuck dealt past followed; reached = sure.reached dealt past followed }

-- a plan serves after each history that begins with an opening and follows it. The opening begins with that of the problem
module _ (problem : Setup) (setup : IsSetup problem) (plan : List Node) (longer : Setup)
    (wider : (history : List Event) → BeginsAfter longer history → BeginsAfter problem history)
    (serves : (dealt : Dealt) (history : List Event) → AgreesWith problem history dealt → BeginsAfter longer history → FollowsBy plan longer.played history →
    Serves problem plan longer.played history dealt) where
  abbrev start : Start
  start = start_of problem

  -- ---- a deal in which the plan serves
  module _ (dealt : Dealt) (deal : IsDealOf problem dealt) (history : List Event) (served : Serves problem plan longer.played history dealt) where
    abbrev hands : Hands
    hands = hands_of problem dealt

    abbrev plays : Plays start hands history
    plays = served.plays

    abbrev past : List Move
    past = filled_moves start plays.seen

    legal : IsLegal start hands past
    legal = legal_past problem setup dealt deal history plays

    shows : history_of (pone_of start) past ≡ history
    shows = history_past problem setup dealt deal history plays

    letters_are : letters_of past ≡ filled_record start (history_letters history)
    letters_are = letters_past problem setup dealt deal history plays

    reached_here : asked_now problem history ≡ turns.Over → outcome_of (full_behind problem history dealt) ≡ Reached
    reached_here over =
        let done : is_done start (letters_of past) ≡ true = ap (is_done start) letters_are
        ∙ over_done start (filled_record start (history_letters history)) over in
        ap (λ (letters : Record). outcome_for problem dealt (scores_after start letters)) (sym letters_are)
        ∙ served.reached done

    module _ (asked : asked_now problem history ≡ turns.Owner) (card : ℕ) (option : IsOption problem history card) where
      not_done : is_done start (letters_of past) ≡ false
      not_done = ap (is_done start) letters_are ∙ (asked_mover start (filled_record start (history_letters history)) Owner asked).0

      mine : mover (pone_of start) (letters_of past) ≡ Owner
      mine = ap (mover (pone_of start)) letters_are ∙ (asked_mover start (filled_record start (history_letters history)) Owner asked).1

      some_fits : list_any (fits past) (cards_left hands Owner past) ≡ true
      some_fits =
          any_from (fits past) (cards_left hands Owner past) card (left_of problem setup dealt deal history plays card option.held option.free)
          (fits_past problem setup dealt deal history plays card ∙ option.fits)

      plays_one : is_playable hands past (stated_card plan (place_of plan longer.played (pone_of start) past)) ≡ true
      plays_one =
          not_stuck (is_done start (letters_of past)) (same_side (mover (pone_of start) (letters_of past)) Owner)
          (list_any (fits past) (cards_left hands Owner past))
          (is_playable hands past (stated_card plan (place_of plan longer.played (pone_of start) past))) served.unstuck not_done
          (ap (λ (side : Side). same_side side Owner) mine) some_fits

      place_is : place_of plan longer.played (pone_of start) past ≡ place_by plan longer.played history
      place_is = place_history plan longer.played (pone_of start) past ∙ ap (place_by plan longer.played) shows

      -- the plan states a card, and the card may be next
      stated_here : (stated : ℕ) × (stated_card plan (place_by plan longer.played history) ≡ Some stated) ×
          know.MayCome problem history (Own (move.Card stated))
      stated_here =
          let one = playable_some hands past (stated_card plan (place_of plan longer.played (pone_of start) past)) plays_one in
          let may : MayCome start hands (move.Card one.0) past = record { not_done = not_done; may_take = rw mine (one.2, one.3) } in
          let led = led_by_record problem setup dealt deal (move.Card one.0 ∷ past) (legal, may) in
          (one.0, ap (stated_card plan) (sym place_is) ∙ one.1, rw (mine, shows) at led.1)

  -- ---- some deal has a history that can be next
  stated_at : (history : List Event) → IsLed problem history → BeginsAfter longer history → FollowsBy plan longer.played history →
      asked_now problem history ≡ turns.Owner → (card : ℕ) → IsOption problem history card →
      (stated : ℕ) × (stated_card plan (place_by plan longer.played history) ≡ Some stated) × know.MayCome problem history (Own (move.Card stated))
  stated_at history led begun follows asked card option =
      let first = first_deal_is problem setup history led (wider history begun) in
      stated_here _ first.agrees.0 history (serves _ history first.agrees begun follows) asked card option

  -- if no card is an option, the owner may say go
  go_may : (history : List Event) → asked_now problem history ≡ turns.Owner → ((card : ℕ) → IsOption problem history card → ⊥) →
      know.MayCome problem history (Own move.Go)
  go_may history asked none = (asked, none_left_fits problem history none)

  -- ---- a tree is found after each history that is alike to one that follows the plan
  record AreTwins (one other : List Event) : Type 0 where
    led : IsLed problem one
    led_other : IsLed problem other
    begun : BeginsAfter problem one
    begun_other : BeginsAfter longer other
    alike : AreAlike one other
    follows : FollowsBy plan longer.played other

  twins_more : (one other : List Event) → AreTwins one other → (event twin : Event) → sight_of event ≡ sight_of twin → know.MayCome problem one event →
      know.MayCome problem other twin → IsStatedEvent plan (place_by plan longer.played other) twin → AreTwins (event ∷ one) (twin ∷ other)
  twins_more one other twins event twin same may may_other stated = record {
    led = (twins.led, may);
    led_other = (twins.led_other, may_other);
    begun = begin_more problem event one twins.begun;
    begun_other = begin_more longer twin other twins.begun_other;
    alike = alike_more event twin one other same twins.alike;
    follows = (twins.follows, λ late. stated);
  }

  module _ (more : ℕ) (later : (one other : List Event) → Finds more problem one None → AreTwins one other → ⊥)
      (one other : List Event) (finds : Finds (suc more) problem one None) (twins : AreTwins one other) where
    abbrev find : Found
    find = λ further after. Finds more problem further after

    asked_other : (turn : Turn) → asked_now problem one ≡ turn → asked_now problem other ≡ turn
    asked_other turn e = sym (asked_alike problem setup one other twins.alike twins.led twins.led_other) ∙ e

    option_other : (card : ℕ) → IsOption problem other card → (twin : ℕ) × IsOption problem one twin × (rank_of twin ≡ rank_of card)
    option_other = option_alike problem setup other one (sym twins.alike) twins.led_other twins.led

    reached : asked_now problem one ≡ turns.Over → (dealt : Dealt) → AgreesWith problem one dealt → outcome_of (full_behind problem one dealt) ≡ Reached
    reached over dealt agrees =
        let passes = rw (theirs_alike one other twins.alike, least_alike problem one other twins.alike) at
        (agrees_passes problem setup dealt agrees.0 one agrees) in
        let also = passing_agrees problem setup dealt agrees.0 other twins.led_other passes in
        ap (λ (letters : List Letter). outcome_for problem dealt (scores_after start (filled_record start letters)))
        (letters_alike one other twins.alike)
        ∙ reached_here dealt agrees.0 other (serves dealt other also twins.begun_other twins.follows) (asked_other turns.Over over)

    goes : asked_now problem one ≡ turns.Owner → options problem one ≡ [] → Finds more problem (Own move.Go ∷ one) None → ⊥
    goes asked none found =
        later (Own move.Go ∷ one) (Own move.Go ∷ other) found
        (twins_more one other twins (Own move.Go) (Own move.Go) refl (go_may one asked (no_option problem one none))
        (go_may other (asked_other turns.Owner asked) (λ card is. let twin = option_other card is in no_option problem one none twin.0 twin.1)) tt)

    tries : asked_now problem one ≡ turns.Owner → (card : ℕ) → IsOption problem one card → Tries find one (options problem one) None → ⊥
    tries asked card is tried =
        let mine = option_alike problem setup one other twins.alike twins.led twins.led_other card is in
        let stated = stated_at other twins.led_other twins.begun_other twins.follows (asked_other turns.Owner asked) mine.0 mine.1 in
        let twin = option_other stated.0 (option_left problem other stated.0 stated.2.1 stated.2.2) in
        let first = option_from problem one twin.0 twin.1 in
        let fit = option_is problem one first.first first.among in
        let same : rank_of first.first ≡ rank_of stated.0 = first.same ∙ twin.2 in
        tries_there find one (options problem one) None first.first tried first.among
        (λ after found e.
        later (Own (move.Card first.first) ∷ one) (Own (move.Card stated.0) ∷ other) (rw e at found)
        (twins_more one other twins (Own (move.Card first.first)) (Own (move.Card stated.0)) (ap (λ (rank : ℕ). (Owner, Seen rank)) same)
        (asked, left_option problem one first.first setup fit, leb-true (count_after problem one + card_value first.first) 31 fit.fits) stated.2 stated.1))
        refl

    owner : asked_now problem one ≡ turns.Owner → (cards : List ℕ) → options problem one ≡ cards → OwnerFinds find one cards None → ⊥
    owner asked [] e found = goes asked e found
    owner asked (first ∷ cards) e found =
        tries asked first (option_is problem one first (rw e (has_here first cards))) (rw e found)

    by_turn : (turn : Turn) → asked_now problem one ≡ turn → ⊥
    by_turn turns.Over e =
        elim (for_turn more problem one None turns.Over e finds) [
          | inl some ↦ let no_is = some.1 in absurd cc
          | inr lacks ↦ lacks.0 (reached e)
        ]
    by_turn turns.Owner e = owner e (options problem one) refl (for_turn more problem one None turns.Owner e finds)
    by_turn turns.Opponent e =
        let lacks = opponent_none find problem one (for_turn more problem one None turns.Opponent e finds) in
        later (Theirs lacks.0 ∷ one) (Theirs lacks.0 ∷ other) lacks.2
        (twins_more one other twins (Theirs lacks.0) (Theirs lacks.0) refl lacks.1
        (show_alike problem setup one other twins.alike twins.led twins.led_other (wider other twins.begun_other) lacks.0 lacks.1) tt)

  none_after : (more : ℕ) (one other : List Event) → Finds more problem one None → AreTwins one other → ⊥
  none_after zero one other finds twins = finds
  none_after (suc more) one other finds twins = by_turn more (none_after more) one other finds twins (asked_now problem one) refl

  -- so a tree is found after the opening
  pub none_is_found : (more : ℕ) → IsLed problem (played_events longer) → Finds more problem (played_events longer) None → ⊥
  none_is_found more led finds =
      let begun : BeginsAfter longer (played_events longer) = record { later = []; parts = refl } in
      none_after more (played_events longer) (played_events longer) finds (record {
        led = led;
        led_other = led;
        begun = wider (played_events longer) begun;
        begun_other = begun;
        alike = refl;
        follows = follows_at_start plan longer;
      })
