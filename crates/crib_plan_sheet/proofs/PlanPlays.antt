-- Who plays from the sheet of a plan finds what the plan states, and reaches the goal exactly if the plan is sure.
use Rattle.std.proofs.Common.{◌≡◌, ◌↔◌, ℕ, nat_le, Bool, true, false, cond, not, ◌&&◌, List, [], ◌∷◌, ◌++◌, length, drop, flat_map}
use Rattle.std.proofs.Common.{Option, None, refl, sym, ap, ◌∙◌, inl, inr, arith}
use Rattle.std.proofs.lemmas.Bool.Decides.{nat_tests}
use Rattle.std.proofs.lemmas.Bool.{cases_Bool}
use Rattle.std.proofs.lemmas.List.{append-nil, length-append, length-reverse, reverse-append, drop_all, drop-append-le}
use Rattle.std.proofs.lemmas.Grind.{flat_map-append}
use Rattle.crib_cards.specs.Letters.{letter_of}
use Rattle.crib_cards.specs.Start.{pone_of}
use Rattle.crib_cards.specs.declared.moves.Act.{Act}
use Rattle.crib_cards.specs.declared.moves.Move.{Move}
use Rattle.crib_cards.specs.declared.moves.Move.TheVariants as move
use Rattle.crib_cards.specs.declared.sides.Dealt.{Dealt}
use Rattle.crib_cards.specs.declared.sides.Side.{Side}
use Rattle.crib_cards.specs.declared.sides.Side.TheVariants.{Owner}
use Rattle.crib_play.specs.Filled.{is_visible}
use Rattle.crib_play.proofs.FilledRecords.{acts_visible, acts_silent}
use Rattle.crib_play.specs.History.{act_by, acts_of}
use Rattle.crib_play.specs.Legal.{letters_of}
use Rattle.crib_play.specs.Record.{mover}
use Rattle.crib_problem.specs.Setup.{Setup, start_of, hands_of}
use Rattle.crib_plan.specs.declared.plan.Next.{Next}
use Rattle.crib_plan.specs.declared.plan.Node.{Node}
use Rattle.crib_plan.specs.Nodes.{ArePlan}
use Rattle.crib_plan.specs.Places.{plan_start, stated_card}
use Rattle.crib_game.specs.Following.{place_of, opening_is_over, is_playable, is_stuck, Follows, IsAsStated}
use Rattle.crib_game.specs.Following.{place_after_turn as place_after_move}
use Rattle.crib_sure.specs.Sure.{IsSure, IsFollowed}
use Rattle.crib_plan_sheet.specs.PlanSheet.{Row, Over, Sheet, Turn, OwnCard, Shown, sheet_with, sheet_card, card_on, read_turn, read_turns}
use Rattle.crib_plan_sheet.specs.PlanSheetLaws.{place_after_turn, place_after_turns}
use Rattle.crib_plan_sheet.specs.PlanPlay.{turns_by, turns_of, turns_shown, card_found, row_after, IsAsFound, PlaysFrom, IsPlayedFrom, has_choice, ReachesGoal}
use Rattle.crib_plan_sheet.specs.PlanPlay.{FindsWhatIsStated, PlayedAsFollowed, SureIsReached}
use Rattle.crib_plan_sheet.proofs.PlanSheets.{states_the_same}

-- ---- one more turn is shown

-- the turns of one more act, if the opening is over
more_shown : (n : ℕ) (acts : List Act) (act : Act) →
    flat_map turns_of (drop n (acts ++ act ∷ [])) ≡ flat_map turns_of (drop n acts) ++ cond (nat_le n (length acts)) (turns_of act) []
more_shown n acts act =
    let more = flat_map-append turns_of (drop n acts) (act ∷ []) in
    grind (arith, nat_tests, drop_all {X = Act} n, drop-append-le n acts (act ∷ []), more, append-nil (turns_of act), length-append acts (act ∷ []))

-- a turn, as the reader sees it, if it is visible and the opening is over
abbrev shown_if : Bool → Bool → List Turn → List Turn
shown_if over visible turns = cond over (cond visible turns []) []

hidden : (over : Bool) (turns shown : List Turn) → shown ≡ shown ++ shown_if over false turns
hidden true turns shown = sym (append-nil shown)
hidden false turns shown = sym (append-nil shown)

module _ (problem : Setup) where
  abbrev pone : Side
  pone = pone_of (start_of problem)

  abbrev over : List Move → Bool
  over past = opening_is_over problem.played pone past

  abbrev visible : Move → List Move → Bool
  visible turn past = is_visible pone (letter_of turn) (letters_of past)

  abbrev side : List Move → Side
  side past = mover pone (letters_of past)

  shown_step : (turn : Move) (past : List Move) →
      turns_shown problem (turn ∷ past) ≡ turns_shown problem past ++ shown_if (over past) (visible turn past) (turns_by (side past) turn)
  shown_step turn past =
      let acts = acts_of pone past in
      elim (cases_Bool (visible turn past)) [
        | inl e ↦ rw (acts_visible pone turn past e, reverse-append (act_by pone turn past ∷ []) acts, more_shown, length-reverse acts, e) refl
        | inr e ↦ rw (acts_silent pone turn past e, e) (hidden (over past) (turns_by (side past) turn) (turns_shown problem past))
      ]

-- ---- the place of the plan

places_more : (plan : List Node) (place : Next) (turns more : List Turn) →
    place_after_turns plan place (turns ++ more) ≡ place_after_turns plan (place_after_turns plan place turns) more
places_more plan place [] more = refl
places_more plan place (turn ∷ turns) more = places_more plan (place_after_turn plan place turn) turns more

rows_more : (sheet : Sheet) (row : Row) (turns more : List Turn) →
    read_turns sheet row (turns ++ more) ≡ read_turns sheet (read_turns sheet row turns) more
rows_more sheet row [] more = refl
rows_more sheet row (turn ∷ turns) more = rows_more sheet (read_turn sheet row turn) turns more

-- a card is always visible
card_is_visible : (pone : Side) (turn : Move) (past : List Move) → is_visible pone (letter_of turn) (letters_of past) ≡ false → turn ≡ move.Go
card_is_visible pone turn past unseen = grind (arith, unseen)

place_step : (plan : List Node) (over : Bool) (side : Side) (turn : Move) (visible : Bool) (place : Next) → (visible ≡ false → turn ≡ move.Go) →
    place_after_turns plan place (shown_if over visible (turns_by side turn)) ≡ cond over (place_after_move plan side turn visible place) place
place_step plan over side turn visible place seen = grind (arith, seen)

place_shown : (problem : Setup) (plan : List Node) (past : List Move) →
    place_after_turns plan (plan_start plan) (turns_shown problem past) ≡ place_of plan problem.played (pone_of (start_of problem)) past
place_shown problem plan [] = ap (λ acts. place_after_turns plan (plan_start plan) (flat_map turns_of acts)) (drop_all (length problem.played) [] (omega arith))
place_shown problem plan (turn ∷ past) =
    rw (shown_step problem turn past, places_more plan (plan_start plan) (turns_shown problem past), place_shown problem plan past)
    (place_step plan (over problem past) (side problem past) turn (visible problem turn past) _ (card_is_visible (pone problem) turn past))

pub finds_what_is_stated : FindsWhatIsStated
finds_what_is_stated apart problem plan past are =
    states_the_same apart plan (turns_shown problem past) are ∙ ap (stated_card plan) (place_shown problem plan past)

-- ---- playing from the sheet

same_turn : (plan : List Node) (place : Next) (found : Option ℕ) (side : Side) (turn : Move) → found ≡ stated_card plan place →
    IsAsFound found side turn ↔ IsAsStated plan place side turn
same_turn plan place found Owner (move.Card card) same = ((λ is. sym same ∙ is), λ is. same ∙ is)
same_turn plan place found _ _ same = ((λ is. tt), λ is. tt)

module _ (apart : ℕ → Bool) (problem : Setup) (plan : List Node) (are : ArePlan plan) where
  abbrev its_sheet : Sheet
  its_sheet = sheet_with apart plan

  abbrev follow : List Move → Type 0
  follow past = Follows plan problem.played (pone problem) past

  found : (past : List Move) → card_found problem its_sheet past ≡ stated_card plan (place_of plan problem.played (pone problem) past)
  found past = finds_what_is_stated apart problem plan past are

  same_play : (past : List Move) → PlaysFrom problem its_sheet past ↔ follow past
  same_play [] = ((λ is. tt), λ is. tt)
  same_play (turn ∷ past) =
      let before = same_play past in
      let now = same_turn plan _ _ (side problem past) turn (found past) in
      ((λ is. (before.0 is.0, λ over. now.0 (is.1 over))), λ is. (before.1 is.0, λ over. now.1 (is.1 over)))

  followed : (dealt : Dealt) (played : List Move) → IsPlayedFrom problem its_sheet dealt played → IsFollowed problem plan dealt played
  followed dealt played is = record { deal = is.deal; legal = is.legal; begins = is.begins; follows = (same_play played).0 is.from_sheet }

  played_from : (dealt : Dealt) (played : List Move) → IsFollowed problem plan dealt played → IsPlayedFrom problem its_sheet dealt played
  played_from dealt played is = record { deal = is.deal; legal = is.legal; begins = is.begins; from_sheet = (same_play played).1 is.follows }

  -- a record is stuck if the owner has to choose a card and the place states none that can be played
  stuck_if : (dealt : Dealt) (played : List Move) →
      is_stuck plan problem.played (start_of problem) (hands_of problem dealt) played
      ≡ (has_choice problem dealt played && not (is_playable (hands_of problem dealt) played (card_found problem its_sheet played)))
  stuck_if dealt played = ap (λ card. has_choice problem dealt played && not (is_playable (hands_of problem dealt) played card)) (sym (found played))

-- ---- the end of a row

over_stays : (sheet : Sheet) (turns : List Turn) → read_turns sheet Over turns ≡ Over
over_stays sheet [] = refl
over_stays sheet (OwnCard ∷ turns) = over_stays sheet turns
over_stays sheet (Shown letter ∷ turns) = over_stays sheet turns

row_stays : (problem : Setup) (sheet : Sheet) (later past : List Move) → row_after problem sheet past ≡ Over → row_after problem sheet (later ++ past) ≡ Over
unfolding row_after
row_stays problem sheet [] past ended = ended
row_stays problem sheet (turn ∷ later) past ended =
    rw (shown_step problem turn (later ++ past), rows_more, row_stays problem sheet later past ended) (search over_stays)

nothing_found : (problem : Setup) (sheet : Sheet) (past : List Move) → row_after problem sheet past ≡ Over → card_found problem sheet past ≡ None
unfolding row_after sheet_card
nothing_found problem sheet past ended = ap card_on ended

pub played_as_followed : PlayedAsFollowed
played_as_followed apart problem plan past are = same_play apart problem plan are past

reaches : (apart : ℕ → Bool) (problem : Setup) (plan : List Node) → ArePlan plan → IsSure problem plan → ReachesGoal problem (sheet_with apart plan)
reaches apart problem plan are sure =
    let sheet = sheet_with apart plan in
    let find : (dealt : Dealt) (played : List Move) → IsPlayedFrom problem sheet dealt played → has_choice problem dealt played ≡ true →
    is_playable (hands_of problem dealt) played (card_found problem sheet played) ≡ true =
    λ dealt played is choice.
    grind (arith, stuck_if apart problem plan are dealt played, sure.never_stuck dealt played (followed apart problem plan are dealt played is), choice) in
    record {
      found = find;
      no_choice_left = λ dealt later past is ended.
          grind (arith, nothing_found problem sheet (later ++ past) (row_stays problem sheet later past ended), find dealt (later ++ past) is);
      reached = λ dealt played is done. sure.reached dealt played (followed apart problem plan are dealt played is) done;
    }

is_sure : (apart : ℕ → Bool) (problem : Setup) (plan : List Node) → ArePlan plan → ReachesGoal problem (sheet_with apart plan) → IsSure problem plan
is_sure apart problem plan are goal = record {
  never_stuck = λ dealt played is.
      grind (arith, stuck_if apart problem plan are dealt played, goal.found dealt played (played_from apart problem plan are dealt played is));
  reached = λ dealt played is done. goal.reached dealt played (played_from apart problem plan are dealt played is) done;
}

pub sure_is_reached : SureIsReached
sure_is_reached apart problem plan are = (reaches apart problem plan are, is_sure apart problem plan are)
