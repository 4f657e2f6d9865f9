-- What the walk may conclude at a position from what it found after it.
use Rattle.std.proofs.Common.{◌≡◌, ◌⊎◌, ℕ, ◌+◌, Bool, true, false, not, ◌&&◌, List, [], ◌∷◌, Option, Some, refl, sym, ap, subst, ◌∙◌, inl}
use Rattle.std.proofs.Common.{inr, arith}
use Rattle.std.proofs.lemmas.Bool.{cases_lt, cases_order, both_ways, le-leb}
use Rattle.std.proofs.lemmas.Bool.Decides.{nat_tests}
use Rattle.crib_cards.specs.Order.{is_before}
use Rattle.crib_cards.specs.Deals.{deal_numbers, is_in_pack_order}
use Rattle.crib_cards.specs.Letters.{IsLetter, letter_index}
use Rattle.crib_cards.specs.declared.sides.Dealt.{Dealt}
use Rattle.crib_cards.specs.declared.sides.Side.TheVariants.{Owner}
use Rattle.crib_cards.specs.declared.letters.Letter.{Letter}
use Rattle.crib_cards.specs.declared.moves.Move.{Move}
use Rattle.crib_cards.specs.declared.moves.Move.TheVariants as move
use Rattle.crib_play.specs.declared.turns.Turn.{Turn}
use Rattle.crib_play.specs.declared.turns.Turn.TheVariants as turns
use Rattle.crib_play.specs.Score.{asks}
use Rattle.crib_play.specs.Standing.{Standing}
use Rattle.crib_play.specs.History.{Event, Own, Theirs}
use Rattle.crib_play.proofs.CardLemmas.{none_passes}
use Rattle.crib_show.specs.Outcome.{outcome_of}
use Rattle.crib_show.specs.declared.show.outcomes.Outcome.TheVariants.{Reached}
use Rattle.crib_problem.specs.Setup.{Setup}
use Rattle.crib_plan.specs.declared.plan.Node.{Node}
use Rattle.crib_plan.specs.Places.{stated_card}
use Rattle.crib_know.specs.Knowledge.{Knowledge}
use Rattle.crib_know.specs.Hidden.{AgreesWith, CanDoAt, CanShow, KnowsAfter}
use Rattle.crib_know.proofs.LedHistories.{MayCome}
use Rattle.crib_know.proofs.CallLemmas.{own_may}
use Rattle.crib_know.proofs.PassingIsAgreeing.{theirs_asked, theirs_letter}
use Rattle.crib_cards.proofs.LetterIndices.{index_small, same_letter}
use Rattle.crib_game.specs.declared.section.game.Game.{Game}
use Rattle.crib_game.specs.declared.following.ending.Ending.{Ending}
use Rattle.crib_game.specs.declared.following.ending.Ending.TheVariants as ending
use Rattle.crib_game.specs.Replay.{acts_back}
use Rattle.crib_game.specs.Followed.{ending_with, ending_without}
use Rattle.crib_game.specs.Replay.{outcome_if_done}
use Rattle.crib_game.specs.Private.Judging.{is_over, full_at}
use Rattle.crib_game.specs.Private.Tracing.{is_stuck_at, ending_at}
use Rattle.crib_sure.specs.declared.keys.Key.{Key}
use Rattle.crib_check.specs.Failing.{comes_before, IsFailingEnding, IsFailing, is_suited}
use Rattle.crib_sure.specs.HistoryPlaces.{place_by, IsStatedEvent}
use Rattle.crib_sure.specs.Private.Histories.{Extends, history_of_game}
use Rattle.crib_sure.specs.Positions.{StandsAt, MayTakeAt, IsStuckAt}
use Rattle.crib_check.specs.Private.Positions.{HoldsFrom, IsSettled, IsFirstFrom, AllReach}
use Rattle.crib_check.specs.Private.Found.{IsSettledBelow}
use Rattle.crib_check.proofs.ExtendedGames.{NextTurn, extends_less, next_turn, failing_agrees}
use Rattle.crib_check.proofs.FailureEndings.{open_is_none, reached_is_none, failing_at}
use Rattle.crib_check.proofs.GameOrder.{later_letter, same_history}

module _ {problem : Setup} {plan : List Node} {key : Key} {history : List Event} (stands : StandsAt problem plan key history) where
  abbrev table : Standing
  table = key.know.round

  abbrev stated : Option ℕ
  stated = stated_card plan key.place

  -- the ending of a deal that stops at the position
  abbrev ending_here : Dealt → Ending
  ending_here dealt = ending_at problem dealt table key.know.own_left stated

  ends_as : (turn : Turn) (stuck : Bool) → table.asked ≡ turn → is_stuck_at table key.know.own_left stated ≡ stuck → (dealt : Dealt) →
      ending_here dealt ≡ ending_without (outcome_if_done (is_over turn) (full_at problem dealt table)) stuck
  ends_as turn stuck asked is dealt = (λ i. ending_without (outcome_if_done (is_over (asked i)) (full_at problem dealt table)) (is i))

  -- the owner's turn that may be next, in terms of the position
  pub own_turn_may : (what : Move) → MayCome problem history (Own what) → CanDoAt key.know what
  own_turn_may = own_may key.know problem history stands.knows

  -- the side that is asked makes the next turn
  owner_asked : (what : Move) → CanDoAt key.know what → table.asked ≡ turns.Owner
  owner_asked (move.Card card) may = may.0
  owner_asked move.Go may = may.0

  abbrev side_of : Event → Turn
  side_of (Own turn) = turns.Owner
  side_of (Theirs letter) = turns.Opponent

  may_asked : (event : Event) → MayCome problem history event → table.asked ≡ side_of event
  may_asked (Own what) may = owner_asked what (own_turn_may what may)
  may_asked (Theirs letter) may =
      ap (λ (k : Knowledge). k.round.asked) stands.knows.knowledge ∙ theirs_asked problem stands.knows.setup history letter may

  -- a failing game that goes on from the history stops there, or it has a next turn
  record Stops (game : Game) : Type 0 where
    pub same : history_of_game game ≡ history
    pub agrees : AgreesWith problem history game.opp
    pub fails : IsFailingEnding (ending_here game.opp)

  stops : {game : Game} {result : Ending} → IsFailing problem plan game result → history_of_game game ≡ history → Stops game
  stops failing same = record {
    same = same;
    agrees = rw same at (failing_agrees failing);
    fails = subst IsFailingEnding (sym (failing_at stands.knows.setup failing stands same)) failing.failure;
  }

  stops_or_goes : {game : Game} {result : Ending} → IsFailing problem plan game result → Extends history (history_of_game game) →
      Stops game ⊎ NextTurn problem plan history game
  stops_or_goes failing ext = elim (next_turn stands.knows.setup stands.knows.begun failing ext) [ inl here ↦ inl (stops failing here) | inr next ↦ inr next ]

  goes_on : {game : Game} {result : Ending} → ending_here game.opp ≡ ending.Open → IsFailing problem plan game result → Extends history (history_of_game game) →
      NextTurn problem plan history game
  goes_on is_open failing ext = elim (stops_or_goes failing ext) [
    | inl here ↦ absurd (open_is_none (subst IsFailingEnding is_open here.fails))
    | inr next ↦ next
  ]

  -- ---- the deal is done
  pub over_ends : table.asked ≡ turns.Over → (dealt : Dealt) → ending_here dealt ≡ ending_with (outcome_of (full_at problem dealt table))
  over_ends over = ends_as turns.Over (is_stuck_at table key.know.own_left stated) over refl

  not_over : (event : Event) → turns.Over ≡ side_of event → ⊥
  not_over (Own turn) e = cc
  not_over (Theirs letter) e = cc

  -- a failing game that goes on from here has a deal that does not reach the goal
  pub over_misses : {game : Game} {result : Ending} → table.asked ≡ turns.Over → IsFailing problem plan game result → Extends history (history_of_game game) →
      AgreesWith problem history game.opp × (outcome_of (full_at problem game.opp table) ≡ Reached → ⊥)
  over_misses {game} over failing ext = elim (stops_or_goes failing ext) [
    | inl here ↦ (here.agrees, λ reached. reached_is_none (subst IsFailingEnding (over_ends over game.opp ∙ ap ending_with reached) here.fails))
    | inr next ↦ absurd (not_over next.event (sym over ∙ may_asked next.event next.may))
  ]

  -- ---- the owner is asked and stuck
  pub stuck_ends : IsStuckAt plan key → (dealt : Dealt) → ending_here dealt ≡ ending.Stuck
  stuck_ends stuck = ends_as turns.Owner true stuck.0 (λ i. asks (stuck.0 i) Owner && stuck.1 i && not (stuck.2 i))

  -- ---- the owner makes the move of his plan
  not_stuck : (what : Move) → MayTakeAt plan key what → is_stuck_at table key.know.own_left stated ≡ false
  not_stuck (move.Card card) may = rw may.1 (grind (arith, nat_tests, may.0.1, may.0.2))
  not_stuck move.Go may = grind (arith, nat_tests, may.0.1)

  own_open : (what : Move) → MayTakeAt plan key what → (dealt : Dealt) → ending_here dealt ≡ ending.Open
  own_open what may = ends_as turns.Owner false (owner_asked what may.0) (not_stuck what may)

  -- the next turn is the move of the plan
  pub own_event : (what : Move) → MayTakeAt plan key what → (event : Event) → MayCome problem history event →
      IsStatedEvent plan (place_by plan problem.played history) event → event ≡ Own what
  own_event (move.Card card) may (Own (move.Card other)) come is =
      let there : Some card ≡ Some other = sym may.1 ∙ ap (stated_card plan) stands.place ∙ is in cc
  own_event (move.Card card) may (Own move.Go) come is =
      absurd (both_ways _ (none_passes _ key.know.own_left card (own_turn_may move.Go come).1 may.0.1) (le-leb _ _ may.0.2))
  own_event move.Go may (Own (move.Card other)) come is =
      let mine = own_turn_may (move.Card other) come in absurd (both_ways _ (none_passes _ key.know.own_left other may.0.1 mine.1) (le-leb _ _ mine.2))
  own_event move.Go may (Own move.Go) come is = refl
  own_event what may (Theirs letter) come is =
      let e : turns.Owner ≡ turns.Opponent = sym (owner_asked what may.0) ∙ may_asked (Theirs letter) come in absurd cc

  pub own_goes_on : {game : Game} {result : Ending} (what : Move) → MayTakeAt plan key what → IsFailing problem plan game result →
      Extends history (history_of_game game) → Extends (Own what ∷ history) (history_of_game game)
  own_goes_on what may failing ext =
      let next = goes_on (own_open what may _) failing ext in rw (own_event what may next.event next.may next.stated) at next.extends

  -- the first game that goes on with an event is the first of all, if no other comes before it
  first_of_all : {event : Event} {game : Game} {result : Ending} → IsFirstFrom problem plan (event ∷ history) game result →
      ((other : Game) (others_ending : Ending) → IsFailing problem plan other others_ending → Extends history (history_of_game other) →
      comes_before other game ≡ false) → IsFirstFrom problem plan history game result
  first_of_all first none_before = assumption (extends_less first.extends)

  pub own_first : {game : Game} {result : Ending} (what : Move) → MayTakeAt plan key what → IsFirstFrom problem plan (Own what ∷ history) game result →
      IsFirstFrom problem plan history game result
  own_first what may first = first_of_all first (λ other others_ending fails ext. first.first other others_ending fails (own_goes_on what may fails ext))

  -- ---- the opponent shows a letter
  pub record NextLetter (game : Game) : Type 0 where
    pub letter : Letter
    pub can : CanShow problem history letter
    pub extends : Extends (Theirs letter ∷ history) (history_of_game game)

  theirs_open : table.asked ≡ turns.Opponent → (dealt : Dealt) → ending_here dealt ≡ ending.Open
  theirs_open asked = ends_as turns.Opponent false asked (rw asked)

  next_letter : {game : Game} (event : Event) → turns.Opponent ≡ side_of event → MayCome problem history event →
      Extends (event ∷ history) (history_of_game game) → NextLetter game
  next_letter (Own turn) e may ext = absurd cc
  next_letter (Theirs letter) e may ext = record { letter = letter; can = may; extends = ext }

  pub theirs_goes_on : {game : Game} {result : Ending} → table.asked ≡ turns.Opponent → IsFailing problem plan game result →
      Extends history (history_of_game game) → NextLetter game
  theirs_goes_on asked failing ext =
      let next = goes_on (theirs_open asked _) failing ext in next_letter next.event (sym asked ∙ may_asked next.event next.may) next.may next.extends

  pub theirs_first : {game : Game} {result : Ending} → table.asked ≡ turns.Opponent → (letter : Letter) → IsLetter letter →
      IsSettledBelow problem plan key (letter_index letter) → IsFirstFrom problem plan (Theirs letter ∷ history) game result →
      IsFirstFrom problem plan history game result
  theirs_first {game} asked letter is below first = first_of_all first (λ other others_ending fails ext.
      let next = theirs_goes_on asked fails ext in
      let is_next = theirs_letter problem stands.knows.setup history next.letter next.can in
      elim (cases_order (letter_index next.letter) (letter_index letter)) [
        | inl e ↦ first.first other others_ending fails (rw (same_letter next.letter letter is_next is e) at next.extends)
        | inr (inl less) ↦ absurd (below history next.letter stands next.can less other others_ending fails next.extends)
        | inr (inr more) ↦ later_letter game other history letter next.letter first.extends next.extends more
      ])

  -- ---- a failing game that stops at the position
  opens : (event : Event) → MayCome problem history event → IsStatedEvent plan (place_by plan problem.played history) event → (dealt : Dealt) →
      ending_here dealt ≡ ending.Open
  opens (Own what) may is = own_open what (own_turn_may what may, rw stands.place is)
  opens (Theirs letter) may is = theirs_open (may_asked (Theirs letter) may)

  -- no turn comes after it
  pub ended : {game : Game} {result : Ending} → IsFailing problem plan game result → history_of_game game ≡ history → (event : Event) →
      MayCome problem history event → IsStatedEvent plan (place_by plan problem.played history) event → ⊥
  ended failing same event may is = open_is_none (subst IsFailingEnding (opens event may is _) (stops failing same).fails)

  -- it is the first, if its deal is
  pub leaf_first : {game : Game} {result : Ending} → IsFailing problem plan game result → history_of_game game ≡ history →
      is_in_pack_order game.opp ≡ true → is_suited problem game.opp.hold (acts_back game) ≡ true →
      ((other : Dealt) → AgreesWith problem history other → IsFailingEnding (ending_at problem other table key.know.own_left stated) →
      is_before (deal_numbers other) (deal_numbers game.opp) ≡ false) → IsFirstFrom problem plan history game result
  leaf_first {game} failing same order suits least = record {
    failing = failing;
    extends = ([], same);
    in_pack_order = order;
    in_suit_order = suits;
    first = λ other others_ending fails ext. elim (stops_or_goes fails ext) [
      | inl here ↦ same_history game other (here.same ∙ sym same) (least other.opp here.agrees here.fails)
      | inr next ↦ absurd (ended failing same next.event next.may next.stated)
    ];
  }

-- ---- the same for all histories
module _ {problem : Setup} {plan : List Node} {key : Key} where
  pub settled_over : key.know.round.asked ≡ turns.Over →
      ((history : List Event) → KnowsAfter key.know problem history → AllReach problem history key.know.round) → IsSettled problem plan key
  settled_over over all history stands game result failing ext =
      let missed = over_misses stands over failing ext in missed.1 (all history stands.knows game.opp missed.0)

  pub settled_own : {after : Key} (what : Move) → MayTakeAt plan key what →
      ((history : List Event) → StandsAt problem plan key history → StandsAt problem plan after (Own what ∷ history)) → IsSettled problem plan after →
      IsSettled problem plan key
  settled_own what may goes settled history stands game result failing ext =
      settled (Own what ∷ history) (goes history stands) game result failing (own_goes_on stands what may failing ext)

  pub settled_theirs : key.know.round.asked ≡ turns.Opponent → IsSettledBelow problem plan key 14 → IsSettled problem plan key
  settled_theirs asked below history stands game result failing ext =
      let next = theirs_goes_on stands asked failing ext in
      let small = index_small next.letter (theirs_letter problem stands.knows.setup history next.letter next.can) in
      below history next.letter stands next.can small game result failing next.extends

  pub below_more : {index : ℕ} (letter : Letter) → IsLetter letter → letter_index letter ≡ index → IsSettledBelow problem plan key index →
      ((history : List Event) → StandsAt problem plan key history → CanShow problem history letter → HoldsFrom problem plan (Theirs letter ∷ history)) →
      IsSettledBelow problem plan key (index + 1)
  below_more {index} letter is at_index below here history other stands can less = elim (cases_lt (letter_index other) index) [
    | inl before ↦ below history other stands can before
    | inr most ↦
        let is_other = theirs_letter problem stands.knows.setup history other can in
        let same = same_letter other letter is_other is (omega (arith, less, most, at_index)) in rw same (here history stands (rw same at can))
  ]
