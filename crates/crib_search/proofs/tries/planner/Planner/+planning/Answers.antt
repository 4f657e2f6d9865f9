use Rattle.std.proofs.Common.{◌≡◌, ℕ, length, take, sym, ap, ◌∙◌, arith}
use Rattle.std.proofs.lemmas.Bool.{both_ways}
use Rattle.crib_cards.specs.declared.moves.Move.TheVariants as move
use Rattle.crib_play.specs.History.{Own, Theirs}
use Rattle.crib_search.specs.Finder.{letters}
use Rattle.crib_search.specs.Private.States.{StatesAfter, StatesAt}
use Rattle.crib_search.proofs.FoundAfterTurns.{goes_on, ok_map}
use Rattle.crib_search.proofs.FoundBySide.{take_letter}
use Rattle.crib_search.proofs.CardsToTry.{none_fits}
use Rattle.crib_search.proofs.JoinedTrees.{draft_place_earlier}
use Rattle.crib_search.proofs.PlannedPlaces.{left_is_card, more_trans, planned_end, planned_joined, planned_map}
use Rattle.crib_search.proofs.PlannedPlaces.{planned_play}
use Rattle.crib_search.proofs.PlannedPlaces.{planned_push, trees_planned}
use Rattle.crib_search.proofs.StatedTrees.{never_shown, states_card, states_go, states_letter, states_look, states_lowest}
use Rattle.crib_search.proofs.tries.planner.Planner.+planning.Goals as goal

-- ---- the deal is done, or nothing is left to play for
pub their_place-returns-then-not-are_ahead-clause-planned : goal.their_place-returns-then-not-are_ahead-clause-planned
their_place-returns-then-not-are_ahead-clause-planned g t c =
    ok_map c.lowest_first.result _ _
    (planned_map _ _ _ (states_lowest c.args.problem.now c.args.know.now c.own_left.result c.own_left.ensures)) c.lowest_first.ensures.planned

pub place_at-returns-in-Over-clause-planned : goal.place_at-returns-in-Over-clause-planned
place_at-returns-in-Over-clause-planned g t c =
    ok_map c.lowest_first.result _ _
    (planned_map _ _ _ (states_lowest c.args.problem.now c.args.know.now c.own_left.result c.own_left.ensures)) c.lowest_first.ensures.planned

pub place_after-returns-then-not-can_show-clause-planned : goal.place_after-returns-then-not-can_show-clause-planned
place_after-returns-then-not-can_show-clause-planned g t c =
    planned_end c.args.self.now.nodes _ (never_shown c.args.problem.now c.args.know.now c.args.letter.now
    (λ history knows can. both_ways c.can_show.result c.if-not-can_show.true ((c.can_show.ensures.exact c.args.problem.now history knows).1 can)) _)

-- ---- a turn of either side
pub place_at-own_place-requires : goal.place_at-own_place-requires
place_at-own_place-requires g t c κs within = (omega arith, (within, record { here = c.requires.here; asked = sym c.in-Owner.ensures }))

pub place_at-their_place-requires : goal.place_at-their_place-requires
place_at-their_place-requires g t c κs within = (omega arith, (within, record { here = c.requires.here; asked = sym c.in-Opponent.ensures }))

-- ---- the owner
pub own_place-own_go-requires-clause-none : goal.own_place-own_go-requires-clause-none
own_place-own_go-requires-clause-none g t c =
    none_fits c.args.know.now c.copy-next.result c.args.problem.now c.requires.turn.here.0 c.requires.turn.here.1 c.copy-next.ensures
    (sym (c.options-cards.ensures.cards c.requires.turn.here.0 c.requires.turn.here.1) ∙ ap (λ (len : ℕ). take len c.options-cards.result.0) c.if-len-eq0.true)

pub own_place-place_at-requires : goal.own_place-place_at-requires
own_place-place_at-requires g t c κs within =
    let on = goes_on c.args.know.now c.copy-next.result c.own_go.new.self (Own move.Go) c.copy-next.ensures c.own_go.ensures
    c.args.problem.now c.requires.turn.here in
    (omega (arith, on.1), (within, on.0))

pub own_place-returns-then-len-eq0-clause-planned : goal.own_place-returns-then-len-eq0-clause-planned
own_place-returns-then-len-eq0-clause-planned g t c =
    ok_map c.place_at.result _ _
    (planned_map _ _ _ (states_go c.args.problem.now c.args.know.now c.copy-next.result c.own_go.new.self c.copy-next.ensures
    (c.own_go.ensures c.args.problem.now) c.requires.turn.asked
    (λ history knows. sym (c.options-cards.ensures.cards history knows) ∙ ap (λ (len : ℕ). take len c.options-cards.result.0) c.if-len-eq0.true)))
    c.place_at.ensures.planned

pub own_place-place_with-requires : goal.own_place-place_with-requires
own_place-place_with-requires g t c κs within =
    let playable = c.options-cards.ensures.playable c.chosen-card.result.0 c.chosen-card.ensures in
    (omega arith, (within, (c.requires.turn, (playable.0, playable.1))))

pub place_with-place_at-requires : goal.place_with-place_at-requires
place_with-place_at-requires g t c κs within =
    let on = goes_on c.args.know.now c.copy-after.result c.own_play.new.self (Own (move.Card c.args.card)) c.copy-after.ensures c.own_play.ensures
    c.args.problem.now c.requires.turn.here in
    (omega (arith, on.1), (within, on.0))

pub place_with-place_of-requires : goal.place_with-place_of-requires
place_with-place_of-requires g t c = draft_place_earlier c.place_at.new.self.nodes c.in_ok-next.ensures.planned.tree c.in_ok-next.next
    c.in_ok-next.ensures.planned.names

pub place_with-returns-clause-kept : goal.place_with-returns-clause-kept
place_with-returns-clause-kept g t c =
    more_trans c.args.self.now.nodes c.place_at.new.self.nodes c.place_of.new.self c.place_at.ensures.kept c.place_of.ensures.kept

pub place_with-returns-clause-planned : goal.place_with-returns-clause-planned
place_with-returns-clause-planned g t c = ok_map c.place_of.result _ _
    (planned_play c.place_at.new.self.nodes c.place_of.new.self c.place_of.ensures.kept c.args.card
    (left_is_card c.args.know.now c.args.problem.now c.requires.turn.here c.args.card c.requires.held) _ _
    (states_card c.args.problem.now c.args.know.now c.copy-after.result c.own_play.new.self c.copy-after.ensures c.args.card
    (c.own_play.ensures c.args.problem.now) c.requires.turn.asked c.requires.held c.requires.fits) c.in_ok-next.next c.in_ok-next.ensures.planned)
    c.place_of.ensures.node

-- ---- the opponent
pub their_place-place_after-requires : goal.their_place-place_after-requires
their_place-place_after-requires g t c κs within = (omega arith, (within, c.requires.turn.here))

pub their_place-returns-in_err-next-clause-kept : goal.their_place-returns-in_err-next-clause-kept
their_place-returns-in_err-next-clause-kept g t c =
    more_trans c.args.self.now.nodes c.loop-index.self.nodes c.place_after.new.self.nodes c.loop-index.invariant.kept c.place_after.ensures.kept

pub their_place-loop-index-init : goal.their_place-loop-index-init
their_place-loop-index-init g t c = record {
  kept = λ index draft_node there. there;
  count = ap length c.new-nexts.ensures;
  planned = rw c.new-nexts.ensures tt;
}

pub their_place-loop-index-preserved : goal.their_place-loop-index-preserved
their_place-loop-index-preserved g t c = record {
  kept = more_trans c.args.self.now.nodes c.loop-index.self.nodes c.place_after.new.self.nodes c.loop-index.invariant.kept c.place_after.ensures.kept;
  count = omega (arith, c.push.ensures.len, c.loop-index.invariant.count);
  planned = rw (c.push.ensures.items, take_letter c.at-letter.result c.loop-index.index c.at-letter.ensures.valid c.at-letter.ensures.index)
      (planned_push c.loop-index.self.nodes c.place_after.new.self.nodes c.place_after.ensures.kept (StatesAfter c.args.problem.now c.args.know.now)
      (take c.loop-index.index letters) c.loop-index.nexts.items c.at-letter.result c.in_ok-next.next c.loop-index.invariant.planned
      c.in_ok-next.ensures.planned);
}

pub their_place-join-requires-clause-named : goal.their_place-join-requires-clause-named
their_place-join-requires-clause-named g t c =
    let are = trees_planned c.loop-index.self.nodes _ _ c.loop-index.nexts.items c.loop-index.invariant.planned in
    (are.trees, rw c.deref.ensures.0 are.names)

pub their_place-returns-clause-kept : goal.their_place-returns-clause-kept
their_place-returns-clause-kept g t c =
    more_trans c.args.self.now.nodes c.loop-index.self.nodes c.join.new.nodes c.loop-index.invariant.kept c.join.ensures.kept

pub their_place-returns-clause-planned : goal.their_place-returns-clause-planned
their_place-returns-clause-planned g t c =
    let end : c.loop-index.index ≡ 14 = omega (arith, c.loop-index.auto.index-end, c.loop-index-test.false) in
    let all = rw end at c.loop-index.invariant.planned in
    ok_map c.join.result _ _
    (λ place joined. planned_joined c.loop-index.self.nodes c.join.new.nodes (StatesAfter c.args.problem.now c.args.know.now)
    (StatesAt c.args.problem.now c.args.know.now) (states_look c.args.problem.now c.args.know.now c.requires.turn.asked)
    c.loop-index.nexts.items place all (rw c.deref.ensures.0 at joined))
    c.join.ensures.joined

pub place_after-returns-clause-planned : goal.place_after-returns-clause-planned
place_after-returns-clause-planned g t c =
    ok_map c.place_at.result _ _
    (planned_map _ _ _ (states_letter c.args.problem.now c.args.know.now c.copy-next.result c.saw.new.self c.copy-next.ensures c.args.letter.now
    (c.saw.ensures c.args.problem.now))) c.place_at.ensures.planned

pub place_after-saw-requires : goal.place_after-saw-requires
place_after-saw-requires g t c = rw c.copy-next.ensures (c.can_show.ensures.shown c.if-not-can_show.false)

pub place_after-place_at-requires : goal.place_after-place_at-requires
place_after-place_at-requires g t c κs within =
    let on = goes_on c.args.know.now c.copy-next.result c.saw.new.self (Theirs c.args.letter.now) c.copy-next.ensures c.saw.ensures
    c.args.problem.now c.requires.here in
    (omega (arith, on.1), (within, on.0))
