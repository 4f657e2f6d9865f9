use Rattle.std.proofs.Common.{rules, ◌≡◌, ◌∷◌, ◌++◌, ◌*◌, ◌+◌, ◌-◌, ◌<◌, ℕ, List, [], length, length-append, refl, sym, ap, subst, ◌∙◌, not, arith}
use Rattle.std.proofs.lemmas.Bool.{both_ways}
use Rattle.crib_cards.specs.declared.letters.Letter.TheVariants.{Go}
use Rattle.crib_check.specs.Private.Trails.{as_event}
use Rattle.crib_check.specs.declared.trails.Event.{Event as TrailEvent}
use Rattle.crib_check.specs.declared.trails.Event.TheVariants.{Own, Theirs}
use Rattle.crib_sure.specs.Positions.{StandsAt}
use Rattle.crib_check.specs.Private.Walks.{HasWalked, MayWalk, history_at}
use Rattle.crib_check.proofs.WalkSteps.{failed_from, gone_as, kept_with, may_show, no_failure, shown_next, some_failure, stays}
use Rattle.crib_check.proofs.TrailLengths.{trail_more, trail_back, trail_room}
use Rattle.crib_check.proofs.FoundAtPosition.{own_found, theirs_found, found_from, one_more_settled}
use Rattle.crib_check.proofs.FirstShortfalls.{all_reach}
use Rattle.crib_check.proofs.WalkConclusions.{below_more, settled_over, settled_theirs}
use Rattle.crib_check.proofs.walk.Walk.+walk.Goals as goal
use Rattle.crib_check.proofs.walk.Walk.+walk.Goals.{walk-in-Owner, walk-in-Opponent}

-- ---- at a position
pub walk-returns-in_default : goal.walk-returns-in_default
walk-returns-in_default g t c = stays c.requires.kept (rw c.requires.none (c.requires.kept.settled c.args.key.now (c.has.ensures (assumption))))

pub walk-own_turn-requires : goal.walk-own_turn-requires
walk-own_turn-requires g t c κs within = (omega arith, (within.0, (within.1, (sym c.in-Owner.ensures, c.requires))))

pub walk-their_turn-requires : goal.walk-their_turn-requires
walk-their_turn-requires g t c κs within = (omega arith, (within.0, (within.1, (sym c.in-Opponent.ensures, c.requires))))

pub walk-returns-then-is_none : goal.walk-returns-then-is_none
walk-returns-then-is_none g t c =
    let walk = c.args.self.now in
    let gone = c.match-this.self in
    let walked : HasWalked g.T.Settled.holds walk c.args.key.now (history_at walk) gone = elim c.match-this.branch [
      | walk-in-Owner w ↦ rw w.self-is w.own_turn.ensures
      | walk-in-Opponent w ↦ rw w.self-is w.their_turn.ensures
    ] in
    let none = no_failure gone.failure (c.is_none.ensures ∙ ap not {x = c.is_none.result} c.if-is_none.true) in
    let settled = one_more_settled (g.T.Settled.holds c.put.new.self) (g.T.Settled.holds gone.table.now) c.requires.here
    (rw c.copy.ensures at c.put.ensures.held) walked.kept.settled (rw none at walked.found) in
    record { kept = assumption; back = walked.back; found = walked.found }

-- ---- the owner's turn
pub own_turn-take-failed-requires : goal.own_turn-take-failed-requires
own_turn-take-failed-requires g t c κs within =
    let walk = c.args.self.now in
    let goes = rw c.copy-next.ensures at c.go_by_own.ensures in
    let may : MayWalk g.T.Settled.holds walk c.go_by_own.new.key (as_event (Own c.in-Some.what) ∷ history_at walk) =
    record { kept = c.requires.here.kept; none = c.requires.here.none; here = goes walk.problem.now (history_at walk) c.requires.here.here } in
    (omega arith, (within.0, (within.1, may)))

pub own_turn-returns-in-Some : goal.own_turn-returns-in-Some
own_turn-returns-in-Some g t c =
    gone_as c.take-failed.ensures.walked (own_found c.take-failed.new.self.trail.items c.in-Some.what c.take-failed.new.self.failure
    c.requires.here.here c.in-Some.ensures
    (rw c.copy-next.ensures at c.go_by_own.ensures c.args.self.now.problem.now))

-- ---- the opponent's turn
pub their_turn-returns-then-they_show : goal.their_turn-returns-then-they_show
their_turn-returns-then-they_show g t c =
    let walk = c.args.self.now in
    let after = c.they_show.new.self in
    gone_as (shown_next c.loop-index.invariant c.at.result c.at.ensures.index c.they_show.ensures.shown)
    (found_from walk.problem.now walk.plan.now c.args.key.now _ (history_at walk) after.trail.items after.failure (λ none.
    absurd (some_failure after.failure (sym c.they_show.ensures.failed ∙ c.if-they_show.true) none)))

pub their_turn-they_show-requires : goal.their_turn-they_show-requires
their_turn-they_show-requires g t c κs within =
    let may = may_show c.loop-index.invariant c.requires.here.here in
    (omega (arith, ap length c.loop-index.invariant.back), (within.0, (within.1, (c.requires.asked, (may, c.at.ensures.valid)))))

pub their_turn-they_show-failed-requires : goal.their_turn-they_show-failed-requires
their_turn-they_show-failed-requires g t c κs within =
    let may = may_show c.loop-index.invariant c.requires.here.here in
    (omega (arith, ap length c.loop-index.invariant.back), (within.0, (within.1, (c.requires.asked, (may, search rules)))))

pub their_turn-loop-index-preserved : goal.their_turn-loop-index-preserved
their_turn-loop-index-preserved g t c =
    let shown = shown_next c.loop-index.invariant c.at.result c.at.ensures.index c.they_show.ensures.shown in
    let none = no_failure c.they_show.new.self.failure (sym c.they_show.ensures.failed ∙ c.if-they_show.false) in
    record { kept = shown.kept; none = none; back = shown.back none; below = rw none at shown.found }

pub their_turn-returns : goal.their_turn-returns
their_turn-returns g t c =
    let walk = c.args.self.now in
    let after = c.they_show-failed.new.self in
    let all : 13 ≡ c.loop-index.index = omega (arith, c.loop-index.auto.index-end, c.loop-index-test.false) in
    gone_as (shown_next c.loop-index.invariant Go all c.they_show-failed.ensures.shown) (λ found.
    found_from walk.problem.now walk.plan.now c.args.key.now 14 (history_at walk) after.trail.items after.failure (λ none. settled_theirs c.requires.asked)
    (rw (← all) at found))

-- ---- a letter of the opponent
pub they_show-go_by_theirs-requires : goal.they_show-go_by_theirs-requires
they_show-go_by_theirs-requires g t c = rw c.copy-next.ensures (c.can_show.ensures.shown c.if-not-can_show.false)

pub they_show-take-requires : goal.they_show-take-requires
they_show-take-requires g t c κs within =
    let walk = c.args.self.now in
    let goes = rw c.copy-next.ensures at c.go_by_theirs.ensures in
    let may : MayWalk g.T.Settled.holds walk c.go_by_theirs.new.key (as_event (Theirs c.args.letter.now) ∷ history_at walk) =
    record { kept = c.requires.here.kept; none = c.requires.here.none; here = goes walk.problem.now (history_at walk) c.requires.here.here } in
    (omega arith, (within.0, (within.1, may)))

pub they_show-returns-clause-shown : goal.they_show-returns-clause-shown
they_show-returns-clause-shown g t c =
    gone_as c.take.ensures.walked (theirs_found c.take.new.self.trail.items c.args.letter.now c.take.new.self.failure c.requires.here.here c.requires.asked
    c.requires.letter (rw c.copy-next.ensures at c.go_by_theirs.ensures c.args.self.now.problem.now))

pub they_show-returns-then-not-can_show-clause-shown : goal.they_show-returns-then-not-can_show-clause-shown
they_show-returns-then-not-can_show-clause-shown g t c = stays c.requires.here.kept (λ below.
    rw c.requires.here.none (below_more c.args.letter.now c.requires.letter refl below (λ h stands can.
    absurd (both_ways _ c.if-not-can_show.true ((c.can_show.ensures.exact c.args.self.now.problem.now h stands.knows).1 can)))))

-- ---- a turn
falls_by_one : (before after : List TrailEvent) (event : TrailEvent) {t : ℕ} → after ≡ before ++ event ∷ [] → length before < 29 →
    4 * (29 - length before) ≡ t → 4 * (29 - length after) + 3 < t
falls_by_one before after event is room all = omega (arith, room, all, simp length-append at (ap length is))

pub take-returns-then-ends_well-clause-walked : goal.take-returns-then-ends_well-clause-walked
take-returns-then-ends_well-clause-walked g t c =
    stays (kept_with c.requires.kept c.ends_well.ensures.shows) (rw c.requires.none (settled_over (c.ends_well.ensures.over c.if-ends_well.true)
    (λ history knows. all_reach knows (c.ends_well.ensures.reached c.if-ends_well.true history knows))))

pub take-push-requires : goal.take-push-requires
take-push-requires g t c =
    let room = trail_room c.args.key.now.know c.args.self.now.problem.now (as_event c.args.event) c.args.self.now.trail.items c.requires.here.knows in
    search rules

pub take-walk-requires : goal.take-walk-requires
take-walk-requires g t c κs within =
    let walk = c.args.self.now in
    let room = trail_room c.args.key.now.know walk.problem.now (as_event c.args.event) walk.trail.items c.requires.here.knows in
    let more = trail_more walk.problem.now walk.trail.items c.push.new.self.items c.args.event c.push.ensures.items in
    let falls = falls_by_one walk.trail.items c.push.new.self.items c.args.event c.push.ensures.items room c.decreases in (
      falls,
      (
        within.0,
        (
          within.1,
          record {
            kept = kept_with c.requires.kept c.ends_well.ensures.shows;
            none = c.requires.none;
            here = subst (StandsAt walk.problem.now walk.plan.now c.args.key.now) (sym more) c.requires.here;
          },
        ),
      ),
    )

pub take-returns-then-is_none-clause-walked : goal.take-returns-then-is_none-clause-walked
take-returns-then-is_none-clause-walked g t c =
    let walk = c.args.self.now in
    let walked = c.walk.ensures in
    let none = no_failure c.walk.new.self.failure (c.is_none.ensures ∙ ap not {x = c.is_none.result} c.if-is_none.true) in
    record {
      kept = walked.kept;
      back = λ none. trail_back walk.trail.items c.push.new.self.items c.walk.new.self.trail.items c.pop.new.self.items c.args.event c.push.ensures.items
          (walked.back none) c.pop.ensures.rest;
      found = rw none (rw none at walked.found);
    }

pub take-returns-clause-walked : goal.take-returns-clause-walked
take-returns-clause-walked g t c =
    let walk = c.args.self.now in
    failed_from (trail_more walk.problem.now walk.trail.items c.push.new.self.items c.args.event c.push.ensures.items) c.walk.ensures
    (c.is_none.ensures ∙ ap not {x = c.is_none.result} c.if-is_none.false)
