use Rattle.std.proofs.Common.{◌≡◌, ◌<◌, ◌≤◌, ◌∙◌, ℕ, get_or, length, take, true, refl, sym, arith, rules}
use Rattle.std.proofs.lemmas.Bool.{both_ways}
use Rattle.std.proofs.lemmas.List.{length-take}
use Rattle.crib_cards.specs.Cards.{rank_of}
use Rattle.crib_cards.specs.declared.moves.Move.TheVariants as move
use Rattle.crib_cards.proofs.Members.{has_here}
use Rattle.crib_cards.proofs.LowestCard.{lowest_none, lowest_split, rest_smaller}
use Rattle.crib_know.specs.Private.Ahead.{turns_ahead}
use Rattle.crib_bound.specs.Private.Cases.{IsAllowedAt}
use Rattle.crib_bound.specs.Private.Walks.{with_parts}
use Rattle.crib_bound.proofs.AgreeingDeals.{may_play}
use Rattle.crib_bound.proofs.PutParts.{with_elsewhere, with_few, with_read}
use Rattle.crib_bound.proofs.WalkSteps.{all_barred, all_done, barred_bound, can_play, cannot_play, falls, go_bound, held_bound, more_letters}
use Rattle.crib_bound.proofs.WalkSteps.{no_letter, none_barred}
use Rattle.crib_bound.proofs.WalkSteps.{none_bound, none_walked, one_passed, one_walked, own_after, own_bound, room_after, room_thrice, some_card, some_letter}
use Rattle.crib_bound.proofs.WalkSteps.{still_barred, still_held, trail_room, walk_after}
use Rattle.crib_bound.proofs.walk.Bound.+worth.Goals as goal

pub worth_at-returns-in-Over-clause-worth : goal.worth_at-returns-in-Over-clause-worth
worth_at-returns-in-Over-clause-worth g t c = c.worth_at_end.ensures c.args.path.now.trail.items

-- ---- a letter
pub worth_after-returns-then-not-can_show-clause-worth : goal.worth_after-returns-then-not-can_show-clause-worth
worth_after-returns-then-not-can_show-clause-worth g t c = no_letter

pub worth_after-keep_indices-count-requires-clause-small : goal.worth_after-keep_indices-count-requires-clause-small
worth_after-keep_indices-count-requires-clause-small g t c = c.requires.small

pub worth_after-keep_indices-count-requires-clause-room : goal.worth_after-keep_indices-count-requires-clause-room
worth_after-keep_indices-count-requires-clause-room g t c = omega (arith, c.split_at_mut-left.ensures.front_len)

pub worth_after-split_at_mut-left-requires : goal.worth_after-split_at_mut-left-requires
worth_after-split_at_mut-left-requires g t c =
    let room = room_after 0 c.requires.room (falls c.requires (rw c.copy-next.ensures at c.saw.ensures)) (omega arith) in
    omega (arith, room.0)

pub worth_after-split_at_mut-held-requires : goal.worth_after-split_at_mut-held-requires
worth_after-split_at_mut-held-requires g t c =
    let room = room_after c.keep_indices-count.result c.requires.room (falls c.requires (rw c.copy-next.ensures at c.saw.ensures))
    c.keep_indices-count.ensures.few in
    omega (arith, room.0, c.split_at_mut-left.ensures.back_len)

pub worth_after-slice_bounds-hold_back-end : goal.worth_after-slice_bounds-hold_back-end
worth_after-slice_bounds-hold_back-end g t c =
    omega (arith, c.split_at_mut-left.ensures.front_len, c.keep_indices-count.ensures.few, c.keep_indices-count.ensures.room)

pub worth_after-worth_at-value-requires : goal.worth_after-worth_at-value-requires
worth_after-worth_at-value-requires g t c κs within =
    let goes = rw c.copy-next.ensures at c.saw.ensures in
    let less = falls c.requires goes in
    let left = take c.keep_indices-count.result c.keep_indices-count.new.left in
    let long : length left ≡ c.keep_indices-count.result =
    omega (
      arith,
      length-take c.keep_indices-count.result c.keep_indices-count.new.left,
      c.keep_indices-count.ensures.few,
      c.keep_indices-count.ensures.room,
      c.split_at_mut-left.ensures.front_len,
    ) in
    let room = room_after c.keep_indices-count.result c.requires.room less c.keep_indices-count.ensures.few in (
      omega (arith, less, c.decreases),
      (
        within,
        walk_after c.requires goes c.after_letter-after.result.trail.items left _ c.after_letter-after.ensures c.keep_indices-count.ensures.small
            (rw long (omega (arith, room.0, c.split_at_mut-left.ensures.back_len, c.split_at_mut-held.ensures.back_len))),
      ),
    )

pub worth_after-returns-then-count-eq0-clause-worth : goal.worth_after-returns-then-count-eq0-clause-worth
worth_after-returns-then-count-eq0-clause-worth g t c = no_letter

pub worth_after-returns-clause-worth : goal.worth_after-returns-clause-worth
worth_after-returns-clause-worth g t c =
    some_letter (rw c.copy-next.ensures at c.saw.ensures) c.keep_indices-count.ensures.kept
    (held_bound _ c.hold_back.ensures.held c.hold_back.ensures.elsewhere c.put_back.ensures.most c.put_back.ensures.elsewhere
    (rw c.after_letter-after.ensures at c.worth_at-value.ensures.worth))

pub worth_after-after_letter-after-requires : goal.worth_after-after_letter-after-requires
worth_after-after_letter-after-requires g t c = trail_room c.requires (rw c.copy-next.ensures at c.saw.ensures)

-- ---- each letter
pub worth_by_theirs-loop-place-init : goal.worth_by_theirs-loop-place-init
worth_by_theirs-loop-place-init g t c = record { so_far = none_bound; room = refl }

pub worth_by_theirs-worth_after-more-requires : goal.worth_by_theirs-worth_after-more-requires
worth_by_theirs-worth_after-more-requires g t c κs within = (
  omega (arith, c.decreases),
  (
    within,
    record {
      own = c.requires.own;
      history = c.requires.history;
      knows = c.requires.knows;
      small = c.requires.small;
      room = omega (arith, c.requires.room, c.loop-place.invariant.room);
      short = c.requires.short;
    },
  ),
)

pub worth_by_theirs-loop-place-preserved : goal.worth_by_theirs-loop-place-preserved
worth_by_theirs-loop-place-preserved g t c = record {
  so_far = more_letters (omega (arith, c.saturating_add-sum.ensures)) c.loop-place.invariant.so_far c.worth_after-more.ensures.worth;
  room = search rules;
}

-- ---- the owner's turn
pub worth_by_own-worth_at-requires : goal.worth_by_own-worth_at-requires
worth_by_own-worth_at-requires g t c κs within =
    let goes = rw c.copy-next.ensures at c.own_go.ensures in
    let less = falls c.requires.walk goes in
    let room = room_after (length c.args.indices.now) c.requires.walk.room less (omega arith) in (
      omega (arith, less, c.decreases),
      (within, walk_after c.requires.walk goes c.after_go.result.trail.items c.args.indices.now _ c.after_go.ensures c.requires.walk.small room.1),
    )

pub worth_by_own-after_go-requires : goal.worth_by_own-after_go-requires
worth_by_own-after_go-requires g t c = trail_room c.requires.walk (rw c.copy-next.ensures at c.own_go.ensures)

pub worth_by_own-returns-then-must_go-clause-worth : goal.worth_by_own-returns-then-must_go-clause-worth
worth_by_own-returns-then-must_go-clause-worth g t c =
    go_bound (own_after _ c.requires.asked (rw c.copy-next.ensures at c.own_go.ensures) (rw c.after_go.ensures at c.worth_at.ensures.worth))

pub worth_by_own-split_at_mut-before-requires : goal.worth_by_own-split_at_mut-before-requires
worth_by_own-split_at_mut-before-requires g t c = omega (arith, room_thrice (length c.args.indices.now) (turns_ahead c.args.know.now) c.requires.walk.room)

pub worth_by_own-split_at_mut-kept-requires : goal.worth_by_own-split_at_mut-kept-requires
worth_by_own-split_at_mut-kept-requires g t c =
    omega (arith, room_thrice (length c.args.indices.now) (turns_ahead c.args.know.now) c.requires.walk.room, c.split_at_mut-before.ensures.back_len)

pub worth_by_own-split_at_mut-left-requires : goal.worth_by_own-split_at_mut-left-requires
worth_by_own-split_at_mut-left-requires g t c =
    let room = room_thrice (length c.args.indices.now) (turns_ahead c.args.know.now) c.requires.walk.room in
    omega (arith, room, c.split_at_mut-before.ensures.back_len, c.split_at_mut-kept.ensures.back_len)

pub worth_by_own-loop-card-init : goal.worth_by_own-loop-card-init
worth_by_own-loop-card-init g t c = record {
  held = λ card h. rw c.own_left-rest.ensures at h;
  done = rw (
    c.own_left-rest.ensures,
    with_read c.args.indices.now c.args.amounts.now c.requires.walk.small (search rules) c.args.amounts.now c.read_parts-2.new.parts (search rules)
        c.read_parts-2.ensures.read (λ index none. refl),
  ) none_walked;
  barred = λ is. rw c.own_left-rest.ensures none_barred;
  some = λ is. absurd cc;
  same = refl;
  below = λ place inside. let read = c.read_parts-2.ensures.read place inside in omega (arith, read);
  kept_room = omega (arith, c.read_parts-2.ensures.room, c.split_at_mut-kept.ensures.front_len);
  left_room = omega (arith, c.split_at_mut-left.ensures.front_len);
  room = omega (
    arith,
    room_thrice (length c.args.indices.now) (turns_ahead c.args.know.now) c.requires.walk.room,
    c.split_at_mut-before.ensures.back_len,
    c.split_at_mut-kept.ensures.back_len,
    c.split_at_mut-left.ensures.back_len,
  );
}

pub worth_by_own-loop-card-smaller-then-not-fits : goal.worth_by_own-loop-card-smaller-then-not-fits
worth_by_own-loop-card-smaller-then-not-fits g t c =
    rest_smaller c.loop-card.rest c.without-rest.result c.in-Some.card c.in-Some.ensures.set c.in-Some.ensures.first c.without-rest.ensures

pub worth_by_own-loop-card-preserved-then-not-fits : goal.worth_by_own-loop-card-preserved-then-not-fits
worth_by_own-loop-card-preserved-then-not-fits g t c =
    let parts = lowest_split c.loop-card.rest c.without-rest.result c.in-Some.card c.in-Some.ensures.set c.in-Some.ensures.first c.without-rest.ensures in
    let none : may_play c.args.know.now c.in-Some.card ≡ true → ¬ IsAllowedAt c.args.self.now.fixed.now c.args.path.now.trail.items (rank_of c.in-Some.card) =
    λ may allowed. cannot_play c.args.know.now c.in-Some.card c.fits.result
    (rw (c.round.ensures, c.rank.ensures.value) at c.fits.ensures) c.if-not-fits.true may in
    record {
      held = still_held c.args.know.now.own_left parts c.loop-card.invariant.held;
      done = one_passed parts none c.loop-card.invariant.done;
      barred = λ is. still_barred parts none (c.loop-card.invariant.barred is);
      some = c.loop-card.invariant.some;
      same = c.loop-card.invariant.same;
      below = c.loop-card.invariant.below;
      kept_room = c.loop-card.invariant.kept_room;
      left_room = c.loop-card.invariant.left_room;
      room = c.loop-card.invariant.room;
    }

pub worth_by_own-loop-card-smaller-then-not-is_allowed : goal.worth_by_own-loop-card-smaller-then-not-is_allowed
worth_by_own-loop-card-smaller-then-not-is_allowed g t c =
    rest_smaller c.loop-card.rest c.without-rest.result c.in-Some.card c.in-Some.ensures.set c.in-Some.ensures.first c.without-rest.ensures

pub worth_by_own-loop-card-preserved-then-not-is_allowed : goal.worth_by_own-loop-card-preserved-then-not-is_allowed
worth_by_own-loop-card-preserved-then-not-is_allowed g t c =
    let parts = lowest_split c.loop-card.rest c.without-rest.result c.in-Some.card c.in-Some.ensures.set c.in-Some.ensures.first c.without-rest.ensures in
    let none : may_play c.args.know.now c.in-Some.card ≡ true → ¬ IsAllowedAt c.args.self.now.fixed.now c.args.path.now.trail.items (rank_of c.in-Some.card) =
    λ may allowed. both_ways _ c.if-not-is_allowed.true ((rw c.rank-in-Some.ensures.value at c.is_allowed.ensures).1 allowed) in
    record {
      held = still_held c.args.know.now.own_left parts c.loop-card.invariant.held;
      done = one_passed parts none c.loop-card.invariant.done;
      barred = λ is. still_barred parts none (c.loop-card.invariant.barred is);
      some = c.loop-card.invariant.some;
      same = c.loop-card.invariant.same;
      below = c.loop-card.invariant.below;
      kept_room = c.loop-card.invariant.kept_room;
      left_room = c.loop-card.invariant.left_room;
      room = c.loop-card.invariant.room;
    }

pub worth_by_own-own_play-requires-clause-held : goal.worth_by_own-own_play-requires-clause-held
worth_by_own-own_play-requires-clause-held g t c =
    let parts = lowest_split c.loop-card.rest c.without-rest.result c.in-Some.card c.in-Some.ensures.set c.in-Some.ensures.first c.without-rest.ensures in
    rw c.copy-next-in-Some.ensures (c.loop-card.invariant.held c.in-Some.card (rw parts (has_here c.in-Some.card c.without-rest.result)))

pub worth_by_own-loop-card-smaller : goal.worth_by_own-loop-card-smaller
worth_by_own-loop-card-smaller g t c =
    rest_smaller c.loop-card.rest c.without-rest.result c.in-Some.card c.in-Some.ensures.set c.in-Some.ensures.first c.without-rest.ensures

pub worth_by_own-worth_at-value-requires : goal.worth_by_own-worth_at-value-requires
worth_by_own-worth_at-value-requires g t c κs within =
    let goes = rw c.copy-next-in-Some.ensures at c.own_play.ensures in
    let less = falls c.requires.walk goes in
    let room = room_after (length c.args.indices.now) c.requires.walk.room less (omega arith) in (
      omega (arith, less, c.decreases),
      (
        within,
        walk_after c.requires.walk goes c.after_card-after.result.trail.items c.args.indices.now _ c.after_card-after.ensures c.requires.walk.small
            (omega (arith, room.0, c.loop-card.invariant.room)),
      ),
    )

pub worth_by_own-after_card-after-requires : goal.worth_by_own-after_card-after-requires
worth_by_own-after_card-after-requires g t c = trail_room c.requires.walk (rw c.copy-next-in-Some.ensures at c.own_play.ensures)

pub worth_by_own-returns-then-least-eq0-clause-worth : goal.worth_by_own-returns-then-least-eq0-clause-worth
worth_by_own-returns-then-least-eq0-clause-worth g t c =
    let there = rw c.loop-card.invariant.same at c.worth_at-value.ensures.worth in
    rw (c.put_parts.ensures ∙ with_read c.args.indices.now c.worth_at-value.new.amounts c.requires.walk.small (search rules) c.args.amounts.now
    c.read_parts.new.parts (search rules) c.read_parts.ensures.read there.fewer.elsewhere) none_bound

pub worth_by_own-loop-card-preserved : goal.worth_by_own-loop-card-preserved
worth_by_own-loop-card-preserved g t c =
    let parts = lowest_split c.loop-card.rest c.without-rest.result c.in-Some.card c.in-Some.ensures.set c.in-Some.ensures.first c.without-rest.ensures in
    let there = rw c.loop-card.invariant.same at c.worth_at-value.ensures.worth in
    let may : may_play c.args.know.now c.in-Some.card ≡ true =
    can_play c.args.know.now c.in-Some.card c.fits.result (c.loop-card.invariant.held c.in-Some.card (rw parts (has_here c.in-Some.card c.without-rest.result)))
    (rw (c.round.ensures, c.rank.ensures.value) at c.fits.ensures) c.if-not-fits.false in
    let allowed = (rw c.rank-in-Some.ensures.value at c.is_allowed.ensures).0 c.if-not-is_allowed.false in
    let long : length c.args.amounts.now ≡ 29120 = search rules in
    let below : (place : ℕ) → place < length c.args.indices.now →
    get_or c.settle-least.new.kept place 0 ≤ get_or c.args.amounts.now (get_or c.args.indices.now place 0) 0 =
    λ place inside. c.settle-least.ensures.less place (get_or c.args.amounts.now (get_or c.args.indices.now place 0) 0) inside
    (c.loop-card.invariant.below place inside)
    (let read = c.read_parts-in-Some.ensures.read place inside in
    let less = there.fewer.less (get_or c.args.indices.now place 0) in
    omega (arith, read, less)) in
    record {
      held = still_held c.args.know.now.own_left parts c.loop-card.invariant.held;
      done = one_walked parts (record {
        less = λ index. with_few c.args.indices.now c.args.amounts.now c.requires.walk.small long c.settle-least.new.kept (length c.args.indices.now) index
            (omega arith) below;
        elsewhere = λ index none. with_elsewhere c.args.indices.now c.args.amounts.now c.requires.walk.small long c.settle-least.new.kept
            (length c.args.indices.now) index (omega arith) none;
      }) (c.settle-least.ensures.kept c.args.amounts.now long)
          (rw (with_read c.args.indices.now c.args.amounts.now c.requires.walk.small long c.worth_at-value.new.amounts
          c.read_parts-in-Some.new.parts (search rules)
          c.read_parts-in-Some.ensures.read (λ index none. sym (there.fewer.elsewhere index none))) at (c.settle-least.ensures.left c.args.amounts.now long))
          (own_after (move.Card c.in-Some.card) c.requires.asked (rw c.copy-next-in-Some.ensures at c.own_play.ensures)
          (rw (c.after_card-after.ensures, c.rank-in-Some-2.ensures.value) at there))
          c.loop-card.invariant.done;
      barred = λ is. absurd cc;
      some = λ is. (c.in-Some.card, may, allowed);
      same = c.put_parts.ensures ∙ with_read c.args.indices.now c.worth_at-value.new.amounts c.requires.walk.small (search rules) c.args.amounts.now
          c.read_parts.new.parts (search rules) c.read_parts.ensures.read there.fewer.elsewhere;
      below = below;
      kept_room = c.settle-least.ensures.kept_room ∙ c.loop-card.invariant.kept_room;
      left_room = c.settle-least.ensures.left_room ∙ c.read_parts-in-Some.ensures.room ∙ c.loop-card.invariant.left_room;
      room = omega (arith, c.worth_at-value.ensures.room, c.loop-card.invariant.room);
    }

pub worth_by_own-returns-then-is_barred-clause-worth : goal.worth_by_own-returns-then-is_barred-clause-worth
worth_by_own-returns-then-is_barred-clause-worth g t c =
    let some = some_card c.args.know.now c.must_go.result c.must_go.ensures.exact c.requires.asked c.if-must_go.false in
    barred_bound c.requires.asked some.0 some.1
    (all_barred (lowest_none c.loop-card.rest c.in_default.ensures.first) (c.loop-card.invariant.barred c.if-is_barred.true))
    (rw c.loop-card.invariant.same at c.take_missing.ensures)

pub worth_by_own-returns-clause-worth : goal.worth_by_own-returns-clause-worth
worth_by_own-returns-clause-worth g t c =
    let some = c.loop-card.invariant.some c.if-is_barred.false in
    rw (c.put_parts-2.ensures, c.loop-card.invariant.same)
    (own_bound c.requires.asked some.0 some.1 some.2
    (all_done {after = with_parts c.args.indices.now c.loop-card.kept (length c.args.indices.now) c.args.amounts.now}
    (lowest_none c.loop-card.rest c.in_default.ensures.first) c.loop-card.invariant.done))
