use Rattle.std.proofs.Common.{rules, refl, ◌≡◌, ◌*◌, ◌+◌, ◌≤◌, ◌<◌, ℕ, length, take, sym, ap, ◌∙◌, arith}
use Rattle.std.specs.List.{All}
use Rattle.std.proofs.lemmas.Bool.{both_ways}
use Rattle.std.proofs.lemmas.List.{length-take}
use Rattle.std.proofs.lemmas.List.Elements.{All-filter}
use Rattle.crib_beaten.proofs.BeatingDeals.{beats_agrees}
use Rattle.crib_beaten.proofs.DemandsByTurns.{all_below, goes_on, next_below, none_below, none_demand, over_demand, own_demand}
use Rattle.crib_know.specs.Private.Ahead.{turns_ahead}
use Rattle.crib_beaten.specs.Beaten.{may_show}
use Rattle.crib_beaten.proofs.DemandsByTurns.{stuck_demand, theirs_not_shown, theirs_shown}
use Rattle.crib_beaten.proofs.JoinedDemands.{both, joined_as, joined_both, joined_kept, joined_none, met_both}
use Rattle.crib_beaten.proofs.JoinedDemands.{room_after}
use Rattle.crib_beaten.proofs.plays.Plays.+demand.Goals as goal

-- the measure falls with a turn, and the room is enough for what comes after
fall : {before after t : ℕ} → after < before → 3 * before ≡ t → 3 * after + 2 < t
fall less is = omega (arith, less, is)

fall_more : {before after t : ℕ} → after < before → 3 * before + 1 ≡ t → 3 * after + 2 < t
fall_more less is = omega (arith, less, is)

rooms : {before after room : ℕ} (many : ℕ) → many * before ≤ room → after < before → (many ≤ room) × (many * after ≤ room)
rooms many enough falls = (omega (arith, (room_after 0 enough falls (omega arith)).0), (room_after many enough falls (omega arith)).1)

-- ---- the deal is done
pub join_from-returns-in-Over : goal.join_from-returns-in-Over
join_from-returns-in-Over g t c =
    joined_as (λ counts demand is. rw is (over_demand _ (sym c.in-Over.ensures) (c.demand_at_end-demand.ensures.show c.requires.own))) (c.join.ensures _)

pub join_from-join_by_own-requires : goal.join_from-join_by_own-requires
join_from-join_by_own-requires g t c κs within =
    (omega arith, (within, (c.requires, sym c.in-Owner.ensures)))

pub join_from-join_by_theirs-requires : goal.join_from-join_by_theirs-requires
join_from-join_by_theirs-requires g t c κs within =
    (omega arith, (within, (c.requires, sym c.in-Opponent.ensures)))

-- ---- the owner's turn
pub join_by_own-returns-in_default : goal.join_by_own-returns-in_default
join_by_own-returns-in_default g t c = joined_as (λ counts demand is. rw is (stuck_demand _ c.in_default.ensures c.impossible.ensures)) (c.join.ensures _)

pub join_by_own-join_from-requires : goal.join_by_own-join_from-requires
join_by_own-join_from-requires g t c κs within =
    let walk = c.requires.walk in
    let next = goes_on walk.here (rw c.copy-next.ensures at c.go_by_own.ensures c.args.self.now.problem.now) in
    let room = (rooms (length c.args.indices.now) walk.room next.1).1 in
    (fall_more next.1 c.decreases, (within, record { own = walk.own; here = next.0; small = walk.small; room = room }))

pub join_by_own-returns : goal.join_by_own-returns
join_by_own-returns g t c =
    joined_as (λ counts demand. own_demand demand c.requires.asked c.in-Some.ensures
    (rw c.copy-next.ensures at c.go_by_own.ensures c.args.self.now.problem.now)) c.join_from.ensures

-- ---- a letter of the opponent
pub join_after-returns-then-not-can_show-clause-joined : goal.join_after-returns-then-not-can_show-clause-joined
join_after-returns-then-not-can_show-clause-joined g t c = joined_none _ (λ counts. none_demand (λ history stands dealt same beats.
    both_ways c.can_show.result c.if-not-can_show.true
    ((c.can_show.ensures.exact _ history stands.knows).1 (dealt, beats_agrees stands.knows.setup beats))))

pub join_after-returns-then-not-can_show-clause-room : goal.join_after-returns-then-not-can_show-clause-room
join_after-returns-then-not-can_show-clause-room g t c = refl

pub join_after-keep_indices-count-requires-clause-indices : goal.join_after-keep_indices-count-requires-clause-indices
join_after-keep_indices-count-requires-clause-indices g t c = c.requires.small

pub join_after-keep_indices-count-requires-clause-room : goal.join_after-keep_indices-count-requires-clause-room
join_after-keep_indices-count-requires-clause-room g t c = omega (arith, c.split_at_mut-left.ensures.front_len)

pub join_after-slice_bounds-join_from-end : goal.join_after-slice_bounds-join_from-end
join_after-slice_bounds-join_from-end g t c =
    omega (arith, c.split_at_mut-left.ensures.front_len, c.keep_indices-count.ensures.few, c.keep_indices-count.ensures.room)

pub join_after-go_by_theirs-requires : goal.join_after-go_by_theirs-requires
join_after-go_by_theirs-requires g t c = rw c.copy-next.ensures (c.can_show.ensures.shown c.if-not-can_show.false)

pub join_after-split_at_mut-left-requires : goal.join_after-split_at_mut-left-requires
join_after-split_at_mut-left-requires g t c =
    let next = goes_on c.requires.here (rw c.copy-next.ensures at c.go_by_theirs.ensures c.args.self.now.problem.now) in
    (rooms (length c.args.indices.now) c.requires.room next.1).0

pub join_after-join_from-requires : goal.join_after-join_from-requires
join_after-join_from-requires g t c κs within =
    let next = goes_on c.requires.here (rw c.copy-next.ensures at c.go_by_theirs.ensures c.args.self.now.problem.now) in
    let left = take c.keep_indices-count.result c.keep_indices-count.new.left in
    let small : All (λ index. index < 1820) left = rw c.keep_indices-count.ensures.kept (All-filter _ (λ index. index < 1820) _ c.requires.small) in
    let few : length left ≤ length c.args.indices.now =
    omega (arith, length-take c.keep_indices-count.result c.keep_indices-count.new.left, c.keep_indices-count.ensures.few) in
    let room : length left * turns_ahead c.go_by_theirs.new.key.know ≤ length c.split_at_mut-left.result.1.now =
    omega (arith, (room_after (length left) c.requires.room next.1 few).0, c.split_at_mut-left.ensures.back_len) in
    (fall next.1 c.decreases, (within, record { own = c.requires.own; here = next.0; small = small; room = room }))

pub join_after-returns-then-count-gt0-clause-joined : goal.join_after-returns-then-count-gt0-clause-joined
join_after-returns-then-count-gt0-clause-joined g t c =
    let goes = rw c.copy-next.ensures at c.go_by_theirs.ensures c.args.self.now.problem.now in
    joined_kept {new = c.join_from.new.demands} (may_show c.args.key.now.know c.go_by_theirs.new.key.know c.args.letter.now)
    (λ counts demand. theirs_shown demand goes) (λ counts. theirs_not_shown goes) c.keep_indices-count.ensures.kept c.join_from.ensures

pub join_after-returns-else-count-gt0-clause-joined : goal.join_after-returns-else-count-gt0-clause-joined
join_after-returns-else-count-gt0-clause-joined g t c =
    let goes = rw c.copy-next.ensures at c.go_by_theirs.ensures c.args.self.now.problem.now in
    let zero : c.keep_indices-count.result ≡ 0 = omega (arith, c.if-count-gt0.false) in
    joined_kept {new = c.args.demands.now} (may_show c.args.key.now.know c.go_by_theirs.new.key.know c.args.letter.now)
    (λ counts demand. theirs_shown demand goes) (λ counts. theirs_not_shown goes)
    (ap (λ n. take n c.keep_indices-count.new.left) (sym zero) ∙ c.keep_indices-count.ensures.kept)
    (record { here = λ index h. absurd cc; elsewhere = λ index h. refl })

-- ---- each letter of the opponent
pub join_by_theirs-loop-index-init : goal.join_by_theirs-loop-index-init
join_by_theirs-loop-index-init g t c = record { joined = joined_none _ (λ counts. none_below); room = search rules }

pub join_by_theirs-join_after-requires : goal.join_by_theirs-join_after-requires
join_by_theirs-join_after-requires g t c κs within =
    let walk = c.requires.walk in
    let room : length c.args.indices.now * turns_ahead c.args.key.now.know ≤ length c.loop-index.spare =
    omega (arith, walk.room, c.loop-index.invariant.room) in
    (omega arith, (within, record { own = walk.own; here = walk.here; small = walk.small; room = room }))

pub join_by_theirs-loop-index-preserved : goal.join_by_theirs-loop-index-preserved
join_by_theirs-loop-index-preserved g t c = record {
  joined = joined_both (λ counts one other. next_below one other (both one other) c.at-letter.ensures.index c.at-letter.ensures.valid (met_both one other))
      c.loop-index.invariant.joined c.join_after.ensures.joined;
  room = search rules;
}

pub join_by_theirs-returns : goal.join_by_theirs-returns
join_by_theirs-returns g t c = joined_as (λ counts demand. all_below demand c.requires.asked c.loop-index-test.false) c.loop-index.invariant.joined
