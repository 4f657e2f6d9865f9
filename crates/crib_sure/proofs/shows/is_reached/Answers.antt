use Rattle.std.proofs.Common.{◌≡◌, length}
use Rattle.crib_know.specs.Knowledge.{their_ranks}
use Rattle.crib_sure.proofs.ShowsBehind.{gone_for, gone_from, has_deal}
use Rattle.crib_sure.proofs.EndedDeals.{all_reach, end_is, four_shown, none_reaches}
use Rattle.crib_sure.proofs.shows.is_reached.Goals as goal
use Rattle.crib_sure.proofs.shows.is_reached.Goals.{After-go_to}

pub returns-then-is_met_by_all-clause-reached : goal.returns-then-is_met_by_all-clause-reached
returns-then-is_met_by_all-clause-reached c =
    all_reach c.demand_at_end-demand.result c.demand_at_end-demand.ensures.show c.requires.shows.0.own.hand
    (c.is_met_by_all.ensures.0 c.if-is_met_by_all.true)

pub returns-then-is_impossible-clause-reached : goal.returns-then-is_impossible-clause-reached
returns-then-is_impossible-clause-reached c =
    none_reaches c.demand_at_end-demand.result c.demand_at_end-demand.ensures.show c.requires.shows.0.own.hand
    (c.is_impossible.ensures.0 c.if-is_impossible.true)

four : (c : After-go_to) → length (their_ranks c.requires.known.0) ≡ 4
four c = four_shown c.requires.known.1 c.requires.over c.demand_at_end-demand.result c.demand_at_end-demand.ensures.decided
    c.is_met_by_all.ensures c.if-is_met_by_all.false c.is_impossible.ensures c.if-is_impossible.false

pub meets_all-requires-clause-deal : goal.meets_all-requires-clause-deal
meets_all-requires-clause-deal c =
    has_deal c.requires.known.1 (four (goal.at.meets_all-requires-clause-deal c).After-go_to) (c.go_to.ensures.worst c.args.problem.now c.requires.shows)

pub returns-clause-reached : goal.returns-clause-reached
returns-clause-reached c = λ history knows.
    let worst = c.go_to.ensures.worst c.args.problem.now c.requires.shows in
    let four = four_shown knows c.requires.over c.demand_at_end-demand.result c.demand_at_end-demand.ensures.decided
    c.is_met_by_all.ensures c.if-is_met_by_all.false c.is_impossible.ensures c.if-is_impossible.false in
    end_is c.demand_at_end-demand.result c.demand_at_end-demand.ensures.show c.requires.shows.0.own.hand knows four
    (rw worst at c.meets_all.ensures.all)

pub meets_all-requires-clause-shows : goal.meets_all-requires-clause-shows
meets_all-requires-clause-shows c =
    gone_for c.requires.known (c.go_to.ensures.worst c.args.problem.now c.requires.shows) c.go_to.ensures.extremes c.requires.shows.0

pub returns-clause-shows : goal.returns-clause-shows
returns-clause-shows c = gone_from c.requires.known (c.go_to.ensures.worst c.args.problem.now c.requires.shows) c.meets_all.ensures.shows
