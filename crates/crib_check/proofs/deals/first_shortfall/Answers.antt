use Rattle.std.proofs.Common.{◌≡◌, List, length}
use Rattle.crib_play.specs.History.{Event}
use Rattle.crib_know.specs.Hidden.{KnowsAfter}
use Rattle.crib_know.specs.Knowledge.{their_ranks}
use Rattle.crib_check.proofs.FirstShortfalls.{all_met, none_met, short_by}
use Rattle.crib_sure.proofs.EndedDeals.{all_reach, four_shown}
use Rattle.crib_sure.proofs.ShowsBehind.{gone_for, gone_from, has_deal}
use Rattle.crib_check.proofs.deals.first_shortfall.Goals as goal
use Rattle.crib_check.proofs.deals.first_shortfall.Goals.{After-go_to}

pub returns-then-is_met_by_all-clause-first : goal.returns-then-is_met_by_all-clause-first
returns-then-is_met_by_all-clause-first c =
    all_met (all_reach c.demand_at_end-demand.result c.demand_at_end-demand.ensures.show c.requires.shows.0.own.hand
    (c.is_met_by_all.ensures.0 c.if-is_met_by_all.true))

pub returns-then-is_impossible-clause-first : goal.returns-then-is_impossible-clause-first
returns-then-is_impossible-clause-first c = λ history knows.
    none_met knows c.demand_at_end-demand.result (c.demand_at_end-demand.ensures.show c.requires.shows.0.own.hand)
    (c.is_impossible.ensures.0 c.if-is_impossible.true)
    (c.some_deal.ensures c.args.problem.now history knows)

-- where neither side is through, the opponent has shown four ranks
four : (c : After-go_to) (history : List Event) → KnowsAfter c.args.know.now c.args.problem.now history → length (their_ranks history) ≡ 4
four c history knows = four_shown knows c.requires.over c.demand_at_end-demand.result c.demand_at_end-demand.ensures.decided
    c.is_met_by_all.ensures c.if-is_met_by_all.false c.is_impossible.ensures c.if-is_impossible.false

pub first_missing-requires-clause-deal : goal.first_missing-requires-clause-deal
first_missing-requires-clause-deal c =
    let known = c.requires.known in
    has_deal known.1 (four (goal.at.first_missing-requires-clause-deal c).After-go_to known.0 known.1)
    (c.go_to.ensures.worst c.args.problem.now c.requires.shows)

pub returns-clause-first : goal.returns-clause-first
returns-clause-first c = λ history knows.
    let worst = c.go_to.ensures.worst c.args.problem.now c.requires.shows in
    short_by knows c.demand_at_end-demand.result (c.demand_at_end-demand.ensures.show c.requires.shows.0.own.hand)
    (four (goal.at.returns-clause-first c).After-go_to history knows) c.first_missing.result (rw worst at c.first_missing.ensures.first)

pub first_missing-requires-clause-shows : goal.first_missing-requires-clause-shows
first_missing-requires-clause-shows c =
    gone_for c.requires.known (c.go_to.ensures.worst c.args.problem.now c.requires.shows) c.go_to.ensures.extremes c.requires.shows.0

pub returns-clause-shows : goal.returns-clause-shows
returns-clause-shows c = gone_from c.requires.known (c.go_to.ensures.worst c.args.problem.now c.requires.shows) c.first_missing.ensures.shows
