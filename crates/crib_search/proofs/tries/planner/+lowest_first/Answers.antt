use Rattle.std.proofs.Common.{sym, ap, ◌∙◌, arith}
use Rattle.crib_cards.proofs.LowestCard.{in_set, lowest_none, lowest_split, rest_smaller}
use Rattle.crib_cards.proofs.Members.{has_here}
use Rattle.crib_cards.specs.Sets.{has}
use Rattle.std.proofs.Common.{ℕ, List}
use Rattle.crib_search.specs.Private.States.{in_order}
use Rattle.crib_search.specs.Trees.{Plays}
use Rattle.crib_search.proofs.FoundAfterTurns.{ok_map}
use Rattle.crib_search.proofs.JoinedTrees.{draft_place_earlier}
use Rattle.crib_search.proofs.PlannedPlaces.{planned_end, planned_play}
use Rattle.crib_search.proofs.tries.planner.+lowest_first.Goals as goal

pub returns-in_default-clause-planned : goal.returns-in_default-clause-planned
returns-in_default-clause-planned g t c =
    planned_end c.args.nodes.now _ (ap in_order (sym (lowest_none c.args.cards (sym c.in_default.is ∙ c.lowest.ensures.first))))

pub lowest_first-requires : goal.lowest_first-requires
lowest_first-requires g t c κs within = (
  omega (
    arith,
    rest_smaller c.args.cards c.without.result c.in-Some.card c.lowest.ensures.set (sym c.in-Some.is ∙ c.lowest.ensures.first)
        c.without.ensures,
  ),
  within,
)

pub place_of-requires : goal.place_of-requires
place_of-requires g t c =
    draft_place_earlier c.lowest_first.new.nodes c.in_ok-next.ensures.planned.tree c.in_ok-next.next c.in_ok-next.ensures.planned.names

pub returns-clause-planned : goal.returns-clause-planned
returns-clause-planned g t c =
    let split = lowest_split c.args.cards c.without.result c.in-Some.card c.lowest.ensures.set (sym c.in-Some.is ∙ c.lowest.ensures.first) c.without.ensures in
    let held = ap (λ (cards : List ℕ). has cards c.in-Some.card) split ∙ has_here c.in-Some.card c.without.result in
    ok_map c.place_of.result _ _
    (planned_play c.lowest_first.new.nodes c.place_of.new.self c.place_of.ensures.kept c.in-Some.card
    (in_set c.args.cards c.in-Some.card c.lowest.ensures.set held) _ _
    (λ tree same. ap (Plays c.in-Some.card) same ∙ ap in_order (sym split)) c.in_ok-next.next c.in_ok-next.ensures.planned)
    c.place_of.ensures.node
