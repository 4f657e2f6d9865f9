use Rattle.std.proofs.Common.{◌≡◌, ◌+◌, ◌≤◌, length, get_or, refl, sym, ◌∙◌, arith}
use Rattle.std.proofs.lemmas.List.Elements.{All-from_recursion}
use Rattle.crib_search.specs.declared.nodes.DraftPlace.TheVariants.{End}
use Rattle.crib_search.specs.declared.nodes.DraftNode.TheVariants.{Play, See}
use Rattle.crib_search.specs.Private.Nodes.{IsEarlier}
use Rattle.crib_search.specs.Private.Numbers.{Walked}
use Rattle.std.proofs.Common.{drop, ap, ◌<◌}
use Rattle.std.proofs.lemmas.List.{drop_more, drop_all}
use Rattle.crib_search.proofs.NodeWalks.{height}
use Rattle.crib_search.proofs.NodeWalks.{walk_default, walk_again, walk_new, walk_none, walk_more, below_height, earlier_more, walks_at}
use Rattle.crib_search.proofs.numbering.Numbering.+number_from.Goals as goal

pub number_from-returns-in_default-clause-walk : goal.number_from-returns-in_default-clause-walk
number_from-returns-in_default-clause-walk g t c = walk_default c.args.self.now.draft_nodes c.args.draft_place c.args.self.now.left c.in_default.not-At

pub number_from-number_below-requires : goal.number_from-number_below-requires
number_from-number_below-requires g t c κs within = (omega (arith, ap height c.in-At.is), (within, rw c.in-At.is at c.requires))

pub number_from-returns-in_err-leave-clause-same : goal.number_from-returns-in_err-leave-clause-same
number_from-returns-in_err-leave-clause-same g t c = c.leave.ensures.same ∙ c.number_below.ensures.same

pub number_from-returns-clause-same : goal.number_from-returns-clause-same
number_from-returns-clause-same g t c = c.leave.ensures.same ∙ c.number_below.ensures.same

pub number_from-returns-then-is_left-clause-walk : goal.number_from-returns-then-is_left-clause-walk
number_from-returns-then-is_left-clause-walk g t c =
    rw c.in-At.is
    (walk_again c.args.self.now.draft_nodes c.is_left.ensures.kept c.in-At.index c.args.self.now.left (sym c.is_left.ensures.marked ∙ c.if-is_left.true))

pub number_from-returns-clause-walk : goal.number_from-returns-clause-walk
number_from-returns-clause-walk g t c =
    rw c.in-At.is
    (walk_new c.args.self.now.draft_nodes c.is_left.ensures.kept c.in-At.index c.args.self.now.left (sym c.is_left.ensures.marked ∙ c.if-is_left.false)
    c.number_below.new.self.left c.leave.new.self.left c.in_ok-number_below.ensures.walk c.in_ok-leave.ensures.left)

pub number_below-number_from-requires : goal.number_below-number_from-requires
number_below-number_from-requires g t c κs within =
    let below = c.draft_node.ensures.kept.earlier c.args.index (Play c.in-Play.card c.in-Play.next) c.in-Play.ensures.node in
    let low : height c.in-Play.next ≤ c.args.index = below_height c.args.index c.in-Play.next below in
    let here = c.requires in
    let earlier = earlier_more c.args.index (length c.args.self.now.draft_nodes) c.in-Play.next (omega (arith, here)) below in
    (omega (arith, low), (within, earlier))

pub number_below-loop-draft_place-init : goal.number_below-loop-draft_place-init
number_below-loop-draft_place-init g t c = record { same = refl; walk = λ after rest. rest }

pub number_below-number_from-requires-in-loop-draft_place : goal.number_below-number_from-requires-in-loop-draft_place
number_below-number_from-requires-in-loop-draft_place g t c κs within =
    let all = c.draft_node.ensures.kept.earlier c.args.index (See c.in-See.next) c.in-See.ensures.node in
    let next = get_or c.in-See.next c.loop-draft_place.draft_place-index End in
    let below = All-from_recursion (IsEarlier c.args.index) c.in-See.next all.1 c.loop-draft_place.draft_place-index End (omega (arith, all.0)) in
    let low : height next ≤ c.args.index = below_height c.args.index next below in
    let here = c.requires in
    let earlier = earlier_more c.args.index (length c.args.self.now.draft_nodes) next (omega (arith, here)) below in
    (omega (arith, low), (within, rw (← c.loop-draft_place.invariant.same) at earlier))

pub number_below-loop-draft_place-preserved : goal.number_below-loop-draft_place-preserved
number_below-loop-draft_place-preserved g t c =
    let all = c.draft_node.ensures.kept.earlier c.args.index (See c.in-See.next) c.in-See.ensures.node in
    let within : c.loop-draft_place.draft_place-index < length c.in-See.next = omega (arith, all.0) in
    record {
      same = c.number_from-in-loop-draft_place.ensures.same ∙ c.loop-draft_place.invariant.same;
      walk = λ after rest. c.loop-draft_place.invariant.walk after (rw (drop_more c.in-See.next c.loop-draft_place.draft_place-index End within)
          (walk_more c.args.self.now.draft_nodes (get_or c.in-See.next c.loop-draft_place.draft_place-index End)
          (drop (c.loop-draft_place.draft_place-index + 1) c.in-See.next) c.loop-draft_place.self.left c.number_from-in-loop-draft_place.new.self.left after
          (rw c.loop-draft_place.invariant.same at c.in_ok-number_from-in-See.ensures.walk) rest));
    }

pub number_below-returns-after-loop-draft_place-clause-walk : goal.number_below-returns-after-loop-draft_place-clause-walk
number_below-returns-after-loop-draft_place-clause-walk g t c =
    let all = c.draft_node.ensures.kept.earlier c.args.index (See c.in-See.next) c.in-See.ensures.node in
    let nodes : c.self.inside.nodes.now ≡ c.args.self.now.draft_nodes = ap (λ (walked : Walked). walked.draft_nodes) c.self.view_is in
    walks_at c.args.index c.args.self.now.left c.loop-draft_place.self.left nodes c.in-See.ensures.node
    (c.loop-draft_place.invariant.walk c.loop-draft_place.self.left
    (rw (drop_all c.loop-draft_place.draft_place-index c.in-See.next (omega (arith, all.0)))
    (walk_none c.args.self.now.draft_nodes c.loop-draft_place.self.left)))
