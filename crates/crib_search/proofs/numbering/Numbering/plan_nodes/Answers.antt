use Rattle.std.proofs.Common.{◌≡◌, length, ap, sym, ◌∙◌, arith}
use Rattle.std.proofs.lemmas.List.{take_all}
use Rattle.crib_search.specs.Private.Numbers.{Walked, nodes_of_indices}
use Rattle.crib_search.proofs.NodeWalks.{below_more}
use Rattle.crib_search.proofs.NumberedNodes.{nodes_step}
use Rattle.crib_search.proofs.numbering.Numbering.plan_nodes.Goals as goal

pub numbered-requires-clause-below : goal.numbered-requires-clause-below
numbered-requires-clause-below g c =
    let kept = c.index_numbered-index.ensures.kept in
    below_more c.index_numbered-index.result (length c.args.self.now.draft_nodes) c.draft_node.result (omega (arith, kept))
    (c.draft_node.ensures.kept.earlier c.index_numbered-index.result c.draft_node.result c.draft_node.ensures.node)

pub loop-number-preserved : goal.loop-number-preserved
loop-number-preserved g c =
    let nodes : c.self.inside.nodes.now ≡ c.args.self.now.draft_nodes = ap (λ (walked : Walked). walked.draft_nodes) c.self.view_is in
    rw (c.in_ok-push.ensures.items, c.numbered.ensures, c.loop-number.invariant)
    (sym (nodes_step c.args.self.now.draft_nodes c.args.self.now.left c.loop-number.number c.index_numbered-index.result c.draft_node.result
    c.index_numbered-index.ensures.index (rw (← nodes) c.draft_node.ensures.node)))

pub index_numbered-index-requires : goal.index_numbered-index-requires
index_numbered-index-requires g c = rw c.len-number-end.ensures at c.loop-number-test.true

pub loop-number-init : goal.loop-number-init
loop-number-init g c = c.in_ok-plan.ensures.items

pub returns : goal.returns
returns g c =
    c.loop-number.invariant ∙ ap (nodes_of_indices c.args.self.now.draft_nodes c.args.self.now.left)
    (take_all c.loop-number.number c.args.self.now.left (rw c.len-number-end.ensures at c.loop-number-test.false))
