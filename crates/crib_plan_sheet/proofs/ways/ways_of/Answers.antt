use Rattle.std.proofs.Common.{◌≡◌, ℕ, ◌≤◌, ◌++◌, ◌∙◌, List, length, take, drop, replicate, ap, arith}
use Rattle.std.proofs.lemmas.List.{append-nil, drop_all, length-replicate, take_all}
use Rattle.crib_plan.specs.declared.plan.Node.{Node}
use Rattle.crib_plan_sheet.specs.Private.Ways.{ways_in, one_more}
use Rattle.crib_plan_sheet.specs.PlanBranches.{node_leads}
use Rattle.crib_plan_sheet.proofs.PlanWays.{none_yet, next_node, all_nodes}
use Rattle.crib_plan_sheet.proofs.ways.ways_of.Goals as goal

-- all of a vector is written
written : (len : ℕ) (ways new : List ℕ) → length ways ≤ len → length new ≡ length ways → take len (new ++ drop (length new) ways) ≡ new
written len ways new long same = rw (drop_all (length new) ways (omega arith), append-nil) (take_all len new (omega arith))

pub loop-number-init : goal.loop-number-init
loop-number-init g c =
    let items : c.in_ok-ways.ways.items ≡ replicate (length c.args.nodes.now) 0 = c.in_ok-ways.ensures.items_if_clones_equal (λ y same. same) in
    rw items (length-replicate (length c.args.nodes.now) 0, none_yet (length c.args.nodes.now))

pub loop-number-preserved : goal.loop-number-preserved
loop-number-preserved g c =
    let inv = c.loop-number.invariant in
    let now = c.deref_mut.ensures.value in
    let same : length c.lead_on.new.ways ≡ length c.loop-number.ways.items = c.lead_on.ensures.length ∙ ap length now in
    rw (written c.loop-number.ways.len c.loop-number.ways.items c.lead_on.new.ways (omega (arith, c.loop-number.ways.ok)) same) (
      same ∙ inv.0,
      λ node within.
          c.lead_on.ensures.ways node
          ∙ ap (λ (ways : List ℕ). one_more (ways_in ways node) (node_leads node c.index-nodes-number.result)) now
          ∙ ap (λ (found : Node). one_more (ways_in c.loop-number.ways.items node) (node_leads node found)) c.index-nodes-number.is
          ∙ next_node _ c.args.nodes.now c.loop-number.number node c.index-nodes-number.result c.loop-number-test.true (inv.1 node within),
    )

pub returns-clause-counted : goal.returns-clause-counted
returns-clause-counted g c = record {
  counted = λ node within. all_nodes _ _ c.loop-number.number node c.loop-number-test.false (c.loop-number.invariant.1 node within);
}
