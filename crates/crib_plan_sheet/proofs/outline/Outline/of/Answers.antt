use Rattle.std.proofs.Common.{List, length, ap, subst, sym, ◌∙◌}
use Rattle.crib_plan.specs.Nodes.{ArePlan}
use Rattle.crib_plan.specs.declared.plan.Next.{Next}
use Rattle.crib_plan.specs.declared.plan.Node.{Node}
use Rattle.crib_plan_sheet.specs.Private.Spots.{AreSized}
use Rattle.crib_plan_sheet.proofs.PlanApart.{outline_apart}
use Rattle.crib_plan_sheet.proofs.PlanBeginnings.{outline_begins}
use Rattle.crib_plan_sheet.proofs.PlanOutlines.{outline_lines, outline_text}
use Rattle.crib_plan_sheet.proofs.outline.Outline.of.Goals as goal

pub returns-clause-apart : goal.returns-clause-apart
returns-clause-apart g c =
    let nodes = c.nodes.result.now in
    let spots = c.in_ok-spots.spots.items in
    outline_apart spots c.args.plan.now nodes c.nodes.ensures.nodes c.in_ok-spots.ensures.length
    (subst ArePlan (sym c.nodes.ensures.nodes) c.nodes.ensures.sound)
    (subst (λ (named : List Next). AreSized named 1 nodes spots) c.looks_to_name-named.ensures c.in_ok-spots.ensures.sized) c.in_ok-spots.ensures.first

pub returns-clause-begins : goal.returns-clause-begins
returns-clause-begins g c =
    let nodes = c.nodes.result.now in
    let spots = c.in_ok-spots.spots.items in
    outline_begins spots c.args.plan.now nodes c.nodes.ensures.nodes c.in_ok-spots.ensures.length
    (subst ArePlan (sym c.nodes.ensures.nodes) c.nodes.ensures.sound) c.in_ok-spots.ensures.low
    (subst (λ (named : List Next). AreSized named 1 nodes spots) c.looks_to_name-named.ensures c.in_ok-spots.ensures.sized)

pub returns-clause-narrow : goal.returns-clause-narrow
returns-clause-narrow g c =
    (outline_text _ c.in_ok-spots.spots.items c.args.plan.now c.nodes.result.now c.nodes.ensures.nodes c.in_ok-spots.ensures.length
    (subst ArePlan (sym c.nodes.ensures.nodes) c.nodes.ensures.sound) c.in_ok-spots.ensures.low c.in_ok-spots.ensures.sized).0

pub returns-clause-lines : goal.returns-clause-lines
returns-clause-lines g c =
    let spots = c.in_ok-spots.spots.items in
    outline_lines c.looks_to_name-named.result spots c.args.plan.now
    (c.in_ok-spots.ensures.length ∙ ap (λ (nodes : List Node). length nodes) c.nodes.ensures.nodes) c.in_ok-spots.ensures.low
    (subst (λ (nodes : List Node). AreSized c.looks_to_name-named.result 1 nodes spots) c.nodes.ensures.nodes c.in_ok-spots.ensures.sized)

pub returns-clause-size : goal.returns-clause-size
returns-clause-size g c =
    (outline_text _ c.in_ok-spots.spots.items c.args.plan.now c.nodes.result.now c.nodes.ensures.nodes c.in_ok-spots.ensures.length
    (subst ArePlan (sym c.nodes.ensures.nodes) c.nodes.ensures.sound) c.in_ok-spots.ensures.low c.in_ok-spots.ensures.sized).1
