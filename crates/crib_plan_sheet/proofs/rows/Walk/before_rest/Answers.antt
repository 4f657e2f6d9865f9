use Rattle.std.proofs.Common.{◌∙◌, refl, length, subst, sym}
use Rattle.crib_plan_sheet.specs.Private.Pages.{IsDeep}
use Rattle.crib_plan_sheet.proofs.PlanRows.{node_play, node_see, place_apart, place_end, place_node}
use Rattle.crib_plan_sheet.proofs.PutRows.{seen}
use Rattle.crib_plan_sheet.proofs.rows.Walk.before_rest.Goals as goal

pub returns-in-End-clause-text : goal.returns-in-End-clause-text
returns-in-End-clause-text g c = rw (c.in-End.is, place_end) refl

pub returns-then-is_apart-clause-text : goal.returns-then-is_apart-clause-text
returns-then-is_apart-clause-text g c = rw (c.in-To.is, place_apart _ _ _ (sym c.is_apart.ensures ∙ c.if-is_apart.true)) refl

pub returns-in-Play-clause-text : goal.returns-in-Play-clause-text
returns-in-Play-clause-text g c =
    let inside = (subst (IsDeep 0 (length c.args.self.now.plan.now)) c.in-To.is c.requires).1 in
    let here = seen c.args.self.now.plan.now _ _ _ _ c.nodes.ensures.nodes c.index-nodes-node.is c.in-Play.is in
    rw (c.in-To.is, place_node _ _ _ (sym c.is_apart.ensures ∙ c.if-is_apart.false), node_play _ _ _ _ _ _ c.nodes.ensures.sound inside here) refl

pub returns-in-See-clause-text : goal.returns-in-See-clause-text
returns-in-See-clause-text g c =
    let inside = (subst (IsDeep 0 (length c.args.self.now.plan.now)) c.in-To.is c.requires).1 in
    let here = seen c.args.self.now.plan.now _ _ _ _ c.nodes.ensures.nodes c.index-nodes-node.is c.in-See.is in
    rw (c.in-To.is, place_node _ _ _ (sym c.is_apart.ensures ∙ c.if-is_apart.false), node_see _ _ _ _ _ c.nodes.ensures.sound inside here) refl
