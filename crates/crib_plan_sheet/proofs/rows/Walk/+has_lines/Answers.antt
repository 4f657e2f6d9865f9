use Rattle.std.proofs.Common.{◌≡◌, ℕ, ◌+◌, ◌-◌, ◌∙◌, true, nat_lt, refl, ap, rules, length, subst, sym, arith}
use Rattle.std.proofs.lemmas.Bool.Decides.{nat_tests}
use Rattle.crib_plan_sheet.specs.Private.Pages.{IsDeep}
use Rattle.crib_plan_sheet.proofs.PlanRows.{node_play, node_see, place_apart, place_end, place_node, room}
use Rattle.crib_plan_sheet.proofs.PutRows.{deep_later, node_seen, room_later, seen}
use Rattle.crib_plan_sheet.proofs.rows.Walk.+has_lines.Goals as goal

pub returns-in-End : goal.returns-in-End
returns-in-End g t c = rw (c.in-End.is, place_end) refl

pub returns-then-is_apart : goal.returns-then-is_apart
returns-then-is_apart g t c = rw (c.in-To.is, place_apart _ _ _ (sym c.is_apart.ensures ∙ c.if-is_apart.true)) refl

pub has_lines-requires : goal.has_lines-requires
has_lines-requires g t c κs within =
    let count = length c.args.self.now.plan.now in
    let inside = (subst (IsDeep 0 count) c.in-To.is c.requires).1 in
    let here = node_seen c.args.self.now.plan.now _ _ _ _ c.nodes.ensures.nodes c.index-nodes-node.is c.in-Play.is c.nodes.ensures.sound inside in
    let deep = deep_later 0 c.in-To.node count c.in-Play.next (omega arith) here.1 in
    let left = room_later c.in-To.node count c.in-Play.next inside here.1 in
    let before : room count c.args.place ≡ count - c.in-To.node = ap (room count) c.in-To.is in
    search (rules, deep, left, before)

pub returns-in-Play : goal.returns-in-Play
returns-in-Play g t c =
    let inside = (subst (IsDeep 0 (length c.args.self.now.plan.now)) c.in-To.is c.requires).1 in
    let here = seen c.args.self.now.plan.now _ _ _ _ c.nodes.ensures.nodes c.index-nodes-node.is c.in-Play.is in
    rw (c.in-To.is, place_node _ _ _ (sym c.is_apart.ensures ∙ c.if-is_apart.false), node_play _ _ _ _ _ _ c.nodes.ensures.sound inside here)
    c.has_lines.ensures

-- a look is a level of lines
level_of_look : (below : ℕ) → true ≡ nat_lt 0 (1 + below)
level_of_look below = grind (arith, nat_tests)

pub returns-in-See : goal.returns-in-See
returns-in-See g t c =
    let inside = (subst (IsDeep 0 (length c.args.self.now.plan.now)) c.in-To.is c.requires).1 in
    let here = seen c.args.self.now.plan.now _ _ _ _ c.nodes.ensures.nodes c.index-nodes-node.is c.in-See.is in
    rw (c.in-To.is, place_node _ _ _ (sym c.is_apart.ensures ∙ c.if-is_apart.false), node_see _ _ _ _ _ c.nodes.ensures.sound inside here)
    (level_of_look _)
