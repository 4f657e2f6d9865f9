use Rattle.std.proofs.Common.{ℕ, ◌≡◌, ◌+◌, ◌∙◌, min, get_or, take, sym, arith, rules}
use Rattle.std.proofs.lemmas.List.{length-set}
use Rattle.crib_plan_sheet.specs.Private.Ways.{ways_in}
use Rattle.crib_plan_sheet.proofs.PlanWays.{next_letter, all_letters, one_way, no_entry, no_way}
use Rattle.crib_plan_sheet.proofs.ways.lead_to_each.Goals as goal
use Rattle.crib_plan_sheet.proofs.ways.lead_to_each.Goals.{in-Some+then-node-ways, in-Some+else-node-ways, in_default}

pub loop-index-preserved : goal.loop-index-preserved
loop-index-preserved c =
    let inv = c.loop-index.invariant in
    let ways = c.loop-index.ways in
    let places = c.args.places.now in
    let index = c.loop-index.index in
    let next = λ (number : ℕ). next_letter (ways_in c.args.ways.now number) (ways_in ways number) places index number c.loop-index-test.true (inv.1 number) in
    elim c.match-new_node.branch [
      | in-Some+then-node-ways w ↦
          (let found = sym c.new_node.ensures ∙ w.in-Some.is in
          let counted : w.min.result ≡ min 2 (get_or ways w.in-Some.node 0 + 1) = search rules in
          rw w.ways-is (
            length-set ways w.in-Some.node w.min.result ∙ inv.0,
            λ number. one_way ways (take index places) _ w.in-Some.node w.min.result 0 w.if-node-ways.true found counted number ∙ next number,
          ))
      | in-Some+else-node-ways w ↦
          (let found = sym c.new_node.ensures ∙ w.in-Some.is in
          rw w.ways-is (inv.0, λ number. no_entry ways (take index places) _ w.in-Some.node (omega (arith, w.if-node-ways.false)) found number ∙ next number))
      | in_default w ↦
          rw w.ways-is (inv.0, λ number. no_way ways (take index places) _ (sym c.new_node.ensures ∙ w.in_default.is) number ∙ next number)
    ]

pub returns-clause-ways : goal.returns-clause-ways
returns-clause-ways c number =
    all_letters (ways_in c.args.ways.now number) (ways_in c.loop-index.ways number) c.args.places.now c.loop-index.index number
    (omega (arith, c.loop-index-test.false)) (c.loop-index.invariant.1 number)
