use Rattle.std.proofs.Common.{rules, ◌≡◌, List, [], length, slice_index_or, refl, ap, ◌∙◌, arith}
use Rattle.crib_problem.specs.Setup.{start_of}
use Rattle.crib_game.specs.declared.replaying.report.Row.{Row}
use Rattle.crib_game.specs.Replay.{acts_back}
use Rattle.crib_game_sheet.proofs.PlayWalks.{cards_grow, found_points, pile_grows, walk_done, walk_next, walk_starts}
use Rattle.crib_game_sheet.proofs.game.reasons.reasons_of.Goals as goal

pub loop-row-init : goal.loop-row-init
loop-row-init c =
    let pile : c.new.result.items ≡ [] = search rules in
    let found : c.new-reasons.result.items ≡ [] = search rules in
    let empty = ap length pile in
    let none = ap length found in
    record {
      pile = omega (arith, empty);
      cards = omega arith;
      found = none;
      walks = λ problem game e. walk_starts problem game c.args.report.now _ _ e found pile refl;
    }

pub loop-row-preserved : goal.loop-row-preserved
loop-row-preserved c =
    let before = c.loop-row.invariant in
    let pile = ap length c.take.ensures.pile in
    let grows = pile_grows c.loop-row.play c.row-item.result in
    let shown = c.as_slice-row-items.ensures.value in
    let rows = ap length shown in
    record {
      pile = omega (arith, before.pile, pile, grows);
      cards = omega (arith, before.cards, c.take.ensures.cards, cards_grow c.loop-row.play.cards c.row-item.result.act.what);
      found = omega (arith, before.found, c.push.ensures.len);
      walks = λ problem game e.
          walk_next (start_of problem) (acts_back game) c.loop-row.play c.take.new.self c.loop-row.reasons.items c.push.new.self.items c.take.result
          c.row-item.result c.args.report.now.rows.items c.loop-row.row-index (omega (arith, c.loop-row-test.true, rows))
          (c.row-item.is ∙ ap (λ (all : List Row). slice_index_or all c.loop-row.row-index c.row-item.result) shown) c.push.ensures.items
          (before.walks problem game e) c.take.ensures.reasons c.take.ensures.pile c.take.ensures.cards;
    }

pub returns-clause-reasons : goal.returns-clause-reasons
returns-clause-reasons c problem game e =
    walk_done problem game c.loop-row.play c.loop-row.reasons.items c.args.report.now.rows.items c.loop-row.row-index
    (omega (arith, c.loop-row-test.false, ap length c.as_slice-row-items.ensures.value)) (c.loop-row.invariant.walks problem game e)

pub returns-clause-points : goal.returns-clause-points
returns-clause-points c problem game e =
    found_points problem game c.args.report.now c.loop-row.reasons.items e
    (walk_done problem game c.loop-row.play c.loop-row.reasons.items c.args.report.now.rows.items c.loop-row.row-index
    (omega (arith, c.loop-row-test.false, ap length c.as_slice-row-items.ensures.value)) (c.loop-row.invariant.walks problem game e))
