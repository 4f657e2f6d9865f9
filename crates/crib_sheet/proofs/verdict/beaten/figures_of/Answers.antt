use Rattle.crib_sheet.proofs.HeadColumns.{beating_narrow}
use Rattle.crib_sheet.proofs.verdict.beaten.figures_of.Goals as goal

pub returns : goal.returns
returns g c =
    let tally = c.in_ok-tally.ensures in
    let small = c.hands_of-hands.ensures.bytes in
    let hands = c.hands_of-hands.ensures.right c.args.plan.now tally in
    record {
      are_open = tally.are_open;
      are_beaten = tally.are_beaten;
      are_hands = hands;
      narrow = beating_narrow c.args.problem.now c.args.plan.now _ _ c.hands_of-hands.result small.0 small.1 hands;
    }
