use Rattle.std.proofs.Common.{◌∙◌, arith}
use Rattle.std.proofs.Math.ListN.{length-set}
use Rattle.std.proofs.lemmas.List.{take_all, take_more}
use Rattle.crib_beaten.proofs.JoinedDemands.{one_more_index}
use Rattle.crib_beaten.proofs.plays.join.Goals as goal

pub loop-index-preserved : goal.loop-index-preserved
loop-index-preserved c =
    let small = c.requires c.loop-index.index-index 0 c.loop-index-test.true in record {
      long = length-set _ _ _ ∙ c.loop-index.invariant.long;
      joined = λ choices. rw (take_more c.args.indices.now c.loop-index.index-index 0 c.loop-index-test.true)
          (one_more_index c.and.result (omega (arith, small, c.loop-index.invariant.long)) c.and.ensures (c.loop-index.invariant.joined choices));
    }

pub returns : goal.returns
returns c = λ choices. rw (take_all c.loop-index.index-index c.args.indices.now c.loop-index-test.false) at (c.loop-index.invariant.joined choices)
