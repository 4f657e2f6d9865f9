use Rattle.std.proofs.Common.{[], get_or, rules, sym, ap, ◌∙◌, arith}
use Rattle.std.proofs.lemmas.List.{get_or_default}
use Rattle.crib_know.specs.Hidden.{passes_counts}
use Rattle.crib_beaten.proofs.JoinedDemands.{none_kept, one_kept}
use Rattle.crib_beaten.proofs.plays.keep_passing.Goals as goal

pub loop-index-preserved-then-not-passes : goal.loop-index-preserved-then-not-passes
loop-index-preserved-then-not-passes c =
    let index = get_or c.args.indices.now c.loop-index.index-index 0 in
    let small = c.requires.indices c.loop-index.index-index 0 c.loop-index-test.true in
    let at = get_or_default c.args.choices.now index [] c.index-choices-index.result (omega (arith, small, c.told-choices)) in record {
      few = omega (arith, c.loop-index.invariant.few);
      long = c.loop-index.invariant.long;
      kept = none_kept _ _ _ _ _ c.loop-index-test.true c.loop-index.invariant.kept
          (ap (passes_counts c.args.after.now.least c.args.after.now.ranks_seen) at ∙ sym c.passes.ensures ∙ c.if-not-passes.true);
    }

pub loop-index-preserved : goal.loop-index-preserved
loop-index-preserved c =
    let index = get_or c.args.indices.now c.loop-index.index-index 0 in
    let small = c.requires.indices c.loop-index.index-index 0 c.loop-index-test.true in
    let at = get_or_default c.args.choices.now index [] c.index-choices-index.result (omega (arith, small, c.told-choices)) in record {
      few = omega (arith, c.loop-index.invariant.few);
      long = search rules;
      kept = one_kept _ _ _ _ _ c.loop-index-test.true c.loop-index.invariant.kept (search (rules, arith))
          (ap (passes_counts c.args.after.now.least c.args.after.now.ranks_seen) at ∙ sym c.passes.ensures ∙ c.if-not-passes.false);
    }
