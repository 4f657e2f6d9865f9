use Rattle.std.proofs.Common.{◌≡◌, ◌+◌, ◌*◌, ◌≤◌, ◌++◌, drop, take}
use Rattle.arrayvec.specs.ArrayVec.{array_vec_len}
use Rattle.crib_plan_sheet.specs.PlanText.{rank_words}
use Rattle.crib_plan_sheet.specs.Private.Pages.{spaced}
use Rattle.crib_plan_sheet.proofs.labels.label_after_space.Given as goal

abbrev pub invariant-loop-index : goal.invariant-loop-index
invariant-loop-index l = record {
  items : l.text.items ++ spaced (rank_words l.index l.before (drop l.index (take 13 l.set))) ≡ spaced (rank_words 0 0 (take 13 l.set));
  within : l.before ≤ l.index;
  len : array_vec_len l.text + 2 * l.before ≤ 2 * l.index;
}
