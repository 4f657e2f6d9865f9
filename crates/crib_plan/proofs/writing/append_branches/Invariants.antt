use Rattle.std.proofs.Common.{◌≡◌, ◌≤◌, ◌+◌, ◌++◌, length, vec_len, vec_capacity}
use Rattle.crib_plan.specs.Private.Spelling.{branches_text}
use Rattle.crib_plan.proofs.writing.append_branches.Given as goal

abbrev pub invariant-loop-index : goal.invariant-loop-index
invariant-loop-index g l = record {
  items : l.text.items ++ branches_text l.nexts l.index ≡ l.initial.text.items ++ branches_text l.nexts 0;
  room : vec_capacity l.initial.text ≤ vec_capacity l.text;
  len : vec_len l.text + length (branches_text l.nexts l.index) ≡ vec_len l.initial.text + length (branches_text l.nexts 0);
}
