use Rattle.std.proofs.Common.{◌≡◌, ◌≤◌, ◌+◌, ◌++◌, length, drop, vec_len, vec_capacity}
use Rattle.crib_plan.specs.Spelling.{letters_to, letter_bytes}
use Rattle.crib_plan.proofs.writing.append_letters.Given as goal

abbrev pub invariant-loop-index : goal.invariant-loop-index
invariant-loop-index g l = record {
  items : l.text.items ++ letters_to l.node (drop l.index letter_bytes) (drop l.index l.nexts) ≡ l.initial.text.items ++ letters_to l.node letter_bytes l.nexts;
  room : vec_capacity l.initial.text ≤ vec_capacity l.text;
  len : vec_len l.text + length (letters_to l.node (drop l.index letter_bytes) (drop l.index l.nexts)) ≡ vec_len l.initial.text + length
      (letters_to l.node letter_bytes l.nexts);
}
