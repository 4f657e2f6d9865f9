use Rattle.std.proofs.Common.{◌≡◌, ◌+◌, ◌*◌, ◌≤◌, ◌++◌, flat_map, take}
use Rattle.arrayvec.specs.ArrayVec.{array_vec_len}
use Rattle.crib_message.specs.Message.{marks_below}
use Rattle.crib_message.proofs.excerpt.add_below.Given as goal

-- the bytes so far have marks below them, each at most four
abbrev pub invariant-loop-byte : goal.invariant-loop-byte
invariant-loop-byte l = record {
  items : l.excerpt.items ≡ l.initial.excerpt.items ++ flat_map (marks_below l.mark) (take l.byte-index l.bytes);
  len : array_vec_len l.excerpt ≤ array_vec_len l.initial.excerpt + 4 * l.byte-index;
}
