use Rattle.std.proofs.Common.{◌≡◌, ◌+◌, ◌≤◌, ◌++◌, take}
use Rattle.std.specs.List.{filter}
use Rattle.arrayvec.specs.ArrayVec.{array_vec_len}
use Rattle.crib_message.specs.Message.{is_plain}
use Rattle.crib_message.proofs.message.Message.add_sentence.Given as goal

abbrev pub invariant-loop-byte : goal.invariant-loop-byte
invariant-loop-byte l = record {
  items : l.self.text.items ≡ l.initial.self.text.items ++ filter is_plain (take l.byte-index l.sentence);
  len : array_vec_len l.self.text ≤ array_vec_len l.initial.self.text + l.byte-index;
}
