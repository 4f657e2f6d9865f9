use Rattle.std.proofs.Common.{◌≡◌, ◌+◌, ◌*◌, ◌≤◌, ◌++◌, flat_map, take}
use Rattle.arrayvec.specs.ArrayVec.{array_vec_len}
use Rattle.crib_message.specs.Message.{shown_byte}
use Rattle.crib_message.proofs.excerpt.shown.Given as goal

-- the bytes so far are shown, each by at most four
abbrev pub invariant-loop-byte : goal.invariant-loop-byte
invariant-loop-byte l = record {
  items : l.excerpt.items ≡ l.initial.excerpt.items ++ flat_map shown_byte (take l.byte-index l.window.shown.now);
  len : array_vec_len l.excerpt ≤ array_vec_len l.initial.excerpt + 4 * l.byte-index;
}
