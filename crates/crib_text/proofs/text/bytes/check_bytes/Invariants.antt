use Rattle.std.proofs.Common.{◌≡◌, ◌≤◌, ◌+◌, true, take}
use Rattle.std.specs.List.{list_all}
use Rattle.crib_text.specs.Words.{is_text_byte, line_after}
use Rattle.crib_text.proofs.text.bytes.check_bytes.Given as goal

abbrev pub invariant-loop-byte : goal.invariant-loop-byte
invariant-loop-byte l = record {
  good : list_all is_text_byte (take l.byte-index l.bytes) ≡ true;
  line : l.line ≡ line_after (take l.byte-index l.bytes);
  few : l.line ≤ l.byte-index + 1;
}
