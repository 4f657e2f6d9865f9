use Rattle.std.proofs.Common.{◌≡◌, ◌+◌, ◌*◌, ◌≤◌, ◌++◌, flat_map, take}
use Rattle.arrayvec.specs.ArrayVec.{array_vec_len}
use Rattle.crib_answer.specs.Answer.{counted_line}
use Rattle.crib_answer.proofs.report.add_show.Given as goal

-- the text has the lines of the rows so far, each of at most 48 bytes
abbrev pub invariant-loop-row : goal.invariant-loop-row
invariant-loop-row l = record {
  items : l.text.items ≡ l.initial.text.items ++ flat_map counted_line (take l.row-index l.rows);
  len : array_vec_len l.text ≤ array_vec_len l.initial.text + 48 * l.row-index;
}
