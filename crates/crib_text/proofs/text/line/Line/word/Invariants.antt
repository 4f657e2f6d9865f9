use Rattle.std.proofs.Common.{◌≡◌, ◌≤◌, length, drop}
use Rattle.crib_text.specs.Words.{words_of}
use Rattle.crib_text.specs.Lines.{word_offset}
use Rattle.crib_text.proofs.text.line.Line.word.Given as goal

abbrev pub invariant-loop : goal.invariant-loop
invariant-loop l = record {
  within : l.start ≤ length l.self.bytes.now;
  words : drop l.counter (words_of l.self.bytes.now) ≡ words_of (drop l.start l.self.bytes.now);
  offset : l.start ≡ word_offset (words_of l.self.bytes.now) l.counter;
  few : l.counter ≤ length (words_of l.self.bytes.now);
}
