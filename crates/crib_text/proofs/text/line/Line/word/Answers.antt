use Rattle.std.proofs.Common.{◌≡◌, ◌+◌, ◌-◌, ◌≤◌, length, take, drop, ap, sym, arith}
use Rattle.std.proofs.lemmas.List.{length-take, length-drop}
use Rattle.crib_text.specs.Words.{words_of}
use Rattle.crib_text.specs.Lines.{line_of, line_start, token_start, word_of, IsLineOf}
use Rattle.crib_text.proofs.WordLemmas.{word_none, word_more, word_here, drop_more, word_offset_more, part_is_at}
use Rattle.crib_text.proofs.text.line.Line.word.Goals as goal

pub returns-then-end-self-clause-word : goal.returns-then-end-self-clause-word
unfolding line_of
returns-then-end-self-clause-word c =
    sym (word_none c.args.self.now.bytes.now (words_of c.args.self.now.bytes.now) c.loop.counter c.loop.start c.len_before.result
    c.loop.invariant.words c.len_before.ensures.value c.args.index (omega arith) c.loop-test.true)

pub loop-preserved : goal.loop-preserved
loop-preserved c =
    let bytes = c.args.self.now.bytes.now in
    let inside : c.loop.start + c.len_before.result + 1 ≤ length bytes = omega arith in
    let more = word_more bytes (words_of bytes) c.loop.counter c.loop.start c.len_before.result c.loop.invariant.words c.len_before.ensures.value
    (omega arith) in
    let offset = word_offset_more (words_of bytes) c.loop.counter _ _ more in
    let rest = drop_more (words_of bytes) c.loop.counter _ _ more in
    let long : length (take c.len_before.result (drop c.loop.start bytes)) ≡ c.len_before.result =
    omega (arith, length-take c.len_before.result (drop c.loop.start bytes), length-drop c.loop.start bytes) in
    let so_far = c.loop.invariant.offset in
    record {
      within = inside;
      words = rest;
      offset = omega (arith, offset, long, so_far);
      few = omega (arith, ap length more, length-drop c.loop.counter (words_of bytes));
    }

pub returns-clause-word : goal.returns-clause-word
unfolding line_of word_of
returns-clause-word c =
    let bytes = c.args.self.now.bytes.now in
    let here = word_here bytes (words_of bytes) c.loop.counter c.loop.start c.len_before-len.result c.loop.invariant.words c.len_before-len.ensures.value in
    let at : c.loop.counter ≡ c.args.index = omega arith in
    let len : c.loop.start + c.len_before-len.result - c.loop.start ≡ c.len_before-len.result = omega arith in
    rw (len, ← at) (sym here)

pub returns-clause-start : goal.returns-clause-start
unfolding line_of line_start token_start
returns-clause-start c =
    let at : c.loop.counter ≡ c.args.index = omega arith in
    rw (← at) (ap (λ k. c.args.self.now.start + k) c.loop.invariant.offset)

pub returns-clause-slice : goal.returns-clause-slice
unfolding token_start word_of IsLineOf
returns-clause-slice c = λ source at.
    let bytes = c.args.self.now.bytes.now in
    let len : c.loop.start + c.len_before-len.result - c.loop.start ≡ c.len_before-len.result = omega arith in
    let part : length (take (length bytes - c.loop.start) (drop c.loop.start bytes)) ≡ length bytes - c.loop.start =
    omega (arith, length-take (length bytes - c.loop.start) (drop c.loop.start bytes), length-drop c.loop.start bytes) in
    rw len (part_is_at source bytes c.args.self.now.start c.loop.start c.len_before-len.result at (omega (arith, c.len_before-len.ensures.within, part)))
