use Rattle.std.proofs.Common.{◌≡◌, ◌-◌, length, take, drop, ap, sym, ◌∙◌, refl, arith}
use Rattle.std.proofs.lemmas.List.{take_rest, length-drop, length-take}
use Rattle.crib_text.specs.Reading.{line_at}
use Rattle.crib_text.specs.Lines.{rest_of, source_of, lines_start, line_of, line_start, IsLineOf}
use Rattle.crib_text.proofs.LineLemmas.{no_lines, first_left, length-line_text, line_at-nil, line_at-empty, line_at-cons}
use Rattle.crib_text.proofs.text.lines.Lines.next_line.Goals as goal

pub returns-then-is_empty-clause-exact : goal.returns-then-is_empty-clause-exact
unfolding rest_of
returns-then-is_empty-clause-exact c =
    let l = c.args.self.now in
    let none = no_lines l.source.now _ l.at (take_rest l.source.now l.at) (sym c.is_empty.ensures ∙ c.if-is_empty.true) in
    (rw c.at.ensures (ap (λ ls. line_at (record { number = l.number; lines = ls })) none ∙ line_at-nil l.number), refl)

pub returns-then-has_empty_word-clause-exact : goal.returns-then-has_empty_word-clause-exact
unfolding rest_of
returns-then-has_empty_word-clause-exact c =
    let l = c.args.self.now in
    let some = sym c.is_empty.ensures ∙ c.if-is_empty.false in
    let first = first_left l.source.now _ l.at _ (take_rest l.source.now l.at) l.ended some c.len_before-len.ensures.value in
    let refused = line_at-empty l.number _ _ (sym c.has_empty_word.ensures ∙ c.if-has_empty_word.true) in
    (rw c.at-then-has_empty_word.ensures (ap (λ ls. line_at (record { number = l.number; lines = ls })) first.1 ∙ refused), refl)

pub returns-clause-exact : goal.returns-clause-exact
unfolding rest_of line_of
returns-clause-exact c =
    let l = c.args.self.now in
    let some = sym c.is_empty.ensures ∙ c.if-is_empty.false in
    let first = first_left l.source.now _ l.at _ (take_rest l.source.now l.at) l.ended some c.len_before-len.ensures.value in
    ap (λ ls. line_at (record { number = l.number; lines = ls })) first.1
    ∙ line_at-cons l.number _ _ (sym c.has_empty_word.ensures ∙ c.if-has_empty_word.false)

pub returns-clause-slice : goal.returns-clause-slice
unfolding IsLineOf source_of
returns-clause-slice c =
    let l = c.args.self.now in
    let n = c.len_before-len.result in
    let bytes = take n (take (length l.source.now - l.at) (drop l.at l.source.now)) in
    let same : bytes ≡ take n (drop l.at l.source.now) = ap (take n) (take_rest l.source.now l.at) in
    let long : length bytes ≡ n = omega (arith, length-take n (take (length l.source.now - l.at) (drop l.at l.source.now)), c.len_before-len.ensures.within) in
    record {
      within = omega (
        arith,
        long,
        c.len_before-len.ensures.within,
        length-take (length l.source.now - l.at) (drop l.at l.source.now),
        length-drop l.at l.source.now,
      );
      same = ap (λ k. take k (drop l.at l.source.now)) long ∙ sym same;
    }

pub returns-clause-start : goal.returns-clause-start
unfolding line_start lines_start
returns-clause-start c = refl

pub returns-clause-source : goal.returns-clause-source
unfolding source_of
returns-clause-source c = refl

pub invariant_of-self-clause-within : goal.invariant_of-self-clause-within
invariant_of-self-clause-within c =
    let l = c.args.self.now in
    let some = sym c.is_empty.ensures ∙ c.if-is_empty.false in
    omega (arith, first_left l.source.now _ l.at _ (take_rest l.source.now l.at) l.ended some c.len_before-len.ensures.value)

pub returns-clause-next : goal.returns-clause-next
unfolding lines_start line_of
returns-clause-next c =
    let l = c.args.self.now in
    let rest = take (length l.source.now - l.at) (drop l.at l.source.now) in
    let n = c.len_before-len.result in
    omega (arith, length-line_text (take n rest), length-take n rest, c.len_before-len.ensures.within)
