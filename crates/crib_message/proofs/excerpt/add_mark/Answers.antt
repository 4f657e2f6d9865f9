use Rattle.std.proofs.Common.{arith, ◌∙◌, ◌++◌, ◌∷◌, ℕ, List, [], codes, decimal, flat_map, length, take, ◌-◌, ◌≡◌, refl, sym, ap, inl, inr, Bor}
use Rattle.crib_text.specs.Spelling.{line_feed}
use Rattle.crib_message.specs.Message.{blanks, carets, dots, is_refused, mark_line, marks_below}
use Rattle.crib_message.proofs.MessageLemmas.{caret_of_none, carets_of_some, nothing_added, seven_added}
use Rattle.crib_message.proofs.excerpt.add_mark.Goals.{then-is_empty, else-is_empty}
use Rattle.crib_message.proofs.excerpt.add_mark.Goals as goal

pub returns-then-from-hidden : goal.returns-then-from-hidden
returns-then-from-hidden c = ([], inl refl, nothing_added _)

pub returns : goal.returns
returns c =
    let line = c.args.refusal.now.line in
    let window = c.args.window in
    let before = window.before.now in
    let mark = c.args.mark in
    let hidden = length mark.before.now - length before in
    let stretch = c.cut.result in
    let first = c.add.new.excerpt.items in
    let dotted = c.add-2.new.excerpt.items in
    let below : flat_map (marks_below 94) c.if-is_empty.meant.now ≡ carets stretch.shown.now =
    elim c.if-is_empty.branch [
      | then-is_empty w ↦
          ap (λ (bytes : Bor (List ℕ)). flat_map (marks_below 94) bytes.now) w.meant-is ∙ caret_of_none stretch.shown.now w.if-is_empty.ensures
      | else-is_empty w ↦
          ap (λ (bytes : Bor (List ℕ)). flat_map (marks_below 94) bytes.now) w.meant-is ∙ carets_of_some stretch.shown.now w.if-is_empty.ensures
    ] in
    let digits = c.as_bytes.ensures.value ∙ c.format.ensures.text in (
      mark_line line before stretch.before.now stretch.shown.now,
      inr (record {
        left = mark.before.now;
        meant = mark.shown.now;
        right = mark.after.now;
        cut = refl;
        refused = ap (λ (number : ℕ). is_refused number mark.before.now mark.shown.now mark.after.now) (sym c.number.ensures)
            ∙ sym c.is_refused.ensures ∙ c.if-not-is_refused.false;
        seen = omega arith;
        is = ap (λ (left : List ℕ). mark_line line before left stretch.shown.now) c.cut.ensures.before
            ∙ ap (λ (meant : List ℕ). mark_line line before (take hidden window.shown.now) meant) c.cut.ensures.shown;
      }),
      seven_added c.args.excerpt.now.items first c.add_below.new.excerpt.items dotted c.add_below-2.new.excerpt.items
          c.add_below-3.new.excerpt.items c.add_below-4.new.excerpt.items (codes "  ") (blanks (decimal line)) (codes " | ")
          (blanks (dots before)) (blanks stretch.before.now) (carets stretch.shown.now) (line_feed ∷ []) c.add-3.new.excerpt.items
          c.add.ensures.items (c.add_below.ensures.items ∙ ap (λ (xs : List ℕ). first ++ blanks xs) digits) c.add-2.ensures.items
          (c.add_below-2.ensures.items ∙ ap (λ (xs : List ℕ). dotted ++ blanks xs) c.dots.ensures.text)
          c.add_below-3.ensures.items (c.add_below-4.ensures.items ∙ ap (λ (xs : List ℕ). c.add_below-3.new.excerpt.items ++ xs) below) c.add-3.ensures.items,
    )
