use Rattle.std.proofs.Common.{◌+◌, ◌∙◌, ◌&&◌, sym, ap, ap₂, arith}
use Rattle.std.proofs.lemmas.List.Folds.{list_all_more}
use Rattle.crib_text.proofs.ByteLemmas.{line_next, line_same, text_check-ok}
use Rattle.crib_text.proofs.text.bytes.check_bytes.Goals as goal
use Rattle.crib_text.proofs.text.bytes.check_bytes.Goals.{then-byte-eq10, else-byte-eq10}

pub loop-byte-preserved : goal.loop-byte-preserved
loop-byte-preserved c =
    let before = c.loop-byte.invariant in
    let inside = c.loop-byte-test.true in
    let here = sym c.is_text_byte.ensures ∙ c.if-not-is_text_byte.false in
    let good = list_all_more _ _ _ 0 inside ∙ ap₂ ◌&&◌ before.good here in
    elim c.if-byte-eq10.branch [
      | then-byte-eq10 w ↦ record {
        good = good;
        line = w.line-is ∙ ap (λ n. n + 1) before.line ∙ sym (line_next _ _ inside w.if-byte-eq10.true);
        few = omega (arith, before.few, w.line-is);
      }
      | else-byte-eq10 w ↦ record {
        good = good;
        line = w.line-is ∙ before.line ∙ sym (line_same _ _ inside w.if-byte-eq10.false);
        few = omega (arith, before.few, w.line-is);
      }
    ]

pub returns : goal.returns
returns c = text_check-ok _ _ c.loop-byte-test.false c.loop-byte.invariant.good (sym c.is_ended.ensures ∙ c.if-not-is_ended.false)
