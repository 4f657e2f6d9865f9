use Rattle.std.proofs.Common.{rules, tests, ◌≡◌, ℕ, List, ◌∙◌, sym, ap, length, Bor}
use Rattle.std.proofs.lemmas.Bool.{eqb-false}
use Rattle.std.proofs.lemmas.Iterator.Consumers.{nth_from_yields_List}
use Rattle.std.proofs.lemmas.Iterator.Splits.{YieldsList-from_slice_split}
use Rattle.std.specs.List.{slice_split}
use Rattle.crib_text.specs.Words.{lines_of}
use Rattle.crib_text.proofs.WordLemmas.{is_lf}
use Rattle.crib_message.proofs.LineLemmas.{line_none, line_zero, line_some, lines_stripped, lines_whole}
use Rattle.crib_message.proofs.scene.line_at.Goals.{in-Some, in-None, then-number-eq0-via-then-number-eq0}
use Rattle.crib_message.proofs.scene.line_at.Goals.{then-number-eq0-via-else-number-eq0+then-is_empty}
use Rattle.crib_message.proofs.scene.line_at.Goals as goal

pub returns-then-number-eq0 : goal.returns-then-number-eq0
returns-then-number-eq0 c =
    elim c.then-number-eq0.branch [
      | then-number-eq0-via-then-number-eq0 w ↦ line_zero c.args.input.now c.args.number w.if-number-eq0.true
      | then-number-eq0-via-else-number-eq0+then-is_empty w ↦
          line_none c.args.input.now c.args.number w.if-is_empty.ensures
    ]

pub returns : goal.returns
returns c =
    let input = c.args.input.now in
    let text = c.match-strip_suffix.text.now in
    let some = eqb-false (length input) 0 (sym c.if-is_empty.ensures) in
    let lines : lines_of input ≡ slice_split is_lf text =
    elim c.match-strip_suffix.branch [
      | in-Some w ↦
          let f = w.in-Some.ensures.cases in
          lines_stripped input text some f.0 (ap (λ (b : Bor (List ℕ)). b.now) w.text-is ∙ f.1)
      | in-None w ↦
          lines_whole input some w.in-None.ensures.cases
          ∙ ap (λ (b : Bor (List ℕ)). slice_split is_lf b.now) (sym w.text-is)
    ] in
    let found = nth_from_yields_List _ _ _ c.nth.ensures.ran (YieldsList-from_slice_split _ is_lf text c.split.ensures.rest
    c.split.ensures.done c.split.ensures.closure (λ x r q k. search (rules, tests))) in
    found ∙ line_some input c.args.number (slice_split is_lf text) c.if-number-eq0.false lines
