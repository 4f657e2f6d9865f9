use Rattle.std.proofs.Common.{◌∙◌, ◌++◌, ℕ, List, ap, sym, drop}
use Rattle.crib_plan_sheet.proofs.LabelPieces.{label_is}
use Rattle.crib_plan_sheet.proofs.labels.label_of.Goals as goal

pub returns-clause-items : goal.returns-clause-items
returns-clause-items c =
    c.add.ensures.items ∙ ap (λ (front : List ℕ). front ++ c.without_first.result.now) c.new-text.ensures ∙ c.without_first.ensures
    ∙ ap (drop 1) (c.as_slice.ensures.value ∙ c.label_after_space-spaced.ensures.items) ∙ sym (label_is c.args.set.now)
