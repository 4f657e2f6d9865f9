use Rattle.std.proofs.Common.{◌∙◌, true, false, sym}
use Rattle.crib_sheet.proofs.LeadsLines.{own_decides, theirs_decide}
use Rattle.crib_sheet.proofs.leads.leads_status.Goals as goal
use Rattle.crib_sheet.proofs.leads.leads_status.Goals.{in-empty, in-len1-up}

pub returns-then-is_good : goal.returns-then-is_good
returns-then-is_good c = elim c.if-own-lt1.branch [
  | in-empty w ↦ theirs_decide c.args.own.now c.args.theirs.now true w.in-empty.len_below
      (sym (w.is_good-is ∙ w.are_all_sure-is_good.ensures) ∙ c.if-is_good.true)
  | in-len1-up w ↦ own_decides c.args.own.now c.args.theirs.now true w.in-len1-up.len_at_least
      (sym (w.is_good-is ∙ w.is_any_sure-is_good.ensures) ∙ c.if-is_good.true)
]

pub returns-else-is_good : goal.returns-else-is_good
returns-else-is_good c = elim c.if-own-lt1.branch [
  | in-empty w ↦ theirs_decide c.args.own.now c.args.theirs.now false w.in-empty.len_below
      (sym (w.is_good-is ∙ w.are_all_sure-is_good.ensures) ∙ c.if-is_good.false)
  | in-len1-up w ↦ own_decides c.args.own.now c.args.theirs.now false w.in-len1-up.len_at_least
      (sym (w.is_good-is ∙ w.is_any_sure-is_good.ensures) ∙ c.if-is_good.false)
]
