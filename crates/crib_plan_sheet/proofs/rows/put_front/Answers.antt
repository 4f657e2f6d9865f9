use Rattle.std.proofs.Common.{◌≡◌, ◌-◌, ◌∙◌, length, ap, sym, arith}
use Rattle.crib_plan_sheet.proofs.PutRows.{put_blanks, put_label}
use Rattle.crib_plan_sheet.proofs.rows.put_front.Goals as goal

pub loop-step-preserved : goal.loop-step-preserved
loop-step-preserved g c = put_blanks c.loop-step._step c.loop-step.invariant c.put.ensures

pub returns : goal.returns
returns g c =
    let size : c.len.result ≡ length c.as_slice.result.now =
    c.len.ensures.value ∙ c.label_of-label.ensures.len ∙ ap length (sym c.as_slice.ensures.value) in
    let blank : c.saturating_sub.result ≡ c.args.width - length c.as_slice.result.now = omega (arith, size) in
    put_label c.args.level c.loop-step._step c.args.width c.saturating_sub.result c.args.set.now c.as_slice.result.now (omega arith)
    (c.as_slice.ensures.value ∙ c.label_of-label.ensures.items) c.requires blank
    c.loop-step.invariant c.put-2.ensures c.put-3.ensures c.put-4.ensures
