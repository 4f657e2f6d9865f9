use Rattle.std.proofs.Common.{◌≡◌, length, sym, ap, ◌∙◌, arith}
use Rattle.crib_show.specs.Outcome.{rows_from, show_of}
use Rattle.crib_show.proofs.ShowLemmas.{ShowsFirst-decided, ShowsFirst-all}
use Rattle.crib_show.proofs.show.outcomes.show_rows.Goals as goal

pub returns-then-are_decided : goal.returns-then-are_decided
unfolding show_of
returns-then-are_decided c =
    ShowsFirst-decided _ _ _ _ _ _ c.loop-counted.invariant (sym c.are_decided.ensures ∙ c.if-are_decided.true)
    ∙ ap (rows_from c.args.full.now.target c.args.full.now.scores) c.show_order-counted-items.ensures

pub returns-after-loop-counted : goal.returns-after-loop-counted
unfolding show_of
returns-after-loop-counted c =
    let three : length c.show_order-counted-items.result ≡ 3 = ap length c.show_order-counted-items.ensures in
    ShowsFirst-all _ _ _ _ _ _ c.loop-counted.invariant (omega (arith, three, c.loop-counted-test.false))
    ∙ ap (rows_from c.args.full.now.target c.args.full.now.scores) c.show_order-counted-items.ensures
