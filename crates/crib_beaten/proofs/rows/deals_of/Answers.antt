use Rattle.std.proofs.Common.{cond, arith}
use Rattle.std.proofs.lemmas.Bool.Decides.{nat_tests}
use Rattle.std.proofs.lemmas.List.Sums.{sum_by_more_le_part}
use Rattle.crib_beaten.specs.declared.tally.RanksTally.{RanksTally}
use Rattle.crib_beaten.specs.Terms.{meets_term}
use Rattle.crib_beaten.proofs.rows.deals_of.Goals as goal

pub overflow_add-deals : goal.overflow_add-deals
overflow_add-deals c =
    let within = sum_by_more_le_part (λ (row : RanksTally). cond (meets_term c.args.term.now row.ranks) row.beaten 0)
    (λ (row : RanksTally). row.beaten) c.args.left.now c.loop-row.row-index c.row-item.result c.loop-row-test.true (λ row. grind (arith, nat_tests)) in
    grind (arith, within, c.row-item.is, c.requires, c.loop-row.invariant)
