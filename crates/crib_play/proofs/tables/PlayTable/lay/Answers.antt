use Rattle.std.proofs.Common.{◌≡◌, ◌+◌, ◌++◌, ◌∷◌, [], sym, ap, ◌∙◌, arith}
use Rattle.std.proofs.lemmas.Bool.{cond-true, cond-false, eq-eqb, ne_eqb}
use Rattle.std.proofs.lemmas.Grind.{common_steps}
use Rattle.crib_play.specs.Private.TableChanges.{points_of_laying, with_card_on_pile, table_after_close}
use Rattle.crib_play.specs.Record.{count_of}
use Rattle.crib_play.proofs.tables.PlayTable.lay.Goals.{After-set_seat}
use Rattle.crib_play.proofs.tables.PlayTable.lay.Goals as goal

-- the table and the count before it is known whether they close
laid : (c : After-set_seat) → c.set_seat.new.self ≡ with_card_on_pile c.args.self.now c.args.side c.args.rank
laid c = grind (arith, common_steps)

counted : (c : After-set_seat) → count_of (c.args.self.now.pile ++ c.args.rank ∷ []) ≡ c.count.result + c.value.result
counted c = grind (arith, common_steps)

pointed : (c : After-set_seat) → c.points_at.result + c.from.result ≡ points_of_laying c.args.self.now c.args.rank
pointed c = grind (arith, common_steps)

pub returns-then-count-eq31-clause-points : goal.returns-then-count-eq31-clause-points
returns-then-count-eq31-clause-points c = pointed (goal.at.returns-then-count-eq31-clause-points c).After-set_seat

pub returns-else-count-eq31-clause-points : goal.returns-else-count-eq31-clause-points
returns-else-count-eq31-clause-points c = pointed (goal.at.returns-else-count-eq31-clause-points c).After-set_seat

pub returns-then-count-eq31-clause-table : goal.returns-then-count-eq31-clause-table
returns-then-count-eq31-clause-table c =
    let before = (goal.at.returns-then-count-eq31-clause-table c).After-set_seat in
    c.close.ensures ∙ ap table_after_close (laid before) ∙ sym (cond-true _ _ _ (eq-eqb _ 31 (counted before ∙ c.if-count-eq31.true)))

pub returns-else-count-eq31-clause-table : goal.returns-else-count-eq31-clause-table
returns-else-count-eq31-clause-table c =
    let before = (goal.at.returns-else-count-eq31-clause-table c).After-set_seat in
    laid before ∙ sym (cond-false _ _ _ (ne_eqb _ 31 (λ is. c.if-count-eq31.false (sym (counted before) ∙ is))))
