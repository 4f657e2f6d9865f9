use Rattle.std.proofs.Common.{ℕ, arith}
use Rattle.crib_cards.specs.declared.letters.Letter.TheVariants.{Seen}
use Rattle.crib_run.proofs.Printing.{piece}
use Rattle.crib_plan_sheet.specs.PlanStuck.{letter_word}
use Rattle.crib_sheet.proofs.tally.put_ranks.Goals as goal

pub loop-rank-preserved : goal.loop-rank-preserved
loop-rank-preserved g c =
    piece (λ (rank : ℕ). letter_word (Seen rank)) _ _ _ (omega arith) c.rank-item.is c.loop-rank.invariant c.put_letter.ensures
