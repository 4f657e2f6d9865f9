use Rattle.std.proofs.Common.{rules, arith}
use Rattle.crib_beaten.specs.Private.Rows.{place}
use Rattle.crib_beaten.proofs.Choices.{one_listed}
use Rattle.crib_beaten.proofs.tally.choices.Goals as goal

pub loop-number-init : goal.loop-number-init
unfolding place
loop-number-init c = record { long = search rules; index = search rules; are = λ n less. absurd (omega (arith, less)) }

pub loop-number-preserved : goal.loop-number-preserved
loop-number-preserved c =
    let here = c.loop-number.invariant in
    let choice = c.in-Some.ensures.choice in record {
      long = search rules;
      index = omega (arith, here.index, choice.next);
      are = rw (here.index, c.count_ranks.ensures.value) (one_listed c.loop-number.number c.loop-number.choices here.are choice here.long);
    }
