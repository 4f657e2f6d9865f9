use Rattle.std.proofs.Common.{arith}
use Rattle.crib_deals.proofs.WeighedSums.{cell_few, one_set}
use Rattle.crib_deals.proofs.sums.add_one.Goals as goal

pub overflow_add-numbers : goal.overflow_add-numbers
overflow_add-numbers c = let few = c.requires.few in omega (arith, few, cell_few 0 c.args.numbers.now c.args.index)

pub returns-clause-added : goal.returns-clause-added
returns-clause-added c = λ weight. one_set weight c.args.numbers.now c.args.index c.requires.index
