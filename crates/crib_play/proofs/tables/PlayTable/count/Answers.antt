use Rattle.std.proofs.Common.{rules}
use Rattle.crib_play.proofs.PointsLemmas.{count_of-le}
use Rattle.crib_play.proofs.tables.PlayTable.count.Goals as goal

-- eight cards with values of at most 10 count at most 80
pub returns-clause-range : goal.returns-clause-range
returns-clause-range c = search (rules, count_of-le c.self.inside.pile.items)
