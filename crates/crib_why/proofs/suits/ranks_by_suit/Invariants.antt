use Rattle.std.proofs.Common.{◌-◌}
use Rattle.std.specs.List.{range_with_len}
use Rattle.crib_why.specs.Answer.{AreThose, IsBySuit}
use Rattle.crib_why.proofs.suits.ranks_by_suit.Given as goal

-- those of the ranks before the number
abbrev pub invariant-loop-number : goal.invariant-loop-number
invariant-loop-number g l = AreThose (IsBySuit l.problem) (range_with_len 1 (l.number - 1)) l.ranks.items
