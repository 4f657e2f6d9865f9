use Rattle.std.proofs.Common.{◌+◌}
use Rattle.crib_next.proofs.WalkedTurns.{none_after, some_after}
use Rattle.crib_next.proofs.walk.ended.Goals as goal

pub returns-in-empty-clause-next : goal.returns-in-empty-clause-next
returns-in-empty-clause-next c = λ problem plan before first over.
    none_after problem plan before (first + c.args.number) over c.args.turns.now c.in-empty.len_below

pub returns-in-len1-up-clause-next : goal.returns-in-len1-up-clause-next
returns-in-len1-up-clause-next c = λ problem plan before first over.
    rw c.wrong.ensures (some_after problem plan before (first + c.args.number) over c.args.turns.now c.in-len1-up.len_at_least)
