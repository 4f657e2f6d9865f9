use Rattle.std.proofs.Common.{append_assoc, arith}
use Rattle.crib_text.proofs.RoomLemmas.{two_digits}
use Rattle.crib_problem.proofs.notation.append_count.Goals as goal

pub append_number-requires : goal.append_number-requires
append_number-requires g c =
    let digits = two_digits c.args.count (omega arith) in omega arith

pub append-requires-3 : goal.append-requires-3
append-requires-3 g c =
    let digits = two_digits c.args.count (omega arith) in omega arith

pub returns-clause-items : goal.returns-clause-items
returns-clause-items g c =
    rw (c.append-3.ensures.items, c.append_number.ensures.items, c.append-2.ensures.items, c.append.ensures.items) (simp append_assoc)

pub returns-clause-len : goal.returns-clause-len
returns-clause-len g c =
    let digits = two_digits c.args.count (omega arith) in omega arith
