use Rattle.std.proofs.Common.{[], sym, ◌∙◌}
use Rattle.crib_sure.proofs.PlaceByHistory.{place_at_start}
use Rattle.crib_next.proofs.WalkedTurns.{after_none}
use Rattle.crib_next.proofs.walk.next_of.Goals as goal

pub returns-in-Ok-clause-next : goal.returns-in-Ok-clause-next
returns-in-Ok-clause-next g c =
    let problem = c.args.question.now.problem in
    let plan = c.args.question.now.plan in
    let place = c.start-place.ensures.place ∙ sym (place_at_start plan problem) in
    rw c.as_slice.ensures.value at (c.in-Ok.ensures.next problem [] c.args.question.now.first (after_none problem plan _ c.target.ensures.setup place))

pub returns-in-Err-clause-next : goal.returns-in-Err-clause-next
returns-in-Err-clause-next g c =
    let problem = c.args.question.now.problem in
    let plan = c.args.question.now.plan in
    let place = c.start-place.ensures.place ∙ sym (place_at_start plan problem) in
    let none = after_none problem plan _ c.target.ensures.setup place in
    let refused = rw c.as_slice.ensures.value at (c.in-Err.ensures.next problem [] c.args.question.now.first none) in
    rw c.from.ensures refused
