use Rattle.std.proofs.Common.{rules}
use Rattle.crib_cards.specs.Sets.{set_of}
use Rattle.crib_problem.specs.Setup.{unseen_of, fixed_cards}
use Rattle.crib_sure.proofs.shows.Shows.new.Goals as goal

pub returns : goal.returns
returns c =
    let are = c.new.ensures (unseen_of c.args.problem.now) (set_of (fixed_cards c.args.problem.now)) in
    (rw (c.starter.ensures, c.thrown.ensures, c.hold.ensures) at are, (c.start-know.result, search rules))
