use Rattle.std.proofs.Common.{refl, arith}
use Rattle.crib_problem.specs.Setup.{opening_basis_of, played_back}
use Rattle.crib_problem.proofs.MadeProblems.{room_for_one, with_one_more}
use Rattle.crib_problem.proofs.problem.Problem.after.Goals as goal

pub with_one_more-requires : goal.with_one_more-requires
with_one_more-requires c =
    let room = room_for_one c.args.self.now c.after-table.ensures.setup in rw c.played.ensures.value (omega (arith, room))

pub with_played-requires : goal.with_played-requires
with_played-requires c = λ is.
    let problem = c.args.self.now in
    let may = (c.in_ok-add.ensures.added (opening_basis_of problem) (played_back problem) c.after-table.ensures.after).0 in
    rw (c.with_one_more.ensures, c.played.ensures.value) (with_one_more problem c.args.act is c.in_ok-add.ensures.card may)

pub returns-clause-exact : goal.returns-clause-exact
returns-clause-exact c =
    let problem = c.args.self.now in
    let may = (c.in_ok-add.ensures.added (opening_basis_of problem) (played_back problem) c.after-table.ensures.after).0 in
    (may, rw (c.with_played.ensures, c.with_one_more.ensures, c.played.ensures.value) refl)
