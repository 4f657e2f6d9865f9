use Rattle.std.proofs.Common.{◌≡◌, ℕ, Option, Some, None, take, reverse, sym, ◌∙◌}
use Rattle.crib_problem.specs.Played.{AreAllowed}
use Rattle.crib_problem.specs.Refusals.{problem_cause_number}
use Rattle.crib_problem.specs.Setup.{opening_basis_of}
use Rattle.crib_problem.proofs.MadeProblems.{allowed_here}
use Rattle.crib_problem.proofs.turns.OpeningTable.after.Goals as goal

pub unreachable-requires : goal.unreachable-requires
unreachable-requires c =
    let basis = opening_basis_of c.args.problem.now in
    let acts = c.played-acts.result.now in
    let allowed : AreAllowed basis (reverse acts) = rw c.played-acts.ensures.value c.new-table.ensures.setup.allowed in
    let may = allowed_here basis acts c.loop-act.act-index c.act-item.result c.loop-act-test.true c.act-item.is allowed in
    let refused = c.in_default.ensures.added basis (reverse (take c.loop-act.act-index acts)) c.loop-act.invariant.after in
    let none : ◌≡◌ {A = Option ℕ} None (Some (problem_cause_number c.in_default.field-0)) = sym may ∙ refused in cc
