use Rattle.std.proofs.Common.{rules}
use Rattle.crib_plan.specs.Nodes.{ArePlan}
use Rattle.crib_sheet.proofs.answer.to_try.tried_of.Goals as goal

pub returns-in-Ok : goal.returns-in-Ok
returns-in-Ok g c =
    let large = c.in-Ok.ensures.large in
    let valid : ArePlan c.in-Ok.tried.plan = search rules in
    record {
      valid = valid;
      holds = c.in-Ok.ensures.sure;
      found = c.in-Ok.ensures.found;
      none = c.in-Ok.ensures.unsure;
      stated = c.in-Ok.ensures.stated;
      small = λ exceeds. let h = large exceeds in cc;
    }
