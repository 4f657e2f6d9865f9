use Rattle.std.proofs.Common.{◌∙◌, arith}
use Rattle.std.proofs.lemmas.List.{take_all}
use Rattle.crib_deals.proofs.throws.Cribs.new.Goals as goal

pub returns-clause-counted : goal.returns-clause-counted
returns-clause-counted c =
    let all = c.lowest_of-cards.ensures ∙ take_all 45 c.args.unseen (omega (arith, c.requires)) in
    record { few = c.cribs_of-points.ensures.few; below = rw all at c.throws_below.ensures.value; partners = rw all at c.partners_below.ensures }
