use Rattle.std.proofs.Common.{Some, ap, refl, sym, ◌∙◌}
use Rattle.std.proofs.lemmas.Option.{unwrap_or-slice_get}
use Rattle.crib_plan.specs.declared.plan.Next.TheVariants.{End}
use Rattle.crib_plan.proofs.places.place_after.Goals as goal

pub returns-in-Some-See-clause-place : goal.returns-in-Some-See-clause-place
returns-in-Some-See-clause-place g c =
    rw (sym c.node_at.ensures.node ∙ c.in-Some-See.is ∙ ap Some c.in-Some-See.field-0-is, ← c.index.ensures.value)
    (sym (unwrap_or-slice_get c.in-Some-See.next c.index.result End))

pub returns-in_default-2-clause-place : goal.returns-in_default-2-clause-place
returns-in_default-2-clause-place g c = rw (sym c.node_at.ensures.node ∙ c.in_default.is) refl
