use Rattle.std.proofs.Common.{refl, sym}
use Rattle.std.proofs.lemmas.Bool.{ltb-true, ltb-false}
use Rattle.std.proofs.lemmas.Option.{slice_get_read, slice_get_past}
use Rattle.crib_plan_sheet.proofs.spots.spot_at.Goals as goal

pub returns-in-Some : goal.returns-in-Some
returns-in-Some c =
    rw (c.in-To.is, slice_get_read _ _ _ c.in-Some.spot.now refl (ltb-true _ _ (sym c.in-Some.ensures.lookup.0)) c.in-Some.ensures.lookup.1)
    (record { levels = refl; cards = refl })

pub returns-in-None : goal.returns-in-None
returns-in-None c =
    rw (c.in-To.is, slice_get_past _ _ (ltb-false _ _ (sym c.in-None.ensures.lookup.0))) (record { levels = refl; cards = refl })
