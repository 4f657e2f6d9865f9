use Rattle.std.proofs.Common.{◌≡◌, ℕ, Bool, false, List, Option, Some, None, map, slice_get, unwrap_or, option_map, refl, sym}
use Rattle.std.proofs.lemmas.Bool.{ltb-true, ltb-false}
use Rattle.std.proofs.lemmas.Option.{slice_get_read, slice_get_past}
use Rattle.crib_plan_sheet.specs.PlanOutline.{apart_in}
use Rattle.crib_plan_sheet.specs.declared.spots.Spot.{Spot}
use Rattle.crib_plan_sheet.proofs.PlanFits.{apart_is}
use Rattle.crib_plan_sheet.proofs.outline.Outline.is_apart.Goals as goal

-- the flag of a spot that is found
flag : (flags : List Bool) (spots read : List Spot) (i : ℕ) (found : Option Spot) → map (λ spot. spot.is_apart) spots ≡ flags → read ≡ spots →
    slice_get read i ≡ found → unwrap_or (option_map (λ (spot : Spot). spot.is_apart) found) false ≡ apart_in flags i
flag flags spots read i found view same is = rw (← view, ← is, same) (sym (apart_is spots i))

pub returns-in-Some : goal.returns-in-Some
returns-in-Some g c =
    flag c.args.self.now c.self.inside.spots.items c.deref.result.now c.args.node (Some c.in-Some.spot.now) c.self.view_is c.deref.ensures.value
    (slice_get_read _ _ _ _ refl (ltb-true _ _ (sym c.in-Some.ensures.lookup.0)) c.in-Some.ensures.lookup.1)

pub returns-in-None : goal.returns-in-None
returns-in-None g c =
    flag c.args.self.now c.self.inside.spots.items c.deref.result.now c.args.node None c.self.view_is c.deref.ensures.value
    (slice_get_past _ _ (ltb-false _ _ (sym c.in-None.ensures.lookup.0)))
