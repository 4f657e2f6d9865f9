use Rattle.std.proofs.Common.{◌≡◌, ℕ, length, take}
use Rattle.std.specs.List.{list_any}
use Rattle.crib_plan.specs.Spelling.{leads_to}
use Rattle.crib_plan_sheet.specs.Private.Ways.{ways_in, one_more}
use Rattle.crib_plan_sheet.proofs.ways.lead_to_each.Given as goal

abbrev pub invariant-loop-index : goal.invariant-loop-index
invariant-loop-index l =
    (length l.ways ≡ length l.initial.ways)
    × ((number : ℕ) → ways_in l.ways number ≡ one_more (ways_in l.initial.ways number) (list_any (leads_to number) (take l.index l.places)))
