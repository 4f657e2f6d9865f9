-- The deals of a row that miss a demand.
use Rattle.std.specs.Prelude.{◌≡◌, ℕ}
use Rattle.crib_cards.specs.declared.sides.Dealt.{Dealt}
use Rattle.crib_show.specs.declared.demands.Demand.{Demand}
use Rattle.crib_deals.specs.Deals.{Behind, IsMissing}
use Rattle.crib_deals.specs.Tables.{suit_points}

-- an open deal with some ranks that misses a demand, whose suits have so many points
abbrev pub IsMissingIn : Behind → Demand → ℕ → Dealt → Type 0
IsMissingIn behind demand suits dealt =
    IsMissing behind demand dealt × (suit_points dealt.hold behind.problem.starter ≡ suits)
