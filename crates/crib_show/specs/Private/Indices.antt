-- The index of four ranks, and the points kept there.
use Rattle.std.specs.Prelude.{◌≡◌, ℕ, ◌<◌, List}
use Rattle.crib_show.specs.declared.deals.OwnPoints.{OwnPoints}
use Rattle.crib_show.specs.declared.deals.WorstShow.{WorstShow}
use Rattle.crib_show.specs.declared.worst.extremes.Extremes.{Extremes}
use Rattle.crib_show.specs.Extremes.{AreKept}
use Rattle.crib_show.specs.Indices.{AreFour, index_among}
use Rattle.crib_show.specs.Worst.{AreOwnPoints, HasDeal}

-- the index of four ranks among all choices of four
pub record IsIndex (ranks : List ℕ) (index : ℕ) : Type 0 where
  pub are_four : AreFour ranks
  pub index_is : index ≡ index_among 4 ranks
  pub inside : index < 1820

-- some hidden deal of a show agrees, and the points kept for the show are right
pub record HasRightPoints (worst : WorstShow) (own : OwnPoints) (kept : Extremes) : Type 0 where
  pub deal : HasDeal worst
  pub own_right : AreOwnPoints worst.starter worst.own_hold worst.own_throw own
  pub kept_right : AreKept worst kept
