-- How many deals beat a plan, and how many of each choice of four ranks.
use Rattle.std.specs.Prelude.{◌≡◌, ℕ, ◌<◌, List, [], ◌∷◌, IsTrue}
use Rattle.std.specs.List.{All}
use Rattle.crib_cards.specs.Deals.{is_in_pack_order}
use Rattle.crib_cards.specs.Order.{is_before}
use Rattle.crib_cards.specs.declared.sides.Dealt.{Dealt}
use Rattle.crib_problem.specs.Setup.{Setup}
use Rattle.crib_plan.specs.declared.plan.Node.{Node}
use Rattle.crib_know.specs.Hidden.{IsOpen}
use Rattle.crib_beaten.specs.Beaten.{Beats}
use Rattle.crib_deals.specs.Deals.{ranks_held}
use Rattle.crib_deals.specs.Exact.{AreExactly, IsIn}
use Rattle.crib_beaten.specs.declared.tally.RanksTally.{RanksTally}
use Rattle.crib_beaten.specs.declared.tally.Tally.{Tally}

-- a row is right: so many open deals have its ranks, and so many of them beat the plan, at least one
pub record IsRow (problem : Setup) (plan : List Node) (row : RanksTally) : Type 0 where
  pub open_deals : AreExactly (λ dealt. IsOpen problem dealt × (ranks_held dealt ≡ row.ranks)) row.open_deals
  pub beaten : AreExactly (λ dealt. Beats problem plan dealt × (ranks_held dealt ≡ row.ranks)) row.beaten
  pub some : 0 < row.beaten

-- rows are in the order of their ranks, the ace first, and no ranks have two
abbrev pub AreInOrder : List RanksTally → Type 0
AreInOrder [] = Unit {0}
AreInOrder (row ∷ rows) = All (λ (later : RanksTally). IsTrue (is_before row.ranks later.ranks)) rows × AreInOrder rows

-- some row has the ranks of a deal
abbrev pub HasRow : List RanksTally → Dealt → Type 0
HasRow rows dealt = (row : RanksTally) × IsIn row rows × (ranks_held dealt ≡ row.ranks)

-- figures are right: so many deals are open, so many beat the plan, and each choice of ranks of which some deal does
-- has its row
pub record AreFigures (problem : Setup) (plan : List Node) (open_deals beaten : ℕ) (rows : List RanksTally) : Type 0
  where
    pub are_open : AreExactly (IsOpen problem) open_deals
    pub are_beaten : AreExactly (Beats problem plan) beaten
    pub are_rows : All (IsRow problem plan) rows
    pub in_order : AreInOrder rows
    pub all : (dealt : Dealt) → IsTrue (is_in_pack_order dealt) → Beats problem plan dealt → HasRow rows dealt

-- a tally is right: its figures are
abbrev pub IsTally : {A : Type 0} → Setup → List Node → Tally A → Type 0
IsTally problem plan tally = AreFigures problem plan tally.open_deals tally.beaten tally.rows.items
