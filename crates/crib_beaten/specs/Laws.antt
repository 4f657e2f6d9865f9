-- The laws of deals that beat a plan, and of tallies.
use Rattle.std.specs.Prelude.{◌≡◌, ◌↔◌, ℕ, cond, Bool, List, IsTrue}
use Rattle.std.specs.List.{sum_by}
use Rattle.crib_cards.specs.Deals.{is_in_pack_order}
use Rattle.crib_cards.specs.declared.sides.Dealt.{Dealt}
use Rattle.crib_problem.specs.Setup.{Setup, IsSetup}
use Rattle.crib_plan.specs.declared.plan.Node.{Node}
use Rattle.crib_know.specs.Hidden.{IsOpen}
use Rattle.crib_beaten.specs.Beaten.{Beats}
use Rattle.crib_sure.specs.Sure.{IsSure}
use Rattle.crib_beaten.specs.declared.tally.RanksTally.{RanksTally}
use Rattle.crib_deals.specs.Deals.{ranks_held}
use Rattle.crib_deals.specs.Exact.{AreExactly}
use Rattle.crib_beaten.specs.Tally.{AreFigures}

-- a plan is sure exactly if no deal in pack order beats it
abbrev pub UnbeatenLaw : Type 0
UnbeatenLaw =
    (problem : Setup) (plan : List Node) → IsSetup problem →
    IsSure problem plan ↔ ((dealt : Dealt) → IsTrue (is_in_pack_order dealt) → ¬ Beats problem plan dealt)

-- each deal that beats a plan is open
abbrev pub OpenLaw : Type 0
OpenLaw =
    (problem : Setup) (plan : List Node) (dealt : Dealt) → IsSetup problem → Beats problem plan dealt →
    IsOpen problem dealt

-- no deal beats a plan exactly if the plan is sure
abbrev pub NoneLaw : Type 0
NoneLaw =
    (problem : Setup) (plan : List Node) (open_deals beaten : ℕ) (rows : List RanksTally) → IsSetup problem →
    AreFigures problem plan open_deals beaten rows → (beaten ≡ 0) ↔ IsSure problem plan

-- a problem and a plan have one tally
abbrev pub OneLaw : Type 0
OneLaw =
    (problem : Setup) (plan : List Node) (open_deals beaten : ℕ) (rows : List RanksTally) (also_open also_beaten : ℕ)
    (also_rows : List RanksTally) → AreFigures problem plan open_deals beaten rows →
    AreFigures problem plan also_open also_beaten also_rows →
    (open_deals ≡ also_open) × (beaten ≡ also_beaten) × (rows ≡ also_rows)

-- the rows add up: as many deals beat the plan and have ranks that pass a test as the rows whose ranks pass it count
abbrev pub SumLaw : Type 0
SumLaw =
    (problem : Setup) (plan : List Node) (open_deals beaten : ℕ) (rows : List RanksTally) (test : List ℕ → Bool) →
    AreFigures problem plan open_deals beaten rows →
    AreExactly (λ dealt. Beats problem plan dealt × IsTrue (test (ranks_held dealt)))
    (sum_by (λ (row : RanksTally). cond (test row.ranks) row.beaten 0) rows)
