-- The open deals with four ranks, and those of them that miss a demand.
use Rattle.std.specs.Prelude.{◌≡◌, ℕ, List, map, IsFalse}
use Rattle.crib_cards.specs.Cards.{rank_of}
use Rattle.crib_cards.specs.declared.sides.Dealt.{Dealt}
use Rattle.crib_show.specs.declared.demands.Demand.{Demand}
use Rattle.crib_problem.specs.Setup.{Setup}
use Rattle.crib_know.specs.Hidden.{IsOpen}
use Rattle.crib_sure.specs.Shows.{meets}

-- the ranks of the four cards that the opponent held at the first lead
abbrev pub ranks_held : Dealt → List ℕ
ranks_held dealt = map rank_of dealt.hold

-- a problem, and four ranks that the opponent may have held
pub record Behind : Type 0 where
  pub problem : Setup
  pub ranks : List ℕ

-- the same, from its parts
abbrev pub behind_by : Setup → List ℕ → Behind
behind_by problem ranks = record { problem = problem; ranks = ranks }

-- an open deal whose hold has these ranks
abbrev pub IsBehind : Behind → Dealt → Type 0
IsBehind behind dealt = IsOpen behind.problem dealt × (ranks_held dealt ≡ behind.ranks)

-- such a deal that misses a demand
abbrev pub IsMissing : Behind → Demand → Dealt → Type 0
IsMissing behind demand dealt = IsBehind behind dealt × IsFalse (meets behind.problem demand dealt)
