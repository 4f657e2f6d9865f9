-- The open deals with four ranks, by the points of the hand and of the crib.
use Rattle.std.specs.Prelude.{◌≡◌, ℕ, ◌+◌, ◌<◌, ◌≤◌, List, ◌∷◌, ◌++◌, slice_index, get_or, []}
use Rattle.crib_cards.specs.Cards.{rank_of}
use Rattle.crib_cards.specs.declared.sides.Dealt.{Dealt}
use Rattle.crib_problem.specs.Setup.{IsSetup}
use Rattle.crib_show.specs.Show.{crib_points, hand_flush, jack_points, plain_of_ranks}
use Rattle.crib_deals.specs.Deals.{Behind, IsBehind}
use Rattle.crib_deals.specs.Exact.{AreExactly}

-- the points of a hand for its suits
abbrev pub suit_points : List ℕ → ℕ → ℕ
suit_points hold starter = hand_flush hold starter + jack_points hold starter

-- an open deal with these ranks whose suits have so many points, and a crib with fewer points than a limit
abbrev pub IsBelow : Behind → ℕ → ℕ → Dealt → Type 0
IsBelow behind suits limit dealt =
    IsBehind behind dealt × (suit_points dealt.hold behind.problem.starter ≡ suits)
    × (crib_points (behind.problem.thrown ++ dealt.throw) behind.problem.starter < limit)

-- a row counts the deals whose suits have so many points, for each limit those with fewer points in the crib. Their
-- hands have so many points
pub record IsRow (behind : Behind) (suits : ℕ) (counts : List ℕ) (hand : ℕ) : Type 0 where
  pub setup : IsSetup behind.problem
  pub hand_is : hand ≡ plain_of_ranks (rank_of behind.problem.starter ∷ behind.ranks) + suits
  pub below : (limit : ℕ) → limit ≤ 30 → AreExactly (IsBelow behind suits limit) (slice_index counts limit)
  pub few : slice_index counts 30 ≤ 209920

-- a table has a row for each number of points of suits
pub record IsTable (behind : Behind) (open_deals plain : ℕ) (below : List (List ℕ)) : Type 0 where
  pub are_open : AreExactly (IsBehind behind) open_deals
  pub few : open_deals ≤ 209920
  pub plain_is : plain ≡ plain_of_ranks (rank_of behind.problem.starter ∷ behind.ranks)
  pub small : plain ≤ 96
  pub rows : (suits : ℕ) → suits < 7 → IsRow behind suits (get_or below suits []) (plain + suits)
