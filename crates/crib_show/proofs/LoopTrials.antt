-- What the loops over pairs of ranks have tried so far.
use Rattle.std.specs.Prelude.{◌≡◌, ◌⊎◌, ℕ, ◌+◌, ◌<◌, ◌≤◌, IsTrue, IsFalse, List}
use Rattle.std.specs.Prelude.{◌∷◌}
use Rattle.crib_cards.specs.Cards.{IsRank, rank_of}
use Rattle.crib_show.specs.declared.deals.WorstShow.{WorstShow}
use Rattle.crib_show.specs.Show.{plain_of_ranks}
use Rattle.crib_show.specs.declared.worst.totals.Target.{Target}
use Rattle.crib_show.specs.Private.Totals.{ranks_score}
use Rattle.crib_show.specs.Private.Extremes.{most_crib_suits, most_suit_points, has_room, no_crib, plain_crib, least_of_ranks}

-- the points of the greatest hand of some ranks
abbrev pub greatest_hand : WorstShow → List ℕ → ℕ
greatest_hand worst ranks = plain_of_ranks (rank_of worst.starter ∷ ranks) + most_suit_points worst ranks

-- two ranks are tried before two others
abbrev pub AreTried : ℕ → ℕ → ℕ → ℕ → Type 0
AreTried first second p q = (p < first) ⊎ ((p ≡ first) × (q < second))

-- a fact of two ranks holds for all pairs of ranks that were tried, the lower rank first
pub record HoldsBefore (Fact : ℕ → ℕ → Type 0) (first second : ℕ) : Type 0 where
  pub each : (p q : ℕ) → IsRank p → IsRank q → p ≤ q → AreTried first second p q → Fact p q

-- the points of the least crib of the pairs of ranks that were tried
pub record IsLeastBefore (worst : WorstShow) (first second least : ℕ) : Type 0 where
  pub all : HoldsBefore (λ p q. least ≤ least_of_ranks worst p q) first second
  pub some : (least ≡ no_crib) ⊎ ((p : ℕ) × (q : ℕ) × IsRank p × IsRank q × (least ≡ least_of_ranks worst p q))

-- no pair of ranks that was tried and may be thrown gives more points, with the most of its suits
abbrev pub IsMostBefore : WorstShow → ℕ → ℕ → ℕ → Type 0
IsMostBefore worst first second most =
    HoldsBefore (λ p q. IsTrue (has_room worst p q) → plain_crib worst p q + most_crib_suits worst p q ≤ most) first second

-- no pair of ranks that was tried gives enough points
abbrev pub NoneScoresBefore : WorstShow → Target → ℕ → ℕ → ℕ → ℕ → Type 0
NoneScoresBefore worst aim suit_bonus wanted first second = HoldsBefore (λ p q. IsFalse (ranks_score worst aim suit_bonus wanted p q)) first second
