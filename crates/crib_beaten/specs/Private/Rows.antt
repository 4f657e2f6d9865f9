-- The rows of a tally, and what they are counted from.
use Rattle.std.specs.Prelude.{◌≡◌, ℕ, zero, suc, ◌+◌, ◌<◌, nat_lt, cond, List, [], ◌∷◌, ◌++◌, IsFalse, IsTrue}
use Rattle.crib_cards.specs.Sets.{rank_counts}
use Rattle.crib_problem.specs.Setup.{Setup, IsSetup}
use Rattle.crib_know.specs.Hidden.{IsOpen}
use Rattle.crib_plan.specs.declared.plan.Node.{Node}
use Rattle.crib_beaten.specs.Beaten.{Beats, Decides, counts_of, demand_of}
use Rattle.crib_deals.specs.Choices.{are_in_order, ranks_of_number}
use Rattle.crib_deals.specs.Deals.{ranks_held}
use Rattle.crib_deals.specs.Exact.{AreExactly}
use Rattle.crib_beaten.specs.declared.tally.OpenDeals.{OpenDeals}
use Rattle.crib_beaten.specs.declared.tally.RanksTally.{RanksTally}

-- rows with one more, if some deal with its ranks beats the plan
abbrev pub with_figures : List RanksTally → RanksTally → List RanksTally
with_figures rows figures = cond (nat_lt 0 figures.beaten) (rows ++ figures ∷ []) rows

-- so many open deals have four ranks, and so many of them beat the plan
pub record AreCounted (problem : Setup) (plan : List Node) (ranks : List ℕ) (open_deals beaten : ℕ) : Type 0 where
  pub are_open : AreExactly (λ dealt. IsOpen problem dealt × (ranks_held dealt ≡ ranks)) open_deals
  pub are_beaten : AreExactly (λ dealt. Beats problem plan dealt × (ranks_held dealt ≡ ranks)) beaten

-- how many cards of each rank the four ranks with a number have
abbrev pub counts_of_number : ℕ → List ℕ
counts_of_number number = rank_counts (ranks_of_number number)

-- how many choices in order have a smaller number than these ranks: their place among all choices
unfoldable pub place : ℕ → ℕ
place zero = 0
place (suc number) = cond (are_in_order (ranks_of_number number)) 1 0 + place number

-- some ranks are those with a number and in order, so that their number has a place of its own
pub record IsChoice (number : ℕ) (ranks : List ℕ) : Type 0 where
  pub numbered : ranks ≡ ranks_of_number number
  pub order : IsTrue (are_in_order (ranks_of_number number))
  pub small : place number < 1820
  pub next : place (number + 1) ≡ place number + 1

-- the ranks with a number are not in order, so that it has no place of its own
pub record IsNoChoice (number : ℕ) : Type 0 where
  pub no_order : IsFalse (are_in_order (ranks_of_number number))
  pub next : place (number + 1) ≡ place number

-- the counts of ranks are those of the choices in order with a smaller number, each at its place
abbrev pub AreListed : ℕ → List (List ℕ) → Type 0
AreListed number choices =
    (n : ℕ) → n < number → IsTrue (are_in_order (ranks_of_number n)) → counts_of choices (place n) ≡ counts_of_number n

-- these are the open deals of a problem, and the demands decide which of them beat a plan, for each choice of ranks
pub record IsFor (problem : Setup) (plan : List Node) (deals : OpenDeals) : Type 0 where
  pub setup : IsSetup problem
  pub same_problem : deals.deals ≡ problem
  pub decided : (n : ℕ) → n < 28561 → IsTrue (are_in_order (ranks_of_number n)) →
      Decides problem plan (counts_of_number n) (demand_of deals.demands (place n))
