-- What the opponent's hand and the crib must count in the show so that the owner reaches the goal.
use Rattle.std.specs.Prelude.{◌≡◌, ℕ, ◌+◌, ◌≤◌, nat_le, Bool, ◌&&◌, ◌++◌, Option, Some, None, IsTrue, IsFalse}
use Rattle.crib_cards.specs.Order.{is_before}
use Rattle.crib_cards.specs.Deals.{is_in_pack_order, deal_numbers}
use Rattle.crib_cards.specs.declared.sides.Dealt.{Dealt}
use Rattle.crib_cards.specs.declared.sides.Side.{Side}
use Rattle.crib_cards.specs.declared.sides.Scores.{Scores}
use Rattle.crib_show.specs.Show.{hand_points, crib_points, most_points}
use Rattle.crib_show.specs.Worst.{AgreesInShow, hidden_crib, hidden_hand}
use Rattle.crib_show.specs.declared.deals.Full.{Full}
use Rattle.crib_show.specs.declared.deals.WorstShow.{WorstShow}
use Rattle.crib_show.specs.declared.demands.Demand.{Demand}

-- whether a hand of the opponent and a crib of so many points meet a demand
abbrev pub is_met : Demand → ℕ → ℕ → Bool
is_met demand hand crib = nat_le hand demand.hand && (nat_le (hand + crib) demand.total && nat_le demand.crib crib)

-- each hand and crib that the cards can make meet a demand
abbrev pub IsMetByAll : Demand → Type 0
IsMetByAll demand = (hand crib : ℕ) → hand ≤ most_points → crib ≤ most_points → IsTrue (is_met demand hand crib)

-- no hand and crib that the cards can make meet a demand
abbrev pub IsMetByNone : Demand → Type 0
IsMetByNone demand = (hand crib : ℕ) → hand ≤ most_points → crib ≤ most_points → IsFalse (is_met demand hand crib)

-- whether a hidden deal meets a demand
abbrev pub is_met_by : WorstShow → Demand → Dealt → Bool
is_met_by worst demand dealt = is_met demand (hidden_hand worst dealt) (hidden_crib worst dealt)

-- each hidden deal that agrees meets a demand
abbrev pub AllMeet : WorstShow → Demand → Type 0
AllMeet worst demand = (dealt : Dealt) → AgreesInShow worst dealt → IsTrue (is_met_by worst demand dealt)

-- the first hidden deal that agrees and misses a demand: its six card numbers come first in dictionary order, and it is
-- written in pack order
pub record IsFirstMissing (worst : WorstShow) (demand : Demand) (dealt : Dealt) : Type 0 where
  pub agrees : AgreesInShow worst dealt
  pub misses : IsFalse (is_met_by worst demand dealt)
  pub in_order : IsTrue (is_in_pack_order dealt)
  pub first : (other : Dealt) → AgreesInShow worst other → IsFalse (is_met_by worst demand other)
      → IsFalse (is_before (deal_numbers other) (deal_numbers dealt))

-- the first hidden deal that misses a demand, or nothing if each one meets it
abbrev pub IsFirstMissingOrNone : WorstShow → Demand → Option Dealt → Type 0
IsFirstMissingOrNone worst demand (Some dealt) = IsFirstMissing worst demand dealt
IsFirstMissingOrNone worst demand None = AllMeet worst demand

-- a show: its dealer, the scores before it, the target, whether the goal is `stop`, and the points of the owner's hand.
-- A byte can hold the points of the opponent's hand and the crib together
pub record IsShowAt
    (dealer : Side) (scores : Scores) (target : ℕ) (is_to_stop : Bool) (own_hand : ℕ) (full : Full) : Type 0 where
  pub dealer_is : full.dealer ≡ dealer
  pub scores_are : full.scores ≡ scores
  pub target_is : full.target ≡ target
  pub stop_is : full.stop ≡ is_to_stop
  pub own_hand_is : hand_points full.own_hold full.starter ≡ own_hand
  pub few :
      hand_points full.opp.hold full.starter + crib_points (full.own_throw ++ full.opp.throw) full.starter ≤ 255
