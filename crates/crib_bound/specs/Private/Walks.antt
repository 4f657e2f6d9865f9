-- A walk over what the owner knows, which counts what amounts of deals are worth.
use Rattle.std.specs.Prelude.{◌≡◌, ℕ, zero, suc, ◌+◌, ◌-◌, ◌*◌, ◌/◌, ◌<◌, ◌≤◌, nat_eq, Bool, not, ◌&&◌, cond}
use Rattle.std.specs.Prelude.{List, [], ◌∷◌, length, count_by, get_or, map, set, sum_by, take}
use Rattle.std.specs.Prelude.{Option, None, IfSome, IsTrue, IsFalse}
use Rattle.std.specs.List.{All}
use Rattle.crib_cards.specs.Cards.{rank_of}
use Rattle.crib_cards.specs.Deals.{is_in_pack_order}
use Rattle.crib_cards.specs.Sets.{AreDifferent, has, rank_counts}
use Rattle.crib_cards.specs.declared.sides.Dealt.{Dealt}
use Rattle.crib_play.specs.History.{Event, event_of}
use Rattle.crib_show.specs.Indices.{index_among}
use Rattle.crib_show.specs.Show.{hand_points}
use Rattle.crib_show.specs.declared.demands.Demand.{Demand}
use Rattle.crib_problem.specs.Setup.{Setup, IsSetup}
use Rattle.crib_know.specs.Knowledge.{Knowledge, played_events}
use Rattle.crib_know.specs.Hidden.{IsOpen, KnowsAfter, Passes}
use Rattle.crib_know.specs.Private.Ahead.{turns_ahead}
use Rattle.crib_sure.specs.Shows.{meets}
use Rattle.crib_deals.specs.Deals.{Behind, IsBehind}
use Rattle.crib_deals.specs.Exact.{IsIn, AreExactly}
use Rattle.crib_beaten.specs.Beaten.{counts_of}
use Rattle.crib_search.specs.declared.tries.grades.Ladder.{Ladder}
use Rattle.crib_bound.specs.Worth.{IsWorthIf}
use Rattle.crib_bound.specs.Private.Cases.{IsAllowedBy, IsTrailOf}
use Rattle.crib_bound.specs.declared.cases.Cases.{Cases}
use Rattle.crib_bound.specs.declared.cases.Room.{Room}
use Rattle.crib_bound.specs.declared.walk.Bound.{Bound}

-- the index of the ranks that the opponent held
abbrev pub index_of : Dealt → ℕ
index_of dealt = index_among 4 (rank_counts (map rank_of dealt.hold))

-- the grade of a deal: how many demands of a ladder it meets in a row, from the first on
unfoldable pub grade_of : Setup → List Demand → Dealt → ℕ
grade_of problem [] dealt = 0
grade_of problem (demand ∷ ladder) dealt = cond (meets problem demand dealt) (1 + grade_of problem ladder dealt) 0

-- the demands of the ladder at an index
abbrev pub rungs_at : List Ladder → ℕ → List Demand
rungs_at ladders index = (get_or ladders index (record { rungs = [] })).rungs

-- fifteen of them: a ladder has no more
abbrev pub ladder_at : List Ladder → ℕ → List Demand
ladder_at ladders index = take 15 (rungs_at ladders index)

-- the index of the entry of a deal, by the ranks that the opponent held and its grade. A choice has sixteen
unfoldable pub entry_by : Setup → List Demand → Dealt → ℕ
entry_by problem ladder dealt = 16 * index_of dealt + grade_of problem ladder dealt

-- the same by the ladder of its choice
unfoldable pub entry_of : Setup → List Ladder → Dealt → ℕ
entry_of problem ladders dealt = entry_by problem (ladder_at ladders (index_of dealt)) dealt

-- the same by the ladders of a bound
abbrev pub entry_in : Bound → Dealt → ℕ
entry_in bound = entry_of bound.problem.now bound.ladders.now

-- how many parts of a deal some amounts have, if it has an index there
abbrev pub parts_of : (Dealt → ℕ) → List ℕ → Dealt → ℕ
parts_of at amounts dealt = get_or amounts (at dealt) 0

-- how many parts of a deal are taken
abbrev pub taken_of : (Dealt → ℕ) → List ℕ → List ℕ → Dealt → ℕ
taken_of at before after dealt = parts_of at before dealt - parts_of at after dealt

-- whether a deal has an index and misses a demand
abbrev pub misses_at : (Dealt → ℕ) → Setup → Demand → ℕ → Dealt → Bool
misses_at at problem demand index dealt = nat_eq index (at dealt) && not (meets problem demand dealt)

-- a table is none, or that of the open deals with four ranks with an index
abbrev pub IsTableAt : Setup → ℕ → Option Behind → Type 0
IsTableAt problem index table =
    IfSome table (λ behind. (behind.problem ≡ problem) × (index_among 4 (rank_counts behind.ranks) ≡ index))

-- each table is at its index
abbrev pub AreTables : Setup → List (Option Behind) → Type 0
AreTables problem tables = (index : ℕ) → IsTableAt problem index (get_or tables index None)

-- the deals with four ranks that have an entry are added to its weight
pub record IsAddedAt (behind : Behind) (ladder : List Demand) (before after : List ℕ) (index : ℕ) : Type 0 where
  pub more : ℕ
  pub added : get_or after index 0 ≡ get_or before index 0 + more
  pub few : more ≤ 16 * 209920
  pub exact :
      AreExactly (λ dealt. IsBehind behind dealt × IsTrue (nat_eq index (entry_by behind.problem ladder dealt))) more

-- all deals with four ranks are added to the weights of their entries
pub record AreAdded (behind : Behind) (ladder : List Demand) (before after : List ℕ) : Type 0 where
  pub count : ℕ
  pub exact : AreExactly (IsBehind behind) count
  pub each : (index : ℕ) → IsAddedAt behind ladder before after index

-- some deals of a problem are open, and all of those in pack order. The choice of the entry of each has its counts of
-- ranks, as many as its weight says have an entry, and each table is at its index
pub record AreWeighed (problem : Setup) (ladders : List Ladder) (choices : List (List ℕ)) (weights : List ℕ)
    (tables : List (Option Behind)) (deals : List Dealt) : Type 0 where
  pub setup : IsSetup problem
  pub are_open : (dealt : Dealt) → IsIn dealt deals → IsOpen problem dealt
  pub counts : (dealt : Dealt) → IsIn dealt deals →
      counts_of choices (entry_of problem ladders dealt / 16) ≡ rank_counts (map rank_of dealt.hold)
  pub weighed : (index : ℕ) →
      get_or weights index 0 ≡ count_by (λ dealt. nat_eq index (entry_of problem ladders dealt)) deals
  pub tabled : AreTables problem tables
  pub all : (dealt : Dealt) → IsTrue (is_in_pack_order dealt) → IsOpen problem dealt → IsIn dealt deals

-- such deals for the choices of a bound
abbrev pub AreDealsOf : Bound → List Dealt → Type 0
AreDealsOf bound deals =
    AreWeighed bound.problem.now bound.ladders.now bound.choices.now bound.weights.now bound.tables.now deals

-- there are such deals, each once
pub record AreOpenDeals (problem : Setup) (ladders : List Ladder) (choices : List (List ℕ)) (weights : List ℕ)
    (tables : List (Option Behind)) : Type 0 where
  pub deals : List Dealt
  pub weighed : AreWeighed problem ladders choices weights tables deals
  pub different : AreDifferent deals
  pub in_order : (dealt : Dealt) → IsIn dealt deals → IsTrue (is_in_pack_order dealt)

-- those of them that have some indices pass the test of a position
pub record AreAt (at : Dealt → ℕ) (problem : Setup) (know : Knowledge) (deals : List Dealt) (indices : List ℕ)
    : Type 0 where
  pub passing : (dealt : Dealt) → IsIn dealt deals → IsTrue (has indices (at dealt)) → Passes problem know dealt

-- for such deals something holds after each history of a position that has a trail
abbrev pub HoldsAfter : Bound → Knowledge → List ℕ → List ℕ → (List Dealt → List Event → Type 0) → Type 0
HoldsAfter bound know trail indices Holds =
    (deals : List Dealt) → AreDealsOf bound deals → AreAt (entry_in bound) bound.problem.now know deals indices →
    (history : List Event) → KnowsAfter know bound.problem.now history → IsTrailOf bound.problem.now trail history →
    Holds deals history

-- some amounts are worth so much after a history if the owner plays only what the fixed cards of a bound allow
abbrev pub IsWorthIn : Bound → List Dealt → List Event → (Dealt → ℕ) → ℕ → Type 0
IsWorthIn bound = IsWorthIf event_of bound.problem.now (IsAllowedBy bound.problem.now bound.fixed.now)

-- some is taken off amounts at some indices, if any
pub record AreFewer (indices before after : List ℕ) : Type 0 where
  pub less : (index : ℕ) → get_or after index 0 ≤ get_or before index 0
  pub elsewhere : (index : ℕ) → IsFalse (has indices index) → get_or after index 0 ≡ get_or before index 0

-- so much is counted of the deals that miss a demand, by what is taken so far
pub record AreCounted (bound : Bound) (demand : Demand) (indices before after : List ℕ) (sum : ℕ) : Type 0 where
  pub fewer : AreFewer indices before after
  pub few : (deals : List Dealt) → AreDealsOf bound deals → sum ≤ sum_by (λ dealt.
      cond (not (meets bound.problem.now demand dealt)) (taken_of (entry_in bound) before after dealt) 0) deals

-- how much of an index is held back at the first places of a list of indices
abbrev pub held_of : List ℕ → List ℕ → ℕ → ℕ → ℕ
held_of indices held zero index = 0
held_of indices held (suc places) index =
    held_of indices held places index + cond (nat_eq (get_or indices places 0) index) (get_or held places 0) 0

-- what is taken at a position is worth so much there
pub record IsBoundAt (bound : Bound) (know : Knowledge) (trail indices before after : List ℕ) (value : ℕ)
    : Type 0 where
  pub fewer : AreFewer indices before after
  pub worth : HoldsAfter bound know trail indices
      (λ deals history. IsWorthIn bound deals history (taken_of (entry_in bound) before after) value)

-- what is taken at a position is worth so much after a further event
pub record IsBoundAfter (bound : Bound) (know : Knowledge) (event : Event) (trail indices before after : List ℕ)
    (value : ℕ) : Type 0 where
  pub fewer : AreFewer indices before after
  pub worth : HoldsAfter bound know trail indices
      (λ deals history. IsWorthIn bound deals (event ∷ history) (taken_of (entry_in bound) before after) value)

-- something is given back to amounts. The parts of all deals that are given back are at most so many
pub record AreGivenBack (bound : Bound) (indices before after : List ℕ) (most : ℕ) : Type 0 where
  pub more : (index : ℕ) → get_or before index 0 ≤ get_or after index 0
  pub elsewhere : (index : ℕ) → IsFalse (has indices index) → get_or after index 0 ≡ get_or before index 0
  pub few : (deals : List Dealt) → AreDealsOf bound deals → sum_by (taken_of (entry_in bound) after before) deals ≤ most

-- something is given back, and then some may be taken, so that a value is lowered
pub record AreLowered (bound : Bound) (before after : List ℕ) (value least : ℕ) : Type 0 where
  pub mid : List ℕ
  pub more : (index : ℕ) → get_or before index 0 ≤ get_or mid index 0
  pub less : (index : ℕ) → get_or after index 0 ≤ get_or mid index 0
  pub lost : (deals : List Dealt) → AreDealsOf bound deals →
      least + sum_by (taken_of (entry_in bound) mid before) deals ≤ value

-- amounts with others put at the first places of a list of indices
abbrev pub with_parts : List ℕ → List ℕ → ℕ → List ℕ → List ℕ
with_parts indices parts zero amounts = amounts
with_parts indices parts (suc places) amounts =
    set (with_parts indices parts places amounts) (get_or indices places 0) (get_or parts places 0)

-- some parts are the amounts at the indices of a list
abbrev pub AreReadAt : List ℕ → List ℕ → List ℕ → Type 0
AreReadAt indices amounts parts =
    (place : ℕ) → place < length indices → get_or parts place 0 ≡ get_or amounts (get_or indices place 0) 0

-- something is given back to parts that are put at the indices of a list
abbrev pub AreGivenBackAt : Bound → List ℕ → List ℕ → List ℕ → ℕ → Type 0
AreGivenBackAt bound indices before after most =
    (amounts : List ℕ) → length amounts ≡ 29120 →
    AreGivenBack bound indices (with_parts indices before (length indices) amounts)
    (with_parts indices after (length indices) amounts) most

-- a value is lowered by what happens to such parts
abbrev pub AreLoweredAt : Bound → List ℕ → List ℕ → List ℕ → ℕ → ℕ → Type 0
AreLoweredAt bound indices before after value least =
    (amounts : List ℕ) → length amounts ≡ 29120 →
    AreLowered bound (with_parts indices before (length indices) amounts)
    (with_parts indices after (length indices) amounts) value least

-- a walk may begin: the owner's hand is counted, the position is one after some history, and the spare room is enough
-- for three lists now and at each turn ahead, and so is that of the trail
pub record MayWalk (bound : Bound) (know : Knowledge) (trail indices spare : List ℕ) : Type 0 where
  pub own : bound.own_hand ≡ hand_points bound.problem.now.hold bound.problem.now.starter
  pub history : List Event
  pub knows : KnowsAfter know bound.problem.now history
  pub small : All (λ index. index < 29120) indices
  pub room : length indices * (3 * turns_ahead know + 3) ≤ length spare
  pub short : length trail + turns_ahead know ≤ 27

-- the walk may begin, the open deals are counted, and the room of a walk is enough
pub record IsReady {A : Type 0} (cases : Cases A) (room : Room A) : Type 0 where
  pub begun : KnowsAfter cases.start cases.problem.now (played_events cases.problem.now)
  pub counted : AreOpenDeals cases.problem.now cases.choices.ladders cases.choices.counts cases.choices.weights
      cases.choices.tables.items
  pub long : length room.spare.items ≡ 2446080
