-- Terms, what holds have at least, and the rows that say which hands beat a plan.
use Rattle.std.specs.Prelude.{◌≡◌, ℕ, ◌+◌, ◌-◌, ◌*◌, ◌==◌, ◌<◌, ◌≤◌, min, Bool, true, false, not, ◌&&◌, if◌then◌else◌}
use Rattle.std.specs.Prelude.{List, [], ◌∷◌, ◌++◌, length, map, sum_by, get_or, IsTrue}
use Rattle.std.specs.List.{All, list_all, list_any}
use Rattle.crib_problem.specs.Setup.{Setup}
use Rattle.crib_plan.specs.declared.plan.Node.{Node}
use Rattle.crib_beaten.specs.Beaten.{Beats}
use Rattle.crib_deals.specs.Deals.{ranks_held}
use Rattle.crib_deals.specs.Exact.{AreExactly}
use Rattle.crib_beaten.specs.declared.rows.Row.{Row}

-- a slot has a rank: the flag of the rank is set
abbrev pub has_rank : List Bool → ℕ → Bool
has_rank slot rank = get_or slot (rank - 1) false

-- each way to take one card of a hold, by ranks: the card, and what is left
abbrev pub takings : List ℕ → List (ℕ × List ℕ)
takings [] = []
takings (rank ∷ ranks) = (rank, ranks) ∷ map (λ taking. (taking.0, rank ∷ taking.1)) (takings ranks)

-- a hold of these ranks meets a term: its cards can be given to the slots, one to each, so that each slot has the rank
-- of its card
unfoldable pub meets_term : List (List Bool) → List ℕ → Bool
meets_term [] ranks = true
meets_term (slot ∷ slots) ranks =
    list_any (λ taking. has_rank slot taking.0 && meets_term slots taking.1) (takings ranks)

-- a hold meets none of some terms
abbrev pub meets_none : List (List (List Bool)) → List ℕ → Bool
meets_none terms ranks = not (list_any (λ term. meets_term term ranks) terms)

-- a hold meets a term, and none of those above it
abbrev pub is_first : List (List (List Bool)) → List (List Bool) → List ℕ → Bool
is_first above term ranks = meets_term term ranks && meets_none above ranks

-- rows below some terms are right: of the deals that beat the plan exactly so many meet the term of a row and none
-- above it, and exactly so many others meet none
abbrev pub AreRows : Setup → List Node → List (List (List Bool)) → List Row → ℕ → Type 0
AreRows problem plan above [] others =
    AreExactly (λ dealt. Beats problem plan dealt × IsTrue (meets_none above (ranks_held dealt))) others
AreRows problem plan above (row ∷ rows) others =
    AreExactly (λ dealt. Beats problem plan dealt × IsTrue (is_first above row.term (ranks_held dealt))) row.deals
    × AreRows problem plan (above ++ row.term ∷ []) rows others

-- rows are best first: each has a deal, and none below has more
abbrev pub AreBestFirst : List Row → Type 0
AreBestFirst [] = Unit {0}
AreBestFirst (row ∷ rows) =
    (0 < row.deals) × All (λ (later : Row). later.deals ≤ row.deals) rows × AreBestFirst rows

-- ---- columns

-- how many ranks of a slot are printed, after some neighbouring ranks. Of neighbours the first and the last are
unfoldable pub printed_ranks : ℕ → List Bool → ℕ
printed_ranks before [] = min before 2
printed_ranks before (true ∷ slot) = printed_ranks (before + 1) slot
printed_ranks before (false ∷ slot) = min before 2 + printed_ranks 0 slot

-- the columns of a printed slot: a blank and a rank, or a blank, brackets, and ranks with a sign between two. One of
-- any card has none
abbrev pub slot_columns : List Bool → ℕ
slot_columns slot =
    if list_all (λ flag. flag) slot then 0
    else if printed_ranks 0 slot == 1 then 2
    else 3 + (2 * printed_ranks 0 slot - 1)

-- the columns of a printed term
abbrev pub columns : List (List Bool) → ℕ
columns term = sum_by slot_columns term

-- a term has slots of thirteen ranks, and is printed in few columns
pub record IsNarrow (term : List (List Bool)) : Type 0 where
  pub slots : All (λ slot. length slot ≡ 13) term
  pub few : columns term ≤ 24
