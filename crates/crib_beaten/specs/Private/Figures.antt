-- The figures of rows, as sums over the rows of a tally.
use Rattle.std.specs.Prelude.{◌≡◌, ℕ, ◌<◌, ◌≤◌, Bool, not, List, [], ◌∷◌, ◌++◌, length, cond, filter, get_or, sum_by}
use Rattle.crib_beaten.specs.declared.tally.RanksTally.{RanksTally}
use Rattle.crib_beaten.specs.declared.rows.Row.{Row}
use Rattle.crib_beaten.specs.Terms.{columns, is_first, meets_none, meets_term}

-- how many deals beat the plan, of those whose ranks pass a test
abbrev pub beaten_where : (List ℕ → Bool) → List RanksTally → ℕ
beaten_where test rows = sum_by (λ (row : RanksTally). cond (test row.ranks) row.beaten 0) rows

-- the figures of rows below some terms are right: each is how many deals beat the plan that meet its term and none
-- above it, and the others are those that meet none
abbrev pub AreSums : List RanksTally → List (List (List Bool)) → List Row → ℕ → Type 0
AreSums tallied above [] others = others ≡ beaten_where (meets_none above) tallied
AreSums tallied above (row ∷ rows) others =
    (row.deals ≡ beaten_where (is_first above row.term) tallied)
    × AreSums tallied (above ++ row.term ∷ []) rows others

-- the rows of a tally without those that meet a term
abbrev pub left_by : List (List Bool) → List RanksTally → List RanksTally
left_by term tallied = filter (λ (row : RanksTally). not (meets_term term row.ranks)) tallied

-- at most so many deals beat the plan and meet a term, of some that are not too wide
abbrev pub AreAtMost : List (List (List Bool)) → List RanksTally → ℕ → Type 0
AreAtMost terms tallied most =
    (k : ℕ) → k < length terms → columns (get_or terms k []) ≤ 24
    → beaten_where (meets_term (get_or terms k [])) tallied ≤ most
