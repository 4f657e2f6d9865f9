-- The figures of rows: each counts what meets its term and none above, and they add up.
use Rattle.std.proofs.Common.{◌≡◌, ℕ, ◌+◌, ◌<◌, ◌≤◌, Bool, true, false, not, cond, List, [], ◌∷◌, ◌++◌, map, filter, get_or, ◌-◌, ◌||◌, ◌&&◌}
use Rattle.std.proofs.Common.{refl, sym, ap, ◌∙◌, arith, append_assoc, append-nil}
use Rattle.std.specs.List.{All, list_any}
use Rattle.std.proofs.lemmas.List.Elements.{All-nil, All-head, All-tail, All-push}
use Rattle.std.proofs.lemmas.List.Filters.{sum_by-filter_both}
use Rattle.std.specs.Prelude.{sum_by, IsTrue}
use Rattle.std.proofs.lemmas.Bool.Decides.{nat_tests}
use Rattle.std.proofs.lemmas.List.{map-append}
use Rattle.std.proofs.lemmas.List.Folds.{list_any-append}
use Rattle.std.proofs.lemmas.List.Sums.{sum_by-cons, sum_by-le-sum_by, sum_by_push}
use Rattle.crib_beaten.specs.declared.tally.RanksTally.{RanksTally}
use Rattle.crib_beaten.specs.declared.rows.Row.{Row}
use Rattle.crib_beaten.specs.declared.tally.Tally.{Tally}
use Rattle.crib_problem.specs.Setup.{Setup}
use Rattle.crib_plan.specs.declared.plan.Node.{Node}
use Rattle.crib_beaten.specs.Beaten.{Beats}
use Rattle.crib_deals.specs.Exact.{AreExactly}
use Rattle.crib_beaten.specs.Tally.{IsTally}
use Rattle.crib_deals.specs.Deals.{ranks_held}
use Rattle.crib_beaten.specs.Terms.{AreBestFirst, AreRows, IsNarrow, is_first, meets_none, meets_term}
use Rattle.crib_beaten.specs.Private.Figures.{AreAtMost, AreSums, beaten_where, left_by}
use Rattle.crib_deals.proofs.ExactCounts.{exactly_one, exactly_same}
use Rattle.crib_beaten.proofs.TallyLaws.{rows_add_up}

-- deals that meet none of some terms meet the next one first, or none with it
pub one_more : (tallied : List RanksTally) (above : List (List (List Bool))) (term : List (List Bool)) →
    beaten_where (is_first above term) tallied + beaten_where (meets_none (above ++ term ∷ [])) tallied ≡ beaten_where (meets_none above) tallied
one_more [] above term = refl
one_more (row ∷ tallied) above term =
    let here : cond (is_first above term row.ranks) row.beaten 0 + cond (meets_none (above ++ term ∷ []) row.ranks) row.beaten 0
    ≡ cond (meets_none above row.ranks) row.beaten 0 =
    rw (list_any-append (λ (term : List (List Bool)). meets_term term row.ranks) above (term ∷ [])) (grind (arith, nat_tests)) in
    rw (sum_by-cons, sum_by-cons, sum_by-cons) (omega (arith, here, one_more tallied above term))

-- the terms of rows
abbrev pub terms_of : List Row → List (List (List Bool))
terms_of rows = map (λ (row : Row). row.term) rows

-- the rows with the next one
pub push_row : (tallied : List RanksTally) (above : List (List (List Bool))) (rows : List Row) (row : Row) (others rest : ℕ) →
    AreSums tallied above rows others → row.deals ≡ beaten_where (is_first (above ++ terms_of rows) row.term) tallied →
    others ≡ row.deals + rest → AreSums tallied above (rows ++ row ∷ []) rest
push_row tallied above [] row others rest are counted parts =
    let deals = rw append-nil at counted in (deals, omega (arith, are, deals, parts, one_more tallied above row.term))
push_row tallied above (first ∷ rows) row others rest are counted parts =
    (are.0, push_row tallied (above ++ first.term ∷ []) rows row others rest are.1 (rw append_assoc counted) parts)

-- ---- what is left

-- the rows of a tally that meet none of some terms
abbrev pub left_after : List (List (List Bool)) → List RanksTally → List RanksTally
left_after above tallied = filter (λ (row : RanksTally). meets_none above row.ranks) tallied

-- without those that meet one more term
pub left_more : (above : List (List (List Bool))) (term : List (List Bool)) (tallied : List RanksTally) →
    left_by term (left_after above tallied) ≡ left_after (above ++ term ∷ []) tallied
left_more above term [] = refl
left_more above term (row ∷ tallied) =
    one (meets_term term row.ranks) (list_any (λ (term : List (List Bool)). meets_term term row.ranks) above)
    (list_any (λ (term : List (List Bool)). meets_term term row.ranks) (above ++ term ∷ [])) refl
    (list_any-append (λ (term : List (List Bool)). meets_term term row.ranks) above (term ∷ [])) (left_more above term tallied)
  where
    one : (here any more : Bool) → meets_term term row.ranks ≡ here → more ≡ (any || (here || false)) →
        left_by term (left_after above tallied) ≡ left_after (above ++ term ∷ []) tallied →
        left_by term (cond (not any) (row ∷ left_after above tallied) (left_after above tallied))
        ≡ cond (not more) (row ∷ left_after (above ++ term ∷ []) tallied) (left_after (above ++ term ∷ []) tallied)
    one here true more meets is rest = rw is rest
    one true false more meets is rest = rw (is, meets) rest
    one false false more meets is rest = rw (is, meets) (ap (λ rows. row ∷ rows) rest)

-- what meets a term first
pub first_in_left : (above : List (List (List Bool))) (term : List (List Bool)) (tallied : List RanksTally) →
    beaten_where (meets_term term) (left_after above tallied) ≡ beaten_where (is_first above term) tallied
first_in_left above term [] = refl
first_in_left above term (row ∷ tallied) =
    one (meets_none above row.ranks) (first_in_left above term tallied) ∙ sym (sum_by-cons _ row tallied)
  where
    one : (none : Bool) → beaten_where (meets_term term) (left_after above tallied) ≡ beaten_where (is_first above term) tallied →
        beaten_where (meets_term term) (cond none (row ∷ left_after above tallied) (left_after above tallied))
        ≡ cond (meets_term term row.ranks && none) row.beaten 0 + beaten_where (is_first above term) tallied
    one true rest = rw sum_by-cons (grind (arith, nat_tests, rest))
    one false rest = grind (arith, nat_tests, rest)

-- all of some rows beat the plan at least as often as those that pass a test
pub where_few : (test : List ℕ → Bool) (tallied : List RanksTally) → beaten_where test tallied ≤ sum_by (λ (row : RanksTally). row.beaten) tallied
where_few test tallied = sum_by-le-sum_by _ _ tallied (λ row. grind (arith, nat_tests))

-- a part of some rows has no larger sum
pub part_few : (f : RanksTally → ℕ) (keeps : RanksTally → Bool) (tallied : List RanksTally) → sum_by f (filter keeps tallied) ≤ sum_by f tallied
part_few f keeps tallied = let both = sum_by-filter_both keeps (λ row. not (keeps row)) (λ row. refl) f tallied in omega (arith, both)

-- ---- the order of rows

pub best_more : (rows : List Row) (row : Row) → AreBestFirst rows → All (λ (above : Row). row.deals ≤ above.deals) rows → 0 < row.deals →
    AreBestFirst (rows ++ row ∷ [])
best_more [] row order least some = (some, All-nil (λ (later : Row). later.deals ≤ row.deals), tt)
best_more (first ∷ rows) row order least some =
    let all_more = λ (above : Row). row.deals ≤ above.deals in (
      order.0,
      All-push (λ (later : Row). later.deals ≤ first.deals) rows row order.1 (All-head all_more first rows least),
      best_more rows row order.2 (All-tail all_more first rows least) some,
    )

-- ---- rows so far

-- some rows were found, and these choices are left: the figures are right, and no term that is tried has more deals
-- left than the last row
pub record AreSoFar (tried : List (List (List Bool))) (tallied : List RanksTally) (beaten : ℕ) (left : List RanksTally) (rows : List Row)
    (others : ℕ) : Type 0 where
  pub most : ℕ
  pub left_over : left ≡ left_after (terms_of rows) tallied
  pub whole : sum_by (λ (row : RanksTally). row.beaten) left ≤ beaten
  pub sums : AreSums tallied [] rows others
  pub rest : others ≡ beaten_where (meets_none (terms_of rows)) tallied
  pub adds_up : sum_by (λ (row : Row). row.deals) rows + others ≡ beaten
  pub best_first : AreBestFirst rows
  pub narrow : All (λ (row : Row). IsNarrow row.term) rows
  pub least : All (λ (row : Row). most ≤ row.deals) rows
  pub at_most : AreAtMost tried left most

all_left : (tallied : List RanksTally) → tallied ≡ left_after [] tallied
all_left [] = refl
all_left (row ∷ tallied) = ap (λ (rows : List RanksTally). row ∷ rows) (all_left tallied)

pub so_far_none : (tried : List (List (List Bool))) (tallied : List RanksTally) (beaten : ℕ) → sum_by (λ (row : RanksTally). row.beaten) tallied ≡ beaten →
    AreSoFar tried tallied beaten tallied [] beaten
so_far_none tried tallied beaten whole = record {
  most = beaten;
  left_over = all_left tallied;
  whole = omega (arith, whole);
  sums = sym whole;
  rest = sym whole;
  adds_up = let none : sum_by (λ (row : Row). row.deals) [] ≡ 0 = refl in omega (arith, none);
  best_first = tt;
  narrow = All-nil (λ (row : Row). IsNarrow row.term);
  least = All-nil (λ (row : Row). beaten ≤ row.deals);
  at_most = λ k less few. let most = where_few (meets_term (get_or tried k [])) tallied in omega (arith, most, whole);
}

module _ {tried : List (List (List Bool))} {tallied : List RanksTally} {beaten : ℕ} {left : List RanksTally} {rows : List Row} {others : ℕ}
    (so_far : AreSoFar tried tallied beaten left rows others) (row : Row) (counted : row.deals ≡ beaten_where (meets_term row.term) left) where
  first_deals : row.deals ≡ beaten_where (is_first (terms_of rows) row.term) tallied
  first_deals = counted ∙ ap (beaten_where (meets_term row.term)) so_far.left_over ∙ first_in_left (terms_of rows) row.term tallied

  parts : row.deals + beaten_where (meets_none (terms_of rows ++ row.term ∷ [])) tallied ≡ others
  parts = let both = one_more tallied (terms_of rows) row.term in omega (arith, both, first_deals, so_far.rest)

  pub row_fits : row.deals ≤ others
  row_fits = omega (arith, parts)

  -- with one more row
  pub so_far_more : 0 < row.deals → IsNarrow row.term → AreAtMost tried left row.deals → row.deals ≤ so_far.most →
      AreSoFar tried tallied beaten (left_by row.term left) (rows ++ row ∷ []) (others - row.deals)
  so_far_more some narrow best less =
      let terms : terms_of (rows ++ row ∷ []) ≡ terms_of rows ++ row.term ∷ [] = map-append (λ (row : Row). row.term) rows (row ∷ []) in
      let kept = part_few (λ (row : RanksTally). row.beaten) (λ (other : RanksTally). not (meets_term row.term other.ranks)) left in record {
        most = row.deals;
        left_over = rw terms (ap (left_by row.term) so_far.left_over ∙ left_more (terms_of rows) row.term tallied);
        whole = omega (arith, kept, so_far.whole);
        sums = push_row tallied [] rows row others (others - row.deals) so_far.sums first_deals (omega (arith, row_fits));
        rest = rw terms (omega (arith, parts));
        adds_up = rw (sum_by_push (λ (row : Row). row.deals) rows row) (omega (arith, so_far.adds_up, row_fits));
        best_first = best_more rows row so_far.best_first (λ k d less_k. let least = so_far.least k d less_k in omega (arith, least, less)) some;
        narrow = All-push (λ (row : Row). IsNarrow row.term) rows row so_far.narrow narrow;
        least = All-push (λ (above : Row). row.deals ≤ above.deals) rows row
            (λ k d less_k. let least = so_far.least k d less_k in omega (arith, least, less)) (omega arith);
        at_most = λ k less_k few.
            let before = best k less_k few in
            let fewer = part_few (λ (other : RanksTally). cond (meets_term (get_or tried k []) other.ranks) other.beaten 0)
            (λ (other : RanksTally). not (meets_term row.term other.ranks)) left in omega (arith, before, fewer);
      }

-- ---- deals
module _ {A : Type 0} (problem : Setup) (plan : List Node) (tally : Tally A) (is : IsTally problem plan tally) where
  tested : (test : List ℕ → Bool) → AreExactly (λ dealt. Beats problem plan dealt × IsTrue (test (ranks_held dealt))) (beaten_where test tally.rows.items)
  tested test = rows_add_up problem plan tally.open_deals tally.beaten tally.rows.items test is

  -- the rows add up to the deals that beat the plan
  pub beaten_whole : sum_by (λ (row : RanksTally). row.beaten) tally.rows.items ≡ tally.beaten
  beaten_whole =
      exactly_one (exactly_same (λ dealt order has. has.0) (λ dealt order beats. (beats, refl)) (tested (λ ranks. true))) is.are_beaten

  pub figures_exact : (above : List (List (List Bool))) (rows : List Row) (others : ℕ) → AreSums tally.rows.items above rows others →
      AreRows problem plan above rows others
  figures_exact above [] others figures = rw figures (tested (meets_none above))
  figures_exact above (row ∷ rows) others figures =
      (rw figures.0 (tested (is_first above row.term)), figures_exact (above ++ row.term ∷ []) rows others figures.1)
