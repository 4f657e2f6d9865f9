-- What other amounts are worth.
use Rattle.std.proofs.Common.{◌≡◌, ◌⊎◌, ℕ, ◌+◌, ◌-◌, ◌≤◌, min, List, ◌∷◌, sum_by, refl, inl, inr, arith}
use Rattle.std.proofs.Math.Nat.{min-le_left, min-le_right, min-eq_left, min-eq_right}
use Rattle.std.proofs.lemmas.Bool.{cases_lt}
use Rattle.crib_cards.specs.declared.sides.Dealt.{Dealt}
use Rattle.crib_cards.specs.declared.moves.Act.{Act}
use Rattle.crib_problem.specs.Setup.{Setup}
use Rattle.crib_deals.specs.Exact.{IsIn}
use Rattle.crib_bound.specs.Worth.{EachCard, IsStrategy, IsStrategyIf, IsWorthIf}
use Rattle.crib_bound.specs.Worth.IsWorthIf.{Nothing, Missed, Barred, Parts, Turn, Choice}
use Rattle.crib_bound.proofs.Amounts.{sum_both, sum_less}

-- the lesser of two numbers is one of them
least_is : (one other least : ℕ) → least ≡ min one other → (least ≡ one) ⊎ (least ≡ other)
least_is one other least is = rw is (elim (cases_lt one other) [ inl less ↦ inl (min-eq_left (omega (arith, less))) | inr most ↦ inr (min-eq_right most) ])

-- an amount that is fewer is divided as another, of which there are two parts: of both parts no more is missing than of it
divided : (amount one other fewer : ℕ) → one + other ≤ amount → fewer ≤ amount →
    (min one fewer + min other (fewer - min one fewer) ≤ fewer)
    × ((one - min one fewer) + (other - min other (fewer - min one fewer)) ≤ amount - fewer)
divided amount one other fewer both few =
    by (min one fewer) (min other (fewer - min one fewer)) (min-le_left one fewer) (min-le_right one fewer)
    (min-le_left other (fewer - min one fewer)) (min-le_right other (fewer - min one fewer)) (least_is one fewer _ refl)
    (least_is other (fewer - min one fewer) _ refl)
  where
    by : (first second : ℕ) → first ≤ one → first ≤ fewer → second ≤ other → second ≤ fewer - first → (first ≡ one) ⊎ (first ≡ fewer) →
        (second ≡ other) ⊎ (second ≡ fewer - first) → (first + second ≤ fewer) × ((one - first) + (other - second) ≤ amount - fewer)
    by first second a b c d (inl e) (inl f) = (omega (arith, a, b, c, d), omega (arith, a, b, c, d, e, f, both, few))
    by first second a b c d (inl e) (inr f) = (omega (arith, a, b, c, d), omega (arith, a, b, c, d, e, f, both, few))
    by first second a b c d (inr e) (inl f) = (omega (arith, a, b, c, d), omega (arith, a, b, c, d, e, f, both, few))
    by first second a b c d (inr e) (inr f) = (omega (arith, a, b, c, d), omega (arith, a, b, c, d, e, f, both, few))

-- how much fewer amounts are, all together
fewer_left : (deals : List Dealt) (amounts fewer : Dealt → ℕ) → ((dealt : Dealt) → IsIn dealt deals → fewer dealt ≤ amounts dealt) →
    sum_by amounts deals - sum_by (λ dealt. amounts dealt - fewer dealt) deals ≤ sum_by fewer deals
fewer_left deals amounts fewer few =
    let both = sum_both fewer (λ dealt. amounts dealt - fewer dealt) deals in
    let all = sum_less amounts (λ dealt. fewer dealt + (amounts dealt - fewer dealt)) deals (λ dealt h. omega (arith, few dealt h)) in
    omega (arith, both, all)

module _ {Seen : Type 0} {look : Act → Seen} {problem : Setup} {Allowed : List Seen → ℕ → Type 0} {deals : List Dealt} where
  -- a lower value, of no fewer amounts
  pub lower : {turns : List Seen} {amounts more : Dealt → ℕ} {value least : ℕ} → least ≤ value →
      ((dealt : Dealt) → IsIn dealt deals → amounts dealt ≤ more dealt) → IsWorthIf look problem Allowed deals turns amounts value →
      IsWorthIf look problem Allowed deals turns more least
  lower {turns} {amounts} {more} {value} {least} less few worth =
      Parts turns more amounts (λ dealt. 0) value 0 least (λ dealt h. omega (arith, few dealt h)) (omega (arith, less)) worth
      (Nothing turns (λ dealt. 0))

  -- fewer amounts: the value is lowered by what is missing
  pub fewer_worth : (turns : List Seen) (amounts fewer : Dealt → ℕ) (value : ℕ) → ((dealt : Dealt) → IsIn dealt deals → fewer dealt ≤ amounts dealt) →
      IsWorthIf look problem Allowed deals turns amounts value →
      IsWorthIf look problem Allowed deals turns fewer (value - sum_by (λ dealt. amounts dealt - fewer dealt) deals)
  fewer_worth turns amounts fewer value few (Nothing _ _) = lower (omega arith) (λ dealt h. omega arith) (Nothing turns fewer)
  fewer_worth turns amounts fewer value few (Missed _ _ each) =
      lower (fewer_left deals amounts fewer few) (λ dealt h. omega arith)
      (Missed turns fewer (λ dealt h some. each dealt h (omega (arith, some, few dealt h))))
  fewer_worth turns amounts fewer value few (Barred _ _ may some can each none) =
      lower (fewer_left deals amounts fewer few) (λ dealt h. omega arith)
      (Barred turns fewer may some can (λ dealt h left. each dealt h (omega (arith, left, few dealt h))) none)
  fewer_worth turns amounts fewer value few (Parts _ _ one other first second _ less enough here there) =
      let left : Dealt → ℕ = λ dealt. min (one dealt) (fewer dealt) in
      let right : Dealt → ℕ = λ dealt. min (other dealt) (fewer dealt - min (one dealt) (fewer dealt)) in
      let parted = λ (dealt : Dealt) (h : IsIn dealt deals). divided (amounts dealt) (one dealt) (other dealt) (fewer dealt) (less dealt h) (few dealt h) in
      let both = sum_both (λ dealt. one dealt - left dealt) (λ dealt. other dealt - right dealt) deals in
      let all = sum_less (λ dealt. (one dealt - left dealt) + (other dealt - right dealt)) (λ dealt. amounts dealt - fewer dealt) deals
      (λ dealt h. (parted dealt h).1) in
      Parts turns fewer left right (first - sum_by (λ dealt. one dealt - left dealt) deals)
      (second - sum_by (λ dealt. other dealt - right dealt) deals) (value - sum_by (λ dealt. amounts dealt - fewer dealt) deals)
      (λ dealt h. (parted dealt h).0) (omega (arith, both, all, enough))
      (fewer_worth turns one left first (λ dealt h. min-le_left (one dealt) (fewer dealt)) here)
      (fewer_worth turns other right second (λ dealt h. min-le_left (other dealt) (fewer dealt - min (one dealt) (fewer dealt))) there)
  fewer_worth turns amounts fewer value few (Turn _ _ _ turn theirs after) =
      Turn turns fewer _ turn theirs (fewer_worth (turn ∷ turns) amounts fewer value few after)
  fewer_worth turns amounts fewer value few (Choice _ _ _ may some can allowed each after) =
      Choice turns fewer _ may some can allowed (λ dealt h left. each dealt h (omega (arith, left, few dealt h)))
      (λ card is allowed_it. fewer_worth _ amounts fewer value few (after card is allowed_it))

-- where each card is allowed, the same is so if none is barred
pub each_worth : {Seen : Type 0} {look : Act → Seen} {problem : Setup} {Allowed : List Seen → ℕ → Type 0} {deals : List Dealt} →
    ((turns : List Seen) (card : ℕ) → Allowed turns card) → (turns : List Seen) (amounts : Dealt → ℕ) (value : ℕ) →
    IsWorthIf look problem Allowed deals turns amounts value → IsWorthIf look problem EachCard deals turns amounts value
each_worth all turns amounts value (Nothing _ _) = Nothing turns amounts
each_worth all turns amounts value (Missed _ _ each) = Missed turns amounts each
each_worth all turns amounts value (Barred _ _ may some can each none) = absurd (none some can (all turns some))
each_worth all turns amounts value (Parts _ _ one other first second _ less enough here there) =
    Parts turns amounts one other first second value less enough (each_worth all turns one first here) (each_worth all turns other second there)
each_worth all turns amounts value (Turn _ _ _ turn theirs after) = Turn turns amounts value turn theirs (each_worth all (turn ∷ turns) amounts value after)
each_worth all turns amounts value (Choice _ _ _ may some can allowed each after) =
    Choice turns amounts value may some can tt each (λ card is allowed_it. each_worth all _ amounts value (after card is (all turns card)))

pub each_allowed : {Seen : Type 0} {look : Act → Seen} {problem : Setup} {Allowed : List Seen → ℕ → Type 0} {parts value : ℕ} →
    ((turns : List Seen) (card : ℕ) → Allowed turns card) → IsStrategyIf look problem Allowed parts value → IsStrategy look problem parts value
each_allowed all strategy = record {
  deals = strategy.deals;
  different = strategy.different;
  in_order = strategy.in_order;
  amounts = strategy.amounts;
  few = strategy.few;
  worth = each_worth all _ strategy.amounts _ strategy.worth;
}
