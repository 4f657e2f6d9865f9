-- Worked examples of the order of entries. A card is a number below 52: 0 is AC, 1 is AD, 4 is 2C.
use Rattle.std.proofs.Common.{◌≡◌, ℕ, true, false, List, [], ◌∷◌, ◌++◌, ap, map, refl, subst}
use Rattle.crib_cards.specs.Cards.{ranks}
use Rattle.crib_cards.specs.declared.sides.Side.TheVariants.{Opponent}
use Rattle.crib_problem.proofs.ExampleProblems.{plays}
use Rattle.crib_problem.specs.Setup.{Setup}
use Rattle.crib_leads.specs.declared.leads.Lead.{Lead}
use Rattle.crib_leads.specs.declared.verdict.LeadVerdict.{LeadVerdict}
use Rattle.crib_leads.specs.declared.verdict.LeadVerdict.TheVariants.{Sure, Beaten, Reached, Missed}
use Rattle.crib_leads.specs.Leads.{AreOfRanks, AreTheirs, badness, is_sure, is_worse, placed, worst_first}

-- entries of ranks: after one a plan is sure, one misses the goal, and others are beaten by some of ten deals
abbrev sure_rank : Lead
sure_rank = record { act = plays Opponent 2; is_rank = true; verdict = Sure 3 }

abbrev missed_rank : ℕ → Lead
missed_rank card = record { act = plays Opponent card; is_rank = true; verdict = Missed }

abbrev beaten_by : ℕ → ℕ → Lead
beaten_by card beaten = record { act = plays Opponent card; is_rank = true; verdict = Beaten beaten 10 }

by_badness : map badness (Sure 4 ∷ Beaten 3 7 ∷ Reached ∷ Missed ∷ []) ≡ (0, 1) ∷ (3, 7) ∷ (0, 1) ∷ (1, 1) ∷ []
by_badness = refl

-- 3 of 7 is more than 4 of 10, and as many as 6 of 14
worse_verdicts : (is_worse (Beaten 3 7) (Beaten 4 10) ≡ true) × (is_worse (Beaten 4 10) (Beaten 3 7) ≡ false) × (is_worse (Beaten 3 7) (Beaten 6 14) ≡ false)
    × (is_worse (Beaten 1 9) (Sure 4) ≡ true) × (is_worse Missed (Beaten 6 7) ≡ true) × (is_worse Reached (Sure 1) ≡ false)
worse_verdicts = (refl, refl, refl, refl, refl, refl)

sorted : worst_first (beaten_by 1 2 ∷ sure_rank ∷ beaten_by 3 7 ∷ beaten_by 4 2 ∷ missed_rank 5 ∷ [])
    ≡ missed_rank 5 ∷ beaten_by 3 7 ∷ beaten_by 1 2 ∷ beaten_by 4 2 ∷ sure_rank ∷ []
sorted = refl

put_in_place : placed (beaten_by 1 2) (beaten_by 3 7 ∷ beaten_by 4 2 ∷ []) ≡ beaten_by 3 7 ∷ beaten_by 1 2 ∷ beaten_by 4 2 ∷ []
put_in_place = refl

good_or_not : map is_sure (Sure 4 ∷ Beaten 0 7 ∷ Reached ∷ Missed ∷ []) ≡ true ∷ false ∷ true ∷ false ∷ []
good_or_not = refl

-- a rank after which a plan is sure doesn't come before one that misses the goal, and a go isn't left out
abbrev first_verdict : List Lead → LeadVerdict
first_verdict [] = Reached
first_verdict (lead ∷ leads) = lead.verdict

the_worst_is_first : (problem : Setup) (is : AreTheirs problem (sure_rank ∷ missed_rank 5 ∷ [])) → is.0 ≡ sure_rank ∷ [] → is.1 ≡ missed_rank 5 ∷ [] → ⊥
the_worst_is_first problem is cards gos =
    (let first : Sure 3 ≡ Missed = ap first_verdict (subst (λ its. (sure_rank ∷ missed_rank 5 ∷ []) ≡ worst_first (its ++ missed_rank 5 ∷ [])) cards
    (subst (λ its. (sure_rank ∷ missed_rank 5 ∷ []) ≡ worst_first (is.0 ++ its)) gos is.4)) in cc)

all_of_theirs_are_there : (problem : Setup) (is : AreTheirs problem []) → is.0 ≡ [] → is.1 ≡ missed_rank 5 ∷ [] → ⊥
all_of_theirs_are_there problem is cards gos =
    (let none = subst (λ its. [] ≡ worst_first (its ++ missed_rank 5 ∷ [])) cards (subst (λ its. [] ≡ worst_first (is.0 ++ its)) gos is.4) in cc)

-- what comes before a go are entries of the ranks
their_ranks_are_there : (problem : Setup) (leads : List Lead) → ((cards : List Lead) → AreOfRanks problem ranks cards → ⊥) → AreTheirs problem leads → ⊥
their_ranks_are_there problem leads none is = none is.0 is.2
