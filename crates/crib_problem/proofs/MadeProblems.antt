-- Lemmas about problems that are made from others: with one more turn, and with the first turns of an opening.
use Rattle.std.proofs.Common.{◌≡◌, ℕ, ◌+◌, ◌<◌, ◌≤◌, List, [], ◌∷◌, ◌++◌, length, length-append, get_or, take, drop, reverse, Some, None}
use Rattle.std.proofs.Common.{sym, subst, ◌∙◌, arith}
use Rattle.std.proofs.lemmas.List.{length-reverse, reverse-append}
use Rattle.crib_cards.specs.declared.moves.Act.{Act}
use Rattle.crib_problem.specs.declared.problem.Version.TheVariants.{Two}
use Rattle.crib_problem.specs.Played.{OpeningBasis, act_refusal, AreAllowed}
use Rattle.crib_problem.specs.Setup.{Setup, IsSetup, IsMove, CanSay, opening_basis_of, played_back}
use Rattle.crib_problem.proofs.Setups.{with_opening}
use Rattle.crib_problem.proofs.TurnLemmas.{allowed_end}
use Rattle.crib_problem.proofs.HonestTurns.{moves_append, all_from_back}
use Rattle.crib_problem.proofs.TurnsLeft.{few_allowed}

-- each problem may be of version 2
pub in_version_two : (problem : Setup) → IsSetup problem → IsSetup (record problem { version = Two })
in_version_two problem is = let can : CanSay Two problem.goal problem.played = tt in assumption

-- there is room for one more turn
pub room_for_one : (problem : Setup) → IsSetup problem → length problem.played ≤ 24
room_for_one problem is = let few = few_allowed problem is (played_back problem) is.allowed in omega (arith, few, length-reverse problem.played)

-- a problem with one more turn that is allowed
pub with_one_more : (problem : Setup) (act : Act) → IsSetup problem → IsMove act.what →
    act_refusal (opening_basis_of problem) (played_back problem) act ≡ None → IsSetup (record problem { version = Two; played = problem.played ++ act ∷ [] })
with_one_more problem act is move may =
    let few = room_for_one problem is in
    with_opening (record problem { version = Two }) (problem.played ++ act ∷ []) (in_version_two problem is) tt
    (omega (arith, few, length-append problem.played (act ∷ []))) (moves_append problem.played (act ∷ []) is.moves (move, tt))
    (subst (AreAllowed (opening_basis_of problem)) (sym (reverse-append problem.played (act ∷ []))) (is.allowed, may))

-- each turn of allowed ones is allowed after those before it
pub allowed_here : (basis : OpeningBasis) (acts : List Act) (i : ℕ) (act : Act) → i < length acts → act ≡ get_or acts i act →
    AreAllowed basis (reverse acts) → act_refusal basis (reverse (take i acts)) act ≡ None
allowed_here basis acts i act inside at allowed =
    (allowed_end basis (reverse (drop (i + 1) acts)) (act ∷ reverse (take i acts)) (subst (AreAllowed basis) (all_from_back acts i act inside at) allowed)).1

-- so it is not refused in the problem with those before it
pub not_refused_here : (target problem : Setup) (acts : List Act) (i : ℕ) (act : Act) (number : ℕ) → i < length acts → act ≡ get_or acts i act →
    problem ≡ record target { played = take i acts } → AreAllowed (opening_basis_of target) (reverse acts) →
    act_refusal (opening_basis_of problem) (played_back problem) act ≡ Some number → ⊥
not_refused_here target problem acts i act number inside at same allowed refused =
    let R : Setup → Type 0 = λ p. act_refusal (opening_basis_of p) (played_back p) act ≡ Some number in
    let none : None ≡ Some number = sym (allowed_here (opening_basis_of target) acts i act inside at allowed) ∙ subst R same refused in cc
