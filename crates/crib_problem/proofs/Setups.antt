-- How a problem is shown to be valid: by a test of its cards and scores, or from one with another opening.
use Rattle.std.proofs.Common.{◌≡◌, ℕ, ◌≤◌, Bool, true, eqb, leb, ltb, ◌&&◌, List, [], ◌∷◌, length, reverse, refl, arith}
use Rattle.std.specs.List.{AllByRecursion, list_all}
use Rattle.std.proofs.lemmas.Bool.{and_parts, eqb-true, leb-true}
use Rattle.crib_cards.specs.Cards.{IsCard}
use Rattle.crib_cards.specs.Sets.{are_distinct}
use Rattle.crib_cards.specs.declared.moves.Act.{Act}
use Rattle.crib_problem.specs.Played.{AreAllowed}
use Rattle.crib_problem.specs.Setup.{Setup, IsSetup, IsGoal, IsMove, CanSay, known_cards, opening_basis_of, played_back}
use Rattle.crib_problem.specs.declared.problem.Goal.{Goal}
use Rattle.crib_problem.specs.declared.problem.Version.{Version}
use Rattle.crib_problem.specs.declared.problem.Version.TheVariants.{One, Two}

abbrev pub AllMoves : List Act → Type 0
AllMoves acts = AllByRecursion (λ (act : Act). IsMove act.what) acts

pub says_goal : (version : Version) (goal : Goal) (played : List Act) → CanSay version goal played → CanSay version goal []
says_goal One goal played says = (says.0, refl)
says_goal Two goal played says = tt

-- a problem may have another opening that is allowed
pub with_opening : (problem : Setup) (acts : List Act) → IsSetup problem → CanSay problem.version problem.goal acts → length acts ≤ 32 → AllMoves acts →
    AreAllowed (opening_basis_of problem) (reverse acts) → IsSetup (record problem { played = acts })
with_opening problem acts is can few moves allowed = assumption

pub without_opening : (problem : Setup) → IsSetup problem → IsSetup (record problem { played = [] })
without_opening problem is = with_opening problem [] is (says_goal problem.version problem.goal problem.played is.of_version) (omega arith) tt tt

-- ---- by a test
all_cards : (cards : List ℕ) → list_all (λ card. ltb card 52) cards ≡ true → AllByRecursion IsCard cards
all_cards [] all = tt
all_cards (card ∷ cards) all = let parts = and_parts (ltb card 52) _ all in (leb-true _ _ parts.0, all_cards cards parts.1)

-- whether the cards and the scores of a problem are possible
abbrev pub is_dealt : Setup → Bool
is_dealt problem =
    (eqb (length problem.hold) 4 && eqb (length problem.thrown) 2)
    && ((list_all (λ card. ltb card 52) (known_cards problem) && are_distinct (known_cards problem))
    && (leb problem.scores.owner 120 && leb problem.scores.opponent 120))

pub setup_from : (problem : Setup) → is_dealt problem ≡ true → IsGoal problem.scores.owner problem.goal →
    CanSay problem.version problem.goal problem.played → length problem.played ≤ 32 → AllMoves problem.played →
    AreAllowed (opening_basis_of problem) (played_back problem) → IsSetup problem
setup_from problem dealt goal can few moves allowed =
    let parts = and_parts _ _ dealt in
    let lengths = and_parts _ _ parts.0 in
    let others = and_parts _ _ parts.1 in
    let cards = and_parts _ _ others.0 in
    let scores = and_parts _ _ others.1 in
    record {
      held = eqb-true _ _ lengths.0;
      two_thrown = eqb-true _ _ lengths.1;
      cards = all_cards (known_cards problem) cards.0;
      distinct = cards.1;
      owner_score = leb-true _ _ scores.0;
      opponent_score = leb-true _ _ scores.1;
      goal_in_range = goal;
      of_version = can;
      few = few;
      moves = moves;
      allowed = allowed;
    }
