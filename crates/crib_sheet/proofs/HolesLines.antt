-- How many holes are sure, as the writers put it.
use Rattle.std.proofs.Common.{◌≡◌, ◌<◌, ◌≤◌, ◌-◌, ℕ, List, [], ◌∷◌, ◌++◌, length, get_or, take, drop, Some, codes, decimal, arith, refl, rules, subst}
use Rattle.std.proofs.lemmas.Bool.{le-leb}
use Rattle.std.proofs.lemmas.List.{take_all}
use Rattle.crib_cards.specs.declared.sides.Side.{Side}
use Rattle.crib_cards.specs.declared.sides.Side.TheVariants.{Owner, Opponent}
use Rattle.crib_problem.specs.Setup.{Setup, IsSetup}
use Rattle.crib_tables.specs.Holes.{AreHoles}
use Rattle.crib_tables.specs.declared.holes.Holes.{Holes}
use Rattle.crib_tables.specs.declared.holes.TurnHoles.{TurnHoles}
use Rattle.crib_sheet.specs.Holes.{AreAtZero, at_zero, parts_text, turn_line, turn_lines}

pub zero_counted : (problem other : Setup) (holes : Holes) → other ≡ at_zero problem → IsSetup other → AreHoles other holes
    → AreAtZero problem (Some holes)
zero_counted problem other holes same setup counted =
    (subst IsSetup same setup, subst (λ (its : Setup). AreHoles its holes) same counted)

pub parts_are : (dealer : Side) (hand holes : ℕ) → dealer ≡ Opponent → hand ≤ holes
    → (((codes ", " ++ decimal (holes - hand)) ++ codes " in the play and ") ++ decimal hand) ++ codes " in the show" ≡ parts_text dealer hand holes
parts_are Owner hand holes is fits = absurd (let same : ◌≡◌ {A = Side} Owner Opponent = is in cc)
parts_are Opponent hand holes is fits = rw (le-leb hand holes fits) (search rules)

pub turns_alone : (turns others : List TurnHoles) → length others < 1 → [] ≡ turn_lines turns others
turns_alone [] others none = refl
turns_alone (turn ∷ turns) [] none = refl
turns_alone (turn ∷ turns) (other ∷ others) none = absurd (omega (arith, none))

pub turns_beside : (turns others : List TurnHoles) (turn other one another : TurnHoles) → 1 ≤ length turns → 1 ≤ length others
    → turn ≡ get_or turns 0 one → other ≡ get_or others 0 another
    → turn_line turn other.holes ++ turn_lines (take (length turns - 1) (drop 1 turns)) (take (length others - 1) (drop 1 others))
    ≡ turn_lines turns others
turns_beside [] others turn other one another some more is too = absurd (omega (arith, some))
turns_beside (first ∷ turns) [] turn other one another some more is too = absurd (omega (arith, more))
turns_beside (first ∷ turns) (second ∷ others) turn other one another some more is too =
    rw (is, too, take_all (length (first ∷ turns) - 1) turns (omega arith), take_all (length (second ∷ others) - 1) others (omega arith)) refl
