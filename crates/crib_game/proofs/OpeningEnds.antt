-- When the opening is over, and that it stays over.
use Rattle.std.proofs.Common.{◌≡◌, ℕ, zero, suc, ◌≤◌, leb, not, List, [], ◌∷◌, ◌++◌, length, refl, sym, ap}
use Rattle.std.proofs.Common.{◌∙◌, inl, inr, arith}
use Rattle.std.specs.Prelude.{slice_get, is_some}
use Rattle.std.proofs.lemmas.Bool.{cases_Bool, leb-true, le-leb}
use Rattle.std.proofs.lemmas.Bool.Decides.{nat_tests}
use Rattle.std.proofs.lemmas.List.{length-append, length-reverse}
use Rattle.crib_cards.specs.Letters.{letter_of}
use Rattle.crib_cards.specs.Start.{pone_of}
use Rattle.crib_cards.specs.declared.sides.Side.{Side}
use Rattle.crib_cards.specs.declared.moves.Move.{Move}
use Rattle.crib_cards.specs.declared.moves.Act.{Act}
use Rattle.crib_play.specs.Filled.{is_visible}
use Rattle.crib_play.specs.Legal.{letters_of}
use Rattle.crib_play.specs.History.{acts_of, act_by}
use Rattle.crib_play.proofs.FilledRecords.{acts_visible, acts_silent}
use Rattle.crib_problem.specs.Setup.{start_of, played_back}
use Rattle.crib_game.specs.FollowLaws.{OverLaw, StaysOverLaw, OverAfterLaw}

-- a list has an item at each index below its length, and at no other
at_index : (played : List Act) (n : ℕ) → leb (length played) n ≡ not (is_some (slice_get played n))
at_index [] n = grind (arith, nat_tests)
at_index (act ∷ played) zero = grind (arith, nat_tests)
at_index (act ∷ played) (suc n) = grind (arith, nat_tests, at_index played n)

pub over_is : OverLaw
over_is played pone past = at_index played (length (acts_of pone past))

-- each further turn adds a visible turn or none
acts_more : (pone : Side) (turn : Move) (past : List Move) → length (acts_of pone past) ≤ length (acts_of pone (turn ∷ past))
acts_more pone turn past = grind arith

pub stays_over : StaysOverLaw
stays_over played pone turn past over =
    let enough = leb-true (length played) (length (acts_of pone past)) over in
    let more = acts_more pone turn past in
    le-leb (length played) (length (acts_of pone (turn ∷ past))) (omega (arith, enough, more))

-- the visible turns of a longer record end in those of the shorter one
record Ends (pone : Side) (later past : List Move) : Type 0 where
  more : List Act
  parts : acts_of pone (later ++ past) ≡ more ++ acts_of pone past

ends : (pone : Side) (later past : List Move) → Ends pone later past
ends pone [] past = record { more = []; parts = refl }
ends pone (turn ∷ later) past =
    let rest = ends pone later past in
    let act = act_by pone turn (later ++ past) in
    elim (cases_Bool (is_visible pone (letter_of turn) (letters_of (later ++ past)))) [
      | inl v ↦ record { more = act ∷ rest.more; parts = acts_visible pone turn (later ++ past) v ∙ ap (λ (acts : List Act). act ∷ acts) rest.parts }
      | inr v ↦ record { more = rest.more; parts = acts_silent pone turn (later ++ past) v ∙ rest.parts }
    ]

-- of two ends of a list, the longer one ends in the other
shorter_end : (more acts later opening : List Act) → more ++ acts ≡ later ++ opening → length opening ≤ length acts →
    (between : List Act) × (acts ≡ between ++ opening)
shorter_end [] acts later opening same long = (later, same)
shorter_end (act ∷ more) acts [] opening same long =
    let whole = ap length same in
    let parts = length-append more acts in
    absurd (omega (arith, whole, parts, long))
shorter_end (act ∷ more) acts (other ∷ later) opening same long =
    let rest : more ++ acts ≡ later ++ opening = cc in shorter_end more acts later opening rest long

pub over_after : OverAfterLaw
over_after problem later past begins =
    let pone = pone_of (start_of problem) in
    let acts = acts_of pone past in
    let opening = played_back problem in
    let whole = ends pone later past in
    let back = length-reverse problem.played in (
      λ over. (
          let enough = leb-true (length problem.played) (length acts) over in
          let end = shorter_end whole.more acts begins.later opening (sym whole.parts ∙ begins.parts) (omega (arith, enough, back)) in
          record { later = end.0; parts = end.1 }
          ),
      λ here. (
          let long = ap length here.parts ∙ length-append here.later opening in
          le-leb (length problem.played) (length acts) (omega (arith, long, back))
          ),
    )
