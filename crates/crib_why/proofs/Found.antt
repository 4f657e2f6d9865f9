-- What the search has found, one turn before and after each card of the opponent.
use Rattle.std.specs.Prelude.{◌⊎◌}
use Rattle.std.proofs.Common.{arith, ◌≡◌, ℕ, Bool, true, false, not, ◌&&◌, eqb, List, [], Option, Some, None, refl, sym, ap, subst, ◌∙◌, inl, inr}
use Rattle.std.specs.declared.vec.Vec.{Vec}
use Rattle.std.proofs.lemmas.Bool.{both_ways, cases_Bool, eqb-true}
use Rattle.std.proofs.lemmas.Bool.Decides.{nat_tests}
use Rattle.std.proofs.lemmas.Option.{none-some}
use Rattle.crib_cards.specs.Cards.{IsCard, rank_of}
use Rattle.crib_cards.specs.Sets.{has, set_where, set_without}
use Rattle.crib_cards.specs.declared.letters.Letter.TheVariants.{Seen}
use Rattle.crib_cards.specs.Letters.{letter_of}
use Rattle.crib_cards.specs.declared.sides.Side.{Side}
use Rattle.crib_cards.specs.declared.sides.Side.TheVariants.{Owner, Opponent}
use Rattle.crib_cards.specs.declared.moves.Move.{Move}
use Rattle.crib_cards.specs.declared.moves.Move.TheVariants as move
use Rattle.crib_cards.proofs.SetFacts.{has-set_without}
use Rattle.crib_cards.proofs.SetLemmas.{has-set_where}
use Rattle.crib_problem.specs.Setup.{Setup}
use Rattle.crib_know.specs.Knowledge.{Knowledge, played_events}
use Rattle.crib_know.specs.Hidden.{CanShow, CanDoAt, CanShowAt}
use Rattle.crib_plan.specs.declared.plan.Node.{Node}
use Rattle.crib_sure.specs.Sure.{IsSure}
use Rattle.crib_game.specs.declared.section.game.Game.{Game}
use Rattle.crib_search.specs.declared.finder.Found.{Found}
use Rattle.crib_search.specs.declared.finder.Found.TheVariants as answers
use Rattle.crib_search.specs.Answer.{plan_found}
use Rattle.crib_search.specs.Winnable.{IsWinnable}
use Rattle.crib_players.specs.Refutations.{Refutes}
use Rattle.crib_players.specs.Laws.{longer}
use Rattle.crib_why.specs.Answer.{SomeIsSure}
use Rattle.crib_why.specs.Private.Search.{CanComeAs, IsFound, IsFoundWith, RefutesWith}
use Rattle.crib_why.proofs.Ended.{refutes_longer}
use Rattle.crib_why.proofs.SureAfter.{theirs}

-- what is found for the problem with one turn more
pub found_longer : {A : Type 0} (problem next : Setup) (side : Side) (what : Move) (found : Option (Vec Game A)) →
    next ≡ longer problem (record { side = side; what = what }) → IsFound next found → IsFoundWith problem (record { side = side; what = what }) found
found_longer problem next side what None same sure = subst SomeIsSure same sure
found_longer problem next side what (Some games) same refutes =
    refutes_longer problem side what games.items (subst (λ (setup : Setup). Refutes setup games.items) same refutes)

-- what is found with a turn that is no card of the owner
pub found_before : {A : Type 0} (problem : Setup) (side : Side) (what : Move) (found : Option (Vec Game A)) →
    ((games : List Game) → RefutesWith problem side what games → Refutes problem games) →
    (SomeIsSure (longer problem (record { side = side; what = what })) → SomeIsSure problem) →
    IsFoundWith problem (record { side = side; what = what }) found → IsFound problem found
found_before problem side what None refutes sure is = sure is
found_before problem side what (Some games) refutes sure is = refutes games.items is

-- ---- the cards of the opponent, tried one by one
abbrev pub IsTried : Setup → ℕ → Type 0
IsTried problem card = CanShow problem (played_events problem) (Seen (rank_of card)) → SomeIsSure (longer problem (theirs (move.Card card)))

-- each card that is no longer in a set
pub record AreTried (problem : Setup) (rest : List ℕ) : Type 0 where
  pub tried : (card : ℕ) → IsCard card → has rest card ≡ false → IsTried problem card

pub tried_none : (problem : Setup) → AreTried problem (set_where (λ card. true))
tried_none problem = record { tried = λ card is gone. absurd (both_ways _ gone (has-set_where (λ c. true) card is)) }

kept_or_same : (kept same : Bool) → (kept && not same) ≡ false → same ≡ false → kept ≡ false
kept_or_same kept same e other = grind (arith, nat_tests, e, other)

pub tried_more : (problem : Setup) (rest less : List ℕ) (card : ℕ) → less ≡ set_without rest card → AreTried problem rest → IsTried problem card →
    AreTried problem less
tried_more problem rest less card is are one = record {
  tried = λ other real gone. elim (cases_Bool (eqb other card)) [
    | inl same ↦ subst (IsTried problem) (sym (eqb-true other card same)) one
    | inr apart ↦ are.tried other real (kept_or_same (has rest other) (eqb other card)
        (sym (has-set_without rest card other real) ∙ ap (λ (cards : List ℕ). has cards other) (sym is) ∙ gone) apart)
  ];
}

pub tried_all : (problem : Setup) → AreTried problem [] → (card : ℕ) → IsCard card → IsTried problem card
tried_all problem are card is = are.tried card is refl

-- ---- a turn that can come next
pub come_own : {side : Side} (know : Knowledge) (what : Move) → side ≡ Owner → CanComeAs know side what → CanDoAt know what
come_own know what same can = subst (λ (s : Side). CanComeAs know s what) same can

pub come_theirs : {side : Side} (know : Knowledge) (what : Move) → side ≡ Opponent → CanComeAs know side what → CanShowAt know (letter_of what)
come_theirs know what same can = subst (λ (s : Side). CanComeAs know s what) same can

pub some_none : (refused : Option ℕ) (number : ℕ) → refused ≡ Some number → refused ≡ None → ⊥
some_none refused number is none = none-some number (sym none ∙ is)

-- what the finder has found: a sure plan, or none
pub winnable_or_none : {A : Type 0} (problem : Setup) (found : Found A) → ((plan : List Node) → plan_found found ≡ Some plan → IsSure problem plan) →
    IsWinnable problem ⊎ (found ≡ answers.None)
winnable_or_none problem (answers.Plan plan) sure = inl (record { plan = plan; sure = sure plan refl })
winnable_or_none problem answers.None sure = inr refl

pub plan_none : {A : Type 0} (plan : List Node) → ◌≡◌ {A = Found A} (answers.Plan plan) answers.None → ⊥
plan_none plan same = cc
