-- Turns of the owner that are sure, by their refusal, and how many of some turns are.
use Rattle.std.proofs.Common.{◌≡◌, ◌≤◌, inr, ℕ, ◌-◌, Bool, true, false, List, [], ◌∷◌, ◌++◌, take, drop, get_or, arith, refl}
use Rattle.std.proofs.Common.{Option, Some, None, sym, ap, subst, ◌∙◌}
use Rattle.std.specs.Prelude.{◌↔◌, IsTrue, length}
use Rattle.std.specs.List.{AllByRecursion}
use Rattle.std.proofs.lemmas.Bool.{false≢true}
use Rattle.std.proofs.lemmas.List.{take_all}
use Rattle.crib_cards.specs.declared.moves.Act.{Act}
use Rattle.crib_cards.specs.declared.moves.Move.{Move}
use Rattle.crib_cards.specs.declared.moves.Move.TheVariants as move
use Rattle.crib_cards.specs.declared.sides.Side.{Side}
use Rattle.crib_cards.specs.declared.sides.Side.TheVariants.{Owner}
use Rattle.crib_play.specs.History.{Event, Own, event_of}
use Rattle.crib_problem.specs.Refusals.{already_over}
use Rattle.crib_problem.specs.Setup.{IsSetup, Setup}
use Rattle.crib_know.specs.Knowledge.{played_events}
use Rattle.crib_sure.specs.Shows.{IsReachedBehind}
use Rattle.crib_search.specs.Finder.{ExceedsLimit}
use Rattle.crib_search.specs.Winnable.{IsWinnable}
use Rattle.crib_search.proofs.LawProofs.{sure_law}
use Rattle.crib_players.specs.Laws.{longer}
use Rattle.crib_leads.specs.Leads.{played_by, refusal_of}
use Rattle.crib_tables.specs.Turns.{AreSure, IsSureBy, IsSureTurn, own_turns}

-- a plan that is too large is sure
pub large_is_sure : (problem : Setup) → IsSetup problem → ExceedsLimit problem 65535 → IsWinnable problem
large_is_sure problem setup large = record { plan = large.0; sure = sure_law problem large.0 setup large.1 }

pub yes : {P : Type 0} → P → IsTrue true ↔ P
yes is = (λ _. is, λ _. refl)

pub no : {P : Type 0} → (P → ⊥) → IsTrue false ↔ P
no not = (λ e. absurd (false≢true e), λ is. absurd (not is))

-- a turn of the owner is seen as it is
own_event : (side : Side) (what : Move) → side ≡ Owner → event_of (record { side = side; what = what }) ≡ Own what
own_event side what own = ap (λ (one : Side). event_of (record { side = one; what = what })) own

module _ (problem : Setup) (act : Act) (sure : Bool) where
  -- a turn that nothing refuses
  pub going : (next : Setup) → refusal_of problem act ≡ None → next ≡ longer problem act → (IsTrue sure ↔ IsWinnable next) →
      IsTrue sure ↔ IsSureTurn problem act
  going next none same is =
      subst (λ (refusal : Option ℕ). IsTrue sure ↔ IsSureBy refusal problem act) (sym none)
      (subst (λ (setup : Setup). IsTrue sure ↔ IsWinnable setup) same is)

  -- a turn of the owner that ends the deal
  pub ended : act.side ≡ Owner → refusal_of problem act ≡ Some already_over →
      (IsTrue sure ↔ IsReachedBehind problem (Own act.what ∷ played_events problem)) → IsTrue sure ↔ IsSureTurn problem act
  ended own over is =
      let event : event_of act ≡ Own act.what = own_event act.side act.what own in
      let reached : IsTrue sure ↔ IsReachedBehind problem (event_of act ∷ played_events problem) =
      subst (λ (e : Event). IsTrue sure ↔ IsReachedBehind problem (e ∷ played_events problem)) (sym event) is
      in
      subst (λ (refusal : Option ℕ). IsTrue sure ↔ IsSureBy refusal problem act) (sym over) (λ yes. (refl, reached.0 yes), λ both. reached.1 both.1)

-- if the first of some turns is not sure, as many are as of the others
pub none_first : (problem : Setup) (acts : List Act) (act : Act) (count : ℕ) (sure : Bool) → 1 ≤ length acts → act ≡ get_or acts 0 act →
    AreSure problem (take (length acts - 1) (drop 1 acts)) count → sure ≡ false → (IsTrue sure ↔ IsSureTurn problem act) → AreSure problem acts count
none_first problem [] act count sure some first are not is = absurd (omega (arith, some))
none_first problem (one ∷ acts) act count sure some first are not is =
    inr (
      λ turn. false≢true (sym not ∙ is.1 (subst (IsSureTurn problem) (sym first) turn)),
      subst (λ (others : List Act). AreSure problem others count) (take_all (length (one ∷ acts) - 1) acts (omega arith)) are,
    )

-- the turns that can be sure are the owner's, and with four cards there are five
all_own : (cards : List ℕ) → AllByRecursion (λ (act : Act). act.side ≡ Owner) (played_by Owner cards ++ record { side = Owner; what = move.Go } ∷ [])
all_own [] = (refl, tt)
all_own (card ∷ cards) = (refl, all_own cards)

pub turns_are_own : (problem : Setup) → AllByRecursion (λ (act : Act). act.side ≡ Owner) (own_turns problem)
turns_are_own problem = all_own problem.hold
