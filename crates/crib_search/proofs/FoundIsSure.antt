-- A plan that represents the tree that is found is sure. The tree may be found after a longer opening than that of the problem.
use Rattle.std.proofs.Common.{◌≡◌, ℕ, true, List, [], ◌∷◌, Some, refl, inl, inr}
use Rattle.crib_cards.specs.Start.{Start, pone_of}
use Rattle.crib_cards.specs.declared.sides.Dealt.{Dealt}
use Rattle.crib_cards.specs.declared.letters.Letter.{Letter}
use Rattle.crib_cards.specs.declared.moves.Move.{Move}
use Rattle.crib_cards.specs.declared.moves.Move.TheVariants as move
use Rattle.crib_cards.specs.declared.moves.Act.{Act}
use Rattle.crib_cards.proofs.Members.{has_here}
use Rattle.crib_play.specs.declared.turns.Turn.TheVariants as turns
use Rattle.crib_play.specs.Score.{is_done}
use Rattle.crib_play.specs.Legal.{letters_of}
use Rattle.crib_play.specs.History.{Event, Own, history_of}
use Rattle.crib_play.proofs.FilledRecords.{not_silent_done}
use Rattle.crib_show.specs.declared.show.outcomes.Outcome.TheVariants.{Reached}
use Rattle.crib_problem.specs.declared.problem.Version.{Version}
use Rattle.crib_problem.specs.Setup.{Setup, IsSetup, start_of, IsDealOf}
use Rattle.crib_plan.specs.declared.plan.Node.{Node}
use Rattle.crib_plan.specs.Places.{plan_start}
use Rattle.crib_game.specs.Replay.{outcome_for, play_scores}
use Rattle.crib_know.specs.Knowledge.{asked_now, played_events}
use Rattle.crib_know.specs.Hidden.{CanShow}
use Rattle.crib_know.proofs.PassingIsAgreeing.{theirs_asked}
use Rattle.crib_sure.specs.Sure.{IsFollowed, IsSure}
use Rattle.crib_search.specs.Trees.{Tree}
use Rattle.crib_search.specs.Finder.{Found, options, OwnerFinds, Finds}
use Rattle.crib_search.specs.Private.States.{IsOption}
use Rattle.crib_search.proofs.Options.{option_is, no_option}
use Rattle.crib_search.proofs.RecordHistories.{letters_whole, agrees_of_record}
use Rattle.crib_search.proofs.PlacesOfTrees.{Stands, joined_does}
use Rattle.crib_search.proofs.FoundBySide.{for_asked, tries_some, branch_found, opponent_some}
use Rattle.crib_search.proofs.UnstuckPlans.{PlaysOn, SeesOn, GoOn, At, at_record, never_stuck}

-- a problem with another opening, each deal of which is a deal of the first problem
module _ (problem : Setup) (setup : IsSetup problem) (version : Version) (acts : List Act)
    (setup_later : IsSetup (record problem { version = version; played = acts }))
    (deals : (dealt : Dealt) → IsDealOf (record problem { version = version; played = acts }) dealt → IsDealOf problem dealt) where
  abbrev later : Setup
  later = record problem { version = version; played = acts }

  -- the finder finds a tree after a history
  abbrev IsFoundAt : List Event → Tree → Type 0
  IsFoundAt history tree = (more : ℕ) × Finds more problem history (Some tree)

  found_plays : (history : List Event) (tree : Tree) (card : ℕ) → IsFoundAt history tree → asked_now later history ≡ turns.Owner →
      IsOption later history card → PlaysOn later IsFoundAt history tree
  found_plays history tree card found asked is =
      let now = for_asked found.0 problem history (Some tree) turns.Owner asked found.1 in by now.0 (options later history) refl now.1
    where
      by : (more : ℕ) (cards : List ℕ) → options later history ≡ cards →
          OwnerFinds (λ further after. Finds more problem further after) history cards (Some tree) → PlaysOn later IsFoundAt history tree
      by more [] none finds = absurd (no_option later history none card is)
      by more (first ∷ cards) e finds =
          let tried = tries_some (λ further after. Finds more problem further after) history (first ∷ cards) tree finds in
          record {
            card = tried.0;
            next = tried.1;
            option = option_is later history tried.0 (rw e tried.2);
            goes = (more, tried.3);
            plays = tried.4;
          }

  found_passes : (history : List Event) (tree : Tree) → IsFoundAt history tree → asked_now later history ≡ turns.Owner →
      ((card : ℕ) → IsOption later history card → ⊥) → IsFoundAt (Own move.Go ∷ history) tree
  found_passes history tree found asked none =
      let now = for_asked found.0 problem history (Some tree) turns.Owner asked found.1 in by now.0 (options later history) refl now.1
    where
      by : (more : ℕ) (cards : List ℕ) → options later history ≡ cards →
          OwnerFinds (λ further after. Finds more problem further after) history cards (Some tree) → IsFoundAt (Own move.Go ∷ history) tree
      by more [] e finds = (more, finds)
      by more (first ∷ cards) e finds = absurd (none first (option_is later history first (rw e (has_here first cards))))

  found_sees : (history : List Event) (tree : Tree) (letter : Letter) → IsFoundAt history tree → CanShow later history letter →
      SeesOn later IsFoundAt history letter tree
  found_sees history tree letter found can =
      let now = for_asked found.0 problem history (Some tree) turns.Opponent (theirs_asked later setup_later history letter can) found.1 in
      let find : Found = λ further after. Finds now.0 problem further after in
      let some = opponent_some find problem history tree now.1 in
      let branch = branch_found problem setup history find some.0 letter (can.0, (deals can.0 can.1.0, can.1.1)) some.1 in
      record {
        branch = branch.0;
        goes = (now.0, branch.2);
        does = λ plan place does. joined_does plan some.0 letter branch.0 branch.1 place (rw some.2 at does);
      }

  found_on : GoOn later IsFoundAt
  found_on = record { plays = found_plays; passes = found_passes; sees = found_sees }

  module _ (plan : List Node) (tree : Tree) (found : IsFoundAt (played_events later) tree) (stands : Stands plan tree (plan_start plan)) where
    module _ (dealt : Dealt) (played : List Move) (followed : IsFollowed later plan dealt played) where
      abbrev start : Start
      start = start_of problem

      abbrev history : List Event
      history = history_of (pone_of start) played

      here : At later setup_later plan IsFoundAt found_on history
      here = at_record later setup_later plan IsFoundAt found_on tree found stands dealt played followed

      reached : is_done start (letters_of played) ≡ true → outcome_for later dealt (play_scores later played) ≡ Reached
      reached done =
          let whole = letters_whole later setup_later dealt followed.deal played followed.legal (not_silent_done start (letters_of played) done) in
          let over : asked_now problem history ≡ turns.Over =
          rw (← whole, done) in
          let agrees = agrees_of_record later setup_later dealt followed.deal played followed.legal in
          rw whole
          (elim (for_asked here.goes.0 problem history (Some here.tree) turns.Over over here.goes.1).1 [
            | inl all ↦ all.0 dealt (deals dealt agrees.0, agrees.1)
            | inr lacks ↦ absurd (cc (lacks.1))
          ])

    pub sure_from : IsSure later plan
    sure_from = record {
      never_stuck = never_stuck later setup_later plan IsFoundAt found_on tree found stands;
      reached = reached;
    }
