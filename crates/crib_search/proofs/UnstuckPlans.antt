-- A plan is never stuck, if its places represent trees that state a card wherever the owner has to choose one.
use Rattle.std.proofs.Common.{arith, ◌≡◌, ℕ, Bool, true, false, not, ◌&&◌, List, [], ◌∷◌, ◌++◌, map, Some, refl, sym, ap, ◌∙◌, inl, inr}
use Rattle.std.specs.List.{list_any}
use Rattle.std.proofs.lemmas.List.{map-append}
use Rattle.std.proofs.lemmas.Bool.{and_from}
use Rattle.std.proofs.lemmas.Bool.Decides.{nat_tests}
use Rattle.std.proofs.lemmas.Option.{same_Some}
use Rattle.crib_cards.specs.Sets.{has}
use Rattle.crib_cards.specs.Sides.{same_side}
use Rattle.crib_cards.specs.Start.{Start, pone_of, Hands}
use Rattle.crib_cards.specs.declared.sides.Side.TheVariants.{Owner}
use Rattle.crib_cards.specs.declared.sides.Dealt.{Dealt}
use Rattle.crib_cards.specs.declared.letters.Letter.{Letter}
use Rattle.crib_cards.specs.declared.moves.Move.{Move}
use Rattle.crib_cards.specs.declared.moves.Move.TheVariants as move
use Rattle.crib_cards.proofs.Members.{any_found}
use Rattle.crib_play.specs.declared.turns.Turn.TheVariants as turns
use Rattle.crib_play.specs.Record.{mover}
use Rattle.crib_play.specs.Score.{is_done}
use Rattle.crib_play.specs.Filled.{is_silent_next}
use Rattle.crib_play.specs.Legal.{letters_of, cards_left, fits, MayCome}
use Rattle.crib_play.specs.History.{visible_moves, filled_moves, Event, Own, Theirs, event_of, history_of}
use Rattle.crib_play.proofs.FilledRecords.{not_silent_heard}
use Rattle.crib_play.proofs.TurnFacts.{play_of, heard_card, same_is}
use Rattle.crib_problem.specs.Setup.{Setup, IsSetup, start_of, hands_of, played_back}
use Rattle.crib_plan.specs.declared.plan.Next.{Next}
use Rattle.crib_plan.specs.declared.plan.Node.{Node}
use Rattle.crib_plan.specs.declared.plan.Node.TheVariants.{Play}
use Rattle.crib_plan.specs.Places.{plan_start, node_at, card_of_node, place_after_letter, stated_card}
use Rattle.crib_game.specs.Following.{place_of, is_playable, is_stuck}
use Rattle.crib_know.specs.Knowledge.{asked_now, played_events}
use Rattle.crib_know.specs.Hidden.{BeginsAfter, CanShow}
use Rattle.crib_know.proofs.LedHistories as know
use Rattle.crib_know.proofs.LedHistories.{IsLed}
use Rattle.crib_know.proofs.Deals.{dealt_is}
use Rattle.crib_sure.specs.HistoryPlaces.{place_by, IsStatedEvent, FollowsBy}
use Rattle.crib_sure.specs.Sure.{IsFollowed}
use Rattle.crib_sure.proofs.PlaceByHistory.{begun_late, place_at_start, place_later, place_history, follows_to}
use Rattle.crib_search.specs.Trees.{Tree, Plays}
use Rattle.crib_search.specs.Tried.{IsNeverStuck}
use Rattle.crib_search.specs.Private.States.{IsOption}
use Rattle.crib_search.proofs.Options.{option_left, none_left}
use Rattle.crib_search.proofs.PlacesOfTrees.{Stands, Does}
use Rattle.crib_search.proofs.RecordHistories.{led_by_record, is_whole, shown_by, left_of, fits_past}

-- a place is not stuck, if it states a card that may be played where the owner is asked and a card fits
free_if : (done who any playable : Bool) → (done ≡ false → who ≡ true → any ≡ true → playable ≡ true) → (not done && who && any && not playable) ≡ false
free_if done who any playable states = grind (arith, nat_tests)

module _ (problem : Setup) (Goes : List Event → Tree → Type 0) where
  -- the card that a tree plays after a history
  pub record PlaysOn (history : List Event) (tree : Tree) : Type 0 where
    pub card : ℕ
    pub next : Tree
    pub option : IsOption problem history card
    pub goes : Goes (Own (move.Card card) ∷ history) next
    pub plays : tree ≡ Plays card next

  -- the tree after a letter
  pub record SeesOn (history : List Event) (letter : Letter) (tree : Tree) : Type 0 where
    pub branch : Tree
    pub goes : Goes (Theirs letter ∷ history) branch
    pub does : (plan : List Node) (place : Next) → Does plan tree place → Does plan branch (place_after_letter plan place letter)

  -- whatever comes next, such trees go on
  pub record GoOn : Type 0 where
    pub plays : (history : List Event) (tree : Tree) (card : ℕ) → Goes history tree → asked_now problem history ≡ turns.Owner →
        IsOption problem history card → PlaysOn history tree
    pub passes : (history : List Event) (tree : Tree) → Goes history tree → asked_now problem history ≡ turns.Owner →
        ((card : ℕ) → IsOption problem history card → ⊥) → Goes (Own move.Go ∷ history) tree
    pub sees : (history : List Event) (tree : Tree) (letter : Letter) → Goes history tree → CanShow problem history letter → SeesOn history letter tree

module _ (problem : Setup) (setup : IsSetup problem) (plan : List Node) (Goes : List Event → Tree → Type 0) (on : GoOn problem Goes) where
  -- after a history, the place of the plan will do for a tree that goes on
  pub record At (history : List Event) : Type 0 where
    pub tree : Tree
    pub goes : Goes history tree
    pub does : Does plan tree (place_by plan problem.played history)

  -- ---- the owner is asked and a card fits: the place states a card that is an option
  record Stated (history : List Event) : Type 0 where
    card : ℕ
    next : Tree
    after : Next
    option : IsOption problem history card
    goes : Goes (Own (move.Card card) ∷ history) next
    node : node_at plan (place_by plan problem.played history) ≡ Some (Play card after)
    stands : Stands plan next after

  stated_at : (history : List Event) → At history → asked_now problem history ≡ turns.Owner → (card : ℕ) → IsOption problem history card → Stated history
  stated_at history at asked card is =
      let tried = on.plays history at.tree card at.goes asked is in
      elim (rw tried.plays at at.does) [
        | inl e ↦ absurd cc
        | inr stands ↦
            record { card = tried.card; next = tried.next; after = stands.0; option = tried.option; goes = tried.goes; node = stands.1; stands = stands.2 }
      ]

  -- ---- one turn further
  own_card_at : (history : List Event) → BeginsAfter problem history → (card : ℕ) → Stated history → stated_card plan (place_by plan problem.played history)
      ≡ Some card → At (Own (move.Card card) ∷ history)
  own_card_at history begun card stated is =
      let same : stated.card ≡ card = same_Some stated.card card (sym (ap card_of_node stated.node) ∙ is) in
      record {
        tree = stated.next;
        goes = rw same at stated.goes;
        does = inr (rw (place_later plan problem (Own (move.Card card)) history begun, stated.node) stated.stands);
      }

  own_go_at : (history : List Event) → BeginsAfter problem history → At history → asked_now problem history ≡ turns.Owner →
      ((card : ℕ) → IsOption problem history card → ⊥) → At (Own move.Go ∷ history)
  own_go_at history begun at asked none = record {
    tree = at.tree;
    goes = on.passes history at.tree at.goes asked none;
    does = rw (place_later plan problem (Own move.Go) history begun) at.does;
  }

  theirs_at : (history : List Event) → BeginsAfter problem history → (letter : Letter) → At history → CanShow problem history letter →
      At (Theirs letter ∷ history)
  theirs_at history begun letter at can =
      let seen = on.sees history at.tree letter at.goes can in
      record {
        tree = seen.branch;
        goes = seen.goes;
        does = rw (place_later plan problem (Theirs letter) history begun) (seen.does plan (place_by plan problem.played history) at.does);
      }

  module _ (tree : Tree) (goes : Goes (played_events problem) tree) (stands : Stands plan tree (plan_start plan)) where
    -- the same after every history that can be next and follows the plan
    at_all : (later : List Event) → IsLed problem (later ++ played_events problem) → FollowsBy plan problem.played (later ++ played_events problem) →
        At (later ++ played_events problem)
    at_all [] led follows = record { tree = tree; goes = goes; does = inr (rw (place_at_start plan problem) stands) }
    at_all (event ∷ later) led follows =
        at_event event (later ++ played_events problem) (record { later = later; parts = refl }) (at_all later led.0 follows.0) led.1
        (follows.1 (begun_late problem (later ++ played_events problem) (record { later = later; parts = refl })))
      where
        at_event : (event : Event) (history : List Event) → BeginsAfter problem history → At history → know.MayCome problem history event →
            IsStatedEvent plan (place_by plan problem.played history) event → At (event ∷ history)
        at_event (Own (move.Card card)) history begun at may is =
            own_card_at history begun card (stated_at history at may.0 card (option_left problem history card may.1 may.2)) is
        at_event (Own move.Go) history begun at may is = own_go_at history begun at may.0 (λ card option. none_left problem history card setup may.1 option)
        at_event (Theirs letter) history begun at may is = theirs_at history begun letter at may

    module _ (dealt : Dealt) (played : List Move) (followed : IsFollowed problem plan dealt played) where
      abbrev start : Start
      start = start_of problem

      abbrev hands : Hands
      hands = hands_of problem dealt

      abbrev history : List Event
      history = history_of (pone_of start) played

      pub at_record : At history
      at_record =
          let parts : history ≡ map event_of followed.begins.later ++ played_events problem =
          ap (map event_of) followed.begins.parts ∙ map-append event_of followed.begins.later (played_back problem) in
          rw parts
          (at_all (map event_of followed.begins.later) (rw (← parts) (led_by_record problem setup dealt followed.deal played followed.legal))
          (rw (← parts) (follows_to plan problem.played (pone_of start) played followed.follows)))

      -- ---- a record where a card of the owner fits
      module _ (card : ℕ) (not_done : is_done start (letters_of played) ≡ false) (mine : mover (pone_of start) (letters_of played) ≡ Owner)
          (held : has (cards_left hands Owner played) card ≡ true) (fit : fits played card ≡ true) where
        stops : is_silent_next start (letters_of played) ≡ false
        stops =
            not_silent_heard start (letters_of played)
            (rw mine
            (heard_card start hands played (play_of start hands (dealt_is problem setup dealt followed.deal) played followed.legal) Owner card held fit))

        may : MayCome start hands (move.Card card) played
        may = record { not_done = not_done; may_take = rw mine (held, fit) }

        can : know.MayCome problem history (Own (move.Card card))
        can = rw mine at ((led_by_record problem setup dealt followed.deal (move.Card card ∷ played) (followed.legal, may)).1)

        stated : Stated history
        stated = stated_at history at_record can.0 card (option_left problem history card can.1 can.2)

        whole : filled_moves start (visible_moves (pone_of start) played) ≡ played
        whole = is_whole problem setup dealt followed.deal played followed.legal stops

        playable : is_playable hands played (stated_card plan (place_of plan problem.played (pone_of start) played)) ≡ true
        playable =
            ap (λ (place : Next). is_playable hands played (stated_card plan place)) (place_history plan problem.played (pone_of start) played)
            ∙ ap (is_playable hands played) (ap card_of_node stated.node)
            ∙ and_from (has (cards_left hands Owner played) stated.card) (fits played stated.card)
            (ap (λ (past : List Move). has (cards_left hands Owner past) stated.card) (sym whole)
            ∙ left_of problem setup dealt followed.deal history (shown_by problem setup dealt followed.deal played followed.legal) stated.card
            stated.option.held stated.option.free)
            (ap (λ (past : List Move). fits past stated.card) (sym whole)
            ∙ fits_past problem setup dealt followed.deal history (shown_by problem setup dealt followed.deal played followed.legal) stated.card
            ∙ stated.option.fits)

      unstuck : is_stuck plan problem.played start hands played ≡ false
      unstuck =
          free_if (is_done start (letters_of played)) (same_side (mover (pone_of start) (letters_of played)) Owner)
          (list_any (fits played) (cards_left hands Owner played))
          (is_playable hands played (stated_card plan (place_of plan problem.played (pone_of start) played)))
          (λ going mine any.
          let found = any_found (fits played) (cards_left hands Owner played) any in
          playable found.0 going (same_is (mover (pone_of start) (letters_of played)) Owner mine) found.1 found.2)

    pub never_stuck : IsNeverStuck problem plan
    never_stuck dealt played followed = unstuck dealt played followed
