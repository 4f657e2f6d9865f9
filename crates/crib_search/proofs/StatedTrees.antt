-- What a tree states from each history on that a knowledge represents, put together from what it states after each turn.
use Rattle.std.proofs.Common.{◌≡◌, ℕ, ◌+◌, ◌≤◌, true, List, [], ◌∷◌, length, refl, sym, ap, subst, ◌∙◌}
use Rattle.std.specs.List.{AllZip}
use Rattle.std.proofs.lemmas.Option.{same_Some}
use Rattle.crib_cards.specs.Cards.{card_value}
use Rattle.crib_cards.specs.Sets.{has}
use Rattle.crib_cards.specs.declared.letters.Letter.{Letter}
use Rattle.crib_cards.specs.declared.moves.Move.TheVariants as move
use Rattle.crib_play.specs.declared.turns.Turn.{Turn}
use Rattle.crib_play.specs.declared.turns.Turn.TheVariants as turns
use Rattle.crib_play.specs.Record.{count_of}
use Rattle.crib_play.specs.History.{Event, Own, Theirs}
use Rattle.crib_problem.specs.Setup.{Setup}
use Rattle.crib_know.specs.Knowledge.{Knowledge, asked_now}
use Rattle.crib_know.specs.Hidden.{CanShow, KnowsAfter}
use Rattle.crib_know.proofs.OwnCalls.{moved}
use Rattle.crib_search.specs.Trees.{Tree, Plays, joined_tree}
use Rattle.crib_search.specs.Finder.{letters, options}
use Rattle.crib_search.specs.Private.States.{States, Lowest, Goes, Says, Looks, StatesAfter, StatesAt, in_order}
use Rattle.crib_search.proofs.FoundBySide.{zip_at}
use Rattle.crib_search.proofs.Options.{option_left}

module _ (problem : Setup) (know : Knowledge) where
  asked_at : (history : List Event) → KnowsAfter know problem history → (turn : Turn) → know.round.asked ≡ turn → asked_now problem history ≡ turn
  asked_at history knows turn asked = sym (ap (λ (k : Knowledge). k.round.asked) knows.knowledge) ∙ asked

  pub states_lowest : (cards : List ℕ) → cards ≡ know.own_left → (tree : Tree) → tree ≡ in_order cards → StatesAt problem know tree
  states_lowest cards left tree same history knows =
      Lowest history tree (same ∙ ap in_order (left ∙ ap (λ (k : Knowledge). k.own_left) knows.knowledge))

  module _ (copy next : Knowledge) (same : copy ≡ know) where
    pub states_go : ((history : List Event) → KnowsAfter copy problem history → KnowsAfter next problem (Own move.Go ∷ history)) →
        know.round.asked ≡ turns.Owner → ((history : List Event) → KnowsAfter know problem history → options problem history ≡ []) → (tree : Tree) →
        StatesAt problem next tree → StatesAt problem know tree
    states_go steps asked none tree states history knows =
        Goes history tree (asked_at history knows turns.Owner asked) (none history knows)
        (states (Own move.Go ∷ history) (steps history (moved copy know problem history same knows)))

    pub states_card : (card : ℕ) → ((history : List Event) → KnowsAfter copy problem history → KnowsAfter next problem (Own (move.Card card) ∷ history)) →
        know.round.asked ≡ turns.Owner → has know.own_left card ≡ true → count_of know.round.pile + card_value card ≤ 31 → (tree : Tree) →
        StatesAt problem next tree → StatesAt problem know (Plays card tree)
    states_card card steps asked held fits tree states history knows =
        Says history (Plays card tree) card tree (asked_at history knows turns.Owner asked)
        (option_left problem history card (ap (λ (k : Knowledge). has k.own_left card) (sym knows.knowledge) ∙ held)
        (subst (λ (k : Knowledge). count_of k.round.pile + card_value card ≤ 31) knows.knowledge fits)) refl
        (states (Own (move.Card card) ∷ history) (steps history (moved copy know problem history same knows)))

    pub states_letter : (letter : Letter) → ((history : List Event) → KnowsAfter copy problem history → KnowsAfter next problem (Theirs letter ∷ history)) →
        (tree : Tree) → StatesAt problem next tree → StatesAfter problem know letter tree
    states_letter letter steps tree states history knows can =
        states (Theirs letter ∷ history) (steps history (moved copy know problem history same knows))

  -- a letter that no deal can show
  pub never_shown : (letter : Letter) → ((history : List Event) → KnowsAfter know problem history → ¬ CanShow problem history letter) → (tree : Tree) →
      StatesAfter problem know letter tree
  never_shown letter none tree history knows can = absurd (none history knows can)

  pub states_look : know.round.asked ≡ turns.Opponent → (trees : List Tree) → length trees ≡ 14 → AllZip (StatesAfter problem know) letters trees →
      StatesAt problem know (joined_tree trees)
  states_look asked trees count all history knows =
      Looks history (joined_tree trees) trees (asked_at history knows turns.Opponent asked) refl count
      (λ index letter branch is there can.
      let found = zip_at (StatesAfter problem know) letters trees index letter all is in
      let one : found.0 ≡ branch = same_Some found.0 branch (sym found.1 ∙ there) in
      subst (States problem (Theirs letter ∷ history)) one (found.2 history knows can))
