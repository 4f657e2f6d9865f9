-- Trees that state a card wherever the owner has to choose one go on, so their plans are never stuck.
use Rattle.std.specs.List.{filter, list_any}
use Rattle.std.proofs.lemmas.Bool.{cond_both}
use Rattle.std.proofs.Common.{Bool}
use Rattle.std.proofs.Common.{arith, ◌≡◌, ℕ, ◌+◌, ◌≤◌, true, false, List, [], ◌∷◌, length, refl, sym, ap, subst, ◌∙◌, inl, inr}
use Rattle.std.proofs.lemmas.Bool.{both_ways, leb-true}
use Rattle.std.proofs.lemmas.Option.{slice_get_cases}
use Rattle.crib_cards.specs.Cards.{card_value, pack}
use Rattle.crib_cards.specs.Sets.{has, set_where, set_without}
use Rattle.crib_cards.specs.declared.letters.Letter.{Letter}
use Rattle.crib_cards.specs.declared.moves.Move.TheVariants as move
use Rattle.crib_cards.proofs.LetterIndices.{index_small}
use Rattle.crib_cards.proofs.Members.{has_here}
use Rattle.crib_cards.proofs.SetFacts.{set_without-lowest}
use Rattle.crib_play.specs.declared.turns.Turn.TheVariants as turns
use Rattle.crib_play.specs.History.{Event, Own, Theirs}
use Rattle.crib_show.proofs.RisingLists.{RisesFrom, none_below, rises-set_where}
use Rattle.crib_problem.specs.Setup.{Setup, IsSetup}
use Rattle.crib_plan.specs.declared.plan.Next.{Next}
use Rattle.crib_plan.specs.declared.plan.Node.{Node}
use Rattle.crib_plan.specs.Places.{place_after_letter}
use Rattle.crib_know.specs.Knowledge.{own_cards, own_left, count_after, asked_now, played_events, Knowledge}
use Rattle.crib_know.specs.Hidden.{CanShow, KnowsAfter}
use Rattle.crib_know.proofs.CallLemmas.{left_less}
use Rattle.crib_know.proofs.PassingIsAgreeing.{theirs_asked, theirs_letter}
use Rattle.crib_cards.specs.Letters.{letter_index}
use Rattle.crib_search.specs.Trees.{Tree, plan_of_tree, same_tree, trees_after_walk}
use Rattle.crib_search.specs.Tried.{IsNeverStuck}
use Rattle.crib_search.specs.Private.States.{IsOption, States, Lowest, Goes, Says, Looks, in_order}
use Rattle.crib_search.proofs.FoundBySide.{letter_at}
use Rattle.crib_search.proofs.Options.{left_option, option_left, no_option}
use Rattle.crib_search.proofs.PlacesOfTrees.{Does, joined_does, play_stays}
use Rattle.crib_search.proofs.NumberedNodes.{plan_count}
use Rattle.crib_search.proofs.TreeWalks.{plan_stands, walk_closed}
use Rattle.crib_search.proofs.UnstuckPlans.{PlaysOn, SeesOn, GoOn, never_stuck}

-- ---- cards in their order
filter_few : (test : ℕ → Bool) (cards : List ℕ) → length (filter test cards) ≤ length cards
filter_few test [] = omega arith
filter_few test (card ∷ cards) =
    cond_both (test card) (card ∷ filter test cards) (filter test cards) (λ kept. length kept ≤ length (card ∷ cards))
    (λ yes. omega (arith, filter_few test cards)) (λ no_more. omega (arith, filter_few test cards))

value_rises : (one other : ℕ) → one ≤ other → card_value one ≤ card_value other
value_rises one other up = omega (arith, up)

-- whatever the opponent shows, the place of the next card stays
in_order_stays : (plan : List Node) (cards : List ℕ) (letter : Letter) (place : Next) → Does plan (in_order cards) place →
    Does plan (in_order cards) (place_after_letter plan place letter)
in_order_stays plan [] letter place does = inl refl
in_order_stays plan (card ∷ cards) letter place does = inr (play_stays plan (in_order (card ∷ cards)) place letter refl does)

module _ (problem : Setup) (setup : IsSetup problem) where
  -- with the lowest card played, the others are left
  left_after : (history : List Event) (first : ℕ) (rest : List ℕ) → own_left problem history ≡ first ∷ rest →
      own_left problem (Own (move.Card first) ∷ history) ≡ rest
  left_after history first rest all =
      sym (left_less problem.hold (own_cards history) first) ∙ ap (λ (cards : List ℕ). set_without cards first) all ∙ set_without-lowest _ first rest all

  -- if a card of the owner fits, the lowest one does
  lowest_option : (history : List Event) (first : ℕ) (rest : List ℕ) → own_left problem history ≡ first ∷ rest → (card : ℕ) →
      IsOption problem history card → IsOption problem history first
  lowest_option history first rest all card is =
      let rises : RisesFrom 0 (first ∷ rest) = subst (RisesFrom 0) all (rises-set_where _) in
      let among : has (first ∷ rest) card ≡ true = ap (λ (cards : List ℕ). has cards card) (sym all) ∙ left_option problem history card setup is in
      let least = none_below first (first ∷ rest) card (omega arith, rises.1) among in
      let fit = leb-true (count_after problem history + card_value card) 31 is.fits in
      option_left problem history first (ap (λ (cards : List ℕ). has cards first) all ∙ has_here first rest)
      (omega (arith, value_rises first card least, fit))

  -- ---- the owner is asked and a card fits
  states_plays : (history : List Event) (tree : Tree) (card : ℕ) → States problem history tree → asked_now problem history ≡ turns.Owner →
      IsOption problem history card → PlaysOn problem (States problem) history tree
  states_plays history tree card (Lowest h t same) asked is = by (own_left problem history) refl
    where
      by : (cards : List ℕ) → own_left problem history ≡ cards → PlaysOn problem (States problem) history tree
      by [] none = absurd (both_ways false refl (ap (λ (cards : List ℕ). has cards card) (sym none) ∙ left_option problem history card setup is))
      by (first ∷ rest) all = record {
        card = first;
        next = in_order rest;
        option = lowest_option history first rest all card is;
        goes = Lowest (Own (move.Card first) ∷ history) (in_order rest) (ap in_order (sym (left_after history first rest all)));
        plays = same ∙ ap in_order all;
      }
  states_plays history tree card (Goes h t owner none states) asked is = absurd (no_option problem history none card is)
  states_plays history tree card (Says h t stated next owner option same states) asked is =
      record { card = stated; next = next; option = option; goes = states; plays = same }
  states_plays history tree card (Looks h t branches theirs same count each) asked is = absurd (let e = sym asked ∙ theirs in cc)

  -- ---- the owner says go
  states_passes : (history : List Event) (tree : Tree) → States problem history tree → asked_now problem history ≡ turns.Owner →
      ((card : ℕ) → IsOption problem history card → ⊥) → States problem (Own move.Go ∷ history) tree
  states_passes history tree (Lowest h t same) asked none = Lowest (Own move.Go ∷ history) tree same
  states_passes history tree (Goes h t owner none_fits states) asked none = states
  states_passes history tree (Says h t stated next owner option same states) asked none = absurd (none stated option)
  states_passes history tree (Looks h t branches theirs same count each) asked none = absurd (let e = sym asked ∙ theirs in cc)

  -- ---- the opponent shows a letter
  states_sees : (history : List Event) (tree : Tree) (letter : Letter) → States problem history tree → CanShow problem history letter →
      SeesOn problem (States problem) history letter tree
  states_sees history tree letter states can = by states (theirs_asked problem setup history letter can)
    where
      by : States problem history tree → asked_now problem history ≡ turns.Opponent → SeesOn problem (States problem) history letter tree
      by (Lowest h t same) asked = record {
        branch = tree;
        goes = Lowest (Theirs letter ∷ history) tree same;
        does = λ plan place does. rw same (in_order_stays plan (own_left problem history) letter place (rw same at does));
      }
      by (Goes h t owner none next) asked = absurd (let e = sym asked ∙ owner in cc)
      by (Says h t stated next owner option same after) asked = absurd (let e = sym asked ∙ owner in cc)
      by (Looks h t branches theirs same count each) asked =
          let is = theirs_letter problem setup history letter can in
          elim (slice_get_cases branches (letter_index letter)).1 [
            | inl there ↦ record {
              branch = there.0;
              goes = each (letter_index letter) letter there.0 (letter_at letter is) there.2 can;
              does = λ plan place does. joined_does plan branches letter there.0 there.2 place (rw same at does);
            }
            | inr past ↦ absurd (let small = index_small letter is in omega (arith, past.0, small, count))
          ]

  pub states_on : GoOn problem (States problem)
  states_on = record { plays = states_plays; passes = states_passes; sees = states_sees }

-- ---- the plan of such a tree
pub stated_plan : (problem : Setup) → IsSetup problem → (tree : Tree) → States problem (played_events problem) tree → IsNeverStuck problem (plan_of_tree tree)
stated_plan problem setup tree states =
    never_stuck problem setup (plan_of_tree tree) (States problem) (states_on problem setup) tree states (plan_stands tree)

-- a set has at most the cards of the pack
set_few : (test : ℕ → Bool) → length (set_where test) ≤ 52
unfolding set_where
set_few test = filter_few test pack

-- the plan of some cards in their order has a node for each, at most
order_few : (cards : List ℕ) (before : List Tree) → length (trees_after_walk (in_order cards) before) ≤ length cards + length before
order_few [] before = omega arith
order_few (card ∷ cards) before =
    let tree : Tree = in_order (card ∷ cards) in
    cond_both (list_any (same_tree tree) before) before (tree ∷ trees_after_walk (in_order cards) before)
    (λ trees. length trees ≤ length (card ∷ cards) + length before) (λ there. omega arith) (λ fresh. omega (arith, order_few cards before))

pub order_plan : (problem : Setup) (know : Knowledge) {history : List Event} → KnowsAfter know problem history → (cards : List ℕ) → cards ≡ know.own_left →
    (tree : Tree) → tree ≡ in_order cards → length (plan_of_tree tree) ≤ 52
order_plan problem know {history} knows cards left tree same =
    let count = plan_count (trees_after_walk tree []) (trees_after_walk tree []) (walk_closed tree) in
    let few : length (trees_after_walk tree []) ≤ length cards + 0 = rw same (order_few cards []) in
    let all : length cards ≤ 52 = rw (left, knows.knowledge) (set_few _) in
    omega (arith, count, few, all)
