-- A first failing game. The proof uses the contract of the deal that a knowledge names, and is not computation alone.
use Rattle.std.proofs.Common.{arith, ◌≡◌, refl, ℕ, false, List, [], ◌∷◌}
use Rattle.std.specs.Prelude.{IsFalse}
use Rattle.std.proofs.lemmas.Bool.{or_from}
use Rattle.crib_cards.specs.Sets.{set_where, set_without_all}
use Rattle.crib_cards.specs.Order.{is_before}
use Rattle.crib_cards.specs.Deals.{deal_numbers}
use Rattle.crib_problem.specs.Setup.{IsSetup}
use Rattle.crib_game.specs.declared.section.game.Game.{Game}
use Rattle.crib_game.specs.declared.following.ending.Ending.{Ending}
use Rattle.crib_game.specs.declared.following.ending.Ending.TheVariants as ending
use Rattle.crib_know.specs.Knowledge.{Knowledge, knowledge_after}
use Rattle.crib_know.specs.Hidden.{KnowsAfter, IsFirstDeal}
use Rattle.crib_know.specs.Private.Choice.{chosen_cards}
use Rattle.crib_know.proofs.OwnCalls.{first_is}
use Rattle.crib_check.specs.Failing.{IsFailing, IsFirstFailing, comes_before, opponent_letters}
use Rattle.crib_problem.proofs.ExampleProblems.{four_twos, aces}
use Rattle.crib_problem.proofs.Setups.{setup_from}
use Rattle.crib_check.proofs.Examples.{aces_are_a_deal, no_acts, stuck_at_once}
use Rattle.crib_cards.proofs.SetLemmas.{and-false}

four_twos_are_a_setup : IsSetup four_twos
four_twos_are_a_setup = setup_from four_twos refl (omega arith, omega arith) (refl, refl) (omega arith) tt tt

abbrev at_the_lead : Knowledge
at_the_lead = knowledge_after four_twos []

known : KnowsAfter at_the_lead four_twos []
known = record {
  setup = four_twos_are_a_setup;
  begun = record { later = []; parts = refl };
  possible = (aces, (aces_are_a_deal, ([], tt, refl)));
  knowledge = refl;
}

-- AC AD AH AS are held and 3C 3D thrown, since the owner has all twos
first_deal : IsFirstDeal four_twos [] aces
unfolding set_where chosen_cards
first_deal = first_is at_the_lead four_twos [] known aces.hold refl (set_without_all at_the_lead.unseen aces.hold) refl aces.throw refl

nothing_before : (numbers : List ℕ) → is_before numbers [] ≡ false
nothing_before [] = refl
nothing_before (number ∷ numbers) = refl

-- the plan without a node is stuck at the first lead, and in no earlier game
pub first_failing_game : IsFirstFailing four_twos [] no_acts ending.Stuck
first_failing_game = record {
  failing = stuck_at_once;
  in_pack_order = refl;
  in_suit_order = refl;
  first = λ other result fails. not_before other result fails;
}
  where
    not_before : (other : Game) (result : Ending) → IsFailing four_twos [] other result → IsFalse (comes_before other no_acts)
    not_before other result fails =
        or_from _ _ (nothing_before (opponent_letters other))
        (and-false _ (is_before (deal_numbers other.opp) (deal_numbers aces)) (first_deal.first other.opp (fails.of_game.of_game.deal, ([], tt, refl))))
