-- Worked examples of acts that can come next.
use Rattle.std.proofs.Common.{◌≡◌, refl, ap, sym, subst, ◌∙◌, true, false, List, [], ◌∷◌, arith}
use Rattle.std.proofs.lemmas.Bool.{both_ways}
use Rattle.crib_cards.specs.Sets.{has, set_where}
use Rattle.crib_cards.specs.declared.sides.Side.TheVariants.{Owner, Opponent}
use Rattle.crib_cards.specs.declared.moves.Act.{Act}
use Rattle.crib_cards.specs.declared.moves.Move.{Move}
use Rattle.crib_cards.specs.declared.moves.Move.TheVariants.{Card}
use Rattle.crib_play.specs.Record.{mover}
use Rattle.crib_play.specs.Legal.{letters_of, MayTake}
use Rattle.crib_problem.specs.Played.{cards_by}
use Rattle.crib_problem.specs.Setup.{IsSetup, IsDealOf, start_of, hands_of}
use Rattle.crib_problem.proofs.ExampleProblems.{plays, after_two, aces, close_to_lost, pairing}
use Rattle.crib_problem.proofs.Setups.{setup_from}
use Rattle.crib_problem.proofs.MadeProblems.{with_one_more}
use Rattle.crib_problem.proofs.StartLemmas.{started, hands_dealt, theirs_unseen}
use Rattle.crib_players.specs.Laws.{CanComeNext}
use Rattle.crib_players.proofs.LastTurns.{LastTurn, last_turn, opponents_held}
use Rattle.crib_players.proofs.PlayerExamples.{ace_led, pairing_is}

-- ---- after 2C AC the two of diamonds can come next, and the ace of clubs can be led
aces_are_a_deal : IsDealOf after_two aces
unfolding set_where
aces_are_a_deal = record { deal = record { held = refl; thrown = refl; distinct = refl; hidden_before = refl }; fixed = refl }

pub come_next : CanComeNext after_two (plays Owner 5) × CanComeNext close_to_lost (plays Owner 0)
come_next = (
  record {
    dealt = aces;
    played = Card 5 ∷ Card 0 ∷ Card 4 ∷ [];
    deal = aces_are_a_deal;
    legal = (
      ((tt, record { not_done = refl; may_take = (refl, refl) }), record { not_done = refl; may_take = (refl, refl) }),
      record { not_done = refl; may_take = (refl, refl) },
    );
    shows = refl;
  },
  record {
    dealt = pairing;
    played = Card 0 ∷ [];
    deal = pairing_is;
    legal = (tt, record { not_done = refl; may_take = (refl, refl) });
    shows = refl;
  },
)

-- ---- what can't come next: a card that isn't held, a turn of the other side, and a card of the opponent that the owner holds
close_is : IsSetup close_to_lost
close_is = setup_from close_to_lost refl tt (refl, refl) (omega arith) tt tt

ace_led_is : IsSetup ace_led
unfolding set_where
ace_led_is = with_one_more close_to_lost (plays Owner 0) close_is (omega arith) refl

first_turn : (act : Act) (can : CanComeNext close_to_lost act) → LastTurn (start_of close_to_lost) (hands_of close_to_lost can.dealt) act []
first_turn act can =
    last_turn (start_of close_to_lost) (hands_of close_to_lost can.dealt) (started close_to_lost close_is)
    (hands_dealt close_to_lost close_is can.dealt can.deal.deal) can.played [] [] act can.legal can.shows

pub not_next : ¬ (CanComeNext close_to_lost (plays Owner 7)) × ¬ (CanComeNext close_to_lost (plays Opponent 1)) × ¬ (CanComeNext ace_led (plays Opponent 4))
not_next = (
  λ can. (
      let last = first_turn (plays Owner 7) can in
      let what : last.turn ≡ Card 7 = ap (λ (act : Act). act.what) last.is in
      let first : MayTake (hands_of close_to_lost can.dealt) Owner last.turn [] =
      subst (λ (past : List Move). MayTake (hands_of close_to_lost can.dealt) (mover Owner (letters_of past)) last.turn past) last.filled
      last.legal.1.may_take in
      both_ways false refl (subst (λ (turn : Move). MayTake (hands_of close_to_lost can.dealt) Owner turn []) what first).0
      ),
  λ can. (
      let last = first_turn (plays Opponent 1) can in
      let who : Owner ≡ Opponent =
      sym (ap (λ (past : List Move). mover Owner (letters_of past)) last.filled) ∙ ap (λ (act : Act). act.side) last.is in cc
      ),
  λ can. (
      let held = opponents_held (start_of ace_led) (hands_of ace_led can.dealt) can.played can.legal 4
      (subst (λ (acts : List Act). has (cards_by Opponent acts) 4 ≡ true) (sym can.shows) refl) in
      both_ways true (theirs_unseen ace_led ace_led_is can.dealt can.deal.deal 4 held).1 refl
      ),
)
