-- Worked examples of games in which the goal is missed with one turn more.
use Rattle.std.proofs.Common.{arith, ◌≡◌, ◌∙◌, refl, ap, [], ◌∷◌, List, false, ℕ}
use Rattle.std.specs.Prelude.{IsFalse}
use Rattle.std.proofs.lemmas.Bool.{both_ways}
use Rattle.crib_cards.specs.Sets.{set_where}
use Rattle.crib_cards.specs.declared.sides.Side.TheVariants.{Owner, Opponent}
use Rattle.crib_cards.specs.declared.moves.Move.{Move}
use Rattle.crib_cards.specs.declared.moves.Move.TheVariants as move
use Rattle.crib_cards.specs.declared.moves.Act.{Act}
use Rattle.crib_cards.specs.declared.letters.Letter.TheVariants.{Seen}
use Rattle.crib_play.specs.History.{Theirs, event_of}
use Rattle.crib_show.specs.Show.{hand_points, crib_points}
use Rattle.crib_problem.specs.Setup.{Setup}
use Rattle.crib_problem.specs.declared.problem.Version.TheVariants.{Two}
use Rattle.crib_problem.proofs.ExampleProblems.{plays, four_twos, aces, close_to_lost, pairing}
use Rattle.crib_game.specs.declared.section.game.Game.{Game}
use Rattle.crib_game.specs.Replay.{IsRecordOf, is_done_for}
use Rattle.crib_game.proofs.ExampleGames.{game_with}
use Rattle.crib_check.specs.Missed.{IsMissedWith}
use Rattle.crib_show.specs.Outcome.{outcome_from}

-- the owner has led an ace, and the opponent, at 119, has three aces
abbrev led : Setup
led = record close_to_lost { version = Two; played = plays Owner 0 ∷ [] }

abbrev paired : Game
paired = game_with pairing (plays Owner 0 ∷ plays Opponent 1 ∷ [])

-- the ace of diamonds makes a pair, and 121. The ace of spades looks the same
lost_by_a_pair : IsMissedWith led (plays Opponent 3) paired
unfolding set_where outcome_from hand_points crib_points
lost_by_a_pair = record {
  turn = plays Opponent 1;
  alike = refl;
  acts = refl;
  played = move.Card 1 ∷ move.Card 0 ∷ [];
  of_game =
      record { deal = assumption; legal = assumption; acts = refl; begins = record { later = plays Opponent 1 ∷ []; parts = refl } };
  done = refl;
  missed = λ e. cc;
}

-- a three looks like no ace
not_by_a_three : IsMissedWith led (plays Opponent 8) paired → ⊥
not_by_a_three is =
    let acts : plays Opponent 1 ∷ plays Owner 0 ∷ [] ≡ is.turn ∷ plays Owner 0 ∷ [] = is.acts in
    let turn : plays Opponent 1 ≡ is.turn = cc in
    let look : Theirs (Seen 1) ≡ Theirs (Seen 3) = ap event_of turn ∙ is.alike in
    let ranks : ◌≡◌ {A = ℕ} 1 3 = cc in
    absurd (omega (arith, ranks))

-- nor is it a game in which nothing is played after the lead
not_before_the_turn : IsMissedWith led (plays Opponent 1) (game_with pairing (plays Owner 0 ∷ [])) → ⊥
not_before_the_turn is = cc is.acts

-- the opponent does not have the ace of clubs, which the owner led
not_with_the_led_ace : (act : Act) → IsMissedWith led act (game_with aces (plays Owner 0 ∷ plays Opponent 1 ∷ [])) → ⊥
unfolding set_where
not_with_the_led_ace act is = both_ways false refl is.of_game.deal.deal.hidden_before

-- a deal that goes on is not missed yet
not_before_the_end : (act : Act) (game : Game) → ((played : List Move) → IsRecordOf four_twos game played → IsFalse (is_done_for four_twos played)) →
    IsMissedWith four_twos act game → ⊥
not_before_the_end act game going is = both_ways _ (going is.played is.of_game) is.done
