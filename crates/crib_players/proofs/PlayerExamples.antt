-- Worked examples of players.
use Rattle.std.proofs.Common.{◌≡◌, refl, ap, true, false, ◌+◌, List, [], ◌∷◌, map, length, get_or, arith, if◌then◌else◌}
use Rattle.std.specs.Prelude.{Some, None}
use Rattle.std.proofs.lemmas.Bool.{both_ways}
use Rattle.std.proofs.lemmas.Option.{same_Some}
use Rattle.crib_cards.specs.Sets.{has, set_where}
use Rattle.crib_cards.specs.declared.sides.Dealt.{Dealt}
use Rattle.crib_cards.specs.declared.sides.Side.{Side}
use Rattle.crib_cards.specs.declared.sides.Side.TheVariants.{Owner, Opponent}
use Rattle.crib_cards.specs.declared.moves.Act.{Act}
use Rattle.crib_cards.specs.declared.moves.Move.{Move}
use Rattle.crib_cards.specs.declared.moves.Move.TheVariants.{Card, Go}
use Rattle.crib_play.specs.Legal.{cards_of}
use Rattle.crib_play.specs.History.{moves_of}
use Rattle.crib_show.specs.declared.show.outcomes.Outcome.TheVariants.{Reached, Lost}
use Rattle.crib_show.specs.Show.{hand_points, crib_points}
use Rattle.crib_problem.specs.declared.problem.Version.TheVariants.{Two}
use Rattle.crib_problem.specs.Setup.{Setup, IsDealOf, start_of, hands_of}
use Rattle.crib_problem.proofs.ExampleProblems.{plays, level, four_twos, close_to_lost, pairing}
use Rattle.crib_game.specs.Replay.{is_done_for, outcome_for, play_scores}
use Rattle.crib_plan.specs.declared.plan.Next.TheVariants.{End, To}
use Rattle.crib_plan.specs.declared.plan.Node.TheVariants.{Play, See}
use Rattle.crib_sure.specs.HistoryPlaces.{place_by}
use Rattle.crib_cards.specs.declared.letters.Letter.TheVariants.{Seen}
use Rattle.std.specs.Prelude.{replicate}
use Rattle.crib_play.specs.History.{Own, Theirs}
use Rattle.std.proofs.Common.{◌++◌}
use Rattle.crib_players.specs.Players.{IsPlayedBy, Player, player_by, follower_of, AreBy, is_at_loss, IsSurePlayer}
use Rattle.crib_show.specs.Outcome.{outcome_from}

-- ---- players
-- a player who plays the two of clubs once the ace of clubs was shown, and otherwise the two of diamonds
abbrev pub by_suit : Player
by_suit acts = if has (cards_of (moves_of acts)) 0 then Some 4 else Some 5

-- after the ace of clubs their card is the two of clubs and no other. In the opening, which is two acts here, it may be any
pub played_by_suit : AreBy 0 by_suit (plays Owner 4 ∷ plays Opponent 0 ∷ []) × ¬ (AreBy 0 by_suit (plays Owner 5 ∷ plays Opponent 0 ∷ []))
    × AreBy 2 by_suit (plays Owner 5 ∷ plays Opponent 0 ∷ []) × ¬ (AreBy 1 by_suit (plays Owner 5 ∷ plays Opponent 0 ∷ []))
    × ¬ (AreBy 1 by_suit (plays Opponent 1 ∷ plays Owner 5 ∷ plays Opponent 0 ∷ [])) × ¬ (AreBy 0 by_suit (plays Owner 0 ∷ []))
played_by_suit = (
  (
    (tt, λ late card is. absurd (let side : Opponent ≡ Owner = ap (λ (act : Act). act.side) is in cc)),
    λ late card is. (let what : Card 4 ≡ Card card = ap (λ (act : Act). act.what) is in cc),
  ),
  λ by. (let same = same_Some 4 5 (by.1 (omega arith) 5 refl) in omega (arith, same)),
  ((tt, λ late. absurd (omega (arith, late))), λ late. absurd (omega (arith, late))),
  λ by. (let same = same_Some 4 5 (by.1 (omega arith) 5 refl) in omega (arith, same)),
  λ by. (let same = same_Some 4 5 (by.0.1 (omega arith) 5 refl) in omega (arith, same)),
  λ by. (let same = same_Some 5 0 (by.1 (omega arith) 0 refl) in omega (arith, same)),
)

-- whoever plays no card, a card that they don't hold, or one that they have played, is at a loss at their turn. Nobody is once the deal is done, nor at the
-- other player's turn. After TC TD 9C the two fits, and the eight doesn't, and after TC TD 9C AD neither does. The last player plays the card whose number is
-- that of the acts so far
pub at_a_loss :
    (map (λ stated. is_at_loss (λ acts. stated) (start_of close_to_lost) (hands_of close_to_lost pairing) []) (None ∷ Some 7 ∷ Some 4 ∷ [])
    ≡ true ∷ true ∷ false ∷ [])
    × (map (is_at_loss (λ acts. None) (start_of close_to_lost) (hands_of close_to_lost pairing)) ((Card 0 ∷ []) ∷ (Card 1 ∷ Card 0 ∷ []) ∷ [])
    ≡ false ∷ false ∷ [])
    × (map (λ stated. is_at_loss (λ acts. stated) (start_of level) (hands_of level pairing) (Go ∷ Card 32 ∷ Card 37 ∷ Card 36 ∷ []))
    (Some 4 ∷ Some 28 ∷ Some 36 ∷ []) ≡ false ∷ true ∷ true ∷ [])
    × (is_at_loss (λ acts. None) (start_of level) (hands_of level pairing) (Card 1 ∷ Card 32 ∷ Card 37 ∷ Card 36 ∷ []) ≡ false)
    × (map (is_at_loss (λ acts. Some (length acts)) (start_of close_to_lost) (record { owner = 2 ∷ 6 ∷ 0 ∷ 4 ∷ []; opponent = 8 ∷ 9 ∷ 10 ∷ 11 ∷ [] }))
    ([] ∷ (Card 8 ∷ Card 6 ∷ []) ∷ (Card 8 ∷ Card 2 ∷ []) ∷ []) ≡ false ∷ false ∷ true ∷ [])
    × (is_at_loss (λ acts. Some 28) (start_of level) (record { owner = 36 ∷ 4 ∷ 28 ∷ 0 ∷ []; opponent = 37 ∷ 12 ∷ 49 ∷ 50 ∷ [] })
    (Card 12 ∷ Card 4 ∷ Card 37 ∷ Card 36 ∷ []) ≡ true)
at_a_loss = (refl, refl, refl, refl, refl, refl)

-- the order of the turns counts: AC 2C TC 5C make 18 without a fifteen, and after TC TD 9C 2H the count begins anew, so that the eight fits after 5C 4C. At 30
-- only the ace would fit, which was the first card. The last player plays the card after the second one
pub at_a_loss_later :
    (is_at_loss (λ acts. None) (start_of close_to_lost) (record { owner = 0 ∷ 36 ∷ 28 ∷ 29 ∷ []; opponent = 4 ∷ 16 ∷ 20 ∷ 24 ∷ [] })
    (Card 16 ∷ Card 36 ∷ Card 4 ∷ Card 0 ∷ []) ≡ true)
    × (map (λ stated. is_at_loss (λ acts. stated) (start_of level) (record { owner = 36 ∷ 32 ∷ 16 ∷ 28 ∷ []; opponent = 37 ∷ 6 ∷ 12 ∷ 49 ∷ [] })
    (Card 12 ∷ Card 16 ∷ Card 6 ∷ Card 32 ∷ Card 37 ∷ Card 36 ∷ [])) (None ∷ Some 28 ∷ []) ≡ true ∷ false ∷ [])
    × (is_at_loss (λ acts. None) (start_of level) (record { owner = 0 ∷ 36 ∷ 37 ∷ 38 ∷ []; opponent = 32 ∷ 40 ∷ 44 ∷ 45 ∷ [] })
    (Card 32 ∷ Card 36 ∷ Card 40 ∷ Card 0 ∷ []) ≡ false)
    × (is_at_loss (λ acts. Some (get_or (cards_of (moves_of acts)) 1 0 + 1)) (start_of level)
    (record { owner = 4 ∷ 9 ∷ 36 ∷ 40 ∷ []; opponent = 8 ∷ 16 ∷ 20 ∷ 24 ∷ [] }) (Card 8 ∷ Card 4 ∷ []) ≡ false)
at_a_loss_later = (refl, refl, refl, refl)

-- the player who follows a plan plays the same card after any ace of the opponent. A player may also see the sides alone
pub seen_by_players :
    (map (follower_of four_twos (Play 4 (To 1) ∷ Play 5 End ∷ [])) ([] ∷ (plays Opponent 0 ∷ plays Owner 4 ∷ []) ∷ (plays Opponent 1 ∷ plays Owner 4 ∷ []) ∷ [])
    ≡ Some 4 ∷ Some 5 ∷ Some 5 ∷ [])
    × (map (follower_of (record four_twos { played = plays Owner 7 ∷ [] }) (Play 4 End ∷ [])) ((plays Owner 7 ∷ []) ∷ []) ≡ Some 4 ∷ [])
    × (player_by (λ (act : Act). act.side) (λ (sides : List Side). Some (length sides)) (plays Opponent 0 ∷ plays Owner 4 ∷ []) ≡ Some 2)
    × (by_suit (plays Opponent 0 ∷ plays Owner 6 ∷ []) ≡ Some 4) × (by_suit (plays Opponent 1 ∷ plays Owner 6 ∷ []) ≡ Some 5)
seen_by_players = (refl, refl, refl, refl, refl)

-- after the two of clubs an ace leads back to the first node, and any other letter to the end. After an ace the two of clubs ends the plan. In the opening,
-- which is two turns here, the plan stays at its start
pub places_of_plans :
    (map (place_by (Play 4 (To 1) ∷ See (To 0 ∷ replicate 13 End) ∷ []) [])
    ((Theirs (Seen 1) ∷ Own (Card 4) ∷ []) ∷ (Theirs (Seen 2) ∷ Own (Card 4) ∷ []) ∷ (Own Go ∷ Own (Card 4) ∷ []) ∷ []) ≡ To 0 ∷ End ∷ To 1 ∷ [])
    × (map (place_by (See (To 1 ∷ replicate 13 End) ∷ Play 4 End ∷ []) []) ((Theirs (Seen 1) ∷ []) ∷ (Own (Card 4) ∷ Theirs (Seen 1) ∷ []) ∷ [])
    ≡ To 1 ∷ End ∷ [])
    × (map (place_by (Play 4 (To 1) ∷ Play 5 End ∷ []) (plays Owner 6 ∷ plays Opponent 0 ∷ []))
    ((Theirs (Seen 1) ∷ Own (Card 6) ∷ []) ∷ (Own (Card 4) ∷ Theirs (Seen 1) ∷ Own (Card 6) ∷ []) ∷ []) ≡ To 0 ∷ To 1 ∷ [])
places_of_plans = (refl, refl, refl)

-- ---- records that a player plays
abbrev pub ace_led : Setup
ace_led = record close_to_lost { version = Two; played = plays Owner 0 ∷ [] }

-- not if a card of the opponent is missing, a card isn't held, the opening isn't there, or the card is another
pub not_played_by :
    ¬ (IsPlayedBy close_to_lost by_suit (record pairing { throw = 8 ∷ [] }) []) × ¬ (IsPlayedBy close_to_lost by_suit pairing (Card 48 ∷ []))
    × ¬ (IsPlayedBy ace_led by_suit pairing []) × ¬ (IsPlayedBy close_to_lost by_suit pairing (Card 4 ∷ []))
not_played_by = (
  λ is. (let two = is.deal.deal.thrown in absurd (omega (arith, two))),
  λ is. absurd (both_ways false refl is.legal.1.may_take.0),
  λ is. unled is.begins.later is.begins.parts,
  λ is. (let same = same_Some 5 4 (is.by.1 (omega arith) 4 refl) in omega (arith, same)),
)
  where
    unled : (later : List Act) → [] ≡ later ++ plays Owner 0 ∷ [] → ⊥
    unled [] e = cc
    unled (act ∷ later) e = cc

-- but who led the ace in the opening may be anybody, even who never plays a card
pub opening_of_anybody : IsPlayedBy ace_led (λ acts. None) pairing (Card 0 ∷ [])
unfolding set_where
opening_of_anybody = record {
  deal = record { deal = record { held = refl; thrown = refl; distinct = refl; hidden_before = refl }; fixed = refl };
  legal = (tt, record { not_done = refl; may_take = (refl, refl) });
  begins = record { later = []; parts = refl };
  by = (tt, λ late. absurd (omega (arith, late)));
}

-- ---- sure players
pub pairing_is : IsDealOf close_to_lost pairing
unfolding set_where
pairing_is = record { deal = record { held = refl; thrown = refl; distinct = refl; hidden_before = refl }; fixed = refl }

nothing_by : (player : Player) → IsPlayedBy close_to_lost player pairing []
nothing_by player = record { deal = pairing_is; legal = tt; begins = record { later = []; parts = refl }; by = tt }

-- whoever plays no card isn't sure, and neither is who leads the ace, which the opponent pairs
pub not_sure : ¬ (IsSurePlayer close_to_lost (λ acts. None)) × ¬ (IsSurePlayer close_to_lost (λ acts. Some 0))
unfolding outcome_from hand_points crib_points
not_sure = (
  λ sure. both_ways _ (sure.never_at_loss pairing [] (nothing_by (λ acts. None))) refl,
  λ sure. (
      let led : IsPlayedBy close_to_lost (λ acts. Some 0) pairing (Card 1 ∷ Card 0 ∷ []) = record {
        deal = pairing_is;
        legal = ((tt, record { not_done = refl; may_take = (refl, refl) }), record { not_done = refl; may_take = (refl, refl) });
        begins = record { later = plays Opponent 1 ∷ plays Owner 0 ∷ []; parts = refl };
        by = (
          (tt, λ late card is. (let what : Card 0 ≡ Card card = ap (λ (act : Act). act.what) is in cc)),
          λ late card is. absurd (let side : Opponent ≡ Owner = ap (λ (act : Act). act.side) is in cc),
        );
      } in
      let same : Lost ≡ Reached = sure.reached pairing (Card 1 ∷ Card 0 ∷ []) led refl in cc
      ),
)

-- the goal is asked for only once the deal is done
pub sure_at_the_end :
    ((dealt : Dealt) (played : List Move) → IsPlayedBy four_twos by_suit dealt played →
    is_at_loss by_suit (start_of four_twos) (hands_of four_twos dealt) played ≡ false) →
    ((dealt : Dealt) (played : List Move) → IsPlayedBy four_twos by_suit dealt played → is_done_for four_twos played ≡ true →
    outcome_for four_twos dealt (play_scores four_twos played) ≡ Reached) → IsSurePlayer four_twos by_suit
sure_at_the_end never reached = record { never_at_loss = never; reached = reached }
