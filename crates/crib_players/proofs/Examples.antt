-- Worked examples of games that refute every player, and of games that don't.
use Rattle.std.proofs.Common.{◌≡◌, refl, sym, ap, ◌∙◌, subst, ◌≤◌, ℕ, zero, suc, true, false, List, [], ◌∷◌, map, reverse, take, arith}
use Rattle.std.specs.Prelude.{Some, None, slice_get}
use Rattle.std.proofs.lemmas.Bool.{and_parts, both_ways}
use Rattle.std.proofs.lemmas.Bool.Decides.{nat_tests}
use Rattle.std.proofs.lemmas.Option.{none-some, same_Some}
use Rattle.crib_cards.specs.Sets.{has, set_where}
use Rattle.crib_cards.specs.declared.sides.Side.TheVariants.{Owner, Opponent}
use Rattle.crib_cards.specs.declared.moves.Act.{Act}
use Rattle.crib_cards.specs.declared.moves.Move.{Move}
use Rattle.crib_cards.specs.declared.moves.Move.TheVariants.{Card, Go}
use Rattle.crib_play.specs.Record.{mover}
use Rattle.crib_play.specs.Score.{is_done}
use Rattle.crib_play.specs.Legal.{IsLegal, MayCome, MayTake, letters_of}
use Rattle.crib_play.specs.History.{acts_of}
use Rattle.crib_show.specs.declared.show.outcomes.Outcome.TheVariants.{Reached, Lost, Short}
use Rattle.crib_show.specs.Show.{hand_points, crib_points}
use Rattle.crib_problem.specs.Setup.{Setup, start_of, hands_of}
use Rattle.crib_problem.proofs.ExampleProblems.{plays, says_go, level, level_acts, close_to_lost, pairing}
use Rattle.crib_problem.proofs.Setups.{setup_from}
use Rattle.crib_game.specs.declared.section.game.Game.{Game}
use Rattle.crib_game.specs.Replay.{is_done_for, outcome_for, play_scores}
use Rattle.crib_game.proofs.ExampleGames.{game_with}
use Rattle.crib_players.specs.Players.{own_card, IsSurePlayer}
use Rattle.crib_players.specs.Refutations.{IsBegun, acts_before, IsMissed, HasEachCard, Refutes, may_play}
use Rattle.crib_players.specs.Laws.{longer, MayPlay}
use Rattle.crib_players.specs.Private.Judging.{goes_on, has_each, is_begun, is_miss, is_played, may_follow, owners_card}
use Rattle.crib_players.proofs.Judged.{begun_to, each_from}
use Rattle.crib_players.proofs.Missed.{missed_to}
use Rattle.crib_players.proofs.Refuted.{refuted}
use Rattle.crib_players.proofs.PlayerExamples.{ace_led, by_suit, pairing_is}
use Rattle.crib_show.specs.Outcome.{outcome_from}

-- ---- the opponent needs two holes, and pairs whatever the owner leads
abbrev lost_after : ℕ → ℕ → Game
lost_after mine theirs = game_with pairing (plays Owner mine ∷ plays Opponent theirs ∷ [])

abbrev pairs : List Game
pairs = lost_after 0 1 ∷ lost_after 4 7 ∷ lost_after 5 7 ∷ lost_after 6 7 ∷ []

lost : (mine theirs : ℕ) → IsLegal (start_of close_to_lost) (hands_of close_to_lost pairing) (Card theirs ∷ Card mine ∷ []) →
    acts_of Owner (Card theirs ∷ Card mine ∷ []) ≡ plays Opponent theirs ∷ plays Owner mine ∷ [] →
    is_done_for close_to_lost (Card theirs ∷ Card mine ∷ []) ≡ true →
    outcome_for close_to_lost pairing (play_scores close_to_lost (Card theirs ∷ Card mine ∷ [])) ≡ Lost →
    IsMissed close_to_lost (lost_after mine theirs)
lost mine theirs legal acts done outcome = record {
  played = Card theirs ∷ Card mine ∷ [];
  of_game = record {
    deal = pairing_is;
    legal = legal;
    acts = acts;
    begins = record { later = plays Opponent theirs ∷ plays Owner mine ∷ []; parts = refl };
  };
  done = done;
  missed = λ reached. (let same : Lost ≡ Reached = sym outcome ∙ reached in cc);
}

may : (turn : Move) (past : List Move) → is_done (start_of close_to_lost) (letters_of past) ≡ false →
    MayTake (hands_of close_to_lost pairing) (mover Owner (letters_of past)) turn past →
    MayCome (start_of close_to_lost) (hands_of close_to_lost pairing) turn past
may turn past going take = record { not_done = going; may_take = take }

pairs_miss : (index : ℕ) (game : Game) → slice_get pairs index ≡ Some game → IsMissed close_to_lost game
unfolding outcome_from hand_points crib_points
pairs_miss zero game among = subst (IsMissed close_to_lost) (same_Some (lost_after 0 1) game among)
    (lost 0 1 ((tt, may (Card 0) [] refl (refl, refl)), may (Card 1) (Card 0 ∷ []) refl (refl, refl)) refl refl refl)
pairs_miss (suc zero) game among = subst (IsMissed close_to_lost) (same_Some (lost_after 4 7) game among)
    (lost 4 7 ((tt, may (Card 4) [] refl (refl, refl)), may (Card 7) (Card 4 ∷ []) refl (refl, refl)) refl refl refl)
pairs_miss (suc (suc zero)) game among = subst (IsMissed close_to_lost) (same_Some (lost_after 5 7) game among)
    (lost 5 7 ((tt, may (Card 5) [] refl (refl, refl)), may (Card 7) (Card 5 ∷ []) refl (refl, refl)) refl refl refl)
pairs_miss (suc (suc (suc zero))) game among = subst (IsMissed close_to_lost) (same_Some (lost_after 6 7) game among)
    (lost 6 7 ((tt, may (Card 6) [] refl (refl, refl)), may (Card 7) (Card 6 ∷ []) refl (refl, refl)) refl refl refl)
pairs_miss (suc (suc (suc (suc index)))) game among = absurd (none-some game among)

-- the first acts of a game, the last one first
pub first_acts : map (acts_before (lost_after 0 1)) (0 ∷ 1 ∷ 2 ∷ 3 ∷ [])
    ≡ [] ∷ (plays Owner 0 ∷ []) ∷ (plays Opponent 1 ∷ plays Owner 0 ∷ []) ∷ (plays Opponent 1 ∷ plays Owner 0 ∷ []) ∷ []
first_acts = refl

led_same : (mine theirs other : ℕ) (game : Game) → Some (lost_after mine theirs) ≡ Some game → acts_before game 1 ≡ plays Owner other ∷ [] → mine ≡ other
led_same mine theirs other game among e =
    let acts : plays Owner mine ∷ [] ≡ plays Owner other ∷ [] = ap (λ (game : Game). acts_before game 1) (same_Some (lost_after mine theirs) game among) ∙ e in
    let act : plays Owner mine ≡ plays Owner other = cc in
    let what : Card mine ≡ Card other = ap (λ (act : Act). act.what) act in
    cc

pub begun_in_pairs : IsBegun pairs (plays Owner 6 ∷ []) × IsBegun pairs (plays Opponent 7 ∷ plays Owner 4 ∷ []) × ¬ (IsBegun pairs (plays Owner 7 ∷ []))
begun_in_pairs = (
  record { index = 3; game = lost_after 6 7; among = refl; begins = refl },
  record { index = 1; game = lost_after 4 7; among = refl; begins = refl },
  λ is. none is.index is.game is.among is.begins,
)
  where
    none : (index : ℕ) (game : Game) → slice_get pairs index ≡ Some game → acts_before game 1 ≡ plays Owner 7 ∷ [] → ⊥
    none zero game among e = (let same = led_same 0 1 7 game among e in omega (arith, same))
    none (suc zero) game among e = (let same = led_same 4 7 7 game among e in omega (arith, same))
    none (suc (suc zero)) game among e = (let same = led_same 5 7 7 game among e in omega (arith, same))
    none (suc (suc (suc zero))) game among e = (let same = led_same 6 7 7 game among e in omega (arith, same))
    none (suc (suc (suc (suc index)))) game among e = none-some game among

-- each card of the hold is led, and after the lead there is no card of the owner
led : (index mine theirs : ℕ) → slice_get pairs index ≡ Some (lost_after mine theirs) → IsBegun pairs (plays Owner mine ∷ [])
led index mine theirs among = record { index = index; game = lost_after mine theirs; among = among; begins = refl }

pub each_is_led : (mine theirs : ℕ) → HasEachCard close_to_lost pairs (lost_after mine theirs) 0
each_is_led mine theirs card other at can = leads other can
  where
    leads : (other : ℕ) → may_play close_to_lost [] other ≡ true → IsBegun pairs (plays Owner other ∷ [])
    leads zero can = led 0 0 1 refl
    leads (suc zero) can = absurd (both_ways false refl can)
    leads (suc (suc zero)) can = absurd (both_ways false refl can)
    leads (suc (suc (suc zero))) can = absurd (both_ways false refl can)
    leads (suc (suc (suc (suc zero)))) can = led 1 4 7 refl
    leads (suc (suc (suc (suc (suc zero))))) can = led 2 5 7 refl
    leads (suc (suc (suc (suc (suc (suc zero)))))) can = led 3 6 7 refl
    leads (suc (suc (suc (suc (suc (suc (suc other))))))) can =
        let not_held : has (0 ∷ 4 ∷ 5 ∷ 6 ∷ []) (suc (suc (suc (suc (suc (suc (suc other))))))) ≡ false = grind (arith, nat_tests) in
        absurd (both_ways _ not_held (and_parts _ _ (and_parts _ _ can).0).0)

lead_alone : (problem : Setup) (games : List Game) (mine theirs turn : ℕ) → 1 ≤ turn → HasEachCard problem games (lost_after mine theirs) turn
lead_alone problem games mine theirs zero late = absurd (omega (arith, late))
lead_alone problem games mine theirs (suc zero) late = λ card other at can. (
    let act = same_Some (plays Opponent theirs) (own_card card) at in absurd (let side : Opponent ≡ Owner = ap (λ (act : Act). act.side) act in cc)
    )
lead_alone problem games mine theirs (suc (suc turn)) late = λ card other at can. absurd (none-some (own_card card) at)

pairs_turn : (mine theirs turn : ℕ) → HasEachCard close_to_lost pairs (lost_after mine theirs) turn
pairs_turn mine theirs zero = each_is_led mine theirs
pairs_turn mine theirs (suc turn) = lead_alone close_to_lost pairs mine theirs (suc turn) (omega arith)

pairs_each : (index turn : ℕ) (game : Game) → slice_get pairs index ≡ Some game → HasEachCard close_to_lost pairs game turn
pairs_each zero turn game among = subst (λ game. HasEachCard close_to_lost pairs game turn) (same_Some (lost_after 0 1) game among) (pairs_turn 0 1 turn)
pairs_each (suc zero) turn game among = subst (λ game. HasEachCard close_to_lost pairs game turn) (same_Some (lost_after 4 7) game among) (pairs_turn 4 7 turn)
pairs_each (suc (suc zero)) turn game among =
    subst (λ game. HasEachCard close_to_lost pairs game turn) (same_Some (lost_after 5 7) game among) (pairs_turn 5 7 turn)
pairs_each (suc (suc (suc zero))) turn game among =
    subst (λ game. HasEachCard close_to_lost pairs game turn) (same_Some (lost_after 6 7) game among) (pairs_turn 6 7 turn)
pairs_each (suc (suc (suc (suc index)))) turn game among = absurd (none-some game among)

pub pairs_refute : Refutes close_to_lost pairs
pairs_refute = record { some = (lost_after 0 1, refl); missed = pairs_miss; complete = λ index turn game among late. pairs_each index turn game among }

-- so no player is sure, not even the one who looks at suits
pub nobody_is_sure : ¬ (IsSurePlayer close_to_lost by_suit)
nobody_is_sure sure = refuted close_to_lost pairs by_suit (setup_from close_to_lost refl tt (refl, refl) (omega arith) tt tt) pairs_refute sure

-- ---- games that don't refute
pub no_game_at_all : ¬ (Refutes close_to_lost [])
no_game_at_all is = none-some is.some.0 is.some.1

-- nor does a game whose deal has too few cards
pub no_game_of_a_deal : ¬ (Refutes close_to_lost (game_with (record pairing { throw = 8 ∷ [] }) [] ∷ []))
no_game_of_a_deal is =
    let two = (is.missed 0 (game_with (record pairing { throw = 8 ∷ [] }) []) refl).of_game.deal.deal.thrown in absurd (omega (arith, two))

-- one two of three isn't enough
abbrev without_a_two : List Game
without_a_two = lost_after 0 1 ∷ lost_after 4 7 ∷ lost_after 5 7 ∷ []

pub each_two_is_needed : ¬ (Refutes close_to_lost without_a_two)
each_two_is_needed is =
    let begun = is.complete 0 0 (lost_after 0 1) refl (omega arith) 0 6 refl refl in none begun.index begun.game begun.among begun.begins
  where
    none : (index : ℕ) (game : Game) → slice_get without_a_two index ≡ Some game → acts_before game 1 ≡ plays Owner 6 ∷ [] → ⊥
    none zero game among e = (let same = led_same 0 1 6 game among e in omega (arith, same))
    none (suc zero) game among e = (let same = led_same 4 7 6 game among e in omega (arith, same))
    none (suc (suc zero)) game among e = (let same = led_same 5 7 6 game among e in omega (arith, same))
    none (suc (suc (suc index))) game among e = none-some game among

-- an unfinished game; and one in which the owner reaches hole 121
pub not_missed : ¬ (IsMissed close_to_lost (game_with pairing (plays Owner 0 ∷ [])))
    × ¬ (IsMissed (record close_to_lost { scores = record { owner = 119; opponent = 119 } })
    (game_with pairing (plays Owner 4 ∷ plays Opponent 1 ∷ plays Owner 0 ∷ [])))
unfolding outcome_from hand_points crib_points
not_missed = (
  λ is. both_ways _ refl (missed_to close_to_lost (game_with pairing (plays Owner 0 ∷ [])) (setup_from _ refl tt (refl, refl) (omega arith) tt tt) is),
  λ is. both_ways _ refl (missed_to (record close_to_lost { scores = record { owner = 119; opponent = 119 } })
      (game_with pairing (plays Owner 4 ∷ plays Opponent 1 ∷ plays Owner 0 ∷ [])) (setup_from _ refl tt (refl, refl) (omega arith) tt tt) is),
)

-- a card that is held may be played, and none that was played, that is not held, or that doesn't fit: after TC TD 9C the two fits, and the eight doesn't. The
-- last eight fits, because TC TD 9C 2H made 31 before 5C 4C
pub cards_that_may_be_played :
    (map (may_play close_to_lost []) (0 ∷ 4 ∷ 7 ∷ 12 ∷ []) ≡ true ∷ true ∷ false ∷ false ∷ [])
    × (map (may_play close_to_lost (plays Opponent 1 ∷ plays Owner 0 ∷ [])) (0 ∷ 4 ∷ 1 ∷ []) ≡ false ∷ true ∷ false ∷ [])
    × (map (may_play level (reverse (take 4 level_acts))) (4 ∷ 28 ∷ 36 ∷ []) ≡ true ∷ false ∷ false ∷ [])
    × (map (may_play level (reverse (take 6 level_acts))) (4 ∷ 28 ∷ 36 ∷ 32 ∷ []) ≡ false ∷ true ∷ false ∷ false ∷ [])
    × (map (λ before. may_play level before 28) ((plays Owner 28 ∷ []) ∷ reverse (take 3 level_acts) ∷ reverse (take 2 level_acts) ∷ [])
    ≡ false ∷ false ∷ true ∷ [])
    × (may_play (record level { hold = 36 ∷ 38 ∷ 3 ∷ 28 ∷ [] }) (plays Owner 38 ∷ plays Opponent 37 ∷ plays Owner 36 ∷ []) 3 ≡ true)
    × (may_play (record level { hold = 36 ∷ 32 ∷ 16 ∷ 28 ∷ [] })
    (plays Opponent 12 ∷ plays Owner 16 ∷ plays Opponent 6 ∷ plays Owner 32 ∷ plays Opponent 37 ∷ plays Owner 36 ∷ []) 28 ≡ true)
cards_that_may_be_played = (refl, refl, refl, refl, refl, refl, refl)

-- with four holes to go the second turn counts too: each first card is there, and after the aces neither of the other twos
abbrev four_to_go : Setup
four_to_go = record close_to_lost { scores = record { owner = 100; opponent = 117 } }

abbrev in_four : ℕ → ℕ → ℕ → ℕ → Game
in_four first second third fourth = game_with pairing (plays Owner first ∷ plays Opponent second ∷ plays Owner third ∷ plays Opponent fourth ∷ [])

abbrev first_turns : List Game
first_turns = in_four 0 1 4 7 ∷ in_four 4 7 0 1 ∷ in_four 5 7 0 1 ∷ in_four 6 7 0 1 ∷ []

pub first_turn_has_each : HasEachCard four_to_go first_turns (in_four 0 1 4 7) 0 × ¬ (HasEachCard four_to_go first_turns (in_four 0 1 4 7) 2)
first_turn_has_each = (
  each_from four_to_go first_turns (in_four 0 1 4 7) 0 0 refl refl,
  λ each. both_ways (is_begun first_turns (plays Owner 0 ∷ plays Opponent 1 ∷ []) 5) refl
      (begun_to first_turns (plays Owner 0 ∷ plays Opponent 1 ∷ []) 5 (each 4 5 refl refl)),
)

pub some_game_plays_a_diamond : HasEachCard four_to_go first_turns (in_four 0 1 4 7) 2 →
    IsBegun first_turns (plays Owner 5 ∷ plays Opponent 1 ∷ plays Owner 0 ∷ [])
some_game_plays_a_diamond each = each 4 5 refl refl

-- ---- after the ace of clubs was led one game refutes: no other lead need be there
ace_led_is : longer close_to_lost (own_card 0) ≡ ace_led
ace_led_is = refl

ace_lost : IsMissed ace_led (lost_after 0 1)
unfolding set_where outcome_from hand_points crib_points
ace_lost = record {
  played = Card 1 ∷ Card 0 ∷ [];
  of_game = record {
    deal = record { deal = record { held = refl; thrown = refl; distinct = refl; hidden_before = refl }; fixed = refl };
    legal = ((tt, may (Card 0) [] refl (refl, refl)), may (Card 1) (Card 0 ∷ []) refl (refl, refl));
    acts = refl;
    begins = record { later = plays Opponent 1 ∷ []; parts = refl };
  };
  done = refl;
  missed = λ reached. cc;
}

pub one_game_refutes : Refutes ace_led (lost_after 0 1 ∷ [])
one_game_refutes = record {
  some = (lost_after 0 1, refl);
  missed = ace_missed;
  complete = λ index turn game among late. ace_each index turn game among late;
}
  where
    ace_missed : (index : ℕ) (game : Game) → slice_get (lost_after 0 1 ∷ []) index ≡ Some game → IsMissed ace_led game
    ace_missed zero game among = subst (IsMissed ace_led) (same_Some (lost_after 0 1) game among) ace_lost
    ace_missed (suc index) game among = absurd (none-some game among)

    ace_each : (index turn : ℕ) (game : Game) → slice_get (lost_after 0 1 ∷ []) index ≡ Some game → 1 ≤ turn →
        HasEachCard ace_led (lost_after 0 1 ∷ []) game turn
    ace_each zero turn game among late =
        subst (λ game. HasEachCard ace_led (lost_after 0 1 ∷ []) game turn) (same_Some (lost_after 0 1) game among)
        (lead_alone ace_led (lost_after 0 1 ∷ []) 0 1 turn late)
    ace_each (suc index) turn game among late = absurd (none-some game among)

-- the ace and the two of clubs may be led, and the two of spades, which isn't held, may not
pub leads : MayPlay close_to_lost 0 × MayPlay close_to_lost 4 × ¬ (MayPlay close_to_lost 7)
leads = (refl, refl, λ may. both_ways _ refl may)

-- ---- what the judge compares
pub compared :
    (map (goes_on (plays Owner 0 ∷ plays Opponent 1 ∷ plays Owner 4 ∷ []) (plays Owner 0 ∷ plays Opponent 1 ∷ [])) (4 ∷ 5 ∷ []) ≡ true ∷ false ∷ [])
    × (goes_on (plays Owner 0 ∷ plays Opponent 1 ∷ []) (plays Owner 0 ∷ []) 1 ≡ false) × (goes_on (plays Owner 0 ∷ []) (plays Owner 0 ∷ []) 4 ≡ false)
    × (goes_on (plays Owner 0 ∷ plays Owner 4 ∷ []) (plays Owner 1 ∷ []) 4 ≡ false)
    × (map (is_played (plays Owner 0 ∷ says_go Opponent ∷ plays Opponent 1 ∷ [])) (0 ∷ 1 ∷ 2 ∷ []) ≡ true ∷ true ∷ false ∷ [])
    × (map (may_follow (plays Owner 0 ∷ []) 22) (0 ∷ 32 ∷ 36 ∷ []) ≡ false ∷ true ∷ false ∷ [])
    × (map (is_begun pairs []) (0 ∷ 4 ∷ 7 ∷ []) ≡ true ∷ true ∷ false ∷ [])
    × (map (λ hold. has_each pairs hold [] 0) ((0 ∷ 4 ∷ []) ∷ (0 ∷ 7 ∷ []) ∷ []) ≡ true ∷ false ∷ []) × (has_each pairs (0 ∷ 7 ∷ []) [] 31 ≡ true)
    × (map is_miss (None ∷ Some Reached ∷ Some Lost ∷ Some Short ∷ []) ≡ false ∷ false ∷ true ∷ true ∷ [])
    × (map (owners_card Owner) (Card 4 ∷ Go ∷ []) ≡ Some 4 ∷ None ∷ []) × (owners_card Opponent (Card 4) ≡ None)
compared = (refl, refl, refl, refl, refl, refl, refl, refl, refl, refl, refl, refl)
