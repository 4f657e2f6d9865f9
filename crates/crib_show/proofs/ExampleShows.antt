-- Deals that worked examples use. A card of rank r is 4 * (r - 1), and 1, 2, 3 more for diamonds, hearts and spades.
use Rattle.std.specs.Prelude.{[], ◌∷◌, List, ℕ, true, false, replicate}
use Rattle.crib_cards.specs.Deals.{unseen_from}
use Rattle.crib_cards.specs.Sets.{rank_counts}
use Rattle.crib_cards.specs.declared.sides.Dealt.{Dealt}
use Rattle.crib_cards.specs.declared.sides.Scores.{Scores}
use Rattle.crib_cards.specs.declared.sides.Side.{Side}
use Rattle.crib_cards.specs.declared.sides.Side.TheVariants.{Opponent}
use Rattle.crib_show.specs.declared.deals.Full.{Full}
use Rattle.crib_show.specs.declared.deals.WorstShow.{WorstShow}

-- a deal with this starter, own hold, own throw and cards of the opponent, before any hole
abbrev deal_of : ℕ → List ℕ → List ℕ → Dealt → Full
deal_of starter hold throw opp = record {
  dealer = Opponent;
  scores = record { owner = 0; opponent = 0 };
  target = 121;
  starter = starter;
  own_hold = hold;
  own_throw = throw;
  opp = opp;
  stop = false;
}

-- TC 9C 2C 8C and 4S 6S against TD KD KH QS and 5H 7D, with 3H: 9 for the pone, 2 for the dealer, 9 for the crib
abbrev pub clubs_and_kings : Full
clubs_and_kings = record (deal_of 10 (36 ∷ 32 ∷ 4 ∷ 28 ∷ []) (15 ∷ 23 ∷ []) (record { hold = 37 ∷ 49 ∷ 50 ∷ 47 ∷ []; throw = 18 ∷ 25 ∷ [] })) {
  scores = record { owner = 2; opponent = 4 };
}

-- 2C 2D 2H 2S and 4C 6D against AC AD AH AS and 3C 3D, with KD
abbrev pub twos_and_aces : Side → Scores → ℕ → Full
twos_and_aces dealer scores target =
    record (deal_of 49 (4 ∷ 5 ∷ 6 ∷ 7 ∷ []) (12 ∷ 21 ∷ []) (record { hold = 0 ∷ 1 ∷ 2 ∷ 3 ∷ []; throw = 8 ∷ 9 ∷ [] })) {
      dealer = dealer;
      scores = scores;
      target = target;
    }

-- with 2C 4C and 6C 8C thrown and TD turned up, the crib has no flush: it needs all five cards
abbrev pub clubs_thrown : Full
clubs_thrown = deal_of 37 (0 ∷ 1 ∷ 2 ∷ 3 ∷ []) (4 ∷ 12 ∷ []) (record { hold = 48 ∷ 49 ∷ 50 ∷ 51 ∷ []; throw = 20 ∷ 28 ∷ [] })

-- the same twos where four aces were shown: AC is fixed
abbrev pub four_aces : WorstShow
four_aces = record {
  dealer = Opponent;
  scores = record { owner = 3; opponent = 93 };
  target = 121;
  starter = 49;
  own_hold = 4 ∷ 5 ∷ 6 ∷ 7 ∷ [];
  own_throw = 12 ∷ 21 ∷ [];
  ranks = rank_counts (replicate 4 1);
  unseen = unseen_from (49 ∷ 4 ∷ 5 ∷ 6 ∷ 7 ∷ 12 ∷ 21 ∷ []);
  fixed = 0 ∷ [];
  stop = true;
}

-- twelve points in the hand and sixteen in the crib bring the opponent to 121
abbrev pub aces_and_fives : Dealt
aces_and_fives = record { hold = 0 ∷ 1 ∷ 2 ∷ 3 ∷ []; throw = 16 ∷ 17 ∷ [] }
