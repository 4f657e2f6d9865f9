-- What worked examples of several crates share: problems, deals and acts. A card is a number below 52: 0 is AC, 1 is AD, 4 is 2C.
use Rattle.std.specs.Prelude.{ℕ, List, [], ◌∷◌}
use Rattle.crib_cards.specs.declared.sides.Dealt.{Dealt}
use Rattle.crib_cards.specs.declared.sides.Side.{Side}
use Rattle.crib_cards.specs.declared.sides.Side.TheVariants.{Owner, Opponent}
use Rattle.crib_cards.specs.declared.moves.Move.TheVariants as move
use Rattle.crib_cards.specs.declared.moves.Act.{Act}
use Rattle.crib_problem.specs.declared.problem.Goal.TheVariants.{Win, Holes}
use Rattle.crib_problem.specs.declared.problem.Version.TheVariants.{One, Two}
use Rattle.crib_problem.specs.Setup.{Setup}

-- the act of a side with a card, and its go
abbrev pub plays : Side → ℕ → Act
plays side card = record { side = side; what = move.Card card }

abbrev pub says_go : Side → Act
says_go side = record { side = side; what = move.Go }

-- the owner holds TC 9C 2C 8C, and the opponent deals; the goal is to win
abbrev pub level : Setup
level = record {
  version = One;
  dealer = Opponent;
  scores = record { owner = 0; opponent = 0 };
  starter = 10;
  hold = 36 ∷ 32 ∷ 4 ∷ 28 ∷ [];
  thrown = 15 ∷ 23 ∷ [];
  goal = Win;
  played = [];
}

-- the same after own TC and opp TD
abbrev pub after_tens : Setup
after_tens = record level { version = Two; played = plays Owner 36 ∷ plays Opponent 37 ∷ [] }

-- tens and kings of the opponent, and all acts of a game against them
abbrev pub level_deal : Dealt
level_deal = record { hold = 37 ∷ 49 ∷ 50 ∷ 47 ∷ []; throw = 18 ∷ 25 ∷ [] }

abbrev pub level_acts : List Act
level_acts = plays Owner 36 ∷ plays Opponent 37 ∷ plays Owner 32 ∷ says_go Opponent ∷ plays Owner 4 ∷ plays Opponent 49 ∷ plays Owner 28 ∷ plays Opponent
    50 ∷ says_go Opponent ∷ plays Opponent 47 ∷ []

-- the pone holds four twos, and wants thirteen holes
abbrev pub four_twos : Setup
four_twos = record level { starter = 49; hold = 4 ∷ 5 ∷ 6 ∷ 7 ∷ []; thrown = 12 ∷ 21 ∷ []; goal = Holes 13 }

-- the same after own 2C and opp AC
abbrev pub after_two : Setup
after_two = record four_twos { version = Two; played = plays Owner 4 ∷ plays Opponent 0 ∷ [] }

-- four aces of the opponent, and all acts of a game against them
abbrev pub aces : Dealt
aces = record { hold = 0 ∷ 1 ∷ 2 ∷ 3 ∷ []; throw = 8 ∷ 9 ∷ [] }

abbrev pub twos_and_aces : List Act
twos_and_aces = plays Owner 4 ∷ plays Opponent 0 ∷ plays Owner 5 ∷ plays Opponent 1 ∷ plays Owner 6 ∷ plays Opponent 2 ∷ plays Owner 7 ∷ plays Opponent 3 ∷ []

-- the opponent is two holes from the end, and has an ace for the one that the owner holds
abbrev pub close_to_lost : Setup
close_to_lost = record four_twos { scores = record { owner = 100; opponent = 119 }; hold = 0 ∷ 4 ∷ 5 ∷ 6 ∷ []; goal = Win }

abbrev pub pairing : Dealt
pairing = record { hold = 1 ∷ 2 ∷ 3 ∷ 7 ∷ []; throw = 8 ∷ 9 ∷ [] }
