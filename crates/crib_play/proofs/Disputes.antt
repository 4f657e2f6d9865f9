-- Worked examples of what people dispute about the play. Other disputes are elsewhere: the crib flush and who counts first in `crib_show`, and a plan that
-- runs out in `crib_game`.
use Rattle.std.specs.Prelude.{◌≡◌, refl, List, [], ◌∷◌, map, true, reverse}
use Rattle.std.specs.List.{list_any}
use Rattle.crib_cards.specs.declared.sides.Side.TheVariants.{Owner, Opponent}
use Rattle.crib_cards.specs.declared.letters.Letter.TheVariants.{Seen, Go}
use Rattle.crib_cards.specs.Start.{Start, Hands}
use Rattle.crib_cards.specs.declared.moves.Move.{Move}
use Rattle.crib_cards.specs.declared.moves.Move.TheVariants as move
use Rattle.crib_play.specs.declared.turns.Turn.TheVariants as turns
use Rattle.crib_play.specs.Record.{pile_of}
use Rattle.crib_play.specs.Filled.{filled_record, points_added, visible_turns}
use Rattle.crib_play.proofs.VisibleTurns.{asked_seen, count_seen}
use Rattle.crib_play.specs.Fitting.{fits_at}
use Rattle.crib_play.specs.Legal.{MayTake, fits, cards_left}
use Rattle.crib_play.specs.Least.{least_of}

-- the opponent deals, so the owner leads; both scores are 0
abbrev level_start : Start
level_start = record { dealer = Opponent; scores = record { owner = 0; opponent = 0 }; target = 121 }

-- ---- the last card and 31

-- K 8 K: after the go at 28 nobody is heard. It brings 1 for the last card, by the silent go that closes the count. K 8 K 3: 2 for 31, and no 1 beside it
last_card_or_31 : points_added level_start Go (reverse (Seen 13 ∷ Seen 8 ∷ Seen 13 ∷ Go ∷ []))
    ∷ points_added level_start (Seen 3) (reverse (Seen 13 ∷ Seen 8 ∷ Seen 13 ∷ [])) ∷ [] ≡ 1 ∷ 2 ∷ []
last_card_or_31 = refl

-- 31 closes the count by itself: the next player is asked over an empty pile
after_31 : (asked_seen level_start (reverse (Seen 13 ∷ Seen 8 ∷ Seen 13 ∷ Seen 3 ∷ [])) ≡ turns.Owner)
    × (count_seen level_start (reverse (Seen 13 ∷ Seen 8 ∷ Seen 13 ∷ Seen 3 ∷ [])) ≡ 0)
after_31 = (refl, refl)

-- ---- gos said twice

-- T 9 8 A, the owner says go at 28, and the opponent plays two more aces. The owner does not say go a second time: his further gos are silent. After the second
-- ace the opponent has played his four cards, so his own go is silent too. It closes the count and brings him 1.
one_go_is_said : filled_record level_start (reverse (Seen 10 ∷ Seen 9 ∷ Seen 8 ∷ Seen 1 ∷ Go ∷ Seen 1 ∷ Seen 1 ∷ []))
    ≡ reverse (Seen 10 ∷ Seen 9 ∷ Seen 8 ∷ Seen 1 ∷ Go ∷ Seen 1 ∷ Go ∷ Seen 1 ∷ Go ∷ Go ∷ [])
one_go_is_said = refl

one_go_is_seen : visible_turns Owner (reverse (Seen 10 ∷ Seen 9 ∷ Seen 8 ∷ Seen 1 ∷ Go ∷ Seen 1 ∷ Go ∷ Seen 1 ∷ Go ∷ Go ∷ []))
    ≡ reverse (Seen 10 ∷ Seen 9 ∷ Seen 8 ∷ Seen 1 ∷ Go ∷ Seen 1 ∷ Seen 1 ∷ [])
one_go_is_seen = refl

-- 2 for the pair of aces, and then 6 for three aces and 1 for the last card
more_aces : points_added level_start (Seen 1) (reverse (Seen 10 ∷ Seen 9 ∷ Seen 8 ∷ Seen 1 ∷ Go ∷ []))
    ∷ points_added level_start (Seen 1) (reverse (Seen 10 ∷ Seen 9 ∷ Seen 8 ∷ Seen 1 ∷ Go ∷ Seen 1 ∷ [])) ∷ [] ≡ 2 ∷ 7 ∷ []
more_aces = refl

-- ---- a run across a close

-- K Q T A makes 31. The two and the three that come next make no run with the ace, since the pile is a new one
pile_after_a_close : pile_of (filled_record level_start (reverse (Seen 13 ∷ Seen 12 ∷ Seen 10 ∷ Seen 1 ∷ Seen 2 ∷ Seen 3 ∷ [])))
    ≡ 2 ∷ 3 ∷ []
pile_after_a_close = refl

-- an ace that comes next makes no pair with the ace of the 31
nothing_across_a_close : points_added level_start (Seen 3) (reverse (Seen 13 ∷ Seen 12 ∷ Seen 10 ∷ Seen 1 ∷ Seen 2 ∷ []))
    ∷ points_added level_start (Seen 1) (reverse (Seen 13 ∷ Seen 12 ∷ Seen 10 ∷ Seen 1 ∷ [])) ∷ [] ≡ 0 ∷ 0 ∷ []
nothing_across_a_close = refl

-- ---- a go at 22, and what it shows

-- KC QC 2D make 22. The opponent, who holds TD JD QD, may say go. With a nine in place of the ten he may not
abbrev tens : Hands
tens = record { owner = 48 ∷ 5 ∷ 6 ∷ 7 ∷ []; opponent = 44 ∷ 37 ∷ 41 ∷ 45 ∷ [] }

abbrev nine_and_tens : Hands
nine_and_tens = record { owner = 48 ∷ 5 ∷ 6 ∷ 7 ∷ []; opponent = 44 ∷ 33 ∷ 41 ∷ 45 ∷ [] }

abbrev to_22 : List Move
to_22 = reverse (move.Card 48 ∷ move.Card 44 ∷ move.Card 5 ∷ [])

go_at_22 : MayTake tens Opponent move.Go to_22
go_at_22 = refl

no_go_with_a_nine : list_any (fits to_22) (cards_left nine_and_tens Opponent to_22) ≡ true
no_go_with_a_nine = refl

-- at 21 a king fits, so no player who holds a card may say go
king_at_21 : fits_at 21 48 ≡ true
king_at_21 = refl

-- so a go at 22 shows that each card left counts ten, and a go at 23 that it counts nine or ten
gos_that_tell : map (λ rank. least_of Owner Opponent (reverse (Seen 13 ∷ Seen 12 ∷ Seen rank ∷ Go ∷ []))) (2 ∷ 3 ∷ []) ≡ 10 ∷ 9 ∷ []
gos_that_tell = refl
