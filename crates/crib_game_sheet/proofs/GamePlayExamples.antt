-- Worked examples of what the acts of the play count points for. Records are written with the first turn first, and `reverse` turns them.
use Rattle.std.specs.Prelude.{◌≡◌, ℕ, refl, [], ◌∷◌, map, reverse}
use Rattle.crib_play.specs.Record.{Record}
use Rattle.crib_cards.specs.Start.{Start}
use Rattle.crib_cards.specs.declared.letters.Letter.TheVariants as letter
use Rattle.crib_cards.specs.declared.letters.Letter.TheVariants.{Seen}
use Rattle.crib_cards.specs.declared.sides.Side.TheVariants.{Opponent}
use Rattle.crib_game_sheet.specs.declared.game.reason.PlayReason.TheVariants.{Fifteen, ThirtyOne, Alike, Run, Go, LastCard}
use Rattle.crib_game_sheet.specs.GameLaws.{reasons_in}
use Rattle.crib_game_sheet.specs.GamePlay.{reason_points, reasons_added, reasons_points, turn_reasons}

-- the opponent deals, and both scores are 0
abbrev level_start : Start
level_start = record { dealer = Opponent; scores = record { owner = 0; opponent = 0 }; target = 121 }

-- the turns before the eighth card, after a close at 30, but for the last of them
abbrev before_the_eighth : ℕ → Record
before_the_eighth last = reverse (Seen 10 ∷ Seen 12 ∷ Seen 13 ∷ letter.Go ∷ letter.Go ∷ Seen 9 ∷ Seen 4 ∷ Seen 7 ∷ Seen last ∷ [])

-- of the run behind a pair: the pair of sixes is no part of it, and the cards with it are none. The jack after the close at 31 is
-- neither a run nor a pair with the cards before it. Then the eighth card, at 31, below it, and as a pair, and a first and a second go
reasons_of_turns :
    (turn_reasons (Seen 5) [] ≡ [])
    × (turn_reasons (Seen 7) (reverse (Seen 1 ∷ Seen 7 ∷ [])) ≡ Fifteen ∷ Alike 2 ∷ [])
    × (turn_reasons (Seen 4) (reverse (Seen 2 ∷ Seen 4 ∷ Seen 4 ∷ [])) ≡ Alike 3 ∷ [])
    × (turn_reasons (Seen 7) (reverse (Seen 7 ∷ Seen 7 ∷ Seen 7 ∷ [])) ≡ Alike 4 ∷ [])
    × (turn_reasons (Seen 6) (reverse (Seen 4 ∷ Seen 2 ∷ Seen 3 ∷ Seen 5 ∷ [])) ≡ Run 5 ∷ [])
    × (turn_reasons (Seen 4) (reverse (Seen 6 ∷ Seen 5 ∷ [])) ≡ Fifteen ∷ Run 3 ∷ [])
    × (turn_reasons (Seen 4) (reverse (Seen 6 ∷ Seen 6 ∷ Seen 5 ∷ [])) ≡ Run 3 ∷ [])
    × (turn_reasons (Seen 1) (reverse (Seen 10 ∷ Seen 12 ∷ Seen 13 ∷ [])) ≡ ThirtyOne ∷ [])
    × (turn_reasons (Seen 11) (reverse (Seen 13 ∷ Seen 12 ∷ Seen 11 ∷ Seen 1 ∷ [])) ≡ [])
    × (turn_reasons (Seen 8) (before_the_eighth 3) ≡ ThirtyOne ∷ [])
    × (turn_reasons (Seen 8) (before_the_eighth 2) ≡ LastCard ∷ [])
    × (turn_reasons (Seen 2) (before_the_eighth 2) ≡ Alike 2 ∷ LastCard ∷ [])
    × (turn_reasons letter.Go (reverse (Seen 10 ∷ Seen 12 ∷ Seen 13 ∷ [])) ≡ [])
    × (turn_reasons letter.Go (reverse (Seen 10 ∷ Seen 12 ∷ Seen 13 ∷ letter.Go ∷ [])) ≡ Go ∷ [])
reasons_of_turns = (refl, refl, refl, refl, refl, refl, refl, refl, refl, refl, refl, refl, refl, refl)

-- the reasons of a whole record: the pair of tens, 31, a go, and the last card. The opponent's go at 28 counts 1: the silent go before
-- it makes it a close. After his go the owner plays two aces and has no card left: the pair, and the close by two silent gos
reasons_of_records :
    (reasons_in (reverse (Seen 10 ∷ Seen 10 ∷ Seen 9 ∷ letter.Go ∷ Seen 2 ∷ Seen 13 ∷ Seen 8 ∷ Seen 13 ∷ letter.Go ∷ letter.Go ∷ letter.Go ∷ Seen 12 ∷ []))
    ≡ Alike 2 ∷ ThirtyOne ∷ Go ∷ LastCard ∷ [])
    × (reasons_added level_start letter.Go (reverse (Seen 10 ∷ Seen 10 ∷ Seen 9 ∷ letter.Go ∷ Seen 2 ∷ Seen 13 ∷ Seen 8 ∷ Seen 13 ∷ [])) ≡ Go ∷ [])
    × (reasons_added level_start (Seen 1) (reverse (Seen 10 ∷ Seen 10 ∷ Seen 5 ∷ letter.Go ∷ Seen 1 ∷ [])) ≡ Alike 2 ∷ Go ∷ [])
reasons_of_records = (refl, refl, refl)

points_of_reasons : (map reason_points (Alike 3 ∷ Alike 4 ∷ Run 5 ∷ []) ≡ 6 ∷ 12 ∷ 5 ∷ []) × (reasons_points (Fifteen ∷ Alike 2 ∷ []) ≡ 4)
points_of_reasons = (refl, refl)
