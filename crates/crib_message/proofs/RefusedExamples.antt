-- Worked examples of what is marked: the wrong lines of the formats page, and lines for the rows of its table of refusals.
use Rattle.std.proofs.Common.{◌≡◌, refl, true, false, [], ◌∷◌, ◌++◌, codes, map}
use Rattle.std.specs.Prelude.{replicate}
use Rattle.std.specs.Fmt.{digits}
use Rattle.crib_cards.specs.CardText.{card_read}
use Rattle.crib_text.specs.Words.{number_read}
use Rattle.crib_game.specs.declared.fault.GameFault.TheVariants.{NotUnseen, NotHeld, DoesNotFit, MustPlay, NotTurn, AfterEnd, Strays, NotAsPlayed}
use Rattle.crib_game.specs.Refusals.{game_fault_number}
use Rattle.crib_message.specs.Message.{is_for, is_refused}

-- each wrong line of the page, with what is wrong of it
pub wrong_lines :
    is_refused 21 (codes "score 120 ") (codes "121") [] ∷ is_refused 6 (codes "score ") (codes "007") (codes " 0")
    ∷ is_refused 5 (codes "hold 2C 2D 2H ") (codes "1S") [] ∷ is_refused 20 (codes "throw 4C ") (codes "2S") []
    ∷ is_refused 4 (codes "dealer ") (codes "x") [] ∷ is_refused 4 (codes "goal ") (codes "x") [] ∷ is_refused 4 (codes "goal") [] []
    ∷ is_refused 4 (codes "goal ") (codes "stop") [] ∷ is_refused 4 [] (codes "1") (codes " play 2C 1")
    ∷ is_refused 30 (codes "0 see A:") (codes "end") [] ∷ is_refused 31 (codes "0 see ") (codes "5A:1") []
    ∷ is_refused 31 (codes "0 see A:1 ") (codes "2:1") [] ∷ [] ≡ replicate 12 true
unfolding number_read card_read digits
wrong_lines = refl

-- other words of these lines, which are right
pub right_words :
    is_refused 21 (codes "score ") (codes "120") (codes " 121") ∷ is_refused 6 (codes "score 007 ") (codes "0") []
    ∷ is_refused 5 (codes "hold 2C 2D ") (codes "2H") (codes " 1S") ∷ is_refused 20 [] (codes "throw") (codes " 4C 2S")
    ∷ is_refused 5 [] (codes "hold") (codes " 2C 2D 2H 1S") ∷ is_refused 30 (codes "0 see ") (codes "A:end") []
    ∷ is_refused 30 (codes "0 see ") (codes "A") (codes ":end") ∷ is_refused 31 (codes "0 ") (codes "see") (codes " 5A:1")
    ∷ is_refused 31 [] (codes "0") (codes " see A:1 2:1") ∷ [] ≡ replicate 9 false
unfolding number_read card_read digits
right_words = refl

-- the other refusals: a carriage return, a text that is cut short, a blank too many, a word too many, a branch without a colon, 33 acts,
-- a version, a line after the last section, holes, a turn, the target of a play line and nodes
pub other_refusals :
    is_refused 1 (codes "problem 1") (13 ∷ []) [] ∷ is_refused 3 (codes "own 2C") [] [] ∷ is_refused 4 (codes "own ") (codes " ") (codes "2C")
    ∷ is_refused 4 (codes "own 2C ") (codes "3C") [] ∷ is_refused 4 (codes "0 see ") (codes "A1") [] ∷ is_refused 6 (codes "acts ") (codes "33") []
    ∷ is_refused 7 (codes "problem ") (codes "3") [] ∷ is_refused 8 [] (codes "more") (codes " words") ∷ is_refused 22 (codes "goal holes ") (codes "122") []
    ∷ is_refused 23 (codes "opp ") (codes "go") [] ∷ is_refused 24 (codes "own ") (codes "2C") [] ∷ is_refused 30 (codes "2 play 2C ") (codes "1") []
    ∷ is_refused 32 (codes "nodes ") (codes "65536") [] ∷ [] ≡ replicate 13 true
unfolding number_read card_read digits
other_refusals = refl

-- words of these lines that are right: the word before a carriage return, words before the end, 32 acts, and the words before a number
pub other_words :
    is_refused 1 (codes "problem ") (codes "1") (13 ∷ []) ∷ is_refused 3 (codes "own ") (codes "2C") [] ∷ is_refused 3 (codes "own ") [] (codes "2C")
    ∷ is_refused 6 (codes "acts ") (codes "32") [] ∷ is_refused 7 [] (codes "problem") (codes " 3") ∷ is_refused 8 (codes "more ") (codes "words") []
    ∷ is_refused 22 (codes "goal ") (codes "holes") (codes " 122") ∷ is_refused 23 [] (codes "opp") (codes " go") ∷ is_refused 24 [] (codes "own") (codes " 2C")
    ∷ is_refused 30 (codes "2 play ") (codes "2C") (codes " 1") ∷ is_refused 32 [] (codes "nodes") (codes " 65536") ∷ [] ≡ replicate 11 false
unfolding number_read card_read digits
other_words = refl

-- a card that the opponent can't have is below `hold` or `throw`
pub refused_cards :
    is_refused (game_fault_number (NotUnseen 2)) (codes "hold 2C ") (codes "2D") (codes " 2H 2S")
    ∷ is_refused (game_fault_number (NotUnseen 5)) (codes "throw ") (codes "2C") (codes " 2D")
    ∷ is_refused (game_fault_number (NotUnseen 5)) [] (codes "throw") (codes " 2C 2D") ∷ [] ≡ true ∷ true ∷ false ∷ []
unfolding number_read card_read
refused_cards = refl

-- of an act the card is refused, or the side, or the whole line: where an act is not as it was played
pub refused_acts :
    (map (λ fault. is_refused (game_fault_number fault) (codes "own ") (codes "2C") [])
    (NotHeld 3 ∷ DoesNotFit 3 ∷ MustPlay 3 ∷ AfterEnd 3 ∷ Strays 3 ∷ NotTurn 3 ∷ NotAsPlayed 3 ∷ []) ≡ replicate 5 true ++ replicate 2 false)
    × (map (λ fault. is_refused (game_fault_number fault) [] (codes "own") (codes " 2C"))
    (NotTurn 3 ∷ NotHeld 3 ∷ DoesNotFit 3 ∷ MustPlay 3 ∷ AfterEnd 3 ∷ Strays 3 ∷ NotAsPlayed 3 ∷ []) ≡ true ∷ replicate 6 false)
    × (map (λ fault. is_refused (game_fault_number fault) [] (codes "own 2C") [])
    (NotAsPlayed 3 ∷ NotHeld 3 ∷ DoesNotFit 3 ∷ MustPlay 3 ∷ NotTurn 3 ∷ AfterEnd 3 ∷ Strays 3 ∷ []) ≡ true ∷ replicate 6 false)
unfolding number_read card_read
refused_acts = (refl, refl, refl)

pub numbers_of_games :
    map (is_for NotUnseen) (40 ∷ 45 ∷ 46 ∷ []) ++ map (is_for AfterEnd) (45 ∷ 46 ∷ 40 ∷ []) ++ map (is_for Strays) (46 ∷ 45 ∷ [])
    ++ map (is_for NotAsPlayed) (47 ∷ 46 ∷ []) ≡ true ∷ false ∷ false ∷ true ∷ false ∷ false ∷ true ∷ false ∷ true ∷ false ∷ []
numbers_of_games = refl
