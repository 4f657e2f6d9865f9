-- The position in the middle of a play: the scores now, and the cards that the owner still holds.
use Rattle.std.specs.Prelude.{ℕ, ◌==◌, Bool, not, List, [], ◌++◌, length, filter, codes, decimal, if◌then◌else◌}
use Rattle.std.specs.List.{list_any}
use Rattle.crib_cards.specs.Sets.{has}
use Rattle.crib_cards.specs.declared.moves.Act.{Act}
use Rattle.crib_cards.specs.declared.sides.Scores.{Scores}
use Rattle.crib_problem.specs.Played.{cards_played}
use Rattle.crib_problem.specs.Setup.{Setup}
use Rattle.crib_know.specs.Knowledge.{knowledge_after, played_events}
use Rattle.crib_run.specs.Pieces.{other_score, spaced_cards}

-- whether a card is left after some acts: none of them plays it
abbrev pub is_left : List Act → ℕ → Bool
is_left acts card = not (has (cards_played acts) card)

-- the cards that the owner still holds after some acts
abbrev pub held_after : Setup → List Act → List ℕ
held_after problem acts = filter (is_left acts) problem.hold

-- these cards, each after a space, or that there is none
abbrev pub held_words : Setup → List Act → List ℕ
held_words problem acts =
    if list_any (is_left acts) problem.hold then spaced_cards (held_after problem acts) else codes " no card"

-- the scores after the opening
abbrev pub scores_now : Setup → Scores
scores_now problem = (knowledge_after problem (played_events problem)).round.scores

-- the line of the scores and the owner's cards after the opening
unfoldable pub now_line : Setup → List ℕ
now_line problem =
    codes "You are at " ++ decimal (scores_now problem).owner ++ codes " now"
    ++ other_score problem.dealer (scores_now problem).opponent ++ codes ". You still hold"
    ++ held_words problem problem.played ++ codes ".\n"

-- this line, in the middle of a play
abbrev pub now_text : Setup → List ℕ
now_text problem = if length problem.played == 0 then [] else now_line problem
