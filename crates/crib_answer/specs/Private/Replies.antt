-- The ends of lines.
use Rattle.std.specs.Prelude.{ℕ, List, ◌∷◌}
use Rattle.crib_cards.specs.declared.sides.Scores.{Scores}
use Rattle.crib_text.specs.Spelling.{space, line_text}
use Rattle.crib_answer.specs.Answer.{score_words}

-- the end of a line: a space, both scores, and LF
unfoldable pub score_tail : Scores → List ℕ
score_tail scores = space ∷ line_text (score_words scores)
