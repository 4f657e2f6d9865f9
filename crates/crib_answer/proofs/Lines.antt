-- The text that the code puts together is the line that the definition states.
use Rattle.std.proofs.Common.{◌≡◌, ℕ, List, [], ◌∷◌, ◌++◌, codes, decimal, refl, sym, ap, append_assoc, Option}
use Rattle.std.specs.List.{flat_map}
use Rattle.crib_text.specs.Spelling.{space, line_feed, line_text}
use Rattle.crib_cards.specs.declared.sides.Scores.{Scores}
use Rattle.crib_show.specs.declared.show.outcomes.ShowRow.{ShowRow}
use Rattle.crib_show.specs.declared.show.outcomes.Outcome.{Outcome}
use Rattle.crib_show.specs.Words.{outcome_word, show_word}
use Rattle.crib_cards.specs.Words.{side_word}
use Rattle.crib_game.specs.declared.following.ending.Ending.{Ending}
use Rattle.crib_game.specs.Words.{ending_word}
use Rattle.crib_answer.specs.Answer.{counted_line, play_line}
use Rattle.crib_answer.specs.Private.Replies.{score_tail}

-- ---- scores
pub scores_written : (old : List ℕ) (scores : Scores)
    → ((((old ++ codes " ") ++ decimal scores.owner) ++ codes " ") ++ decimal scores.opponent) ++ codes "\n" ≡ old ++ score_tail scores
unfolding score_tail
scores_written old scores = regroup old (decimal scores.owner) (decimal scores.opponent)
  where
    regroup : (old a b : List ℕ) → ((((old ++ codes " ") ++ a) ++ codes " ") ++ b) ++ codes "\n" ≡ old ++ space ∷ ((a ++ space ∷ b) ++ line_feed ∷ [])
    regroup old a b = simp append_assoc

pub ruleset score_tails = (scores_written)

-- ---- a counted hand
pub counted_written : (old : List ℕ) (row : ShowRow)
    → (((((old ++ show_word row.crib) ++ codes " ") ++ side_word row.side) ++ codes " ") ++ decimal row.points) ++ score_tail row.scores
    ≡ old ++ counted_line row
unfolding counted_line score_tail
counted_written old row = regroup old (show_word row.crib) (side_word row.side) (decimal row.points) (decimal row.scores.owner) (decimal row.scores.opponent)
  where
    regroup : (old word side points a b : List ℕ)
        → (((((old ++ word) ++ codes " ") ++ side) ++ codes " ") ++ points) ++ (space ∷ ((a ++ space ∷ b) ++ line_feed ∷ []))
        ≡ old ++ ((word ++ space ∷ (side ++ space ∷ (points ++ space ∷ (a ++ space ∷ b)))) ++ line_feed ∷ [])
    regroup old word side points a b = simp append_assoc

pub ruleset counted_lines = (counted_written)

-- ---- a line of one word
pub word_written : (old word : List ℕ) → (old ++ word) ++ codes "\n" ≡ old ++ line_text (word ∷ [])
word_written old word = append_assoc old word (codes "\n")

pub ruleset words = (word_written)

-- ---- a report
play_written : (scores : Scores) → codes "play" ++ score_tail scores ≡ play_line scores
unfolding play_line score_tail
play_written scores = sym (append_assoc (codes "play") (space ∷ (decimal scores.owner ++ space ∷ decimal scores.opponent)) (line_feed ∷ []))

pub report_written : (scores : Scores) (rows : List ShowRow) (over : Option Outcome)
    → ((([] ++ codes "play") ++ score_tail scores) ++ flat_map counted_line rows) ++ line_text (outcome_word over ∷ [])
    ≡ (play_line scores ++ flat_map counted_line rows) ++ line_text (outcome_word over ∷ [])
report_written scores rows over = ap (λ (front : List ℕ). (front ++ flat_map counted_line rows) ++ line_text (outcome_word over ∷ [])) (play_written scores)

pub ruleset reports = (report_written)

-- ---- a verdict
pub holds_written : line_text (codes "holds" ∷ []) ≡ codes "holds\n"
holds_written = refl

pub fails_written : (result : Ending) (game : List ℕ)
    → (([] ++ codes "fails ") ++ line_text (ending_word result ∷ [])) ++ game ≡ line_text (codes "fails" ∷ ending_word result ∷ []) ++ game
fails_written result game = refl

pub ruleset verdicts = (holds_written, fails_written)
