-- At which scores turns are sure, or a plan is. The opening is the visible turns that the problem lists as played.
use Rattle.std.specs.Prelude.{◌≡◌, ◌≢◌, ◌↔◌, ℕ, zero, suc, ◌-◌, min, List, [], ◌∷◌, IsTrue}
use Rattle.std.specs.List.{AllZip}
use Rattle.crib_cards.specs.declared.sides.Scores.{Scores}
use Rattle.crib_play.specs.declared.turns.Turn.TheVariants as turns
use Rattle.crib_problem.specs.declared.problem.Version.TheVariants.{Two}
use Rattle.crib_problem.specs.Setup.{Setup, IsSetup}
use Rattle.crib_know.specs.Knowledge.{asked_now, played_events}
use Rattle.crib_search.specs.Winnable.{IsWinnable}
use Rattle.crib_tables.specs.declared.scores.Mark.{Mark}
use Rattle.crib_tables.specs.declared.scores.Mark.TheVariants as mark
use Rattle.crib_tables.specs.declared.scores.Row.{Row}
use Rattle.crib_tables.specs.declared.scores.ScoreTable.{ScoreTable}
use Rattle.crib_tables.specs.Turns.{AreSure, own_turns}

-- the problem with other scores at the first lead
abbrev pub at_scores : Setup → Scores → Setup
at_scores problem scores = record problem { version = Two; scores = scores }

-- a mark at the scores of a problem. If the owner is to move, it is how many turns are sure; if not, whether a plan is
abbrev pub IsMark : Setup → Mark → Type 0
IsMark problem mark.Impossible = ⊥
IsMark problem (mark.Turns count) =
    (asked_now problem (played_events problem) ≡ turns.Owner) × AreSure problem (own_turns problem) count
IsMark problem (mark.Plan sure) =
    (asked_now problem (played_events problem) ≢ turns.Owner) × (IsTrue sure ↔ IsWinnable problem)

-- a mark at other scores of a problem, if the problem can have them
abbrev pub IsMarkAt : Setup → Scores → Mark → Type 0
IsMarkAt problem scores mark.Impossible = ¬ IsSetup (at_scores problem scores)
IsMarkAt problem scores (mark.Turns count) =
    IsSetup (at_scores problem scores) × IsMark (at_scores problem scores) (mark.Turns count)
IsMarkAt problem scores (mark.Plan sure) =
    IsSetup (at_scores problem scores) × IsMark (at_scores problem scores) (mark.Plan sure)

-- so many numbers, from this one on
abbrev pub numbers_from : ℕ → ℕ → List ℕ
numbers_from zero first = []
numbers_from (suc more) first = first ∷ numbers_from more (suc first)

-- 21 scores from 0 to 120, with this one in the middle if they fit
abbrev pub scores_around : ℕ → List ℕ
scores_around score = numbers_from 21 (min (score - 10) 100)

-- a row of marks is that of a score of the owner, with a mark for each of some scores of the opponent
abbrev pub IsRow : Setup → List ℕ → ℕ → Row → Type 0
IsRow problem columns owner row =
    (row.owner ≡ owner)
    × AllZip (λ opponent mark. IsMarkAt problem (record { owner = owner; opponent = opponent }) mark) columns
    row.marks.items

-- a table has the 21 scores of each side around those of a problem, with a mark at each two scores, and who is to move
pub record AreScores (problem : Setup) (table : ScoreTable) : Type 0 where
  pub turn : table.turn ≡ asked_now problem (played_events problem)
  pub columns : table.columns.items ≡ scores_around problem.scores.opponent
  pub rows : AllZip (IsRow problem table.columns.items) (scores_around problem.scores.owner) table.rows.items
