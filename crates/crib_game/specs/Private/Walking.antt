-- What the code knows along the acts of a game, and after the last one.
use Rattle.std.specs.Prelude.{◌≡◌, Bool, List, None, is_some, IsTrue}
use Rattle.crib_cards.specs.Deals.{six_cards}
use Rattle.crib_cards.specs.Letters.{letter_of}
use Rattle.crib_cards.specs.Start.{Start, pone_of, Hands}
use Rattle.crib_cards.specs.declared.sides.Dealt.{Dealt}
use Rattle.crib_cards.specs.declared.moves.Move.{Move}
use Rattle.crib_cards.specs.declared.moves.Act.{Act}
use Rattle.crib_play.specs.Record.{mover}
use Rattle.crib_play.specs.Filled.{is_visible}
use Rattle.crib_play.specs.Standing.{StandsFor}
use Rattle.crib_play.specs.Legal.{letters_of}
use Rattle.crib_play.specs.History.{filled_moves, moves_of}
use Rattle.crib_problem.specs.Setup.{Setup, IsSetup, known_cards, start_of, hands_of}
use Rattle.crib_game.specs.declared.section.game.Game.{Game}
use Rattle.crib_game.specs.declared.replaying.judging.JudgedGame.{JudgedGame}
use Rattle.crib_game.specs.declared.replaying.report.Row.{Row}
use Rattle.crib_game.specs.Replay.{Judge, acts_back, acts_fault, act_row, first_seen, game_fault_by, next_played}
use Rattle.crib_game.specs.Spelling.{AreSixCards}
use Rattle.crib_game.specs.Private.Judging.{left_by}

-- the opponent's six cards are not refused
pub record CanBeJudged (problem : Setup) (dealt : Dealt) : Type 0 where
  pub setup : IsSetup problem
  pub six : AreSixCards dealt
  pub unseen : first_seen (known_cards problem) 1 (six_cards dealt) ≡ None

-- a game after some acts, none of which is refused: its round is the one after them, and its cards are those that are
-- left
pub record IsJudged (judge : Judge) (start : Start) (hands : Hands) (walk : JudgedGame) (before : List Act) : Type 0
  where
    pub stands : StandsFor walk.round start (letters_of (moves_of before))
    pub clear : acts_fault judge start hands before ≡ None
    pub holds : walk.held ≡ left_by hands (moves_of before)

-- a game after its last act. It is not refused
pub record IsJudgedGame (judge : Judge) (problem : Setup) (game : Game) (walk : JudgedGame) : Type 0 where
  pub six : AreSixCards game.opp
  pub clear : game_fault_by judge problem game ≡ None
  pub after : IsJudged judge (start_of problem) (hands_of problem game.opp) walk (acts_back game)

-- the filled record of some acts
abbrev pub record_after : Setup → List Act → List Move
record_after problem before = filled_moves (start_of problem) (moves_of before)

-- an act may come next after some acts: its side is to move, and it is visible. `is_played` is whether the opening has
-- a turn with its number, and `row` is the row of the act
pub record IsNext (problem : Setup) (before : List Act) (act : Act) (is_played : Bool) (row : Row) : Type 0 where
  pub side : act.side ≡ mover (pone_of (start_of problem)) (letters_of (record_after problem before))
  pub visible : IsTrue
      (is_visible (pone_of (start_of problem)) (letter_of act.what) (letters_of (record_after problem before)))
  pub played : is_played
      ≡ is_some (next_played problem.played (pone_of (start_of problem)) (record_after problem before))
  pub row_is : row ≡ act_row (start_of problem) act before
