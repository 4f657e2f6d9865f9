-- Problems in which the throw doesn't decide whether the goal is reached.
use Rattle.std.specs.Prelude.{◌≡◌, List, IsTrue}
use Rattle.crib_cards.specs.Start.{pone_of}
use Rattle.crib_cards.specs.declared.sides.Dealt.{Dealt}
use Rattle.crib_cards.specs.declared.moves.Move.{Move}
use Rattle.crib_play.specs.History.{acts_of}
use Rattle.crib_play.specs.Legal.{IsLegal}
use Rattle.crib_show.specs.declared.show.outcomes.Outcome.TheVariants.{Reached}
use Rattle.crib_problem.specs.Setup.{Setup, BeginsAsPlayed, IsSetup, IsDealOf, hands_of, start_of}
use Rattle.crib_game.specs.Replay.{is_done_for, outcome_for, play_scores}

-- if one of two deals with the same hold reaches the goal after a legal record that begins with the opening, and after
-- which the deal is done, so does the other
pub record IsByHold (problem : Setup) : Type 0 where
  pub setup : IsSetup problem
  pub same : (dealt other : Dealt) (played : List Move) → IsDealOf problem dealt → IsDealOf problem other →
      dealt.hold ≡ other.hold → IsLegal (start_of problem) (hands_of problem dealt) played →
      BeginsAsPlayed problem (acts_of (pone_of (start_of problem)) played) → IsTrue (is_done_for problem played) →
      outcome_for problem dealt (play_scores problem played) ≡ Reached →
      outcome_for problem other (play_scores problem played) ≡ Reached
