-- What a plan to try guarantees, sure or not.
use Rattle.std.specs.Prelude.{List, IsFalse}
use Rattle.crib_cards.specs.declared.sides.Dealt.{Dealt}
use Rattle.crib_cards.specs.declared.moves.Move.{Move}
use Rattle.crib_problem.specs.Setup.{Setup, start_of, hands_of}
use Rattle.crib_plan.specs.declared.plan.Node.{Node}
use Rattle.crib_game.specs.Following.{is_stuck}
use Rattle.crib_sure.specs.Sure.{IsFollowed}

-- a plan is never stuck: for every deal and every legal record that follows the plan, the plan states a card that the
-- owner may play wherever the owner has to choose one
abbrev pub IsNeverStuck : Setup → List Node → Type 0
IsNeverStuck problem plan =
    (dealt : Dealt) (played : List Move) → IsFollowed problem plan dealt played →
    IsFalse (is_stuck plan problem.played (start_of problem) (hands_of problem dealt) played)
