-- The code follows a plan act by act: its place is that after the acts so far.
use Rattle.std.proofs.Common.{◌≡◌, Bool, true, cond, List, ◌∷◌, ◌∙◌}
use Rattle.crib_cards.specs.declared.moves.Act.{Act}
use Rattle.crib_play.specs.History.{moves_of}
use Rattle.crib_plan.specs.declared.plan.Next.{Next}
use Rattle.crib_plan.specs.declared.plan.Node.{Node}
use Rattle.crib_problem.specs.Setup.{Setup, start_of}
use Rattle.crib_game.specs.declared.replaying.report.Row.{Row}
use Rattle.crib_game.specs.Following.{place_after_turn}
use Rattle.crib_game.specs.Private.Tracing.{IsPlanAfter}
use Rattle.crib_game.specs.Private.Walking.{IsNext}
use Rattle.crib_game.proofs.PlacesOfRecords.{place_more}

pub plan_next : {first plan : List Node} {place new : Next} {problem : Setup} {before : List Act} {act : Act} {is_played : Bool} {row : Row} →
    IsPlanAfter first plan place problem before → IsNext problem before act is_played row →
    new ≡ cond is_played place (place_after_turn plan act.side act.what true place) → IsPlanAfter first plan new problem (act ∷ before)
plan_next {first} {plan} {place} {new} {problem} {before} {act} is next moved = record {
  same = is.same;
  place_is = moved ∙ (λ i. cond (next.played i) (is.place_is i) (place_after_turn (is.same i) act.side act.what true (is.place_is i)))
      ∙ place_more first problem.played (start_of problem) act.side act.what (moves_of before) next.side next.visible;
}
