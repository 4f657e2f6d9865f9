-- The position after a turn represents the history with that turn.
use Rattle.std.proofs.Common.{◌≡◌, List, ◌∷◌, sym, ap, ◌∙◌}
use Rattle.crib_play.specs.History.{Event}
use Rattle.crib_problem.specs.Setup.{Setup}
use Rattle.crib_plan.specs.declared.plan.Next.{Next}
use Rattle.crib_plan.specs.declared.plan.Node.{Node}
use Rattle.crib_know.specs.Knowledge.{Knowledge}
use Rattle.crib_know.specs.Hidden.{KnowsAfter}
use Rattle.crib_sure.specs.declared.keys.Key.{Key}
use Rattle.crib_sure.specs.HistoryPlaces.{place_after_event, IsStatedEvent}
use Rattle.crib_sure.specs.Positions.{StandsAt}
use Rattle.crib_sure.proofs.PlaceByHistory.{place_later}

module _ {problem : Setup} {plan : List Node} {key : Key} {history : List Event} (stands : StandsAt problem plan key history) where
  -- the position after a turn
  pub stands_with : (event : Event) (know : Knowledge) (place : Next) → KnowsAfter know problem (event ∷ history) →
      place ≡ place_after_event plan key.place event → IsStatedEvent plan key.place event →
      StandsAt problem plan (record { know = know; place = place }) (event ∷ history)
  stands_with event know place knows e is =
      record {
        knows = knows;
        place =
            e ∙ ap (λ (p : Next). place_after_event plan p event) stands.place
            ∙ sym (place_later plan problem event history stands.knows.begun);
        follows = (stands.follows, λ late. rw stands.place at is);
      }
