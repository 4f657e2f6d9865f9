-- The deals that beat a plan are open, and what the games after the opening demand of those with some ranks.
use Rattle.std.proofs.Common.{◌≡◌, ◌↔◌, ℕ, Bool, false, ◌&&◌, List, map, sym, ap, ◌∙◌}
use Rattle.std.proofs.lemmas.Bool.{both_ways}
use Rattle.crib_cards.specs.Cards.{rank_of}
use Rattle.crib_cards.specs.Sets.{rank_counts}
use Rattle.crib_cards.specs.declared.sides.Dealt.{Dealt}
use Rattle.crib_problem.specs.Setup.{Setup, IsSetup}
use Rattle.crib_plan.specs.declared.plan.Node.{Node}
use Rattle.crib_know.specs.Knowledge.{played_events}
use Rattle.crib_show.specs.declared.demands.Demand.{Demand}
use Rattle.crib_beaten.specs.declared.plays.Plays.{Plays}
use Rattle.crib_show.specs.Demands.{IsMetByAll}
use Rattle.crib_know.specs.Hidden.{IsOpen}
use Rattle.crib_sure.specs.Shows.{meets}
use Rattle.crib_beaten.specs.Beaten.{ArePlays, Beats, Decides}
use Rattle.crib_beaten.specs.Private.Demands.{BeatsFrom, IsDemandFrom, IsJoined}
use Rattle.crib_sure.specs.Positions.{StandsAt}
use Rattle.crib_beaten.proofs.BeatingDeals.{beats_agrees}
use Rattle.crib_sure.proofs.PointsOfDeals.{few_crib, few_hand}
use Rattle.crib_check.proofs.ExtendedGames.{failing_begins}

-- ---- deals that beat a plan
module _ (problem : Setup) (plan : List Node) (dealt : Dealt) where
  beats_from : Beats problem plan dealt → BeatsFrom problem plan (played_events problem) dealt
  beats_from beats = record { beats = beats; extends = failing_begins beats.failing }

  -- are open
  pub beats_open : IsSetup problem → Beats problem plan dealt → IsOpen problem dealt
  beats_open setup beats = beats_agrees setup (beats_from beats)

-- ---- what the games after the opening demand of the holds with some ranks, as the code has them
module _ {A : Type 0} {problem : Setup} {plan : List Node} {plays : Plays A} (are : ArePlays problem plan plays) where
  pub stands_as : StandsAt plays.problem.now plays.plan.now plays.start (played_events problem)
  stands_as = rw (are.same_problem, are.same_plan) are.start

  module _ {counts : List ℕ} where
    -- a demand that is joined to one that each deal meets
    pub decided_as : {old new : Demand} → IsMetByAll old →
        IsJoined (IsDemandFrom plays.problem.now plays.plan.now plays.start counts) old new → Decides problem plan counts new
    decided_as {old} {new} all joined = record {
      met = λ dealt agrees same met beats.
          both_ways _ ((told dealt agrees same).1 (beats_from problem plan dealt beats)) (sym (same_met dealt agrees) ∙ met);
      missed = λ dealt agrees same missed. ((told dealt agrees same).0 (sym (same_met dealt agrees) ∙ missed)).beats;
    }
      where
        told : (dealt : Dealt) → IsOpen problem dealt → rank_counts (map rank_of dealt.hold) ≡ counts →
            (meets problem joined.more dealt ≡ false) ↔ BeatsFrom problem plan (played_events problem) dealt
        told = (rw (are.same_problem, are.same_plan) at joined.kind) (played_events problem) are.start

        same_met : (dealt : Dealt) → IsOpen problem dealt → meets problem new dealt ≡ meets problem joined.more dealt
        same_met dealt agrees =
            let hand = few_hand are.start.knows.setup agrees.0 in
            let crib = few_crib are.start.knows.setup agrees.0 in
            joined.joins _ _ hand crib ∙ ap (λ (b : Bool). b && meets problem joined.more dealt) (all _ _ hand crib)
