use Rattle.std.proofs.Common.{◌≡◌, sym, ap, ◌∙◌, arith}
use Rattle.crib_cards.specs.Sides.{are_decided}
use Rattle.crib_play.specs.Standing.{Standing}
use Rattle.crib_game.specs.Replay.{full_with}
use Rattle.crib_sure.proofs.PointsOfDeals.{few_crib, few_hand}
use Rattle.crib_sure.proofs.shows.demand_at_end.Goals as goal

pub returns-clause-show : goal.returns-clause-show
returns-clause-show c = λ own history dealt knows agrees.
    c.demand_of_show.ensures.show (full_with c.args.problem.now dealt c.args.know.now.round.scores) (record {
      dealer_is = sym c.dealer.ensures;
      scores_are = sym (c.scores.ensures.value ∙ ap (λ (t : Standing). t.scores) c.round.ensures);
      target_is = sym c.target.ensures.value;
      stop_is = sym c.is_to_stop.ensures;
      own_hand_is = sym own;
      few = omega (arith, few_hand knows.setup agrees.0, few_crib knows.setup agrees.0);
    })

pub returns-clause-decided : goal.returns-clause-decided
returns-clause-decided c = λ decided.
    let scores = c.scores.ensures.value ∙ ap (λ (t : Standing). t.scores) c.round.ensures in
    c.demand_of_show.ensures.decided ((λ i. are_decided (c.target.ensures.value i) (scores i)) ∙ decided)
