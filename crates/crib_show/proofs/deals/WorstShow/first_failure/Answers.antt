use Rattle.std.proofs.Common.{refl, sym, arith}
use Rattle.crib_show.proofs.FewPoints.{few_hidden_crib, few_hidden_hand}
use Rattle.crib_show.proofs.ShowDemands.{first_failed}
use Rattle.crib_show.specs.Worst.{with_dealt}
use Rattle.crib_show.proofs.deals.WorstShow.first_failure.Goals as goal

pub first_missing-requires-clause-shows : goal.first_missing-requires-clause-shows
first_missing-requires-clause-shows c = c.new-shows.ensures c.args.self.now.unseen c.args.self.now.fixed

pub returns : goal.returns
returns c =
    let worst = c.args.self.now in
    let own = (c.new-shows.ensures worst.unseen worst.fixed).own in
    first_failed worst c.demand_of_show-demand.result (λ dealt agrees.
    c.demand_of_show-demand.ensures.show (with_dealt worst dealt) (record {
      dealer_is = refl;
      scores_are = refl;
      target_is = refl;
      stop_is = refl;
      own_hand_is = sym own.hand;
      few =
          let hand = few_hidden_hand c.know_set.ensures own dealt agrees in
          let crib = few_hidden_crib c.know_set.ensures own dealt agrees in
          omega (arith, hand, crib);
    })) c.first_missing.result c.first_missing.ensures.first
