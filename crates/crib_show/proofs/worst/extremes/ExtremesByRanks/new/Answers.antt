use Rattle.crib_show.proofs.ExtremesLemmas.{kept_new}
use Rattle.crib_show.proofs.worst.extremes.ExtremesByRanks.new.Goals as goal

pub returns : goal.returns
returns c = λ unseen fixed. record {
  own = record {
    hand = c.hand_points.ensures.value;
    crib = c.known_crib.ensures.low;
    plain = tt;
    two = c.known_crib.ensures.two;
    are_ranks = c.known_crib.ensures.ranks;
  };
  kept = kept_new c.args.starter c.args.throw.now unseen fixed 1820 c.new.result c.new.ensures;
}
