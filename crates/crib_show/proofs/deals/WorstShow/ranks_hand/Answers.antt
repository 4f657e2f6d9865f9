use Rattle.crib_show.proofs.Exchange.{held_in}
use Rattle.crib_show.proofs.HandLemmas.{four_long, thirteen}
use Rattle.crib_show.proofs.deals.WorstShow.ranks_hand.Goals as goal

pub four_ranks-ranks-requires : goal.four_ranks-ranks-requires
four_ranks-ranks-requires c =
    let worst = c.args.self.now in
    let one = held_in worst c.requires in
    (four_long worst c.know_set.ensures c.know_set-2.ensures one, thirteen worst c.know_set.ensures c.know_set-2.ensures one)
