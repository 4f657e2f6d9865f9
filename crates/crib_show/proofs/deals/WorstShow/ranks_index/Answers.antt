use Rattle.std.proofs.Common.{◌∙◌}
use Rattle.crib_cards.specs.Sets.{IsCardSet}
use Rattle.crib_show.specs.Indices.{AreFour}
use Rattle.crib_show.specs.Worst.{HasDeal}
use Rattle.crib_show.specs.declared.deals.WorstShow.{WorstShow}
use Rattle.crib_show.proofs.Exchange.{held_in}
use Rattle.crib_show.proofs.HandLemmas.{four_long, thirteen}
use Rattle.crib_show.proofs.IndexLemmas.{ranks_many}
use Rattle.crib_show.proofs.deals.WorstShow.ranks_index.Goals as goal

four_held : (worst : WorstShow) → IsCardSet worst.unseen → IsCardSet worst.fixed → HasDeal worst → AreFour worst.ranks
four_held worst unseen fixed some =
    let one = held_in worst some in
    record { four = ranks_many 1 worst.ranks ∙ four_long worst unseen fixed one; thirteen = thirteen worst unseen fixed one }

pub choice_index-requires : goal.choice_index-requires
choice_index-requires c = four_held c.args.self.now c.know_set.ensures c.know_set-2.ensures c.requires

pub returns : goal.returns
returns c = record {
  are_four = four_held c.args.self.now c.know_set.ensures c.know_set-2.ensures c.requires;
  index_is = c.choice_index.ensures.index;
  inside = c.choice_index.ensures.few;
}
