use Rattle.std.proofs.Common.{sym}
use Rattle.std.proofs.lemmas.Nat.{or_lt}
use Rattle.crib_cards.specs.SetBits.{cards_of_bits}
use Rattle.crib_cards.specs.Sets.{set_with, set_with_all}
use Rattle.crib_cards.proofs.SetLemmas.{with-bits, IsCardSet-set_where, shifted_small}
use Rattle.crib_cards.proofs.SetWalks.{each_more, set_with-set_with_all, set_with_all-none}
use Rattle.crib_cards.proofs.sets.CardSet.with_all.Goals as goal

pub loop-added-init : goal.loop-added-init
loop-added-init c =
    record { small = c.self.invariant; so_far = rw (← c.self.view_is) (sym (set_with_all-none (cards_of_bits c.self.inside.0) (IsCardSet-set_where _))) }

pub loop-added-preserved : goal.loop-added-preserved
loop-added-preserved c =
    let more = with-bits c.loop-added.bits c.added-item.result (rw c.number.ensures.value at c.number.ensures.range) in
    record {
      small = or_lt 52 _ _ c.loop-added.invariant.small (shifted_small _ c.number.ensures.range);
      so_far = rw c.number.ensures.value
          (each_more set_with set_with_all set_with-set_with_all c.args.self c.args.cards.now
          (cards_of_bits c.loop-added.bits) _ c.loop-added.added-index c.added-item.result c.loop-added-test.true
          c.added-item.is more c.loop-added.invariant.so_far);
    }
