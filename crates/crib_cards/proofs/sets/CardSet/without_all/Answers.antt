use Rattle.std.proofs.Common.{sym, lt_of_le_of_lt}
use Rattle.std.proofs.lemmas.Nat.{and_le_l}
use Rattle.crib_cards.specs.SetBits.{cards_of_bits}
use Rattle.crib_cards.specs.Sets.{set_without, set_without_all}
use Rattle.crib_cards.proofs.SetLemmas.{without-bits, IsCardSet-set_where}
use Rattle.crib_cards.proofs.SetWalks.{each_more, set_without-set_without_all, set_without_all-none}
use Rattle.crib_cards.proofs.sets.CardSet.without_all.Goals as goal

pub loop-removed-init : goal.loop-removed-init
loop-removed-init c =
    record { small = c.self.invariant; so_far = rw (← c.self.view_is) (sym (set_without_all-none (cards_of_bits c.self.inside.0) (IsCardSet-set_where _))) }

pub loop-removed-preserved : goal.loop-removed-preserved
loop-removed-preserved c =
    let more = without-bits c.loop-removed.bits c.removed-item.result (rw c.number.ensures.value at c.number.ensures.range) in
    record {
      small = lt_of_le_of_lt (and_le_l _ _) c.loop-removed.invariant.small;
      so_far = rw c.number.ensures.value
          (each_more set_without set_without_all set_without-set_without_all c.args.self c.args.cards.now
          (cards_of_bits c.loop-removed.bits) _ c.loop-removed.removed-index c.removed-item.result
          c.loop-removed-test.true c.removed-item.is more c.loop-removed.invariant.so_far);
    }
