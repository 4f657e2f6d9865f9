use Rattle.std.proofs.Common.{length, length-append, take, ap, sym, ◌∙◌, arith}
use Rattle.std.proofs.Math.ListN.{length-set}
use Rattle.std.proofs.lemmas.List.{length-take}
use Rattle.crib_cards.proofs.LowestCard.{lowest_none}
use Rattle.crib_know.proofs.SetWalks.{taken_card, all_taken}
use Rattle.crib_know.proofs.hold.lowest_of.Goals as goal

pub unreachable-requires : goal.unreachable-requires
unreachable-requires g c =
    let none = ap length (lowest_none c.loop-i.rest (sym c.in_default.is ∙ c.lowest.ensures.first)) in
    let so_far = ap length c.loop-i.invariant.so_far in
    omega (arith, none, so_far, length-append (take c.loop-i.i c.loop-i.lowest) c.loop-i.rest, length-take c.loop-i.i c.loop-i.lowest, c.requires)

pub loop-i-preserved : goal.loop-i-preserved
loop-i-preserved g c = record {
  long = length-set c.loop-i.lowest c.loop-i.i c.in-Some.card ∙ c.loop-i.invariant.long;
  so_far = taken_card c.loop-i.lowest c.loop-i.rest c.without-rest.result c.loop-i.i c.in-Some.card (omega arith) c.lowest.ensures.set
      (sym c.in-Some.is ∙ c.lowest.ensures.first) c.without-rest.ensures ∙ c.loop-i.invariant.so_far;
}

pub returns : goal.returns
returns g c = all_taken c.loop-i.lowest c.loop-i.rest c.args.cards c.loop-i.i g.row.N c.loop-i.invariant.long (omega arith) c.loop-i.invariant.so_far
