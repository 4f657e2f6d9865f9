use Rattle.std.proofs.Common.{◌≡◌, ◌≤◌, ◌<◌, ◌+◌, ◌*◌, ◌/◌, ◌%◌, ℕ, get_or, ap, ◌∙◌, arith, rules}
use Rattle.std.proofs.lemmas.List.Edits.{fill_by_more}
use Rattle.crib_deals.specs.Throws.{is_below, partners}
use Rattle.crib_deals.proofs.WeighedSums.{zeros}
use Rattle.crib_deals.proofs.throws.partners_below.Goals as goal

pub add_partners-requires-clause-few : goal.add_partners-requires-clause-few
add_partners-requires-clause-few c = λ limit few. let none = zeros 31 limit in omega (arith, none)

pub overflow_cast-counts : goal.overflow_cast-counts
overflow_cast-counts c =
    let few = c.add_partners.ensures.few c.loop-limit.limit (omega (arith, c.loop-limit-test.true)) in
    let none = zeros 31 c.loop-limit.limit in
    omega (arith, few, none, c.requires.cards)

pub loop-limit-preserved : goal.loop-limit-preserved
loop-limit-preserved c =
    let index : ℕ = 31 * c.loop-card.card + c.loop-limit.limit in
    let small : c.loop-limit.limit ≤ 30 = omega (arith, c.loop-limit-test.true) in
    let within : index < 1612 = omega (arith, small, c.loop-card-test.true) in
    let here : (c.loop-card.card ≡ index / 31) × (c.loop-limit.limit ≡ index % 31) = (omega (arith, small), omega (arith, small)) in
    let with = λ (card limit : ℕ). partners (is_below c.args.points.now limit) card c.args.cards.now in
    let card = ap (λ card. with card c.loop-limit.limit) c.card_at.ensures in
    let value : get_or c.add_partners.new.below c.loop-limit.limit 0 ≡ with (index / 31) (index % 31) =
    omega (arith, c.add_partners.ensures.value c.loop-limit.limit small, zeros 31 c.loop-limit.limit, card) ∙ (λ i. with (here.0 i) (here.1 i)) in
    record {
      long = search rules;
      each = λ i less. rw value (fill_by_more (λ i. with (i / 31) (i % 31)) c.loop-limit.counts index 0 (omega (arith, within, c.loop-limit.invariant.long))
          c.loop-limit.invariant.each i (omega (arith, less)));
    }
