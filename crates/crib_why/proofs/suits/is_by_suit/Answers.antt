use Rattle.std.proofs.Common.{false, ap, ◌∙◌, refl, arith}
use Rattle.std.proofs.lemmas.Bool.{both_ways}
use Rattle.crib_cards.specs.Cards.{card_of}
use Rattle.crib_why.specs.Answer.{IsSureAfter}
use Rattle.crib_why.proofs.BySuit.{each_card, one_suit_more, rank_is, suit_at}
use Rattle.crib_why.proofs.suits.is_by_suit.Goals as goal

pub loop-suit-preserved : goal.loop-suit-preserved
loop-suit-preserved g c =
    one_suit_more (IsSureAfter c.args.problem.now) c.args.rank c.loop-suit.suit-index c.of.result
    (c.of.ensures.value ∙ ap (card_of c.args.rank) (suit_at c.loop-suit.suit-index (c.loop-suit-test.true)))
    c.loop-suit.invariant (c.in_ok-is_sure_after.ensures.0 c.if-not-branch.false)

pub returns : goal.returns
returns g c = (
  λ yes. record {
    each = each_card c.args.rank _ (λ suit small. c.loop-suit.invariant suit (omega (arith, small, c.loop-suit-test.false)));
    none = λ winnable. both_ways c.in-Ok-false.field-0 c.in-Ok-false.field-0-test (c.in-Ok-false.ensures.1 winnable);
  },
  λ is. refl,
)

pub returns-then-not-branch : goal.returns-then-not-branch
returns-then-not-branch g c = (
  λ yes. absurd (both_ways false refl yes),
  λ is. absurd (both_ways c.in_ok-is_sure_after.field-0 c.if-not-branch.true (c.in_ok-is_sure_after.ensures.1 (is.each c.of.result
      (rank_is c.args.rank c.loop-suit.suit-index c.of.result (omega (arith, c.of.auto.rank)) c.loop-suit-test.true
      (c.of.ensures.value ∙ ap (card_of c.args.rank) (suit_at c.loop-suit.suit-index c.loop-suit-test.true)))))),
)

pub returns-in-Ok-true : goal.returns-in-Ok-true
returns-in-Ok-true g c = (λ yes. absurd (both_ways false refl yes), λ is. absurd (is.none (c.in-Ok-true.ensures.0 c.in-Ok-true.field-0-test)))
