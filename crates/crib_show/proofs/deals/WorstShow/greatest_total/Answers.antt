use Rattle.std.proofs.Common.{◌≡◌, ◌⊎◌, ℕ, ◌+◌, ◌≤◌, List, subst, arith}
use Rattle.crib_show.specs.Private.Totals.{NoneScores, SomeScores}
use Rattle.crib_show.specs.declared.worst.totals.Target.TheVariants.{CribAndHand}
use Rattle.crib_show.proofs.CribLemmas.{few_crib}
use Rattle.crib_show.proofs.TargetLemmas.{total_greatest}
use Rattle.crib_show.proofs.deals.WorstShow.greatest_total.Goals as goal

pub overflow_add-crib : goal.overflow_add-crib
overflow_add-crib c =
    let some = c.requires.crib.some in
    let few = subst (λ k. k ≤ 102) some.2 (few_crib c.args.self.now c.know_set.ensures c.args.plain.now c.requires.plain some.0 some.1) in
    omega (arith, few, c.ranks_hand-hand.ensures.range.1)

pub overflow_add-result : goal.overflow_add-result
overflow_add-result c =
    let some = c.requires.crib.some in
    let few = subst (λ k. k ≤ 102) some.2 (few_crib c.args.self.now c.know_set.ensures c.args.plain.now c.requires.plain some.0 some.1) in
    omega (arith, few, c.ranks_hand-hand.ensures.range.0, c.ranks_hand-hand.ensures.range.1, c.most_points.ensures.range)

pub returns : goal.returns
returns c =
    let worst = c.args.self.now in
    let hand = c.ranks_hand-hand.ensures in
    let suits = c.ranks_hand-hand.result.suits in
    let most = c.most_points.result in
    total_greatest worst c.know_set.ensures c.know_set-2.ensures c.requires.deal c.args.crib c.ranks_hand-hand.result.plain suits most c.requires.crib
    hand.plain hand.suits
    (subst (λ (ranks : List ℕ). (most ≡ 0) ⊎ SomeScores worst (CribAndHand ranks) suits most) hand.ranks c.most_points.ensures.some)
    (subst (λ (ranks : List ℕ). (most ≡ c.args.crib + suits) ⊎ NoneScores worst (CribAndHand ranks) suits (most + 1)) hand.ranks c.most_points.ensures.all)
