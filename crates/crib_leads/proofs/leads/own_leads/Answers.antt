use Rattle.std.proofs.Common.{ℕ, List, [], length, sym, ap, subst, ◌∙◌, arith}
use Rattle.crib_cards.proofs.LowestCard.{lowest_none, lowest_split}
use Rattle.crib_leads.proofs.Entries.{AreSoFar, all_cards, card_more, full_is_pack, no_card}
use Rattle.crib_leads.proofs.leads.own_leads.Goals as goal

pub loop-card-init : goal.loop-card-init
loop-card-init g c =
    rw c.new-leads.ensures.items
    (subst (λ (cards : List ℕ). AreSoFar c.args.problem.now cards []) (sym (c.full-rest.ensures ∙ full_is_pack)) (no_card c.args.problem.now))

pub loop-card-smaller : goal.loop-card-smaller
loop-card-smaller g c =
    let all = ap length (lowest_split _ _ _ c.lowest.ensures.set (sym c.in-Some.is ∙ c.lowest.ensures.first) c.without-rest.ensures) in
    omega (arith, all)

pub loop-card-preserved : goal.loop-card-preserved
loop-card-preserved g c =
    let all = lowest_split _ _ _ c.lowest.ensures.set (sym c.in-Some.is ∙ c.lowest.ensures.first) c.without-rest.ensures in
    card_more _ _ _ _ _
    (subst (λ (cards : List ℕ). AreSoFar c.args.problem.now cards c.loop-card.leads.items) all c.loop-card.invariant)
    (rw c.own_act.ensures at c.in_ok-add_turn.ensures.added)

pub returns-clause-right : goal.returns-clause-right
returns-clause-right g c =
    all_cards _ _ _
    (subst (λ (cards : List ℕ). AreSoFar c.args.problem.now cards c.loop-card.leads.items)
    (lowest_none _ (sym c.in_default.is ∙ c.lowest.ensures.first)) c.loop-card.invariant)
    (rw c.own_act-2.ensures at c.in_ok-add_turn-2.ensures.added)
