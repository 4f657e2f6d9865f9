use Rattle.std.proofs.Common.{◌≡◌, ap, ◌∙◌}
use Rattle.crib_search.proofs.FoundAfterTurns.{ok_map}
use Rattle.crib_leads.specs.Leads.{worst_first}
use Rattle.crib_leads.proofs.Entries.{all_theirs}
use Rattle.crib_leads.proofs.theirs.their_leads.Goals as goal

pub returns-clause-right : goal.returns-clause-right
returns-clause-right g c =
    let added = c.in_ok-add_ranks.ensures.added in
    let same : c.add_ranks.new.leads.items ≡ added.0 = rw c.new-leads.ensures.items at added.2 in
    ok_map c.worst_first.result _ _
    (λ leads sorted. all_theirs c.args.problem.now added.0 _ _ added.1 (rw (c.their_act.ensures, same) at c.in_ok-add_turn.ensures.added)
    (sorted ∙ ap worst_first c.as_slice.ensures.value))
    c.worst_first.ensures.sorted
