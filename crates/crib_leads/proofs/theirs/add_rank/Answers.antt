use Rattle.std.proofs.Common.{refl, sym, ◌∙◌}
use Rattle.std.proofs.lemmas.Bool.{both_ways}
use Rattle.crib_search.proofs.FoundAfterTurns.{ok_map}
use Rattle.crib_leads.proofs.Entries.{by_suit, no_rank, whole_rank}
use Rattle.crib_leads.proofs.theirs.add_rank.Goals as goal
use Rattle.crib_leads.proofs.theirs.add_rank.Goals.{else-is_sure-via-then-is_sure+in_ok-is_winnable+else-not-branch, else-is_sure-via-else-is_sure}

pub returns-in_default-clause-added : goal.returns-in_default-clause-added
returns-in_default-clause-added g c =
    no_rank c.args.problem.now c.args.rank _ _ (rw (c.cards_of-cards.ensures, c.in_default.is) at c.in_ok-lead.ensures.right) refl

pub returns-then-not-branch-clause-added : goal.returns-then-not-branch-clause-added
returns-then-not-branch-clause-added g c =
    ok_map c.add_cards.result _ _
    (λ _ added. by_suit c.args.problem.now c.args.rank _ _ c.in-Some.lead
    (rw (c.cards_of-cards.ensures, c.in-Some.is) at c.in_ok-lead.ensures.right) (sym c.is_sure.ensures ∙ c.if-is_sure.true)
    (λ winnable. both_ways _ c.if-not-branch.true (c.in_ok-is_winnable.ensures.right.1 winnable))
    (rw c.cards_of-cards.ensures at added))
    c.add_cards.ensures.added

pub returns-else-is_sure-clause-added : goal.returns-else-is_sure-clause-added
returns-else-is_sure-clause-added g c =
    ok_map c.add_lead.result _ _
    (λ _ same. whole_rank c.args.problem.now c.args.rank _ _ c.in-Some.lead
    (rw (c.cards_of-cards.ensures, c.in-Some.is) at c.in_ok-lead.ensures.right)
    (elim c.else-is_sure.branch [
      | else-is_sure-via-then-is_sure+in_ok-is_winnable+else-not-branch w ↦ λ sure. w.in_ok-is_winnable.ensures.right.0 w.if-not-branch.false
      | else-is_sure-via-else-is_sure w ↦ λ sure. absurd (both_ways _ w.if-is_sure.false (c.is_sure.ensures ∙ sure))
    ]) same)
    c.add_lead.ensures.added
