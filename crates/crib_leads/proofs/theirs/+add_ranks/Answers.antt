use Rattle.crib_search.proofs.FoundAfterTurns.{ok_map}
use Rattle.crib_leads.proofs.Entries.{ranks_left, ranks_more}
use Rattle.crib_leads.proofs.theirs.+add_ranks.Goals as goal

pub returns-in_ok-add_rank-in-len1-up-clause-added : goal.returns-in_ok-add_rank-in-len1-up-clause-added
returns-in_ok-add_rank-in-len1-up-clause-added g t c =
    ok_map c.add_ranks.result _ _
    (λ _ others. rw (ranks_left c.args.numbers.now c.in-Some.rank _ c.in-len1-up.len_at_least c.in-Some.ensures.value)
    (ranks_more c.args.problem.now _ _ _ _ _ c.in_ok-add_rank-in-len1-up.ensures.added others))
    c.add_ranks.ensures.added
