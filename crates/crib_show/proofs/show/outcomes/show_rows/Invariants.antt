use Rattle.crib_show.proofs.ShowLemmas.{ShowsFirst}
use Rattle.crib_show.proofs.show.outcomes.show_rows.Given as goal

abbrev pub invariant-loop-counted : goal.invariant-loop-counted
invariant-loop-counted l = ShowsFirst l.full.target l.full.scores l.counted-items l.counted-index l.rows.items l.scores
