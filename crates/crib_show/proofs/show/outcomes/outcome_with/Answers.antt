use Rattle.std.proofs.Common.{sym, ap, ◌∙◌}
use Rattle.crib_show.specs.Outcome.{outcome_at}
use Rattle.crib_show.proofs.ShowLemmas.{outcome_of-some, outcome_of-none}
use Rattle.crib_show.proofs.show.outcomes.outcome_with.Goals as goal
use Rattle.crib_show.proofs.show.outcomes.outcome_with.Goals.{in-Some, in-None}

pub returns : goal.returns
returns c =
    c.outcome_at.ensures
    ∙ elim c.match-last.branch [
      | in-Some w ↦ let item = w.in-Some.ensures.item in ap (outcome_at c.args.full.now.target c.args.full.now.stop) w.scores-is
          ∙ sym (outcome_of-some c.args.full.now c.args.rows.now w.in-Some.row.now c.requires item.3.0 item.1)
      | in-None w ↦ let item = w.in-None.ensures.item in ap (outcome_at c.args.full.now.target c.args.full.now.stop) w.scores-is
          ∙ sym (outcome_of-none c.args.full.now c.args.rows.now c.requires item.3)
    ]
