use Rattle.std.proofs.Common.{inl, inr, refl}
use Rattle.crib_sheet.proofs.MadeSheets.{fits_memory, refuted_in_words, suits_in_words, sure_in_words}
use Rattle.crib_sheet.proofs.refutation.why_in_words.Goals as goal

pub returns-in-Sure-clause-outcome : goal.returns-in-Sure-clause-outcome
returns-in-Sure-clause-outcome g c =
    let right = rw c.in-Sure.is at c.in_ok-reason_of.ensures in
    (inl refl, sure_in_words c.args.input.now c.in_ok-problem.problem c.in_ok-problem.ensures.read right.0)

pub returns-in-Refuted-clause-outcome : goal.returns-in-Refuted-clause-outcome
returns-in-Refuted-clause-outcome g c =
    let right = rw c.in-Refuted.is at c.in_ok-reason_of.ensures in
    refuted_in_words c.args.input.now c.in_ok-problem.problem c.in-Refuted.games.items c.in_rows.result c.in_ok-problem.ensures.read right.0 right.1
    c.in_rows.ensures

pub returns-in-BySuits-clause-outcome : goal.returns-in-BySuits-clause-outcome
returns-in-BySuits-clause-outcome g c =
    let right = rw c.in-BySuits.is at c.in_ok-reason_of.ensures in
    (inr refl, suits_in_words c.args.input.now c.in_ok-problem.problem c.in-BySuits.ranks.items c.in_ok-problem.ensures.read right.0.0 right.0.1 right.0.2)

pub returns-in-Refuted-clause-told : goal.returns-in-Refuted-clause-told
returns-in-Refuted-clause-told g c = fits_memory _ c.in_rows.result c.in_rows.ensures
