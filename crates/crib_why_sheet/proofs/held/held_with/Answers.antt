use Rattle.std.proofs.Common.{rules}
use Rattle.std.proofs.lemmas.List.{append-nil}
use Rattle.crib_why_sheet.specs.WhyPlay.{held_with}
use Rattle.crib_why_sheet.proofs.held.held_with.Goals as goal

pub returns-else-is_crib_counted-clause-text : goal.returns-else-is_crib_counted-clause-text
unfolding held_with
returns-else-is_crib_counted-clause-text c = search (rules, append-nil)
