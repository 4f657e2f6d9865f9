use Rattle.std.proofs.Common.{ap}
use Rattle.crib_run.proofs.Printing.{as_text}
use Rattle.crib_sheet.specs.Refute.{refuted_text, suits_line}
use Rattle.crib_sheet.proofs.refutation.put_why.Goals as goal

pub returns-in-Refuted : goal.returns-in-Refuted
returns-in-Refuted g c = rw c.in-Refuted.is (as_text c.put_games.ensures (ap refuted_text c.as_slice.ensures.value))

pub returns-in-BySuits : goal.returns-in-BySuits
returns-in-BySuits g c = rw c.in-BySuits.is (as_text c.put_suits.ensures (ap suits_line c.as_slice-in-BySuits.ensures.value))
