use Rattle.std.proofs.Common.{rules}
use Rattle.crib_run.proofs.Printing.{as_text, more}
use Rattle.crib_sheet.specs.Refute.{refuted_text}
use Rattle.crib_sheet.proofs.refutation.put_games.Goals as goal

pub returns : goal.returns
unfolding refuted_text
returns g c = as_text (more (more (more c.put.ensures c.put_len.ensures) c.put-2.ensures) c.put_sections.ensures) (search rules)
