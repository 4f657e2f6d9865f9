use Rattle.std.proofs.Common.{◌∙◌, append_assoc, flat_map, refl}
use Rattle.crib_run.proofs.Printing.{as_text, more}
use Rattle.crib_why_sheet.specs.WhyText.{heading, legend, line_text, lines_text}
use Rattle.crib_why_sheet.proofs.page.put_lines.Goals as goal

pub returns : goal.returns
unfolding lines_text
returns g c =
    as_text (more (more c.put.ensures c.put_each.ensures) c.put-2.ensures)
    (append_assoc heading (flat_map (line_text c.widest_play.result c.widest_held.result) c.args.lines.now) legend
    ∙ rw (c.widest_play.ensures.value, c.widest_held.ensures.value) refl)
