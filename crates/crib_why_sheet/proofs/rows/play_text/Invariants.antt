use Rattle.std.proofs.Common.{◌≡◌, ◌*◌, replicate}
use Rattle.crib_text.specs.Spelling.{space}
use Rattle.crib_why_sheet.proofs.rows.play_text.Given as goal

abbrev pub invariant-loop-step : goal.invariant-loop-step
invariant-loop-step l = l.play.items ≡ replicate (4 * l._step) space
