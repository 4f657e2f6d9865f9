use Rattle.std.proofs.Common.{◌≡◌, ◌*◌, ◌≤◌, length, take}
use Rattle.crib_why_sheet.specs.WhyPlay.{shown_names}
use Rattle.crib_why_sheet.proofs.names.shown_names.Given as goal

abbrev pub invariant-loop-act : goal.invariant-loop-act
invariant-loop-act l = (l.names.items ≡ shown_names (take l.act-index l.acts)) × (length l.names.items ≤ 2 * l.act-index)
