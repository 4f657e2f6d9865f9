use Rattle.std.proofs.Common.{◌≡◌, ◌*◌, ◌≤◌, length, take}
use Rattle.crib_why_sheet.specs.WhyPlay.{held_names}
use Rattle.crib_why_sheet.proofs.held.held_names.Given as goal

abbrev pub invariant-loop-card : goal.invariant-loop-card
invariant-loop-card l = (l.text.items ≡ held_names l.counted l.flush l.starter (take l.card-index l.cards)) × (length l.text.items ≤ 3 * l.card-index)
