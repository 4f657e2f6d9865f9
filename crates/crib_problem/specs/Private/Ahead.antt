-- A bound on the visible turns that may still be made.
use Rattle.std.specs.Prelude.{ℕ, ◌+◌, ◌*◌, if◌then◌else◌}
use Rattle.crib_play.specs.Record.{is_begun}
use Rattle.crib_play.specs.Standing.{Standing}

-- the bound: three for each card that is left and, if the pile has a card, one for each side whose go would be heard
abbrev pub turns_ahead_at : Standing → ℕ
turns_ahead_at table =
    3 * (table.owner.left + table.opponent.left)
    + (if is_begun table.pile
    then (if table.owner.may_be_asked then 1 else 0) + (if table.opponent.may_be_asked then 1 else 0) else 0)
