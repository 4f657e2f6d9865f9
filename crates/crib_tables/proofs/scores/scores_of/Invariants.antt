use Rattle.std.proofs.Common.{◌≡◌, length, take}
use Rattle.std.specs.List.{AllZip}
use Rattle.crib_tables.specs.Scores.{IsRow}
use Rattle.crib_tables.proofs.scores.scores_of.Given as goal

-- there is a row for each score so far
abbrev pub invariant-loop-owner : goal.invariant-loop-owner
invariant-loop-owner g l =
    AllZip (IsRow l.problem l.columns.items) (take l.owner-index l.owner-items) l.rows.items × (length l.rows.items ≡ l.owner-index)
