use Rattle.std.proofs.Common.{◌≡◌, length, take}
use Rattle.std.specs.List.{AllZip}
use Rattle.crib_tables.specs.Scores.{IsMarkAt}
use Rattle.crib_tables.proofs.scores.row_of.Given as goal

-- there is a mark for each score so far
abbrev pub invariant-loop-opponent : goal.invariant-loop-opponent
invariant-loop-opponent g l =
    AllZip (λ opponent mark. IsMarkAt l.problem (record { owner = l.owner; opponent = opponent }) mark) (take l.opponent-index l.columns) l.marks.items
    × (length l.marks.items ≡ l.opponent-index)
