use Rattle.std.proofs.Common.{◌≡◌, length, map, take}
use Rattle.crib_search.specs.Private.Numbers.{next_for}
use Rattle.crib_search.proofs.numbering.Numbering.nexts_of.Given as goal

abbrev pub invariant-loop-index : goal.invariant-loop-index
invariant-loop-index g l = (length l.nexts ≡ 14) × (take l.index l.nexts ≡ map (next_for l.self.left) (take l.index l.draft_places))
