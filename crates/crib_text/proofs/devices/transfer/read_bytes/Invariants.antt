use Rattle.std.proofs.Common.{◌≤◌, vec_len}
use Rattle.std.specs.Io.KnownBytes.{Consumes}
use Rattle.crib_text.proofs.LoopFacts.{Moves}
use Rattle.crib_text.proofs.devices.transfer.read_bytes.Given as goal

abbrev pub invariant-loop-turn : goal.invariant-loop-turn
invariant-loop-turn g l = (vec_len l.text ≤ 8388608)
    × Consumes (g.S.Source.remaining l.initial.source) (g.S.Source.remaining l.source) l.text.items
    × Moves l._turn (vec_len l.text) (g.S.Source.faults l.initial.source) (g.S.Source.faults l.source)
