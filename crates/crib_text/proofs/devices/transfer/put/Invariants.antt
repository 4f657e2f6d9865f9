use Rattle.std.proofs.Common.{◌≤◌, length, take}
use Rattle.std.specs.Io.KnownBytes.{Appends}
use Rattle.crib_text.proofs.LoopFacts.{Moves}
use Rattle.crib_text.proofs.devices.transfer.put.Given as goal

abbrev pub invariant-loop-turn : goal.invariant-loop-turn
invariant-loop-turn g l = (l.sent ≤ length l.bytes)
    × Appends (g.W.Sink.contents l.initial.sink) (g.W.Sink.contents l.sink) (take l.sent l.bytes)
    × Moves l._turn l.sent (g.W.Sink.faults l.initial.sink) (g.W.Sink.faults l.sink)
