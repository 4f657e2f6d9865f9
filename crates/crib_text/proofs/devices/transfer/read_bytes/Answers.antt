use Rattle.std.proofs.Common.{◌∙◌, ap, arith, not}
use Rattle.std.proofs.KnownBytes.{Consumes-kept}
use Rattle.crib_text.proofs.LoopFacts.{all_taken, failed_once, more_taken, moved_on, some_more, too_much}
use Rattle.crib_text.proofs.devices.transfer.read_bytes.Goals as goal
use Rattle.crib_text.proofs.devices.transfer.read_bytes.Goals.{in-Ok+else-n-len+else-is_err, in-Err-Again}

pub returns-then-n-len : goal.returns-then-n-len
returns-then-n-len g c =
    let invariant = c.loop-turn.invariant in
    too_much _ _ _ c.loop-turn.text.items _ c.in-Ok.n _ invariant.1 c.in-Ok.ensures.bytes.0 (omega (arith, c.in-Ok.ensures.bound))
    (omega (arith, c.loop-turn.text.ok.0))

pub returns-in-Ok-eq0 : goal.returns-in-Ok-eq0
returns-in-Ok-eq0 g c =
    let invariant = c.loop-turn.invariant in let given = c.in-Ok-eq0.ensures.bytes in
    let none = c.in-Ok-eq0.field-0-test in let end = given.1 none (omega arith) in
    record { bytes = all_taken _ _ _ _ _ _ invariant.1 given.0 none end; end = end; short = invariant.0 }

pub loop-turn-preserved : goal.loop-turn-preserved
loop-turn-preserved g c =
    let invariant = c.loop-turn.invariant in elim c.match-read.branch [
      | in-Ok+else-n-len+else-is_err w ↦
          let ok = w.is_err.ensures.negation ∙ ap not w.if-is_err.false in
          let len = rw ok at w.extend_from_slice.ensures.len in let given = w.in-Ok.ensures.bound.1 in rw w.text-is (
            omega arith,
            more_taken _ _ _ _ _ _ invariant.1 w.in-Ok.ensures.bytes.0 (rw ok at w.extend_from_slice.ensures.items),
            moved_on _ _ _ _ _ _ invariant.2 w.in-Ok.ensures.counted (some_more _ _ _ _ len given w.in-Ok.n-test.1),
          )
      | in-Err-Again w ↦ rw w.text-is (
        invariant.0,
        Consumes-kept _ _ _ _ invariant.1 w.in-Err-Again.ensures.bytes,
        failed_once _ _ _ _ _ invariant.2 w.in-Err-Again.ensures.counted,
      )
    ]
