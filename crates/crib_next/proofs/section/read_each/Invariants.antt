use Rattle.std.proofs.Common.{◌≡◌, ◌-◌, length}
use Rattle.crib_text.specs.Lines.{rest_of}
use Rattle.crib_text.specs.Forms.{values_at}
use Rattle.crib_text.proofs.Forms.{with_front}
use Rattle.crib_problem.specs.Reading.{act_in}
use Rattle.crib_next.proofs.section.read_each.Given as goal

abbrev pub invariant-loop : goal.invariant-loop
invariant-loop l = record {
  len : length l.turns.items ≡ l.counter;
  so_far : values_at (λ number. act_in) 0 l.count (rest_of l.fn.lines)
      ≡ with_front l.turns.items (values_at (λ number. act_in) l.counter (l.count - l.counter) (rest_of l.lines));
}
