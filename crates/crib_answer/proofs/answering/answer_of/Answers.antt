use Rattle.std.proofs.Common.{inl, refl}
use Rattle.crib_answer.proofs.RightReplies.{long_answers, long_fault}
use Rattle.crib_answer.proofs.answering.answer_of.Goals as goal

pub returns-then-input-gt-MAX_INPUT-clause-outcome : goal.returns-then-input-gt-MAX_INPUT-clause-outcome
returns-then-input-gt-MAX_INPUT-clause-outcome g c =
    inl (long_answers c.args.job c.args.input.now _ c.if-input-gt-MAX_INPUT.true (rw (c.from.ensures, c.of_input.ensures) refl))

pub returns-then-input-gt-MAX_INPUT-clause-told : goal.returns-then-input-gt-MAX_INPUT-clause-told
returns-then-input-gt-MAX_INPUT-clause-told g c =
    rw c.from.ensures (long_fault c.args.job c.args.input.now c.if-input-gt-MAX_INPUT.true)
