use Rattle.std.proofs.Common.{inl, inr}
use Rattle.crib_check.proofs.Table.{refused_too}
use Rattle.crib_check.proofs.opponent_turns.OpponentTurnsSettled.put.Goals as goal

pub returns-then-eq-clause-held : goal.returns-then-eq-clause-held
returns-then-eq-clause-held g c = λ known other known_other is.
    elim (c.put.ensures.held known other known_other is.1) [
      | inl before ↦ inl (is.0, before)
      | inr same ↦ inr same
    ]

pub returns-then-eq-clause-refused : goal.returns-then-eq-clause-refused
returns-then-eq-clause-refused g c =
    refused_too c.put.result (λ same other. (λ is. (is.0, (same other).0 is.1), λ is. (is.0, (same other).1 is.1))) c.put.ensures.refused

pub returns-then-eq-clause-stays : goal.returns-then-eq-clause-stays
returns-then-eq-clause-stays g c = λ other is. (is.0, c.put.ensures.stays other is.1)

pub returns-else-eq-clause-held : goal.returns-else-eq-clause-held
returns-else-eq-clause-held g c = λ known other known_other is. inl is

pub returns-else-eq-clause-refused : goal.returns-else-eq-clause-refused
returns-else-eq-clause-refused g c = tt

pub returns-else-eq-clause-stays : goal.returns-else-eq-clause-stays
returns-else-eq-clause-stays g c = λ other is. is
