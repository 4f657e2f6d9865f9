use Rattle.crib_check.proofs.Table.{refused_too}
use Rattle.verdict_tests.proofs.check.tables.WatchedSettled.put.Goals as goal

pub returns-clause-held : goal.returns-clause-held
returns-clause-held c = c.put.ensures.held

pub returns-clause-refused : goal.returns-clause-refused
returns-clause-refused c = refused_too c.put.result (λ same _ other _. same other) c.put.ensures.refused
