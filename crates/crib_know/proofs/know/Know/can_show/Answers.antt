use Rattle.std.proofs.Common.{◌↔◌}
use Rattle.crib_know.proofs.know.Know.can_show.Goals as goal

pub returns-in-Seen-clause-exact : goal.returns-in-Seen-clause-exact
returns-in-Seen-clause-exact c = λ problem history knows.
    rw c.in-Seen.is (c.can_play.ensures.exact problem history knows)

pub returns-in-Go-clause-exact : goal.returns-in-Go-clause-exact
returns-in-Go-clause-exact c = λ problem history knows.
    rw c.in-Go.is (c.can_go.ensures.exact problem history knows)
