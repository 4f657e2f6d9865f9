use Rattle.std.proofs.Common.{ap, ◌∙◌}
use Rattle.crib_play.specs.Standing.{Standing}
use Rattle.crib_sure.proofs.shows.Shows.go_to.Goals as goal

pub returns-clause-worst : goal.returns-clause-worst
returns-clause-worst c = λ problem shows.
    let scores = c.scores-self.ensures.value ∙ ap (λ (table : Standing). table.scores) c.round.ensures in
    (λ i. record (shows.1.1 i) { scores = scores i; ranks = c.ranks_seen-self.ensures i; fixed = c.fixed-self.ensures i })
