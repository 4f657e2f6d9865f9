use Rattle.crib_show.proofs.LoopTrials.{NoneScoresBefore}
use Rattle.crib_show.proofs.worst.totals.Throws.any_throw_scores.Given as goal

abbrev pub invariant-loop-first : goal.invariant-loop-first
invariant-loop-first l = NoneScoresBefore l.self.worst.now l.self.aim.now l.self.suit_bonus l.wanted l.first l.first

abbrev pub invariant-loop-second : goal.invariant-loop-second
invariant-loop-second l = NoneScoresBefore l.self.worst.now l.self.aim.now l.self.suit_bonus l.wanted l.first l.second
