use Rattle.crib_game.proofs.JudgedWalks.{WalksTo, acts_before}
use Rattle.crib_game.proofs.replaying.judge.judge_acts.Given as goal

abbrev pub invariant-loop-act : goal.invariant-loop-act
invariant-loop-act g l = record {
  walks : WalksTo (g.F.Follower.judge_of l.fn.follower l.problem) l.problem l.dealt l.acts l.walk l.act-index l.number;
  followed : g.F.Follower.has_followed l.fn.follower l.follower l.problem (acts_before l.acts l.act-index);
}
