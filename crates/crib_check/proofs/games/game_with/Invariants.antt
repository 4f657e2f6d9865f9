use Rattle.std.proofs.Common.{◌≡◌, reverse, take}
use Rattle.crib_sure.specs.Private.Suits.{left_after_acts}
use Rattle.crib_check.proofs.games.game_with.Given as goal

abbrev pub invariant-loop-played : goal.invariant-loop-played
invariant-loop-played l = record {
  taken : l.acts.items ≡ take l.played-index l.played-items;
  rest : l.left ≡ left_after_acts l.dealt.hold (reverse (take l.played-index l.played-items));
}
