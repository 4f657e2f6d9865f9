use Rattle.std.proofs.Common.{◌≡◌, length}
use Rattle.crib_beaten.specs.Private.Rows.{AreListed, place}
use Rattle.crib_beaten.proofs.tally.choices.Given as goal

abbrev pub invariant-loop-number : goal.invariant-loop-number
invariant-loop-number l = record {
  long : length l.choices ≡ 1820;
  index : l.index ≡ place l.number;
  are : AreListed l.number l.choices;
}
