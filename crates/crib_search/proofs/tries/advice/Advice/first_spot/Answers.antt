use Rattle.std.proofs.Common.{sym}
use Rattle.crib_search.proofs.tries.advice.Advice.first_spot.Goals as goal

pub first_place-requires : goal.first_place-requires
first_place-requires g c = record {
  turn = record { here = c.requires.here; asked = sym c.in-Owner.ensures };
  playable = c.options-cards.ensures.playable;
}
