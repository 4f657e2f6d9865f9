-- Right answers are of one kind.
use Rattle.std.proofs.Common.{List}
use Rattle.crib_problem.specs.Setup.{Setup, IsSetup}
use Rattle.crib_game.specs.declared.section.game.Game.{Game}
use Rattle.crib_search.specs.Winnable.{IsWinnable}
use Rattle.crib_players.specs.Refutations.{Refutes}
use Rattle.crib_players.proofs.Followers.{no_plan}
use Rattle.crib_players.proofs.Refuted.{refuted}
use Rattle.crib_why.specs.Answer.{SomeIsSure}
use Rattle.crib_why.specs.Laws.{KindLaw}
use Rattle.crib_why.specs.declared.why.Why.TheVariants as why

module _ {problem : Setup} {games : List Game} (setup : IsSetup problem) (refutes : Refutes problem games) where
  no_sure : IsWinnable problem → ⊥
  no_sure winnable = no_plan problem games winnable.plan setup refutes winnable.sure

  no_suits : SomeIsSure problem → ⊥
  no_suits some = refuted problem games some.0 setup refutes some.1

pub kind : (A B : Type 0) → KindLaw A B
kind A B problem why.Sure why.Sure setup is also = tt
kind A B problem why.Sure (why.Refuted games) setup is also = no_sure setup also is
kind A B problem why.Sure (why.BySuits found) setup is also = also.0 is
kind A B problem (why.Refuted games) why.Sure setup is also = no_sure setup is also
kind A B problem (why.Refuted games) (why.Refuted others) setup is also = tt
kind A B problem (why.Refuted games) (why.BySuits found) setup is also = no_suits setup is also.1
kind A B problem (why.BySuits found) why.Sure setup is also = is.0 also
kind A B problem (why.BySuits found) (why.Refuted games) setup is also = no_suits setup also is.1
kind A B problem (why.BySuits found) (why.BySuits others) setup is also = tt
