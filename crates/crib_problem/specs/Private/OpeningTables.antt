-- What a table represents after some acts of an opening.
use Rattle.std.specs.Prelude.{◌≡◌, ℕ, ◌+◌, List, Option, length, IsTrue}
use Rattle.crib_cards.specs.Cards.{IsCard}
use Rattle.crib_cards.specs.Sets.{has}
use Rattle.crib_cards.specs.Start.{pone_of}
use Rattle.crib_cards.specs.declared.sides.Side.TheVariants.{Owner}
use Rattle.crib_cards.specs.declared.moves.Act.{Act}
use Rattle.crib_play.specs.Record as plays
use Rattle.crib_play.specs.Record.{count_of}
use Rattle.crib_play.specs.Legal.{letters_of}
use Rattle.crib_play.specs.History.{moves_of}
use Rattle.crib_play.specs.Standing.{StandsFor}
use Rattle.crib_problem.specs.declared.turns.OpeningTable.{OpeningTable}
use Rattle.crib_problem.specs.Played.{OpeningBasis, record_by, own_left_by, seen_by, least_by, turn_refusal}

-- each card of the owner's hold is a known card of the pack, and the cards that the owner has left and has played are
-- four together
pub record Keeps (basis : OpeningBasis) (before : List Act) : Type 0 where
  pub known : (card : ℕ) → IsTrue (has basis.hold card) → IsCard card × IsTrue (has basis.known card)
  pub four :
      length (own_left_by basis before) + plays.cards_played (pone_of basis.start) Owner (record_by basis before) ≡ 4

-- the table is the one after some acts, the last one first
pub record IsAfter (table : OpeningTable) (basis : OpeningBasis) (before : List Act) : Type 0 where
  pub stands : StandsFor table.round basis.start (letters_of (moves_of before))
  pub own : table.own ≡ own_left_by basis before
  pub seen : table.seen ≡ seen_by basis before
  pub least : table.least ≡ least_by basis before
  pub keeps : Keeps basis before

-- the table is the one after some acts, for some basis
pub record IsReal (table : OpeningTable) : Type 0 where
  pub basis : OpeningBasis
  pub before : List Act
  pub after : IsAfter table basis before

-- the refusal of an act as the next one at this table, if there is one
abbrev pub refusal_at : OpeningTable → Act → Option ℕ
refusal_at table act =
    turn_refusal table.seen table.round.asked (count_of table.round.pile) table.own table.least act
