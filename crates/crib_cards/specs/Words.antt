-- The words of the two sides.
use Rattle.std.specs.Prelude.{ℕ, List, codes}
use Rattle.crib_cards.specs.declared.sides.Side.{Side}
use Rattle.crib_cards.specs.declared.sides.Side.TheVariants.{Owner, Opponent}

-- the word of a side: `owner` or `opponent`
abbrev pub side_word : Side → List ℕ
side_word Owner = codes "owner"
side_word Opponent = codes "opponent"
