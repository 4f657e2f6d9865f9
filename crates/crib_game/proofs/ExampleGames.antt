-- What worked examples of games share.
use Rattle.std.specs.Prelude.{List}
use Rattle.crib_cards.specs.declared.sides.Dealt.{Dealt}
use Rattle.crib_cards.specs.declared.moves.Act.{Act}
use Rattle.crib_game.specs.declared.section.game.Game.{Game}

-- the opponent's six cards, and the acts
abbrev pub game_with : Dealt → List Act → Game
game_with dealt acts = record { opp = dealt; acts = record { items = acts } }
