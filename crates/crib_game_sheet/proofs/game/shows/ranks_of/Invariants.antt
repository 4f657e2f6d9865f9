use Rattle.std.proofs.Common.{◌≡◌, length, map, take}
use Rattle.crib_cards.specs.Cards.{rank_of}
use Rattle.crib_game_sheet.proofs.game.shows.ranks_of.Given as goal

abbrev pub invariant-loop-card : goal.invariant-loop-card
invariant-loop-card l = record { items : l.ranks.items ≡ map rank_of (take l.card-index l.cards); number : length l.ranks.items ≡ l.card-index }
