-- How the code finds the reasons of a game's acts: by the pile, and the rows of the report.
use Rattle.std.specs.Prelude.{ℕ, ◌+◌, ◌==◌, nat_lt, Bool, List, [], ◌∷◌, ◌++◌, if◌then◌else◌}
use Rattle.crib_cards.specs.Cards.{rank_of}
use Rattle.crib_cards.specs.declared.moves.Move.{Move}
use Rattle.crib_cards.specs.declared.moves.Move.TheVariants as move
use Rattle.crib_game.specs.declared.replaying.report.Row.{Row}
use Rattle.crib_game_sheet.specs.declared.game.reason.PlayReason.{PlayReason}
use Rattle.crib_game_sheet.specs.declared.game.reason.PlayReason.TheVariants as reason
use Rattle.crib_game_sheet.specs.declared.game.reasons.PlaySoFar.{PlaySoFar}
use Rattle.crib_game_sheet.specs.GamePlay.{card_reasons_at, reason_if, reasons_points}

-- why a move counts points, without those of a close below 31. The count is that with the card
abbrev pub move_reasons : PlaySoFar → Move → ℕ → List PlayReason
move_reasons play (move.Card card) count = card_reasons_at play.cards count (play.pile.items ++ rank_of card ∷ [])
move_reasons play move.Go count = []

-- the pile after a move, before a close below 31
abbrev pub move_pile : PlaySoFar → Move → ℕ → List ℕ
move_pile play (move.Card card) count = if count == 31 then [] else play.pile.items ++ rank_of card ∷ []
move_pile play move.Go count = play.pile.items

-- the number of cards after a move
abbrev pub cards_with : ℕ → Move → ℕ
cards_with cards (move.Card card) = cards + 1
cards_with cards move.Go = cards

-- whether an act brings a close below 31: its row has more points than those of its move
abbrev pub is_closing : PlaySoFar → Row → Bool
is_closing play row = nat_lt (reasons_points (move_reasons play row.act.what row.count)) row.points

-- why the act of a row counts points
abbrev pub row_reasons : PlaySoFar → Row → List PlayReason
row_reasons play row = move_reasons play row.act.what row.count ++ reason_if (is_closing play row) reason.Go

-- the pile after the act of a row
abbrev pub row_pile : PlaySoFar → Row → List ℕ
row_pile play row = if is_closing play row then [] else move_pile play row.act.what row.count
