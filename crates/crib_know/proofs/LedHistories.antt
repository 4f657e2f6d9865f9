-- Histories that can be made turn by turn.
use Rattle.std.specs.Prelude.{◌≡◌, ◌+◌, ◌≤◌, List, [], ◌∷◌, IsTrue, IsFalse}
use Rattle.std.specs.List.{list_any}
use Rattle.crib_cards.specs.Cards.{card_value}
use Rattle.crib_cards.specs.Sets.{has}
use Rattle.crib_cards.specs.declared.moves.Move.TheVariants as move
use Rattle.crib_play.specs.declared.turns.Turn.TheVariants as turns
use Rattle.crib_play.specs.Fitting.{fits_at}
use Rattle.crib_play.specs.History.{Event, Own, Theirs}
use Rattle.crib_problem.specs.Setup.{Setup}
use Rattle.crib_know.specs.Knowledge.{asked_now, own_left, count_after}
use Rattle.crib_know.specs.Hidden.{CanShow}

-- a turn can come next. The owner must be asked, and play a card that he has and that fits, or say go if none fits. The opponent must show a letter that some
-- hidden deal lets him show
abbrev pub MayCome : Setup → List Event → Event → Type 0
MayCome problem history (Own (move.Card card)) =
    (asked_now problem history ≡ turns.Owner) × IsTrue (has (own_left problem history) card) × (count_after problem history + card_value card ≤ 31)
MayCome problem history (Own move.Go) =
    (asked_now problem history ≡ turns.Owner) × IsFalse (list_any (fits_at (count_after problem history)) (own_left problem history))
MayCome problem history (Theirs letter) = CanShow problem history letter

-- each turn of a history can come after those before it
abbrev pub IsLed : Setup → List Event → Type 0
IsLed problem [] = Unit {0}
IsLed problem (event ∷ history) = IsLed problem history × MayCome problem history event
