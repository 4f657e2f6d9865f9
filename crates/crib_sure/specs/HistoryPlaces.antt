-- The place of a plan after a history, and histories that follow a plan. The opening is the visible turns that the
-- problem lists as played.
use Rattle.std.specs.Prelude.{nat_le, Bool, List, [], ◌∷◌, length, if◌then◌else◌, IsTrue}
use Rattle.crib_cards.specs.declared.sides.Side.TheVariants.{Owner}
use Rattle.crib_cards.specs.declared.moves.Move.TheVariants as move
use Rattle.crib_cards.specs.declared.moves.Act.{Act}
use Rattle.crib_play.specs.History.{Event, Own, Theirs}
use Rattle.crib_plan.specs.declared.plan.Next.{Next}
use Rattle.crib_plan.specs.declared.plan.Node.{Node}
use Rattle.crib_plan.specs.Places.{plan_start, place_after_card, place_after_letter}
use Rattle.crib_game.specs.Following.{IsAsStated}

-- the place after one visible turn: an owner's card or an opponent's letter moves it, and an owner's go leaves it
-- unchanged
abbrev pub place_after_event : List Node → Next → Event → Next
place_after_event plan place (Own (move.Card card)) = place_after_card plan place
place_after_event plan place (Own move.Go) = place
place_after_event plan place (Theirs letter) = place_after_letter plan place letter

-- whether a history is at least as long as the opening
abbrev pub is_late : List Act → List Event → Bool
is_late played history = nat_le (length played) (length history)

-- the place of a plan after a history. During the opening it stays at the start
abbrev pub place_by : List Node → List Act → List Event → Next
place_by plan played [] = plan_start plan
place_by plan played (event ∷ history) =
    if is_late played history then place_after_event plan (place_by plan played history) event
    else place_by plan played history

-- a card of the owner is the one that is stated at the place
abbrev pub IsStatedEvent : List Node → Next → Event → Type 0
IsStatedEvent plan place (Own turn) = IsAsStated plan place Owner turn
IsStatedEvent plan place (Theirs letter) = Unit {0}

-- a history follows a plan: after the opening, each card of the owner is the stated one
abbrev pub FollowsBy : List Node → List Act → List Event → Type 0
FollowsBy plan played [] = Unit {0}
FollowsBy plan played (event ∷ history) =
    FollowsBy plan played history
    × (IsTrue (is_late played history) → IsStatedEvent plan (place_by plan played history) event)
