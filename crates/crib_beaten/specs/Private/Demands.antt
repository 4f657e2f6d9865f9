-- What the opponent's hand and the crib must count so that no game from a position on fails.
use Rattle.std.specs.Prelude.{◌≡◌, ℕ, ◌*◌, ◌<◌, ◌≤◌, ◌&&◌, List, ◌∷◌, length, map, ◌↔◌, IsTrue, IsFalse}
use Rattle.std.specs.List.{All}
use Rattle.crib_cards.specs.Cards.{rank_of}
use Rattle.crib_cards.specs.Sets.{has, rank_counts}
use Rattle.crib_cards.specs.declared.letters.Letter.{Letter}
use Rattle.crib_cards.specs.declared.sides.Dealt.{Dealt}
use Rattle.crib_play.specs.History.{Event, Theirs}
use Rattle.crib_show.specs.Show.{hand_points, most_points}
use Rattle.crib_problem.specs.Setup.{Setup}
use Rattle.crib_plan.specs.declared.plan.Node.{Node}
use Rattle.crib_know.specs.Hidden.{AgreesWith}
use Rattle.crib_know.specs.Private.Ahead.{turns_ahead}
use Rattle.crib_show.specs.declared.demands.Demand.{Demand}
use Rattle.crib_sure.specs.declared.keys.Key.{Key}
use Rattle.crib_show.specs.Demands.{is_met}
use Rattle.crib_sure.specs.Shows.{meets}
use Rattle.crib_beaten.specs.declared.plays.Plays.{Plays}
use Rattle.crib_beaten.specs.Beaten.{Beats, counts_of, demand_of}
use Rattle.crib_sure.specs.Private.Histories.{Extends, history_of_game}
use Rattle.crib_sure.specs.Positions.{StandsAt}

-- the points of the owner's hand
abbrev pub IsOwnHand : Setup → ℕ → Type 0
IsOwnHand problem points = points ≡ hand_points problem.hold problem.starter

-- a position is one after some history of the problem
abbrev pub IsAfterSome : Setup → List Node → Key → Type 0
IsAfterSome problem plan key = (history : List Event) × StandsAt problem plan key history

-- a failing game with this deal goes on from a history
pub record BeatsFrom (problem : Setup) (plan : List Node) (history : List Event) (dealt : Dealt) : Type 0 where
  pub beats : Beats problem plan dealt
  pub extends : Extends history (history_of_game beats.game)

-- a demand decides which deals are beaten after each history that a position represents. Of the deals that agree with
-- the history and whose hold has these counts of ranks, those that miss it are, and the others are not
abbrev pub IsDemandAt : Setup → List Node → Key → List ℕ → (List Event → Dealt → Type 0) → Demand → Type 0
IsDemandAt problem plan key counts IsBeaten demand =
    (history : List Event) → StandsAt problem plan key history → (dealt : Dealt) → AgreesWith problem history dealt →
    rank_counts (map rank_of dealt.hold) ≡ counts → IsFalse (meets problem demand dealt) ↔ IsBeaten history dealt

-- the same for the games that go on from there
abbrev pub IsDemandFrom : Setup → List Node → Key → List ℕ → Demand → Type 0
IsDemandFrom problem plan key counts = IsDemandAt problem plan key counts (BeatsFrom problem plan)

-- and for those of them that go on with a letter
abbrev pub IsDemandAfter : Setup → List Node → Key → List ℕ → Letter → Demand → Type 0
IsDemandAfter problem plan key counts letter =
    IsDemandAt problem plan key counts (λ history. BeatsFrom problem plan (Theirs letter ∷ history))

-- a demand of a kind is joined to another, for the hands and cribs that the cards can make
pub record IsJoined (Kind : Demand → Type 0) (old new : Demand) : Type 0 where
  pub more : Demand
  pub kind : Kind more
  pub joins : (hand crib : ℕ) → hand ≤ most_points → crib ≤ most_points →
      is_met new hand crib ≡ (is_met old hand crib && is_met more hand crib)

-- at some indices a demand is joined that is of a kind for the counts there. At the others the demand is as it was
pub record AreJoined (Kind : List ℕ → Demand → Type 0) (choices : List (List ℕ)) (indices : List ℕ)
    (old new : List Demand) : Type 0 where
  pub here : (index : ℕ) → IsTrue (has indices index) →
      IsJoined (Kind (counts_of choices index)) (demand_of old index) (demand_of new index)
  pub elsewhere : (index : ℕ) → IsFalse (has indices index) → demand_of new index ≡ demand_of old index

-- the same for a walk over the games from a position on
abbrev pub AreJoinedFrom : {A : Type 0} → Plays A → Key → List ℕ → List Demand → List Demand → Type 0
AreJoinedFrom plays key indices old new =
    AreJoined (IsDemandFrom plays.problem.now plays.plan.now key) plays.choices.now indices old new

-- such a walk may begin, for the choices at some indices: the spare room is enough for the indices that are kept after
-- each turn ahead
pub record MayWalk {A : Type 0} (plays : Plays A) (key : Key) (indices spare : List ℕ) : Type 0 where
  pub own : IsOwnHand plays.problem.now plays.own_hand
  pub here : IsAfterSome plays.problem.now plays.plan.now key
  pub small : All (λ index. index < 1820) indices
  pub room : length indices * turns_ahead key.know ≤ length spare
