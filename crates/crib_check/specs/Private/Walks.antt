-- The walk of the code: what it keeps, what it needs at a position, and what it has done from there.
use Rattle.std.specs.Prelude.{◌≡◌, ◌+◌, List, None, Option}
use Rattle.crib_cards.specs.Letters.{letter_index}
use Rattle.crib_cards.specs.declared.letters.Letter.{Letter}
use Rattle.crib_play.specs.History.{Event}
use Rattle.crib_problem.specs.Setup.{Setup}
use Rattle.crib_plan.specs.declared.plan.Node.{Node}
use Rattle.crib_sure.specs.declared.shows.Shows.{Shows}
use Rattle.crib_check.specs.declared.failure.Failure.{Failure}
use Rattle.crib_sure.specs.declared.keys.Key.{Key}
use Rattle.crib_check.specs.declared.trails.Event.{Event as TrailEvent}
use Rattle.crib_check.specs.declared.verdict.Verdict.{Verdict}
use Rattle.crib_check.specs.declared.walk.Walk.{Walk}
use Rattle.crib_check.specs.Verdicts.{IsRight, IsSoFollowed, KeepsOn}
use Rattle.crib_check.specs.Private.Found.{IsFoundBelow, IsFoundFrom, IsSettledBelow}
use Rattle.crib_check.specs.Private.Trails.{history_of_trail}
use Rattle.crib_sure.specs.Positions.{StandsAt}
use Rattle.crib_check.specs.Private.Positions.{IsSettled}
use Rattle.crib_sure.specs.Shows.{AreShowsOf}
use Rattle.crib_sure.specs.Sure.{Ends}

-- what a walk keeps is right for a problem and a plan: they are those of the walk, its position table holds only
-- settled positions, and its table of shows is right. The first argument is the property that a table holds a position
pub record IsKept {T : Type 0} (holds : T → Key → Type 0) (problem of : Setup) (plan by : List Node) (table : T)
    (counted : Shows) : Type 0 where
  pub same_problem : of ≡ problem
  pub same_plan : by ≡ plan
  pub settled : (other : Key) → holds table other → IsSettled problem plan other
  pub shows : AreShowsOf problem counted

-- an answer about a plan: the right verdict, the ending of the game that it names, and how the play goes on
pub record IsAnswer (problem : Setup) (plan : List Node) (verdict : Verdict) : Type 0 where
  pub right : IsRight problem plan verdict
  pub followed : IsSoFollowed problem plan verdict
  pub goes_on : KeepsOn problem plan verdict
  pub ends : Ends problem

-- a walk of a problem and a plan
abbrev pub IsWalkOf : {A T : Type 0} → (T → Key → Type 0) → Setup → List Node → Walk A T → Type 0
IsWalkOf holds problem plan walk =
    IsKept holds problem walk.problem.now plan walk.plan.now walk.table.now walk.shows

-- the history where a walk is: that of the opening and of its trail
abbrev pub history_at : {A T : Type 0} → Walk A T → List Event
history_at walk = history_of_trail walk.problem.now walk.trail.items

-- a walk may go on from a position, which represents a history, if it has found no failure
pub record MayWalk {A T : Type 0} (holds : T → Key → Type 0) (walk : Walk A T) (key : Key) (history : List Event)
    : Type 0 where
  pub kept : IsWalkOf holds walk.problem.now walk.plan.now walk
  pub none : walk.failure ≡ None
  pub here : StandsAt walk.problem.now walk.plan.now key history

-- a walk has gone on up to the first failing game: it is still a walk of the problem and the plan, its trail is as
-- before if there is no failure, and its trail and its failure are what it is to find
pub record HasGone {A T : Type 0} (holds : T → Key → Type 0) (problem : Setup) (plan : List Node)
    (trail : List TrailEvent) (Found : List TrailEvent → Option Failure → Type 0) (after : Walk A T) : Type 0 where
  pub kept : IsWalkOf holds problem plan after
  pub back : after.failure ≡ None → after.trail.items ≡ trail
  pub found : Found after.trail.items after.failure

-- a walk has gone over all games from a position
abbrev pub HasWalked : {A T : Type 0} → (T → Key → Type 0) → Walk A T → Key → List Event → Walk A T → Type 0
HasWalked holds before key history =
    HasGone holds before.problem.now before.plan.now before.trail.items
    (IsFoundFrom before.problem.now before.plan.now key history)

-- a walk at a position where the opponent is to move has gone over all games with one more letter, if the letters
-- before are settled
abbrev pub HasShown : {A T : Type 0} → (T → Key → Type 0) → Walk A T → Key → Letter → List Event → Walk A T → Type 0
HasShown holds before key letter history =
    HasGone holds before.problem.now before.plan.now before.trail.items
    (λ trail found. IsSettledBelow before.problem.now before.plan.now key (letter_index letter) →
    IsFoundBelow before.problem.now before.plan.now key (letter_index letter + 1) history trail found)
