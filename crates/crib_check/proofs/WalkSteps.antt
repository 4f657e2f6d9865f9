-- What a walk may do for a turn, and what it has done after one.
use Rattle.std.proofs.Common.{◌≡◌, ◌+◌, ℕ, true, false, List, None, Some, Option, refl, sym, subst}
use Rattle.std.specs.Option.{is_some}
use Rattle.std.proofs.lemmas.Option.{none-some}
use Rattle.crib_cards.specs.Letters.{letter_index}
use Rattle.crib_cards.specs.declared.letters.Letter.{Letter}
use Rattle.crib_problem.specs.Setup.{Setup}
use Rattle.crib_plan.specs.declared.plan.Node.{Node}
use Rattle.crib_check.specs.declared.failure.Failure.{Failure}
use Rattle.crib_sure.specs.declared.keys.Key.{Key}
use Rattle.crib_check.specs.declared.trails.Event.{Event as TrailEvent}
use Rattle.crib_check.specs.declared.walk.Walk.{Walk}
use Rattle.crib_check.specs.Private.Found.{IsFoundBelow, IsFoundFrom, IsSettledBelow}
use Rattle.crib_check.specs.Private.Trails.{history_of_trail}
use Rattle.crib_sure.specs.Positions.{StandsAt}
use Rattle.crib_check.specs.Private.Walks.{IsKept, IsWalkOf, MayWalk, HasGone, HasShown, history_at}
use Rattle.crib_sure.specs.Shows.{AreShowsOf}
use Rattle.crib_sure.specs.declared.shows.Shows.{Shows}
use Rattle.crib_play.specs.History.{Event}

module _ {A T : Type 0} {holds : T → Key → Type 0} {problem : Setup} {plan : List Node} {Found : List TrailEvent → Option Failure → Type 0}
    {walk : Walk A T} where
  -- a walk that stays where it is
  pub stays : IsWalkOf holds problem plan walk → Found walk.trail.items walk.failure → HasGone holds problem plan walk.trail.items Found walk
  stays kept found = record { kept = kept; back = λ none. refl; found = found }

  -- a walk that has found a failure
  pub failed : {trail : List TrailEvent} → IsWalkOf holds problem plan walk → (walk.failure ≡ None → ⊥) → Found walk.trail.items walk.failure →
      HasGone holds problem plan trail Found walk
  failed kept some found = record { kept = kept; back = λ none. absurd (some none); found = found }

  -- a walk that has found one thing has found what follows from it
  pub gone_as : {trail : List TrailEvent} {Also : List TrailEvent → Option Failure → Type 0} → HasGone holds problem plan trail Found walk →
      (Found walk.trail.items walk.failure → Also walk.trail.items walk.failure) → HasGone holds problem plan trail Also walk
  gone_as gone more = record { kept = gone.kept; back = gone.back; found = more gone.found }

-- no failure is found, if a test says so
pub no_failure : (found : Option Failure) → is_some found ≡ false → found ≡ None
no_failure None none = refl
no_failure (Some failure) none = absurd cc

-- some failure is found, if a test says so
pub some_failure : (found : Option Failure) → is_some found ≡ true → found ≡ None → ⊥
some_failure None some none = cc
some_failure (Some failure) some none = none-some failure (sym none)

-- a walk with other shows
pub kept_with : {T : Type 0} {holds : T → Key → Type 0} {problem of : Setup} {plan by : List Node} {table : T} {counted more : Shows} →
    IsKept holds problem of plan by table counted → AreShowsOf problem more → IsKept holds problem of plan by table more
kept_with kept shows = record { same_problem = kept.same_problem; same_plan = kept.same_plan; settled = kept.settled; shows = shows }

-- a walk that has failed after a turn has failed from before it
pub failed_from : {A T : Type 0} {holds : T → Key → Type 0} {problem : Setup} {plan : List Node} {key : Key} {history more : List Event}
    {trail longer : List TrailEvent} {walk : Walk A T} → more ≡ history → HasGone holds problem plan longer (IsFoundFrom problem plan key more) walk →
    is_some walk.failure ≡ true → HasGone holds problem plan trail (IsFoundFrom problem plan key history) walk
failed_from {problem = problem} {plan} {key} {walk = walk} same gone some =
    failed gone.kept (some_failure walk.failure some) (subst (λ h. IsFoundFrom problem plan key h walk.trail.items walk.failure) same gone.found)

-- a walk after the letters below an index, none of which led to a failure
pub record HasShownBelow {A T : Type 0} (holds : T → Key → Type 0) (start : Walk A T) (key : Key) (index : ℕ) (walk : Walk A T) : Type 0 where
  pub kept : IsWalkOf holds start.problem.now start.plan.now walk
  pub none : walk.failure ≡ None
  pub back : walk.trail.items ≡ start.trail.items
  pub below : IsSettledBelow start.problem.now start.plan.now key index

module _ {A T : Type 0} {holds : T → Key → Type 0} {start walk : Walk A T} {key : Key} {index : ℕ} (shown : HasShownBelow holds start key index walk) where
  same : ◌≡◌ {A = Setup × List Node × List TrailEvent} (start.problem.now, start.plan.now, start.trail.items)
      (walk.problem.now, walk.plan.now, walk.trail.items)
  same = λ i. ((sym shown.kept.same_problem) i, (sym shown.kept.same_plan) i, (sym shown.back) i)

  -- it may go on where it is
  pub may_show : StandsAt start.problem.now start.plan.now key (history_at start) → MayWalk holds walk key (history_at walk)
  may_show here =
      let F : (Setup × List Node × List TrailEvent) → Type 0 = λ x. IsWalkOf holds x.0 x.1 walk × StandsAt x.0 x.1 key (history_of_trail x.0 x.2) in
      let both = subst F same (shown.kept, here) in
      record { kept = both.0; none = shown.none; here = both.1 }

  -- what it has done after one letter more
  pub shown_next : {after : Walk A T} (letter : Letter) → letter_index letter ≡ index → HasShown holds walk key letter (history_at walk) after →
      HasGone holds start.problem.now start.plan.now start.trail.items (IsFoundBelow start.problem.now start.plan.now key (index + 1) (history_at start)) after
  shown_next {after} letter at next =
      let S : (Setup × List Node × List TrailEvent) → Type 0 = λ x.
      HasGone holds x.0 x.1 x.2 (λ trail found. IsSettledBelow x.0 x.1 key (letter_index letter) →
      IsFoundBelow x.0 x.1 key (letter_index letter + 1) (history_of_trail x.0 x.2) trail found) after in
      let done = rw at at (subst S (sym same) next) in
      record { kept = done.kept; back = done.back; found = done.found shown.below }
