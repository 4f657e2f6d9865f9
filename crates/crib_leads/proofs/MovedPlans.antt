-- Plans that have the nodes of another plan, each of them one place later.
use Rattle.std.proofs.Common.{◌≡◌, suc, List, [], ◌∷◌, ◌++◌, map, Option, Some, None, refl, sym, ap, subst, ◌∙◌}
use Rattle.std.specs.Prelude.{slice_get, unwrap_or}
use Rattle.std.specs.Option.{option_map}
use Rattle.std.proofs.lemmas.Option.{slice_get-map}
use Rattle.crib_cards.specs.Letters.{letter_index}
use Rattle.crib_cards.specs.declared.letters.Letter.{Letter}
use Rattle.crib_cards.specs.declared.moves.Move.TheVariants as move
use Rattle.crib_play.specs.History.{Event, Own, Theirs}
use Rattle.crib_problem.specs.Setup.{Setup}
use Rattle.crib_plan.specs.declared.plan.Next.{Next}
use Rattle.crib_plan.specs.declared.plan.Next.TheVariants.{End, To}
use Rattle.crib_plan.specs.declared.plan.Node.{Node}
use Rattle.crib_plan.specs.declared.plan.Node.TheVariants.{Play, See}
use Rattle.crib_plan.specs.Places.{after_letter, after_play, branch_of, card_of_node, node_at, place_after_card, place_after_letter, stated_card}
use Rattle.crib_know.specs.Hidden.{BeginsAfter}
use Rattle.crib_sure.specs.HistoryPlaces.{FollowsBy, IsStatedEvent, place_after_event, place_by}
use Rattle.crib_sure.proofs.PlaceByHistory.{begun_late, place_later}

-- the place that is one later; the end stays the end
abbrev pub moved : Next → Next
moved End = End
moved (To index) = To (suc index)

-- a node whose places are one later
abbrev pub moved_node : Node → Node
moved_node (Play card next) = Play card (moved next)
moved_node (See branches) = See (map moved branches)

-- a place of one plan is alike to a place of another: they have the same node, but for its places, or none
abbrev pub AreAlike : List Node → List Node → Next → Next → Type 0
AreAlike one other place twin = node_at other twin ≡ option_map moved_node (node_at one place)

-- if the other plan has a node at all, each place of the one plan is alike to the next place of the other
abbrev pub IsMoved : List Node → List Node → Type 0
IsMoved one other = (twin : Next) (node : Node) → node_at other twin ≡ Some node → (place : Next) → AreAlike one other place (moved place)

-- a plan with one more node before the others
pub with_first : (first : Node) (one : List Node) (place : Next) → AreAlike one (first ∷ map moved_node one) place (moved place)
with_first first one End = refl
with_first first one (To index) = slice_get-map moved_node one index

same_card : (node : Option Node) → card_of_node (option_map moved_node node) ≡ card_of_node node
same_card None = refl
same_card (Some (Play card next)) = refl
same_card (Some (See branches)) = refl

-- alike places state the same card
pub alike_states : (one other : List Node) (place twin : Next) → AreAlike one other place twin → stated_card other twin ≡ stated_card one place
alike_states one other place twin alike = ap card_of_node alike ∙ same_card (node_at one place)

moved_or : (next : Option Next) → unwrap_or (option_map moved next) End ≡ moved (unwrap_or next End)
moved_or None = refl
moved_or (Some next) = refl

branch_moved : (branches : List Next) (letter : Letter) → branch_of (map moved branches) letter ≡ moved (branch_of branches letter)
branch_moved branches letter =
    ap (λ (next : Option Next). unwrap_or next End) (slice_get-map moved branches (letter_index letter))
    ∙ moved_or (slice_get branches (letter_index letter))

-- ---- alike places lead to alike places
module _ (one other : List Node) (is_moved : IsMoved one other) where
  abbrev Alike : Next → Next → Type 0
  Alike place twin = AreAlike one other place twin

  after_own : (node : Option Node) (place twin : Next) → Alike place twin → node_at other twin ≡ option_map moved_node node →
      Alike (after_play node place) (after_play (option_map moved_node node) twin)
  after_own None place twin alike same = alike
  after_own (Some (Play card next)) place twin alike same = is_moved twin (Play card (moved next)) same next
  after_own (Some (See branches)) place twin alike same = alike

  after_theirs : (letter : Letter) (node : Option Node) (place twin : Next) → Alike place twin → node_at other twin ≡ option_map moved_node node →
      Alike (after_letter node letter place) (after_letter (option_map moved_node node) letter twin)
  after_theirs letter None place twin alike same = alike
  after_theirs letter (Some (Play card next)) place twin alike same = alike
  after_theirs letter (Some (See branches)) place twin alike same =
      subst (Alike (branch_of branches letter)) (sym (branch_moved branches letter))
      (is_moved twin (See (map moved branches)) same (branch_of branches letter))

  event_alike : (event : Event) (place twin : Next) → Alike place twin → Alike (place_after_event one place event) (place_after_event other twin event)
  event_alike (Own (move.Card card)) place twin alike =
      subst (λ (node : Option Node). Alike (place_after_card one place) (after_play node twin)) (sym alike)
      (after_own (node_at one place) place twin alike alike)
  event_alike (Own move.Go) place twin alike = alike
  event_alike (Theirs letter) place twin alike =
      subst (λ (node : Option Node). Alike (place_after_letter one place letter) (after_letter node letter twin)) (sym alike)
      (after_theirs letter (node_at one place) place twin alike alike)

-- ---- histories that begin with the openings of two problems
module _ (one other : List Node) (first second : Setup) (base : List Event) (first_begun : (later : List Event) → BeginsAfter first (later ++ base))
    (second_begun : (later : List Event) → BeginsAfter second (later ++ base)) where
  -- the places in a plan for each of the problems
  abbrev pub here : List Event → Next
  here later = place_by one first.played (later ++ base)

  abbrev pub there : List Event → Next
  there later = place_by other second.played (later ++ base)

  pub history_alike : IsMoved one other → AreAlike one other (here []) (there []) → (later : List Event) → AreAlike one other (here later) (there later)
  history_alike is_moved alike [] = alike
  history_alike is_moved alike (event ∷ later) =
      subst (AreAlike one other (here (event ∷ later))) (sym (place_later other second event (later ++ base) (second_begun later)))
      (subst (λ (place : Next). AreAlike one other place (place_after_event other (there later) event))
      (sym (place_later one first event (later ++ base) (first_begun later)))
      (event_alike one other is_moved event (here later) (there later) (history_alike is_moved alike later)))

  stated_event : (event : Event) (place twin : Next) → stated_card one place ≡ stated_card other twin → IsStatedEvent one place event →
      IsStatedEvent other twin event
  stated_event (Own (move.Card card)) place twin same is = sym same ∙ is
  stated_event (Own move.Go) place twin same is = tt
  stated_event (Theirs letter) place twin same is = tt

  -- a history that follows the one plan also follows the other, if both state the same cards
  pub follows_too : ((later : List Event) → stated_card one (here later) ≡ stated_card other (there later)) → FollowsBy other second.played base →
      (later : List Event) → FollowsBy one first.played (later ++ base) → FollowsBy other second.played (later ++ base)
  follows_too same start [] follows = start
  follows_too same start (event ∷ later) follows = (
    follows_too same start later follows.0,
    λ late. stated_event event (here later) (there later) (same later) (follows.1 (begun_late first (later ++ base) (first_begun later))),
  )
