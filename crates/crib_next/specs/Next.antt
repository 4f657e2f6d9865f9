-- What comes next when a plan is played, and the refusal of a turn. The opening is the visible turns that the problem
-- lists as played. Lists of turns before another have the last one first.
use Rattle.std.specs.Prelude.{ℕ, ◌+◌, ◌==◌, ◌&&◌, List, [], ◌∷◌, ◌++◌, map, Option, Some, None, Result, Ok, Err}
use Rattle.std.specs.Prelude.{if◌then◌else◌}
use Rattle.std.specs.List.{list_any}
use Rattle.std.specs.Option.{option_or}
use Rattle.crib_cards.specs.Sets.{has}
use Rattle.crib_cards.specs.declared.moves.Act.{Act}
use Rattle.crib_text.specs.Refusals.{Refusal}
use Rattle.crib_play.specs.Fitting.{fits_at}
use Rattle.crib_play.specs.History.{Event, event_of}
use Rattle.crib_play.specs.declared.turns.Turn.{Turn}
use Rattle.crib_play.specs.declared.turns.Turn.TheVariants as turn
use Rattle.crib_problem.specs.Played.{act_refusal, is_over_by}
use Rattle.crib_problem.specs.Refusals.{already_over}
use Rattle.crib_problem.specs.Setup.{Setup, opening_basis_of, played_back}
use Rattle.crib_plan.specs.declared.plan.Next.{Next}
use Rattle.crib_plan.specs.declared.plan.Node.{Node}
use Rattle.crib_plan.specs.Places.{stated_card}
use Rattle.crib_know.specs.Knowledge.{asked_now, count_after, own_left}
use Rattle.crib_game.specs.Followed.{strays_at}
use Rattle.crib_game.specs.declared.fault.GameFault.{GameFault}
use Rattle.crib_game.specs.declared.fault.GameFault.TheVariants.{AfterEnd, Strays}
use Rattle.crib_sure.specs.HistoryPlaces.{place_by}
use Rattle.crib_next.specs.declared.next.NextTurn.{NextTurn}
use Rattle.crib_next.specs.declared.next.NextTurn.TheVariants.{Play, Go, Wait, Over, Stuck}

-- all acts so far: those of the opening, and then some turns
abbrev pub acts_with : Setup → List Act → List Act
acts_with problem before = before ++ played_back problem

-- what the owner has seen and done so far
abbrev pub history_with : Setup → List Act → List Event
history_with problem before = map event_of (acts_with problem before)

-- the place of the plan after some turns
abbrev pub place_with : Setup → List Node → List Act → Next
place_with problem plan before = place_by plan problem.played (history_with problem before)

-- ---- what comes next

-- what comes next if a card of the owner fits, by the count, the owner's cards left and the stated card
abbrev pub stated_next : ℕ → List ℕ → Option ℕ → NextTurn
stated_next count left None = Stuck
stated_next count left (Some card) = if has left card && fits_at count card then Play card else Stuck

-- what comes next, by the player to move
abbrev pub next_for : Turn → ℕ → List ℕ → Option ℕ → NextTurn
next_for turn.Owner count left stated = if list_any (fits_at count) left then stated_next count left stated else Go
next_for turn.Opponent count left stated = Wait
next_for turn.Over count left stated = Over

-- what comes next after a history, by the stated card
abbrev pub next_by : Setup → List Event → Option ℕ → NextTurn
next_by problem history stated =
    next_for (asked_now problem history) (count_after problem history) (own_left problem history) stated

-- what comes next after some turns
abbrev pub next_after : Setup → List Node → List Act → NextTurn
next_after problem plan before =
    next_by problem (history_with problem before) (stated_card plan (place_with problem plan before))

-- ---- the refusal of a turn

-- the refusal of a turn by its refusal in an opening: a turn that ends the deal is none
abbrev pub unless_ending : Option ℕ → Option ℕ
unless_ending None = None
unless_ending (Some number) = if number == already_over then None else Some number

-- the refusal "comes after the end"
abbrev pub after_end : ℕ
after_end = 45

-- the refusal "strays from the plan"
abbrev pub strays : ℕ
strays = 46

-- the refusal of a turn after others, if there is one: that of a turn after the end of the deal, then that of the
-- rules, then that of a card of the owner that the plan doesn't state
abbrev pub turn_refusal : Setup → List Node → List Act → Act → Option ℕ
turn_refusal problem plan before act =
    if is_over_by (opening_basis_of problem) (acts_with problem before) then Some after_end
    else
    option_or (unless_ending (act_refusal (opening_basis_of problem) (acts_with problem before) act))
    (if strays_at plan (place_with problem plan before) act.side act.what then Some strays else None)

-- the fault of a game for which a turn is refused, by the turn's number and that of the refusal. The others are
-- refusals of an opening
abbrev pub turn_fault : ℕ → ℕ → Option GameFault
turn_fault turn number =
    if number == after_end then Some (AfterEnd turn) else if number == strays then Some (Strays turn) else None

-- ---- turns one after another

-- the refusal of a line if there is one, and otherwise what follows
abbrev pub unless_refused : {A : Type 0} → ℕ → Option ℕ → Result A Refusal → Result A Refusal
unless_refused line None later = later
unless_refused line (Some number) later = Err (record { line = line; number = number })

-- what comes next after more turns, which are in the order of play, or the first refusal. The first of them has this
-- line
abbrev pub next_from : Setup → List Node → ℕ → List Act → List Act → Result NextTurn Refusal
next_from problem plan line before [] = Ok (next_after problem plan before)
next_from problem plan line before (act ∷ acts) =
    unless_refused line (turn_refusal problem plan before act) (next_from problem plan (line + 1) (act ∷ before) acts)
