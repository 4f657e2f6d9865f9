-- What may be played next, and what is after each such turn. The opening is the visible turns that the problem lists as
-- played.
use Rattle.std.specs.Prelude.{◌≡◌, ◌⊎◌, ℕ, ◌*◌, ◌==◌, Bool, true, false, IsTrue, List, [], ◌∷◌}
use Rattle.std.specs.Prelude.{◌++◌, length, filter, map, nat_lt, if◌then◌else◌, Option, Some, None}
use Rattle.std.specs.List.{AllZip}
use Rattle.crib_cards.specs.Cards.{card_of, pack, ranks}
use Rattle.crib_cards.specs.declared.sides.Side.{Side}
use Rattle.crib_cards.specs.declared.sides.Side.TheVariants.{Owner, Opponent}
use Rattle.crib_cards.specs.declared.moves.Move.TheVariants as move
use Rattle.crib_cards.specs.declared.moves.Act.{Act}
use Rattle.crib_play.specs.History.{event_of}
use Rattle.crib_problem.specs.Played.{act_refusal}
use Rattle.crib_problem.specs.Refusals.{already_over}
use Rattle.crib_problem.specs.Setup.{Setup, opening_basis_of, played_back}
use Rattle.crib_plan.specs.declared.plan.Node.{Node}
use Rattle.crib_know.specs.Knowledge.{played_events}
use Rattle.crib_know.specs.Hidden.{IsOpen}
use Rattle.crib_game.specs.declared.section.game.Game.{Game}
use Rattle.crib_sure.specs.Shows.{IsReachedBehind}
use Rattle.crib_sure.specs.Sure.{IsSure}
use Rattle.crib_check.specs.Missed.{IsMissedWith}
use Rattle.crib_deals.specs.Exact.{AreExactly}
use Rattle.crib_beaten.specs.Beaten.{Beats}
use Rattle.crib_search.specs.Finder.{ExceedsLimit, IsFound}
use Rattle.crib_search.specs.Tried.{IsNeverStuck}
use Rattle.crib_search.specs.Winnable.{IsWinnable, IsWinnableAfter}
use Rattle.crib_players.specs.Laws.{longer}
use Rattle.crib_leads.specs.declared.verdict.LeadVerdict.{LeadVerdict}
use Rattle.crib_leads.specs.declared.verdict.LeadVerdict.TheVariants.{Sure, Beaten, Reached, Missed}
use Rattle.crib_leads.specs.declared.leads.Lead.{Lead}
use Rattle.crib_leads.specs.declared.leads.Leads.{Leads}

-- some cards as turns of a side
abbrev pub played_by : Side → List ℕ → List Act
played_by side cards = map (λ card. record { side = side; what = move.Card card }) cards

-- the go of a side
abbrev pub go_of : Side → Act
go_of side = record { side = side; what = move.Go }

-- the turns of the owner: the cards in pack order, and then a go
abbrev pub own_turns : List Act
own_turns = played_by Owner pack ++ go_of Owner ∷ []

-- the four cards of a rank, in pack order
abbrev pub cards_of : ℕ → List ℕ
cards_of rank = map (card_of rank) (0 ∷ 1 ∷ 2 ∷ 3 ∷ [])

-- the refusal of a turn as the next one, if there is one
abbrev pub refusal_of : Setup → Act → Option ℕ
refusal_of problem act = act_refusal (opening_basis_of problem) (played_back problem) act

-- whether a turn with this refusal may be the next one. It may if nothing but the end of the deal refuses it
abbrev pub is_next : Option ℕ → Bool
is_next None = true
is_next (Some number) = number == already_over

-- whether a turn may come next
abbrev pub may_come : Setup → Act → Bool
may_come problem act = is_next (refusal_of problem act)

-- some plan is sure, and the plan that is found has so many nodes, not more than a plan may have
pub record HasSurePlan (problem : Setup) (nodes : ℕ) : Type 0 where
  pub plan : List Node
  pub sure : IsSure problem plan
  pub found : IsFound problem (Some plan)
  pub long : length plan ≡ nodes
  pub small : ¬ ExceedsLimit problem 65535

-- no plan is sure, and so many of the open deals beat some plan that is never stuck
pub record HasBeatenPlan (problem : Setup) (beaten open_deals : ℕ) : Type 0 where
  pub none : ¬ IsWinnable problem
  pub plan : List Node
  pub never_stuck : IsNeverStuck problem plan
  pub are_open : AreExactly (IsOpen problem) open_deals
  pub are_beaten : AreExactly (Beats problem plan) beaten

-- a verdict on a problem whose deal is not done: it says whether some plan is sure
abbrev pub IsVerdictOn : Setup → LeadVerdict → Type 0
IsVerdictOn problem (Sure nodes) = HasSurePlan problem nodes
IsVerdictOn problem (Beaten beaten open_deals) = HasBeatenPlan problem beaten open_deals
IsVerdictOn problem other = ⊥

-- a verdict on a turn that ends the deal: it says whether each deal that agrees with it reaches the goal
abbrev pub HasEnded : Setup → Act → LeadVerdict → Type 0
HasEnded problem act Reached = IsReachedBehind problem (event_of act ∷ played_events problem)
HasEnded problem act Missed = (game : Game) × IsMissedWith problem act game
HasEnded problem act other = ⊥

-- a verdict on a turn by its refusal: without one it is a verdict on the problem with this turn
abbrev pub IsVerdictBy : Option ℕ → Setup → Act → LeadVerdict → Type 0
IsVerdictBy None problem act verdict = IsVerdictOn (longer problem act) verdict
IsVerdictBy (Some number) problem act verdict = HasEnded problem act verdict

-- a verdict on a turn that may come next
abbrev pub IsVerdict : Setup → Act → LeadVerdict → Type 0
IsVerdict problem act verdict = IsVerdictBy (refusal_of problem act) problem act verdict

-- a turn may come next, and the plan that is found after it has more than 65,535 nodes
abbrev pub IsTooLarge : Setup → Act → Type 0
IsTooLarge problem act = (refusal_of problem act ≡ None) × ExceedsLimit (longer problem act) 65535

-- whether a verdict says that the goal is reached: by a sure plan, or because the deal is done
abbrev pub is_sure : LeadVerdict → Bool
is_sure (Sure nodes) = true
is_sure Reached = true
is_sure other = false

-- ---- one entry for each turn

-- an entry for a turn: a verdict on it
abbrev pub IsEntryAs : Bool → Setup → Act → Lead → Type 0
IsEntryAs is_rank problem act lead = (lead.act ≡ act) × (lead.is_rank ≡ is_rank) × IsVerdict problem act lead.verdict

-- an entry for this turn alone
abbrev pub IsEntry : Setup → Act → Lead → Type 0
IsEntry = IsEntryAs false

-- there is an entry for each of some turns that may come next, and for no other, in the same order
abbrev pub AreEntries : Setup → List Act → List Lead → Type 0
AreEntries problem acts leads = AllZip (IsEntry problem) (filter (may_come problem) acts) leads

-- ---- one entry for each rank of the opponent

-- the entry of a rank by its turns that may come next: it is on the lowest of these cards
abbrev pub IsLowest : Setup → List Act → Option Lead → Type 0
IsLowest problem [] found = found ≡ None
IsLowest problem (act ∷ acts) found = (lead : Lead) × IsEntryAs true problem act lead × (found ≡ Some lead)

-- the entries of a rank, by that on its lowest card. It is the only one, unless suits decide: a plan is sure
-- after the lowest card, but none is sure after each card of the rank. Then each card has an entry
abbrev pub AreBySuit : Setup → ℕ → List Act → Option Lead → List Lead → Type 0
AreBySuit problem rank acts None leads = leads ≡ []
AreBySuit problem rank acts (Some lead) leads =
    ((leads ≡ lead ∷ []) × (IsTrue (is_sure lead.verdict) → IsWinnableAfter problem rank))
    ⊎ (AreEntries problem acts leads × IsTrue (is_sure lead.verdict) × (¬ IsWinnableAfter problem rank))

-- the entries of a rank that the opponent may show, or none
abbrev pub AreOfRank : Setup → ℕ → List Lead → Type 0
AreOfRank problem rank leads =
    (lowest : Option Lead) × IsLowest problem (filter (may_come problem) (played_by Opponent (cards_of rank))) lowest
    × AreBySuit problem rank (played_by Opponent (cards_of rank)) lowest leads

-- the entries of some ranks, one rank after another
abbrev pub AreOfRanks : Setup → List ℕ → List Lead → Type 0
AreOfRanks problem [] leads = leads ≡ []
AreOfRanks problem (rank ∷ others) leads =
    (first : List Lead) × (rest : List Lead) × AreOfRank problem rank first × AreOfRanks problem others rest
    × (leads ≡ first ++ rest)

-- ---- the worst first

-- how bad a verdict is: so many deals of so many. If the deal is done and the goal is missed, all of them
abbrev pub badness : LeadVerdict → ℕ × ℕ
badness (Beaten beaten open_deals) = (beaten, open_deals)
badness Missed = (1, 1)
badness other = (0, 1)

-- whether a verdict is worse than another: a greater part of the deals
abbrev pub is_worse : LeadVerdict → LeadVerdict → Bool
is_worse one other = nat_lt ((badness other).0 * (badness one).1) ((badness one).0 * (badness other).1)

-- an entry in its place among others: behind those that are worse
abbrev pub placed : Lead → List Lead → List Lead
placed lead [] = lead ∷ []
placed lead (other ∷ others) =
    if is_worse other.verdict lead.verdict then other ∷ placed lead others else lead ∷ other ∷ others

-- entries in the order of their badness, and equal ones as they were
abbrev pub worst_first : List Lead → List Lead
worst_first [] = []
worst_first (lead ∷ leads) = placed lead (worst_first leads)

-- ---- all entries

-- the entries are those of the opponent's ranks, from the ace, and of a go, with the worst first
abbrev pub AreTheirs : Setup → List Lead → Type 0
AreTheirs problem leads =
    (cards : List Lead) × (gos : List Lead) × AreOfRanks problem ranks cards
    × AreEntries problem (go_of Opponent ∷ []) gos × (leads ≡ worst_first (cards ++ gos))

-- the entries are those of all turns. Only the side to move has turns that may come next
abbrev pub AreLeads : {A : Type 0} → Setup → Leads A → Type 0
AreLeads problem leads = AreEntries problem own_turns leads.own.items × AreTheirs problem leads.theirs.items
