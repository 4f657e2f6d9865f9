-- What may be played next, and what is after it, as text.
use Rattle.std.specs.Prelude.{ℕ, zero, suc, Bool, true, List, [], ◌∷◌, ◌++◌}
use Rattle.std.specs.Prelude.{flat_map, Option, None, Some, codes, decimal, if◌then◌else◌}
use Rattle.std.specs.List.{list_all, list_any}
use Rattle.crib_cards.specs.Cards.{rank_of}
use Rattle.crib_cards.specs.declared.letters.Letter.TheVariants.{Seen}
use Rattle.crib_cards.specs.declared.moves.Move.{Move}
use Rattle.crib_cards.specs.declared.moves.Move.TheVariants as move
use Rattle.crib_problem.specs.Setup.{Setup}
use Rattle.crib_problem.specs.Spelling.{move_word}
use Rattle.crib_plan.specs.declared.plan.Node.{Node}
use Rattle.crib_plan.specs.declared.plan.Node.TheVariants.{Play}
use Rattle.crib_beaten.specs.declared.rows.Rows.{Rows}
use Rattle.crib_leads.specs.Leads.{is_sure, is_worse}
use Rattle.crib_leads.specs.declared.leads.Lead.{Lead}
use Rattle.crib_leads.specs.declared.verdict.LeadVerdict.{LeadVerdict}
use Rattle.crib_leads.specs.declared.verdict.LeadVerdict.TheVariants.{Sure, Beaten, Reached, Missed}
use Rattle.crib_run.specs.Pieces.{spaced_card}
use Rattle.crib_run.specs.declared.status.Status.{Status}
use Rattle.crib_run.specs.declared.status.Status.TheVariants.{Yes, No}
use Rattle.crib_plan_sheet.specs.PlanNow.{now_text}
use Rattle.crib_plan_sheet.specs.PlanStuck.{letter_word}
use Rattle.crib_sheet.specs.PlanBeaten.{beating_text, grouped}

-- ---- a verdict

-- after which card a plan is made, if it is named: `after 5C `
abbrev pub after_words : Option Move → List ℕ
after_words None = []
after_words (Some what) = codes "after " ++ move_word what ++ codes " "

-- that a plan is sure, or how many deals beat a plan after this card
abbrev pub short_words : Option Move → LeadVerdict → List ℕ
short_words after (Sure nodes) = codes "sure"
short_words after Reached = codes "sure"
short_words after Missed = codes "not sure; " ++ after_words after ++ codes "some deals miss the goal"
short_words after (Beaten beaten open_deals) =
    codes "not sure; " ++ after_words after ++ codes "a plan fails with " ++ grouped beaten ++ codes " of "
    ++ grouped open_deals ++ codes " deals"

-- the nodes of a sure plan: `, 12 nodes`
abbrev pub nodes_words : ℕ → List ℕ
nodes_words zero = codes ": nothing is left to decide"
nodes_words (suc zero) = codes ", 1 node"
nodes_words others = codes ", " ++ decimal others ++ codes " nodes"

-- a verdict on a card of the owner, with the nodes of the plan
abbrev pub own_words : LeadVerdict → List ℕ
own_words (Sure nodes) = codes "sure" ++ nodes_words nodes
own_words Reached = codes "sure: reaches the goal at once"
own_words other = short_words None other

-- ---- the owner's turn

-- the second column, for the goal `stop`: that a plan is sure, or with how many of the same deals a plan fails
abbrev pub stop_figure : LeadVerdict → List ℕ
stop_figure (Sure nodes) = codes "sure"
stop_figure Reached = codes "sure"
stop_figure Missed = codes "some"
stop_figure (Beaten beaten open_deals) = grouped beaten

-- this column, if there is one
abbrev pub stop_words : Option Lead → List ℕ
stop_words None = []
stop_words (Some lead) = codes "; stop: " ++ stop_figure lead.verdict

-- the line of a card of the owner, or of a go
unfoldable pub own_line : Lead → Option Lead → List ℕ
own_line lead stop =
    move_word lead.act.what ++ codes ": " ++ own_words lead.verdict ++ stop_words stop ++ codes "\n"

-- the lines of the owner's turns, with a second column if there is one
abbrev pub own_lines : List Lead → List Lead → List ℕ
own_lines [] stops = []
own_lines (lead ∷ leads) [] = own_line lead None ++ own_lines leads []
own_lines (lead ∷ leads) (stop ∷ stops) = own_line lead (Some stop) ++ own_lines leads stops

-- whether more than half of the deals are against a verdict
abbrev pub is_mostly_beaten : Lead → Bool
is_mostly_beaten lead = is_worse lead.verdict (Beaten 1 2)

-- that the figures say little
abbrev pub little_sentence : List ℕ
little_sentence = codes "More than half of the deals beat each of them, so their order says little.\n"

-- the entry that the fewest deals are against, the first of equals
abbrev pub best_of : Lead → List Lead → Lead
best_of best [] = best
best_of best (lead ∷ leads) = if is_worse best.verdict lead.verdict then best_of lead leads else best_of best leads

-- a card that is best to stop them, if less than half of the deals are against it
abbrev pub best_sentence : Lead → List ℕ
best_sentence lead =
    if is_worse (Beaten 1 2) lead.verdict
    then codes "To stop them, the fewest deals beat a plan after " ++ move_word lead.act.what ++ codes ".\n" else []

-- the best card of the second column
abbrev pub best_line : List Lead → List ℕ
best_line [] = []
best_line (stop ∷ stops) = best_sentence (best_of stop stops)

-- that the figures say little, and what is best to stop them, if more than half of the deals beat each of several cards
abbrev pub little_lines : List Lead → List Lead → List ℕ
little_lines (lead ∷ other ∷ leads) stops =
    if list_all is_mostly_beaten (lead ∷ other ∷ leads) then little_sentence ++ best_line stops else []
little_lines leads stops = []

-- ---- the opponent's turn

-- the name of an entry: that of a rank, a card or a go
abbrev pub their_name : Bool → Move → List ℕ
their_name true (move.Card card) = letter_word (Seen (rank_of card))
their_name is_rank what = move_word what

-- the card after which a plan is made, if the entry is that of its rank
abbrev pub after_of : Lead → Option Move
after_of lead = if lead.is_rank then Some lead.act.what else None

-- the line of a rank or a card that the opponent may show, or of a go
unfoldable pub their_line : Lead → List ℕ
their_line lead =
    their_name lead.is_rank lead.act.what ++ codes ": " ++ short_words (after_of lead) lead.verdict ++ codes "\n"

-- the lines of the opponent's turns, below a heading
abbrev pub their_lines : List Lead → List ℕ
their_lines [] = []
their_lines (lead ∷ leads) =
    codes "It is their turn. After what they may play:\n" ++ flat_map their_line (lead ∷ leads)

-- ---- the whole

-- the card with which a plan begins: ` begins with 8C`
abbrev pub begins_words : List Node → List ℕ
begins_words (Play card next ∷ nodes) = codes " begins with" ++ spaced_card card
begins_words nodes = []

-- how many deals beat a plan to try, after an empty line
unfoldable pub tried_text : List Node → ℕ → ℕ → Option Rows → List ℕ
tried_text plan open_deals beaten hands =
    codes "\nThe plan of cribsheet try" ++ begins_words plan ++ codes ":\n" ++ beating_text open_deals beaten hands

-- the position now, the turns that may come next, and what is below them
unfoldable pub leads_text : Setup → List Lead → List Lead → List Lead → List ℕ → List ℕ
leads_text problem own stops theirs below =
    now_text problem ++ own_lines own stops ++ little_lines own stops ++ their_lines theirs ++ below

-- whether the verdict of an entry says that the goal is reached
abbrev pub has_sure : Lead → Bool
has_sure lead = is_sure lead.verdict

-- yes if a card of the owner is sure, or on the opponent's turn each of theirs
abbrev pub leads_status : List Lead → List Lead → Status
leads_status [] theirs = if list_all has_sure theirs then Yes else No
leads_status (lead ∷ leads) theirs = if list_any has_sure (lead ∷ leads) then Yes else No
