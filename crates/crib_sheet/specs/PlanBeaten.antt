-- The deals that beat a plan that is not sure, in words.
use Rattle.std.specs.Prelude.{◌≡◌, ℕ, ◌<◌, ◌≤◌, ◌-◌, ◌/◌, ◌%◌, ◌==◌, Bool, true, false, ◌&&◌, Option, None, Some}
use Rattle.std.specs.Prelude.{List, [], ◌∷◌, ◌++◌, length, flat_map, IsTrue}
use Rattle.std.specs.Prelude.{count_by, replicate, nat_le, nat_lt, codes, decimal, if◌then◌else◌}
use Rattle.std.specs.List.{All, list_all}
use Rattle.crib_text.specs.Spelling.{space}
use Rattle.crib_problem.specs.Setup.{Setup}
use Rattle.crib_plan.specs.declared.plan.Node.{Node}
use Rattle.crib_players.specs.Players.{Player}
use Rattle.crib_beaten.specs.Beaten.{Beats}
use Rattle.crib_bound.specs.BeatenPlayers.{BeatsPlayer}
use Rattle.crib_know.specs.Hidden.{IsOpen}
use Rattle.crib_check.specs.declared.verdict.Verdict.{Verdict}
use Rattle.crib_check.specs.declared.verdict.Verdict.TheVariants.{Holds, Fails}
use Rattle.crib_deals.specs.Exact.{AreExactly}
use Rattle.crib_beaten.specs.Terms.{AreBestFirst, AreRows}
use Rattle.crib_beaten.specs.declared.rows.Row.{Row}
use Rattle.crib_beaten.specs.declared.rows.Rows.{Rows}
use Rattle.crib_sheet.specs.declared.verdict.beaten.Best.{Best}
use Rattle.crib_plan_sheet.specs.PlanSheetSize.{longest_line}
use Rattle.crib_plan_sheet.specs.PlanText.{label}

-- ---- numbers

-- digits with a comma before each three of them, but not before the first
abbrev pub with_commas : List ℕ → List ℕ
with_commas [] = []
with_commas (digit ∷ digits) =
    digit ∷ (if nat_lt 0 (length digits) && (length digits % 3 == 0) then codes "," else []) ++ with_commas digits

-- a number: `820`, `121,738,020`
abbrev pub grouped : ℕ → List ℕ
grouped number = with_commas (decimal number)

-- ---- rows

-- the ranks of a slot: `9`, or several in brackets, `(A 3 T-K)`
unfoldable pub slot_text : List Bool → List ℕ
slot_text slot =
    if count_by (λ flag. flag) slot == 1 then label (slot ++ false ∷ [])
    else codes "(" ++ label (slot ++ false ∷ []) ++ codes ")"

-- a slot after a space. One of any card has none
abbrev pub slot_part : List Bool → List ℕ
slot_part slot = if list_all (λ flag. flag) slot then [] else space ∷ slot_text slot

-- the slots of a term, each after a space
abbrev pub term_text : List (List Bool) → List ℕ
term_text term = flat_map slot_part term

-- a line with a number of deals in its column
unfoldable pub deals_line : List ℕ → ℕ → List ℕ → List ℕ
deals_line front deals word =
    codes "   " ++ front ++ replicate (25 - length front) space ++ replicate (11 - length (grouped deals)) space
    ++ grouped deals ++ word ++ codes "\n"

-- the number of a line ends in column 39: as far as that, and with the line feed, the line has 40 bytes
abbrev pub IsAligned : List ℕ → ℕ → Type 0
IsAligned front deals = length (deals_line front deals []) ≡ 40

-- the word behind a number of deals
abbrev pub deals_word : ℕ → List ℕ
deals_word deals = if deals == 1 then codes " deal" else codes " deals"

-- the lines of rows, with a word in the first one
abbrev pub row_lines : List ℕ → List Row → List ℕ
row_lines word [] = []
row_lines word (row ∷ rows) = deals_line (term_text row.term) row.deals word ++ row_lines [] rows

-- the lines of all rows
abbrev pub rows_lines : List Row → List ℕ
rows_lines [] = []
rows_lines (row ∷ rows) = row_lines (deals_word row.deals) (row ∷ rows)

-- the line of the deals that no row has, if there are any
abbrev pub others_line : ℕ → List ℕ
others_line others = if others == 0 then [] else deals_line (codes " and others") others []

-- ---- the paragraph

-- which hands beat the plan, if there are rows for them
abbrev pub hands_text : Option Rows → List ℕ
hands_text None = codes "\n"
hands_text (Some rows) =
    codes " They then hold, at least:\n\n" ++ rows_lines rows.rows.items ++ others_line rows.others
    ++ codes "\nIn brackets: one card of these ranks. Hands of two rows are in the first.\n"

-- how many deals beat a plan that is not sure, and which hands they have
unfoldable pub beating_text : ℕ → ℕ → Option Rows → List ℕ
beating_text open_deals beaten hands =
    codes "This plan is not sure. It reaches your goal with " ++ grouped (open_deals - beaten)
    ++ codes " of the\n" ++ grouped open_deals
    ++ codes " deals that they may have, whatever they play. With the other\n" ++ grouped beaten
    ++ codes " they can beat it." ++ hands_text hands

-- how many deals beat the best plan that was found
abbrev pub found_text : Option ℕ → List ℕ
found_text None = []
found_text (Some found) =
    if found == 0 then codes "Another plan is sure.\n"
    else codes "The best plan found is beaten by " ++ grouped found ++ deals_word found ++ codes ".\n"

-- how many deals beat each plan at least. Nothing is said if that is no deal
abbrev pub least_text : ℕ → List ℕ
least_text least =
    if least == 0 then []
    else codes "Every plan is beaten by at least " ++ grouped least ++ deals_word least ++ codes ".\n"

-- that no plan is beaten by fewer deals, or no player
abbrev pub fewest_text : Bool → List ℕ
fewest_text true = codes "No player is beaten by fewer deals, whatever they look at.\n"
fewest_text false = codes "No plan is beaten by fewer deals.\n"

-- how few deals beat a plan, beside how many beat this one
unfoldable pub best_text : ℕ → Best → List ℕ
best_text beaten best =
    if nat_le beaten best.least then fewest_text best.is_for_all
    else found_text best.found ++ least_text best.least

-- ---- right figures

-- at least so many deals beat each plan
abbrev pub IsLeast : Setup → ℕ → Type 0
IsLeast problem least = (plan : List Node) (count : ℕ) → AreExactly (Beats problem plan) count → least ≤ count

-- at least so many deals beat each player, also one who sees suits
abbrev pub IsLeastOfPlayers : Setup → ℕ → Type 0
IsLeastOfPlayers problem least =
    (player : Player) (count : ℕ) → AreExactly (BeatsPlayer problem player) count → least ≤ count

-- if a plan was found, exactly so many deals beat some plan
abbrev pub IsFoundWith : Setup → Option ℕ → Type 0
IsFoundWith problem None = Unit {0}
IsFoundWith problem (Some found) = (plan : List Node) × AreExactly (Beats problem plan) found

-- what is said of the best plan is right
pub record IsBest (problem : Setup) (best : Best) : Type 0 where
  pub found : IsFoundWith problem best.found
  pub plans : IsLeast problem best.least
  pub players : IsTrue best.is_for_all → IsLeastOfPlayers problem best.least

-- rows are right: exactly so many deals that beat the plan meet a row and none above. Each has one at least, and none
-- below has more. Each leaves a blank before the column of these numbers, and all numbers end in one column
pub record AreHands (problem : Setup) (plan : List Node) (rows : Rows) : Type 0 where
  pub exact : AreRows problem plan [] rows.rows.items rows.others
  pub best_first : AreBestFirst rows.rows.items
  pub narrow : All (λ (row : Row). length (term_text row.term) ≤ 24) rows.rows.items
  pub aligned : All (λ (row : Row). IsAligned (term_text row.term) row.deals) rows.rows.items
  pub others_aligned : IsAligned (codes " and others") rows.others

-- rows beside figures are right. There are none if more than a tenth of the deals beat the plan
abbrev pub AreHandsOf : Setup → List Node → ℕ → ℕ → Option Rows → Type 0
AreHandsOf problem plan open_deals beaten None = open_deals / 10 < beaten
AreHandsOf problem plan open_deals beaten (Some rows) = (beaten ≤ open_deals / 10) × AreHands problem plan rows

-- figures are right: exactly so many deals agree with the opening, exactly so many of them beat the plan, and the rows
-- say which do. No line that says so has more than 78 columns
pub record AreBeating (problem : Setup) (plan : List Node) (open_deals beaten : ℕ) (hands : Option Rows) : Type 0
  where
    pub are_open : AreExactly (IsOpen problem) open_deals
    pub are_beaten : AreExactly (Beats problem plan) beaten
    pub are_hands : AreHandsOf problem plan open_deals beaten hands
    pub narrow : longest_line 0 (beating_text open_deals beaten hands) ≤ 78

-- figures beside a verdict are right: those of a plan that fails are
abbrev pub AreBeatingOf : Setup → List Node → Verdict → ℕ → ℕ → Option Rows → Type 0
AreBeatingOf problem plan Holds open_deals beaten hands = Unit {0}
AreBeatingOf problem plan (Fails ending game) open_deals beaten hands = AreBeating problem plan open_deals beaten hands
