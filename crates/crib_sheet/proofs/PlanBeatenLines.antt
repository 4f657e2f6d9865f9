-- The lines of the deals that beat a plan, as the writers put them.
use Rattle.std.proofs.Common.{◌≡◌, ◌≢◌, ◌≤◌, ℕ, ◌+◌, ◌-◌, ◌*◌, ◌/◌, ◌%◌, min, Bool, false, List, [], ◌∷◌, ◌++◌, length, get_or, take, drop}
use Rattle.std.proofs.Common.{replicate, codes, count_by}
use Rattle.std.proofs.Common.{refl, ◌∙◌, append_assoc, arith, rules, inl, inr}
use Rattle.std.specs.List.{list_all}
use Rattle.std.proofs.lemmas.Bool.{cases_lt, ne_eqb}
use Rattle.std.proofs.lemmas.Grind.{div_ceil_times}
use Rattle.std.proofs.lemmas.List.{append-nil, take-replicate, take_all}
use Rattle.std.proofs.lemmas.Nat.{mul-le}
use Rattle.crib_beaten.specs.declared.rows.Row.{Row}
use Rattle.crib_text.specs.Spelling.{space}
use Rattle.crib_sheet.specs.PlanBeaten.{grouped, deals_line, others_line, row_lines, slot_part, slot_text, term_text}
use Rattle.crib_plan_sheet.specs.PlanText.{label}

pub deals_line_is : (front figure word : List ℕ) (deals blank gap : ℕ) → figure ≡ grouped deals → blank ≡ 25 - length front → gap ≡ 11 - length figure →
    (((((codes "   " ++ front) ++ take blank (replicate 25 space)) ++ take gap (replicate 11 space)) ++ figure) ++ word) ++ codes "\n"
    ≡ deals_line front deals word
unfolding deals_line
deals_line_is front figure word deals blank gap is left right =
    rw (left, take-replicate (25 - length front) 25 space (omega arith), right, is, take-replicate (11 - length (grouped deals)) 11 space (omega arith))
    (search rules)

-- ---- slots

pub slot_single : (text written : List ℕ) (slot : List Bool) → list_all (λ flag. flag) slot ≡ false → count_by (λ flag. flag) slot ≡ 1 →
    written ≡ label (slot ++ false ∷ []) → (text ++ codes " ") ++ written ≡ text ++ slot_part slot
unfolding slot_text
slot_single text written slot several one is = rw (several, one, is) (append_assoc text (codes " ") (label (slot ++ false ∷ [])))

pub slot_several : (text written : List ℕ) (slot : List Bool) → list_all (λ flag. flag) slot ≡ false → count_by (λ flag. flag) slot ≢ 1 →
    written ≡ label (slot ++ false ∷ []) → ((text ++ codes " (") ++ written) ++ codes ")" ≡ text ++ slot_part slot
unfolding slot_text
slot_several text written slot several more is =
    let its = label (slot ++ false ∷ []) in
    rw (several, ne_eqb (count_by (λ flag. flag) slot) 1 more, is)
    (append_assoc (text ++ codes " (") its (codes ")") ∙ append_assoc text (codes " (") (its ++ codes ")"))

slots_regroup : (a b c d : List ℕ) → ((([] ++ a) ++ b) ++ c) ++ d ≡ a ++ (b ++ (c ++ (d ++ [])))
slots_regroup a b c d = simp (append_assoc, append-nil)

-- the text of a term, slot by slot
pub four_slots : (term : List (List Bool)) (none one two three four : List ℕ) → length term ≡ 4 → none ≡ [] →
    one ≡ none ++ slot_part (get_or term 0 []) → two ≡ one ++ slot_part (get_or term 1 []) → three ≡ two ++ slot_part (get_or term 2 []) →
    four ≡ three ++ slot_part (get_or term 3 []) → four ≡ term_text term
four_slots (a ∷ b ∷ c ∷ d ∷ []) none one two three four long empty first second third fourth =
    rw (fourth, third, second, first, empty) (slots_regroup (slot_part a) (slot_part b) (slot_part c) (slot_part d))
four_slots term none one two three four long empty first second third fourth = absurd (omega (arith, long))

-- ---- rows

pub row_lines_from : (word front : List ℕ) (rows : List Row) → 1 ≤ length rows → front ≡ term_text (get_or rows 0 (record { term = []; deals = 0 })).term →
    deals_line front (get_or rows 0 (record { term = []; deals = 0 })).deals word ++ row_lines [] (take (length rows - 1) (drop 1 rows))
    ≡ row_lines word rows
row_lines_from word front [] some is = absurd (omega (arith, some))
row_lines_from word front (row ∷ rows) some is =
    rw (is, take_all (length (row ∷ rows) - 1) rows (omega arith)) refl

-- ---- others

pub others_listed : (others : ℕ) → others ≢ 0 → others_line others ≡ deals_line (codes " and others") others []
others_listed others some = rw (ne_eqb others 0 some) refl

-- what a strategy is worth that divides each deal into 4,096 parts, in deals, rounded up to a unit and cut off at two greatest numbers, where how many
-- deals there are is a multiple of the unit
pub deals_of_worth : (worth unit bound most count : ℕ) → 1 ≤ unit → (times : ℕ) × (count ≡ times * unit) → worth ≤ 16777216 * count →
    min (min ((worth / (16777216 * unit) + min 1 (worth % (16777216 * unit))) * unit) bound) most ≤ count
deals_of_worth worth unit bound most count some are small =
    let times = are.0 in
    let up = worth / (16777216 * unit) + min 1 (worth % (16777216 * unit)) in
    let parts : times * (16777216 * unit) ≡ 16777216 * count = grind (arith, are.1) in
    let close = (div_ceil_times worth (16777216 * unit) (omega (arith, some))).1 in
    let few : up ≤ times = elim (cases_lt times up) [
      | inl more ↦ let most = mul-le (times + 1) (16777216 * unit) up (16777216 * unit) (omega (arith, more)) (omega arith) in
          let next : (times + 1) * (16777216 * unit) ≡ times * (16777216 * unit) + 16777216 * unit = grind arith in
          absurd (omega (arith, most, next, parts, small, close))
      | inr few ↦ few
    ] in
    let less = mul-le up unit times unit few (omega arith) in
    let is = are.1 in
    omega (arith, less, is)
