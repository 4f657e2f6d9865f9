-- The columns of a row: as many as its term has, slot by slot.
use Rattle.std.proofs.Common.{◌≡◌, ◌≢◌, ◌≤◌, ℕ, zero, suc, ◌+◌, ◌-◌, ◌*◌, min, Bool, true, false, cond, List, [], ◌∷◌, ◌++◌, length, get_or, take, drop}
use Rattle.std.proofs.Common.{count_by, refl, ap, ◌∙◌, arith, append-nil, length-append, codes}
use Rattle.std.specs.Prelude.{◌==◌, if◌then◌else◌, sum_by}
use Rattle.std.specs.List.{All, join_with_byte, list_all}
use Rattle.std.proofs.Math.Seq.{drop-append_seam, take-append_seam}
use Rattle.std.proofs.lemmas.Bool.{eqb-false, eqb-true, ne_eqb}
use Rattle.std.proofs.lemmas.List.Concat.{length-flat_map}
use Rattle.std.proofs.lemmas.List.Elements.{All-head, All-tail}
use Rattle.std.proofs.lemmas.List.Sums.{sum_by-append, sum_by-cons}
use Rattle.crib_text.specs.Spelling.{space}
use Rattle.crib_beaten.specs.declared.rows.Row.{Row}
use Rattle.crib_beaten.specs.Terms.{IsNarrow, columns, printed_ranks, slot_columns}
use Rattle.crib_plan_sheet.specs.PlanText.{label, range_words, rank_words}
use Rattle.crib_sheet.specs.PlanBeaten.{slot_part, slot_text, term_text}

-- the bytes of some words, with one more for each
abbrev spaced_words : List (List ℕ) → ℕ
spaced_words words = sum_by (λ (word : List ℕ). length word + 1) words

joined : (words : List (List ℕ)) → length (join_with_byte space words) ≡ spaced_words words - 1
joined [] = refl
joined (word ∷ []) = let none : spaced_words [] ≡ 0 = refl in omega (arith, none, sum_by-cons (λ (word : List ℕ). length word + 1) word [])
joined (word ∷ next ∷ words) =
    let rest = joined (next ∷ words) in
    rw (length-append word (space ∷ join_with_byte space (next ∷ words)))
    (omega (
      arith,
      rest,
      sum_by-cons (λ (word : List ℕ). length word + 1) word (next ∷ words),
      sum_by-cons (λ (word : List ℕ). length word + 1) next words,
    ))

range_columns : (index before : ℕ) → spaced_words (range_words index before) ≡ 2 * min before 2
range_columns index zero = refl
range_columns index (suc zero) = refl
range_columns index (suc (suc zero)) = refl
range_columns index (suc (suc (suc more))) = grind arith

rank_columns : (index before : ℕ) (slot : List Bool) → spaced_words (rank_words index before slot) ≡ 2 * printed_ranks before slot
unfolding rank_words printed_ranks
rank_columns index before [] = range_columns index before
rank_columns index before (true ∷ slot) = rank_columns (index + 1) (before + 1) slot
rank_columns index before (false ∷ slot) =
    let here : printed_ranks before (false ∷ slot) ≡ min before 2 + printed_ranks 0 slot = refl in
    let parts : spaced_words (rank_words index before (false ∷ slot)) ≡ spaced_words (range_words index before) + spaced_words (rank_words (index + 1) 0 slot)
    = sum_by-append (λ (word : List ℕ). length word + 1) (range_words index before) (rank_words (index + 1) 0 slot) in
    omega (arith, here, parts, range_columns index before, rank_columns (index + 1) 0 slot)

-- one rank is printed if a slot has one
printed_few : (before : ℕ) (slot : List Bool) →
    (printed_ranks before slot ≤ before + count_by (λ flag. flag) slot) × (min (before + count_by (λ flag. flag) slot) 2 ≤ printed_ranks before slot)
unfolding printed_ranks
printed_few before [] = let here : printed_ranks before [] ≡ min before 2 = refl in (omega (arith, here), omega (arith, here))
printed_few before (true ∷ slot) =
    let rest = printed_few (before + 1) slot in
    let here : printed_ranks before (true ∷ slot) ≡ printed_ranks (before + 1) slot = refl in
    let count : count_by (λ flag. flag) (true ∷ slot) ≡ 1 + count_by (λ flag. flag) slot = sum_by-cons (λ (flag : Bool). cond flag 1 0) true slot in
    (omega (arith, rest.0, here, count), omega (arith, rest.1, here, count))
printed_few before (false ∷ slot) =
    let rest = printed_few 0 slot in
    let here : printed_ranks before (false ∷ slot) ≡ min before 2 + printed_ranks 0 slot = refl in
    let count : count_by (λ flag. flag) (false ∷ slot) ≡ 0 + count_by (λ flag. flag) slot = sum_by-cons (λ (flag : Bool). cond flag 1 0) false slot in
    (omega (arith, rest.0, here, count), omega (arith, rest.1, here, count))

label_columns : (slot : List Bool) → length slot ≡ 13 → length (label (slot ++ false ∷ [])) ≡ 2 * printed_ranks 0 slot - 1
unfolding label
label_columns slot long =
    let front : take 13 (slot ++ false ∷ []) ≡ slot = rw (← long) (take-append_seam slot (false ∷ [])) in
    let back : drop 13 (slot ++ false ∷ []) ≡ false ∷ [] = rw (← long) (drop-append_seam slot (false ∷ [])) in
    rw (front, back, append-nil) (joined (rank_words 0 0 slot) ∙ ap (λ (n : ℕ). n - 1) (rank_columns 0 0 slot))

-- by whether any card is in a slot, and whether it has one rank
width_by : (any one : Bool) (text : List ℕ) (printed : ℕ) → length text ≡ 2 * printed - 1 → (one ≡ true → printed ≡ 1) →
    (one ≡ false → printed ≢ 1) → length (if any then [] else space ∷ (if one then text else codes "(" ++ text ++ codes ")"))
    ≡ (if any then 0 else if printed == 1 then 2 else 3 + (2 * printed - 1))
width_by true one text printed wide single several = refl
width_by false true text printed wide single several =
    let is = single refl in rw is (omega (arith, wide, is))
width_by false false text printed wide single several =
    rw (ne_eqb printed 1 (several refl), length-append text (codes ")")) (omega (arith, wide))

slot_width : (slot : List Bool) → length slot ≡ 13 → length (slot_part slot) ≡ slot_columns slot
unfolding slot_text
slot_width slot long =
    let few = printed_few 0 slot in
    width_by (list_all (λ flag. flag) slot) (count_by (λ flag. flag) slot == 1) (label (slot ++ false ∷ [])) (printed_ranks 0 slot)
    (label_columns slot long) (λ is. let one = eqb-true (count_by (λ flag. flag) slot) 1 is in omega (arith, few.0, few.1, one))
    (λ is one. eqb-false (count_by (λ flag. flag) slot) 1 is (omega (arith, few.0, few.1, one)))

-- a term is as wide as its columns
term_width : (term : List (List Bool)) → All (λ (slot : List Bool). length slot ≡ 13) term → length (term_text term) ≡ columns term
term_width term long = length-flat_map slot_part term ∙ slots term long
  where
    slots : (term : List (List Bool)) → All (λ (slot : List Bool). length slot ≡ 13) term → sum_by (λ slot. length (slot_part slot)) term ≡ columns term
    slots [] long = refl
    slots (slot ∷ term) long =
        let is_long = λ (slot : List Bool). length slot ≡ 13 in
        let here : length (slot_part slot) ≡ slot_columns slot = slot_width slot (All-head is_long slot term long) in
        let rest = slots term (All-tail is_long slot term long) in
        let printed = sum_by-cons (λ (slot : List Bool). length (slot_part slot)) slot term in
        omega (arith, here, rest, printed, sum_by-cons slot_columns slot term)

pub narrow_rows : (rows : List Row) → All (λ (row : Row). IsNarrow row.term) rows → All (λ (row : Row). length (term_text row.term) ≤ 24) rows
narrow_rows rows narrow k d less =
    let is = narrow k d less in omega (arith, term_width (get_or rows k d).term is.slots, is.few)
