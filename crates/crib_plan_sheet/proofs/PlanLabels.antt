-- The labels of lines, by a look at each set of the fourteen letters: a label gives its set, is short, and has no byte
-- that ends it.
use Rattle.std.proofs.Common.{◌≡◌, ℕ, zero, suc, ◌+◌, ◌-◌, ◌≤◌, Bool, true, false, not, eqb, leb, cond, ◌&&◌, ◌||◌, List, [], ◌∷◌, ◌++◌, length}
use Rattle.std.proofs.Common.{take, replicate, filter, refl, sym, ap, ◌∙◌, arith}
use Rattle.std.specs.Bool.{beq}
use Rattle.std.specs.Cmp.{booleans_Decides}
use Rattle.std.specs.Cmp.Lexicographic.{pointwise, pointwise_decides}
use Rattle.std.specs.List.{list_any, list_all, position_or_len}
use Rattle.std.proofs.lemmas.Bool.{not-true, true≢false, and_parts, and_from, leb-true}
use Rattle.std.proofs.lemmas.List.{append-nil}
use Rattle.std.proofs.lemmas.List.Elements.{filter-append}
use Rattle.crib_text.specs.Spelling.{space}
use Rattle.crib_plan.specs.Spelling.{letter_bytes}
use Rattle.crib_plan_sheet.specs.PlanText.{rank_words, label}

abbrev pub other_than : ℕ → ℕ → Bool
other_than byte other = not (eqb other byte)

-- ---- the set that a label gives

-- the index of a letter. The second letter of a go has the index behind all
index_of : ℕ → ℕ
index_of byte = position_or_len (λ known. eqb known byte) letter_bytes

-- what letters and dashes say of the letters from an index on: those up to the next letter are in the set after a dash
abbrev told : ℕ → Bool → List ℕ → List Bool
told from dashed [] = replicate 14 false
told from dashed (byte ∷ bytes) =
    cond (eqb byte 45) (told from true bytes) (replicate (index_of byte - from) dashed ++ true ∷ told (index_of byte + 1) false bytes)

abbrev set_told : List ℕ → List Bool
set_told bytes = take 14 (told 0 false (filter (other_than space) bytes))

-- ---- all sets

-- whether a test holds of each set of so many letters
abbrev every : ℕ → (List Bool → Bool) → Bool
every zero test = test []
every (suc count) test = every count (λ set. test (true ∷ set)) && every count (λ set. test (false ∷ set))

every_at : (set : List Bool) (test : List Bool → Bool) → every (length set) test ≡ true → test set ≡ true
every_at [] test all = all
every_at (true ∷ set) test all = every_at set (λ rest. test (true ∷ rest)) (and_parts _ _ all).0
every_at (false ∷ set) test all = every_at set (λ rest. test (false ∷ rest)) (and_parts _ _ all).1

-- whether a text begins with a byte that is no blank
abbrev is_begun : List ℕ → Bool
is_begun [] = false
is_begun (byte ∷ bytes) = other_than space byte

abbrev is_plain : List ℕ → Bool
is_plain bytes = list_all (other_than 58) bytes && (list_all (other_than 10) bytes && leb (length bytes) 20)

abbrev is_told : List Bool → Bool
is_told set = pointwise beq (set_told (label set)) set && ((not (list_any (λ flag. flag) set) || is_begun (label set)) && is_plain (label set))

every_told : every 14 is_told ≡ true
unfolding label rank_words index_of
every_told = refl

all_told : (set : List Bool) → length set ≡ 14 → is_told set ≡ true
all_told set long = every_at set is_told (ap (λ (count : ℕ). every count is_told) long ∙ every_told)

begun : (set : List Bool) → length set ≡ 14 → (not (list_any (λ flag. flag) set) || is_begun (label set)) ≡ true
begun set long = (and_parts _ _ (and_parts _ _ (all_told set long)).1).0

plain : (set : List Bool) → length set ≡ 14 → is_plain (label set) ≡ true
plain set long = (and_parts _ _ (and_parts _ _ (all_told set long)).1).1

pub label_length : (set : List Bool) → length set ≡ 14 → length (label set) ≤ 20
label_length set long = leb-true _ _ (and_parts _ _ (and_parts _ _ (plain set long)).1).1

-- ---- a label and blanks after it

pub all_blanks : (test : ℕ → Bool) (bytes : List ℕ) (count : ℕ) → test space ≡ true → list_all test bytes ≡ true →
    list_all test (bytes ++ replicate count space) ≡ true
all_blanks test [] zero is all = refl
all_blanks test [] (suc count) is all = and_from _ _ is (all_blanks test [] count is all)
all_blanks test (byte ∷ bytes) count is all = grind (arith, all, all_blanks test bytes count is)

-- no colon is there, nor the end of a line
pub no_colon : (set : List Bool) (count : ℕ) → length set ≡ 14 → list_all (other_than 58) (label set ++ replicate count space) ≡ true
no_colon set count long = all_blanks (other_than 58) (label set) count refl (and_parts _ _ (plain set long)).0

pub no_end : (set : List Bool) (count : ℕ) → length set ≡ 14 → list_all (other_than 10) (label set ++ replicate count space) ≡ true
no_end set count long = all_blanks (other_than 10) (label set) count refl (and_parts _ _ (and_parts _ _ (plain set long)).1).0

no_letters : (count : ℕ) → filter (other_than space) (replicate count space) ≡ []
no_letters zero = refl
no_letters (suc count) = no_letters count

set_is : (set : List Bool) (count : ℕ) → length set ≡ 14 → set_told (label set ++ replicate count space) ≡ set
set_is set count long =
    rw (filter-append, no_letters count, append-nil) ((pointwise_decides booleans_Decides (set_told (label set)) set).0 (and_parts _ _ (all_told set long)).0)

-- two sets with the same label, and blanks after it, are the same
pub same_labels : (set set' : List Bool) (count count' : ℕ) → length set ≡ 14 → length set' ≡ 14 →
    label set ++ replicate count space ≡ label set' ++ replicate count' space → set ≡ set'
same_labels set set' count count' long long' same = sym (set_is set count long) ∙ ap set_told same ∙ set_is set' count' long'

-- the blanks with which a text begins
abbrev pub blanks : List ℕ → ℕ
blanks [] = 0
blanks (byte ∷ bytes) = cond (eqb byte 32) (blanks bytes + 1) 0

no_blanks : (bytes rest : List ℕ) → is_begun bytes ≡ true → blanks (bytes ++ rest) ≡ 0
no_blanks [] rest is = absurd (true≢false (sym is))
no_blanks (byte ∷ bytes) rest is = rw (not-true (eqb byte 32) is) refl

-- the label of some letters begins with no blank
pub label_first : (set : List Bool) (rest : List ℕ) → length set ≡ 14 → list_any (λ flag. flag) set ≡ true → blanks (label set ++ rest) ≡ 0
label_first set rest long some = no_blanks (label set) rest (rw some at (begun set long))
