-- Sets of letters, as bytes and as the places that they hold.
use Rattle.std.proofs.Common.{◌≡◌, ℕ, zero, suc, ◌<◌, ◌≤◌, Bool, true, false, cond, eqb, List, [], ◌∷◌, length, get_or, map, Some, refl, ap}
use Rattle.std.proofs.Common.{◌∙◌, arith, inl, inr}
use Rattle.std.specs.Prelude.{option_map}
use Rattle.std.specs.List.{list_any, position_or_len}
use Rattle.std.proofs.lemmas.Bool.{eq-eqb, and_parts, and_from}
use Rattle.std.proofs.lemmas.Bool.Decides.{nat_tests}
use Rattle.std.proofs.lemmas.List.{get_or_past}
use Rattle.std.proofs.lemmas.List.Folds.{list_any_at}
use Rattle.std.proofs.lemmas.List.Sums.{position_or_len_is}
use Rattle.crib_cards.specs.Sets.{has, are_distinct}
use Rattle.crib_cards.proofs.Members.{distinct_parts}
use Rattle.crib_text.proofs.WordLemmas.{place_here, place_later}
use Rattle.crib_plan.specs.declared.plan.Next.{Next}
use Rattle.crib_plan.specs.declared.plan.Next.TheVariants.{End}
use Rattle.crib_plan.specs.Spelling.{leads_to, letters_to}
use Rattle.crib_plan.specs.Reading.{begins_with, letters_read, is_end, is_free, are_free}
use Rattle.crib_plan.specs.SeeLaws.{AreInOrder}
use Rattle.crib_plan.proofs.BranchLemmas.{rest_after, letters_cons}

-- the letters that a set has
abbrev pub chosen : List Bool → List ℕ → List ℕ
chosen [] letters = []
chosen (holds ∷ holding) [] = []
chosen (holds ∷ holding) (letter ∷ letters) = cond holds (letter ∷ chosen holding letters) (chosen holding letters)

-- ---- letters in order

fewer_in_order : (byte : ℕ) (bytes letters : List ℕ) → AreInOrder (byte ∷ bytes) letters → AreInOrder bytes letters
unfolding AreInOrder
fewer_in_order byte [] letters are = tt
fewer_in_order byte (next ∷ bytes) [] are = are
fewer_in_order byte (next ∷ bytes) (letter ∷ letters) (inl here) = inr here.1
fewer_in_order byte (next ∷ bytes) (letter ∷ letters) (inr later) = inr (fewer_in_order byte (next ∷ bytes) letters later)

rest_in_order : (holds : Bool) (bytes : List ℕ) (letter : ℕ) (letters : List ℕ) → begins_with bytes letter ≡ holds → AreInOrder bytes (letter ∷ letters)
    → AreInOrder (rest_after holds bytes) letters
unfolding AreInOrder
rest_in_order true [] letter letters e are = absurd cc
rest_in_order false [] letter letters e are = tt
rest_in_order true (byte ∷ bytes) letter letters e (inl here) = here.1
rest_in_order true (byte ∷ bytes) letter letters e (inr later) = fewer_in_order byte bytes letters later
rest_in_order false (byte ∷ bytes) letter letters e (inl here) = (let same = eq-eqb byte letter here.0 in absurd cc)
rest_in_order false (byte ∷ bytes) letter letters e (inr later) = later

-- bytes that are letters in order are read as a set
pub read_in_order : (letters bytes : List ℕ) → AreInOrder bytes letters → (holding : List Bool) × (letters_read letters bytes ≡ Some holding)
unfolding letters_read AreInOrder
read_in_order [] [] are = ([], refl)
read_in_order [] (byte ∷ bytes) are = absurd are
read_in_order (letter ∷ letters) bytes are =
    let holds : Bool = begins_with bytes letter in
    let rest = read_in_order letters (rest_after holds bytes) (rest_in_order holds bytes letter letters refl are) in
    (holds ∷ rest.0, letters_cons letter letters bytes ∙ ap (option_map (λ after. holds ∷ after)) rest.1)

passed_in_order : (bytes : List ℕ) (letter : ℕ) (letters : List ℕ) → AreInOrder bytes letters → AreInOrder bytes (letter ∷ letters)
unfolding AreInOrder
passed_in_order [] letter letters are = tt
passed_in_order (byte ∷ bytes) letter letters are = inr are

-- the letters of a set are in order
pub chosen_in_order : (holding : List Bool) (letters : List ℕ) → AreInOrder (chosen holding letters) letters
unfolding AreInOrder
chosen_in_order [] letters = tt
chosen_in_order (holds ∷ holding) [] = tt
chosen_in_order (true ∷ holding) (letter ∷ letters) = inl (refl, chosen_in_order holding letters)
chosen_in_order (false ∷ holding) (letter ∷ letters) = passed_in_order (chosen holding letters) letter letters (chosen_in_order holding letters)

-- ---- the places of letters

pub none_at : {X : Type 0} (p : X → Bool) (xs : List X) (index : ℕ) (d : X) → index < length xs → list_any p xs ≡ false → p (get_or xs index d) ≡ false
none_at p xs index d inside none = grind (arith, list_any_at p xs index d inside)

-- a letter that is not in a list has no index there
no_index : (letters : List ℕ) (letter : ℕ) → has letters letter ≡ false → position_or_len (λ l. eqb l letter) letters ≡ length letters
no_index letters letter none = position_or_len_is (λ (l : ℕ). eqb l letter) letters (length letters) 0 (omega arith)
    (λ k below. none_at (λ (l : ℕ). eqb l letter) letters k 0 below none) (λ inside. absurd (omega arith))

-- each index of a list of distinct letters is that of its letter
pub index_of : (letters : List ℕ) (index : ℕ) → are_distinct letters ≡ true → index < length letters
    → position_or_len (λ l. eqb l (get_or letters index 0)) letters ≡ index
index_of [] index distinct inside = absurd (omega arith)
index_of (first ∷ letters) zero distinct inside = place_here (λ (l : ℕ). eqb l first) first letters (eq-eqb first first refl)
index_of (first ∷ letters) (suc index) distinct inside =
    let parts = distinct_parts first letters distinct in
    let there = list_any_at (λ (l : ℕ). eqb l first) letters index 0 (omega arith) in
    grind (arith, nat_tests, there, parts.0, index_of letters index parts.1 (omega arith))

-- a set has a letter if it holds the letter's index
pub has_chosen : (holding : List Bool) (letters : List ℕ) (letter : ℕ) → are_distinct letters ≡ true → length holding ≡ length letters
    → has (chosen holding letters) letter ≡ get_or holding (position_or_len (λ l. eqb l letter) letters) false
has_chosen [] letters letter distinct long = refl
has_chosen (holds ∷ holding) (first ∷ letters) letter distinct long =
    let parts = distinct_parts first letters distinct in
    let index : ℕ = position_or_len (λ (l : ℕ). eqb l letter) letters in
    let here = place_here (λ (l : ℕ). eqb l letter) first letters in
    let later = place_later (λ (l : ℕ). eqb l letter) first letters in
    let rest = has_chosen holding letters letter parts.1 (omega arith) in
    grind (arith, nat_tests, parts.0, here, later, rest, no_index letters letter, get_or_past holding index false)
has_chosen holding letters letter distinct long = absurd (omega arith)

-- the letters that lead to a node are those of a set
pub letters_chosen : (node : ℕ) (letters : List ℕ) (nexts : List Next) → letters_to node letters nexts ≡ chosen (map (leads_to node) nexts) letters
letters_chosen node [] [] = refl
letters_chosen node [] (next ∷ nexts) = refl
letters_chosen node (letter ∷ letters) [] = refl
letters_chosen node (letter ∷ letters) (next ∷ nexts) =
    ap (λ (ls : List ℕ). cond (leads_to node next) (letter ∷ ls) ls) (letters_chosen node letters nexts)

-- a set that holds no index has no letters
pub chosen_none : (holding : List Bool) (letters : List ℕ) → length holding ≤ position_or_len (λ holds. holds) holding → chosen holding letters ≡ []
chosen_none [] letters none = refl
chosen_none (holds ∷ holding) [] none = refl
chosen_none (true ∷ holding) (letter ∷ letters) none = absurd (omega arith)
chosen_none (false ∷ holding) (letter ∷ letters) none = chosen_none holding letters (omega arith)

first_chosen : (holding : List Bool) (letters : List ℕ) → length holding ≡ length letters → position_or_len (λ holds. holds) holding < length holding
    → get_or (chosen holding letters) 0 0 ≡ get_or letters (position_or_len (λ holds. holds) holding) 0
first_chosen (true ∷ holding) (letter ∷ letters) long some = refl
first_chosen (false ∷ holding) (letter ∷ letters) long some =
    let held : position_or_len (λ (h : Bool). h) (false ∷ holding) ≡ suc (position_or_len (λ (h : Bool). h) holding) = omega arith in
    rw held (first_chosen holding letters (omega arith) (omega arith))
first_chosen holding letters long some = absurd (omega arith)

-- the first letter of a set is at the first index that the set holds
pub number_of_first : (holding : List Bool) (letters : List ℕ) → are_distinct letters ≡ true → length holding ≡ length letters
    → position_or_len (λ holds. holds) holding < length holding
    → position_or_len (λ letter. eqb letter (get_or (chosen holding letters) 0 0)) letters ≡ position_or_len (λ holds. holds) holding
number_of_first holding letters distinct long some =
    ap (λ (first : ℕ). position_or_len (λ (letter : ℕ). eqb letter first) letters) (first_chosen holding letters long some)
    ∙ index_of letters (position_or_len (λ (h : Bool). h) holding) distinct (omega arith)

-- ---- whether the letters of a set lead to the end

pub free_at : (holding : List Bool) (nexts : List Next) (index : ℕ) → are_free holding nexts ≡ true → get_or holding index false ≡ true
    → is_end (get_or nexts index End) ≡ true
free_at [] nexts index free e = absurd cc
free_at (holds ∷ holding) [] index free e = refl
free_at (true ∷ holding) (next ∷ nexts) zero free e = (and_parts (is_end next) (are_free holding nexts) free).0
free_at (false ∷ holding) (next ∷ nexts) zero free e = absurd cc
free_at (holds ∷ holding) (next ∷ nexts) (suc index) free e =
    free_at holding nexts index (and_parts (is_free holds next) (are_free holding nexts) free).1 e

pub free_from : (holding : List Bool) (nexts : List Next)
    → ((index : ℕ) → index < length holding → get_or holding index false ≡ true → is_end (get_or nexts index End) ≡ true) → are_free holding nexts ≡ true
free_from [] nexts all = refl
free_from (holds ∷ holding) [] all = refl
free_from (true ∷ holding) (next ∷ nexts) all =
    and_from (is_end next) (are_free holding nexts) (all 0 (omega arith) refl) (free_from holding nexts (λ index inside. all (suc index) (omega arith)))
free_from (false ∷ holding) (next ∷ nexts) all = free_from holding nexts (λ index inside. all (suc index) (omega arith))
