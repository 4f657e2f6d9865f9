-- The proofs of the laws of see lines.
use Rattle.std.proofs.Common.{◌≡◌, ◌≢◌, ℕ, ◌+◌, ◌<◌, ◌≤◌, Bool, true, false, not, cond, List, [], ◌∷◌, ◌++◌, length, map, get_or}
use Rattle.std.proofs.Common.{Some, None, Result, Ok, Err, codes, decimal, refl, sym, ap, subst, ◌∙◌, arith}
use Rattle.std.specs.Prelude.{bytes_eq, IsOk}
use Rattle.std.specs.List.{list_any, position_or_len, count_by, AllByRecursion}
use Rattle.std.proofs.lemmas.Bool.{le-leb, eq-eqb, not-false, false_from_ne_true, or_left, or_right, or_parts}
use Rattle.std.proofs.lemmas.Bool.Decides.{nat_tests}
use Rattle.std.proofs.lemmas.Fmt.{decimal_injective}
use Rattle.std.proofs.lemmas.List.Folds.{list_any-append}
use Rattle.std.proofs.lemmas.List.Sums.{sum_by-append, sum_by-cons}
use Rattle.std.proofs.lemmas.Slice.Eq.{bytes_eq-Decides}
use Rattle.crib_cards.specs.Sets.{has}
use Rattle.crib_text.specs.Refusals.{bad_line, bad_number}
use Rattle.crib_text.specs.Words.{number_read}
use Rattle.crib_text.specs.Reading.{◌>>=◌, or_refused, unless_refused, number_in}
use Rattle.crib_text.proofs.ReadingLemmas.{number_found, number_spelled}
use Rattle.crib_plan.specs.declared.plan.Next.TheVariants.{End}
use Rattle.crib_plan.specs.Spelling.{letter_bytes, colon}
use Rattle.crib_plan.specs.Refusals.{bad_next, bad_set}
use Rattle.crib_plan.specs.Reading.{later_node, node_in, branch_node_in, is_end, led_by, is_colon, Branches, no_branches, Letters, Parts}
use Rattle.crib_plan.specs.Reading.{parts_in, letters_in, branch_in, branches_in}
use Rattle.crib_plan.specs.SeeLaws.{Branch, branch_spelling, letter_number, first_number, IsNextSet, Pass, IsRefused, HasNoColon, IsLaterNode}
use Rattle.crib_plan.specs.SeeLaws.{ColonLaw, SetLaw, EndLaw, NumberLaw, RangeLaw, NodeLaw, PassLaw}
use Rattle.crib_plan.proofs.WordLemmas.{decimal_not_end}
use Rattle.crib_plan.proofs.BranchReadIsSpelled.{letters_found, parts_found, read_found, IsPlain, branches_found}
use Rattle.crib_plan.proofs.LeadsTo.{leads}
use Rattle.crib_plan.proofs.MemoryLemmas.{Refuses, parts_refuse, letters_refuse}
use Rattle.crib_plan.proofs.BranchSpelledIsRead.{later_spelled, position_there, parts_spelled}
use Rattle.crib_plan.proofs.SeeSets.{read_in_order, index_of, has_chosen, chosen_none, number_of_first, free_from}
use Rattle.crib_plan.proofs.SeeLines.{Stand, none_stand, node_stands, letter_stands, next_set_found}

-- ---- colons

count_none : (bytes : List ℕ) → list_any is_colon bytes ≡ false → count_by is_colon bytes ≡ 0
count_none [] e = refl
count_none (byte ∷ bytes) e =
    let parts = or_parts (is_colon byte) (list_any is_colon bytes) e in
    grind (arith, parts.0, count_none bytes parts.1, sum_by-cons (λ (b : ℕ). cond (is_colon b) 1 0) byte bytes)

count_around : (front back : List ℕ) → count_by is_colon (front ++ colon ∷ back) ≡ count_by is_colon front + (1 + count_by is_colon back)
count_around front back =
    let f : ℕ → ℕ = λ b. cond (is_colon b) 1 0 in
    sum_by-append f front (colon ∷ back) ∙ ap (λ (k : ℕ). count_by is_colon front + k) (sum_by-cons f colon back)

-- a word that is read as two parts has one colon
cut_count : (word : List ℕ) (parts : Parts) → parts_in word ≡ Ok parts → count_by is_colon word ≡ 1
cut_count word parts e =
    let are = parts_found word parts e in
    let none = count_none parts.front are.none_in_front in
    omega (arith, none, count_none parts.back are.none_behind, ap (count_by is_colon) are.whole, count_around parts.front parts.back)

-- ---- readings with only one refusal

else_refused : {A : Type 0} (number : ℕ) (read : Result A ℕ) → Refuses (λ refused. refused ≡ number) read → ((value : A) → read ≡ Ok value → ⊥)
    → read ≡ Err number
else_refused number (Ok value) only never = absurd (never value refl)
else_refused number (Err refused) only never = ap Err (only.each refused refl)

-- ---- the parts of a branch

no_cut : (word : List ℕ) → count_by is_colon word ≢ 1 → parts_in word ≡ Err bad_line
no_cut word other = else_refused bad_line (parts_in word) (parts_refuse refl word) (λ parts e. other (cut_count word parts e))

next_set_read : (number count : ℕ) (earlier : List Branch) (before : Branches) (set : List ℕ) → Stand number count earlier before → IsNextSet earlier set
    → (letters : Letters) × (letters_in before set ≡ Ok letters)
unfolding letters_in
next_set_read number count earlier before set stand is =
    let read = read_in_order letter_bytes set is.in_order in
    let found = read_found letter_bytes set read.0 read.1 in
    let first : ℕ = position_or_len (λ (b : Bool). b) read.0 in
    let some : first < length read.0 =
    grind (arith, found.0, chosen_none read.0 letter_bytes, is.some) in
    let there = position_there (λ (b : Bool). b) read.0 first refl some in
    let same_first : first_number set ≡ first = ap (λ (bytes : List ℕ). first_number bytes) found.0 ∙ number_of_first read.0 letter_bytes refl found.1 some in
    let behind : before.least ≤ first = omega (arith, (stand.behind (first_number set)).1 is.behind, same_first) in
    let free = free_from read.0 before.nexts (λ at inside e.
    let letter : ℕ = get_or letter_bytes at 0 in
    let same : letter_number letter ≡ at = index_of letter_bytes at refl (omega (arith, found.1, inside)) in
    let there : has set letter ≡ true = ap (λ (s : List ℕ). has s letter) found.0 ∙ has_chosen read.0 letter_bytes letter refl found.1
    ∙ ap (λ (k : ℕ). get_or read.0 k false) same ∙ e in
    let ends = sym (letter_stands number count earlier before letter stand) ∙ is.once letter there in
    ap (λ (k : ℕ). is_end (get_or before.nexts k End)) (sym same) ∙ not-false _ ends) in
    (record { set = read.0; first = first }, rw (read.1, there, le-leb before.least first behind, free) refl)

number_node : (number count node : ℕ) → node ≤ 4294967295 → branch_node_in number count (decimal node) ≡ later_node number count node
unfolding branch_node_in node_in
number_node number count node small = rw (decimal_not_end node (omega arith), number_spelled node (omega arith)) refl

-- ---- the branches of a line so far

ok_of : {A : Type 0} (read : Result A ℕ) → IsOk read → (value : A) × (read ≡ Ok value)
ok_of (Ok value) is = (value, refl)
ok_of (Err refused) is = absurd cc

-- there is one way to cut bytes at a colon, if it is the only one
same_parts : (front other back rest : List ℕ) → list_any is_colon other ≡ false → list_any is_colon rest ≡ false
    → front ++ colon ∷ back ≡ other ++ colon ∷ rest → (front ≡ other) × (back ≡ rest)
same_parts [] [] back rest none none2 e = (refl, cc)
same_parts [] (byte ∷ other) back rest none none2 e =
    let is : byte ≡ colon = cc in
    let some = or_left (is_colon byte) (list_any is_colon other) (eq-eqb byte colon is) in absurd cc
same_parts (byte ∷ front) [] back rest none none2 e =
    let left : front ++ colon ∷ back ≡ rest = cc in
    let some : list_any is_colon rest ≡ true =
    ap (list_any is_colon) (sym left) ∙ list_any-append is_colon front (colon ∷ back) ∙ or_right (list_any is_colon front) true refl in
    absurd cc
same_parts (byte ∷ front) (first ∷ other) back rest none none2 e =
    let here : byte ≡ first = cc in
    let left : front ++ colon ∷ back ≡ other ++ colon ∷ rest = cc in
    let same = same_parts front other back rest (or_parts (is_colon first) (list_any is_colon other) none).1 none2 left in
    (cc (same.0, here), same.1)

same_branches : (branches plain : List Branch) → AllByRecursion (λ (branch : Branch). branch.node ≤ 4294967295) branches → AllByRecursion IsPlain plain
    → map branch_spelling branches ≡ map branch_spelling plain → branches ≡ plain
same_branches [] [] small are e = refl
same_branches [] (other ∷ plain) small are e = absurd cc
same_branches (branch ∷ branches) [] small are e = absurd cc
same_branches (branch ∷ branches) (other ∷ plain) small are e =
    let here : branch_spelling branch ≡ branch_spelling other = cc in
    let same = same_parts branch.set other.set (decimal branch.node) (decimal other.node) are.0.0 are.0.1 here in
    let node = decimal_injective branch.node other.node (omega (arith, small.0)) (omega (arith, are.0.2)) same.1 in
    let rest = same_branches branches plain small.1 are.1 cc in
    ap (λ (set : List ℕ). record { set = set; node = branch.node } ∷ branches) same.0
    ∙ ap (λ (n : ℕ). record { set = other.set; node = n } ∷ branches) node ∙ ap (λ (bs : List Branch). other ∷ bs) rest

-- the branches so far, and what was read of them
pub record Passing (number count : ℕ) (earlier : List Branch) : Type 0 where
  pub before : Branches
  pub read : branches_in number count no_branches (map branch_spelling earlier) ≡ Ok before
  pub stand : Stand number count earlier before

pub passing : (number count : ℕ) (earlier : List Branch) → Pass number count earlier → Passing number count earlier
passing number count earlier pass =
    let read = ok_of (branches_in number count no_branches (map branch_spelling earlier)) pass.1 in
    let found = branches_found number count [] no_branches read.0 (map branch_spelling earlier) (none_stand number count) read.1 in
    let same = same_branches earlier found.0 pass.0 found.2 found.1 in
    record { before = read.0; read = read.1; stand = subst (λ (bs : List Branch). Stand number count bs read.0) (sym same) found.3 }

group : (number count : ℕ) (front back : List (List ℕ)) (read : Result Branches ℕ)
    → ((b : Branches) → branches_in number count b (front ++ back) ≡ (branches_in number count b front >>= λ more. branches_in number count more back))
    → (read >>= λ b. branches_in number count b (front ++ back)) ≡ ((read >>= λ b. branches_in number count b front) >>= λ more. branches_in number count more
    back)
group number count front back (Ok b) all = all b
group number count front back (Err refused) all = refl

front_then : (number count : ℕ) (front back : List (List ℕ)) (before : Branches)
    → branches_in number count before (front ++ back) ≡ (branches_in number count before front >>= λ more. branches_in number count more back)
unfolding branches_in
front_then number count [] back before = refl
front_then number count (word ∷ front) back before = group number count front back (branch_in number count before word) (front_then number count front back)

after_passing : (number count : ℕ) (earlier : List Branch) (pass : Passing number count earlier) (words : List (List ℕ))
    → branches_in number count no_branches (map branch_spelling earlier ++ words) ≡ branches_in number count pass.before words
after_passing number count earlier pass words =
    front_then number count (map branch_spelling earlier) words no_branches ∙ ap (λ (r : Result Branches ℕ). r >>= λ more. branches_in number count more words)
    pass.read

refused_there : (number count : ℕ) (earlier : List Branch) (pass : Passing number count earlier) (word : List ℕ) (refusal : ℕ)
    → branch_in number count pass.before word ≡ Err refusal → IsRefused number count earlier word refusal
unfolding branches_in
refused_there number count earlier pass word refusal e = λ more. after_passing number count earlier pass (word ∷ more) ∙ rw e refl

-- ---- the laws

pub colon_law : ColonLaw
unfolding branch_in
colon_law number count earlier word pass other =
    refused_there number count earlier (passing number count earlier pass) word bad_line (rw (no_cut word other) refl)

pub set_law : SetLaw
unfolding branch_in
set_law number count earlier set next pass none none2 never =
    let p = passing number count earlier pass in
    let bad = else_refused bad_set (letters_in p.before set) (letters_refuse refl p.before set)
    (λ letters e. never (next_set_found number count earlier p.before set letters p.stand (letters_found p.before set letters e))) in
    refused_there number count earlier p (set ++ colon ∷ next) bad_set (rw (parts_spelled set next none none2, bad) refl)

-- a branch whose letters are allowed is refused or passes by its node
next_read : (number count : ℕ) (earlier : List Branch) (set next : List ℕ) (p : Passing number count earlier) → HasNoColon set → HasNoColon next
    → IsNextSet earlier set → (letters : Letters) × ((read : Result ℕ ℕ) → branch_node_in number count next ≡ read
    → branch_in number count p.before (set ++ colon ∷ next) ≡ (read >>= λ node. unless_refused bad_set (not (leads p.before.nexts node)) >>= λ _. Ok (record {
      nexts = led_by node letters.set p.before.nexts;
      least = letters.first + 1;
    })))
unfolding branch_in
next_read number count earlier set next p none none2 is =
    let letters = next_set_read number count earlier p.before set p.stand is in
    (letters.0, λ read e. rw (parts_spelled set next none none2, letters.1, e) refl)

next_refused : (number count : ℕ) (earlier : List Branch) (set next : List ℕ) (refusal : ℕ) → Pass number count earlier → HasNoColon set
    → HasNoColon next → IsNextSet earlier set
    → branch_node_in number count next ≡ Err refusal → IsRefused number count earlier (set ++ colon ∷ next) refusal
next_refused number count earlier set next refusal pass none none2 is bad =
    let p = passing number count earlier pass in
    refused_there number count earlier p (set ++ colon ∷ next) refusal ((next_read number count earlier set next p none none2 is).1 (Err refusal) bad)

pub end_law : EndLaw
unfolding branch_node_in
end_law number count earlier set pass none is = next_refused number count earlier set (codes "end") bad_next pass none refl is refl

not_end : (word : List ℕ) → word ≢ codes "end" → bytes_eq word (codes "end") ≡ false
not_end word other = false_from_ne_true (bytes_eq word (codes "end")) (λ same. other ((bytes_eq-Decides word (codes "end")).0 same))

no_number : (number count : ℕ) (next : List ℕ) → next ≢ codes "end" → number_read next ≡ None → branch_node_in number count next ≡ Err bad_number
unfolding branch_node_in node_in number_in
no_number number count next other none = rw (not_end next other, none) refl

pub number_law : NumberLaw
number_law number count earlier set next pass none none2 is other bad = next_refused number count earlier set next bad_number pass none none2 is
    (no_number number count next other bad)

read_node : (number count : ℕ) (next : List ℕ) (node : ℕ) → number_read next ≡ Some node → branch_node_in number count next ≡ later_node number count node
unfolding number_in
read_node number count next node e =
    let found = number_found next node (ap (or_refused bad_number) e) in
    ap (branch_node_in number count) found.0 ∙ number_node number count node (omega (arith, found.1))

not_later : (number count node : ℕ) → ¬ IsLaterNode number count node → later_node number count node ≡ Err bad_next
unfolding later_node
not_later number count node never = grind (arith, nat_tests, never)

pub range_law : RangeLaw
range_law number count earlier set next node pass none none2 is e never = next_refused number count earlier set next bad_next pass none none2 is
    (read_node number count next node e ∙ not_later number count node never)

later_read : (number count : ℕ) (next : List ℕ) (node : ℕ) → number_read next ≡ Some node → IsLaterNode number count node
    → branch_node_in number count next ≡ Ok node
later_read number count next node e later = read_node number count next node e ∙ later_spelled number count node later.0 later.1

pub node_law : NodeLaw
node_law number count earlier set next node pass none none2 is e later again =
    let p = passing number count earlier pass in
    let read = (next_read number count earlier set next p none none2 is).1 (Ok node) (later_read number count next node e later) in
    refused_there number count earlier p (set ++ colon ∷ next) bad_set (read ∙ rw (node_stands number count earlier p.before node p.stand ∙ again) refl)

pub pass_law : PassLaw
unfolding branches_in
pass_law number count earlier set next node pass none none2 is e later new =
    let p = passing number count earlier pass in
    let read = (next_read number count earlier set next p none none2 is).1 (Ok node) (later_read number count next node e later) in
    subst (λ (r : Result Branches ℕ). IsOk r) (sym (after_passing number count earlier p ((set ++ colon ∷ next) ∷ [])))
    (rw (read, node_stands number count earlier p.before node p.stand ∙ new) refl)
