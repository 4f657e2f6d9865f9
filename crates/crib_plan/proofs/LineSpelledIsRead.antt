-- The words of a see line are read as its branches: each is allowed after those before it.
use Rattle.std.proofs.Common.{◌≡◌, ℕ, zero, suc, ◌+◌, ◌<◌, ◌≤◌, Bool, true, false, not, cond, List, [], ◌∷◌, ◌++◌, length, map, get_or, take, Ok}
use Rattle.std.proofs.Common.{decimal, refl, sym, ap, subst, ◌∙◌, arith, inl, inr}
use Rattle.std.specs.Prelude.{IsOk}
use Rattle.std.specs.List.{position_or_len, AllByRecursion}
use Rattle.std.proofs.lemmas.Bool.{cases_Bool, eq-eqb}
use Rattle.std.proofs.lemmas.Bool.Decides.{nat_tests}
use Rattle.std.proofs.lemmas.List.{append-nil, get_or-take, length-map, length-take, map-append, take_all, take_more}
use Rattle.std.proofs.lemmas.List.Sums.{position_or_len_is}
use Rattle.std.proofs.lemmas.Simd.{map-map}
use Rattle.crib_cards.specs.Sets.{has}
use Rattle.crib_cards.proofs.Members.{has_here, has_there}
use Rattle.crib_text.proofs.NumberLemmas.{number_read-decimal}
use Rattle.crib_plan.specs.declared.plan.Next.{Next}
use Rattle.crib_plan.specs.declared.plan.Next.TheVariants.{End, To}
use Rattle.crib_plan.specs.Nodes.{IsLater}
use Rattle.crib_plan.specs.Spelling.{letter_bytes, leads_to, letters_to, branch_word, nodes_of}
use Rattle.crib_plan.specs.Reading.{is_colon, is_end, no_branches, branches_in}
use Rattle.crib_plan.specs.SeeLaws.{Branch, branch_spelling, AreInOrder, letter_number, first_number, IsBehindLast, IsNextSet, Pass}
use Rattle.crib_plan.proofs.LeadsTo.{leads, nodes_of-append, nodes_more, has_nodes}
use Rattle.crib_plan.proofs.WordLemmas.{all_more, decimal_digits, digits_colon, all_letters}
use Rattle.crib_plan.proofs.BranchSpelledIsRead.{no_colon}
use Rattle.crib_plan.proofs.SeeSets.{none_at, chosen_in_order, letters_chosen, number_of_first}
use Rattle.crib_plan.proofs.SeeLines.{branch_at, branches_of, has_node_at, has_where, letter_at, where_among, same_nexts, some_bytes}
use Rattle.crib_plan.proofs.SeeProofs.{passing, pass_law}

-- ---- the first letter that leads to a node

first_marked : (node : ℕ) (nexts : List Next) → position_or_len (λ holds. holds) (map (leads_to node) nexts) ≡ position_or_len (leads_to node) nexts
first_marked node [] = refl
first_marked node (next ∷ nexts) = ap (λ (k : ℕ). cond (not (leads_to node next)) (1 + k) 0) (first_marked node nexts)

first_of_node : (node : ℕ) (nexts : List Next) → length nexts ≡ 14 → position_or_len (leads_to node) nexts < 14
    → first_number (letters_to node letter_bytes nexts) ≡ position_or_len (leads_to node) nexts
first_of_node node nexts long less =
    let first = first_marked node nexts in
    let all = length-map nexts (leads_to node) in
    ap first_number (letters_chosen node letter_bytes nexts)
    ∙ number_of_first (map (leads_to node) nexts) letter_bytes refl (all ∙ long) (omega (arith, first, all, long, less)) ∙ first

found_before : (node : ℕ) (nexts : List Next) (index : ℕ) → leads (take index nexts) node ≡ true → position_or_len (leads_to node) nexts < index
found_before node (next ∷ nexts) (suc index) e = grind (arith, e, found_before node nexts index)
found_before node [] (suc index) e = absurd cc
found_before node nexts zero e = absurd cc

found_at : (node : ℕ) (nexts : List Next) (index : ℕ) → index < length nexts → leads (take index nexts) node ≡ false → get_or nexts index End ≡ To node
    → position_or_len (leads_to node) nexts ≡ index
found_at node nexts index inside fresh is =
    position_or_len_is (leads_to node) nexts index End (omega arith)
    (λ k below. ap (leads_to node) (sym (get_or-take index nexts k End below))
    ∙ none_at (leads_to node) (take index nexts) k End (omega (arith, length-take index nexts)) fresh)
    (λ there. ap (leads_to node) is ∙ eq-eqb node node refl)

-- ---- each branch of a node is allowed after those of the nodes before it

leads_to_is : (next : Next) (node : ℕ) → leads_to node next ≡ true → next ≡ To node
leads_to_is next node e = grind (arith, nat_tests, e)

behind_all : (nexts : List Next) (nodes : List ℕ) (index : ℕ)
    → ((node : ℕ) → has nodes node ≡ true → first_number (letters_to node letter_bytes nexts) < index) → IsBehindLast (map (branch_at nexts) nodes) index
behind_all nexts [] index all = tt
behind_all nexts (node ∷ []) index all = all node (has_here node [])
behind_all nexts (node ∷ next ∷ nodes) index all =
    behind_all nexts (next ∷ nodes) index (λ other h. all other (has_there node other (next ∷ nodes) h))

is_next : (all : List Next) (index node : ℕ) → length all ≡ 14 → index < 14 → get_or all index End ≡ To node → leads (take index all) node ≡ false
    → IsNextSet (map (branch_at all) (nodes_of [] (take index all))) (letters_to node letter_bytes all)
is_next all index node long inside is fresh =
    let front : List Next = take index all in
    let at = found_at node all index (omega (arith, long, inside)) fresh is in
    let first : first_number (letters_to node letter_bytes all) ≡ index = first_of_node node all long (omega (arith, at, inside)) ∙ at in
    record {
      some = some_bytes (letters_to node letter_bytes all) (omega (arith, first, inside));
      in_order = subst (λ (bytes : List ℕ). AreInOrder bytes letter_bytes) (sym (letters_chosen node letter_bytes all))
          (chosen_in_order (map (leads_to node) all) letter_bytes);
      once = λ letter there.
          let to = leads_to_is (get_or all (letter_number letter) End) node (sym (letter_at all letter node long) ∙ there) in
          has_where (map (branch_at all) (nodes_of [] front)) letter ∙ ap (λ (next : Next). not (is_end next))
          (where_among all letter (To node) (nodes_of [] front) (λ other. letter_at all letter other long ∙ ap (leads_to other) to)
          ∙ ap (λ (b : Bool). cond b (To node) End) (has_nodes front node ∙ fresh));
      behind = behind_all all (nodes_of [] front) (first_number (letters_to node letter_bytes all)) (λ other h.
          let before = found_before other all index (sym (has_nodes front other) ∙ h) in
          omega (arith, first, before, first_of_node other all long (omega (arith, before, inside))));
    }

-- ---- all branches of a line pass

later_at : (number count : ℕ) (nexts : List Next) (k : ℕ) → AllByRecursion (IsLater number count) nexts → IsLater number count (get_or nexts k End)
later_at number count [] k all = tt
later_at number count (next ∷ nexts) zero all = all.0
later_at number count (next ∷ nexts) (suc k) all = later_at number count nexts k all.1

-- the branches of the nodes that the first letters lead to
abbrev first_branches : List Next → List Next → List Branch
first_branches all front = map (branch_at all) (nodes_of [] front)

one_passes : (number count : ℕ) (all : List Next) (k : ℕ) (next : Next) → count ≤ 65535 → length all ≡ 14 → k < 14 → get_or all k End ≡ next
    → IsLater number count next → Pass number count (first_branches all (take k all)) → Pass number count (first_branches all (take k all ++ next ∷ []))
one_passes number count all k End few long inside is later so_far =
    subst (λ (nodes : List ℕ). Pass number count (map (branch_at all) nodes))
    (sym (nodes_of-append [] (take k all) (End ∷ []) ∙ append-nil (nodes_of [] (take k all)))) so_far
one_passes number count all k (To node) few long inside is later so_far =
    let front : List Next = take k all in
    elim (cases_Bool (leads front node)) [
      | inl old ↦ subst (λ (nodes : List ℕ). Pass number count (map (branch_at all) nodes))
          (sym (nodes_more front node true old ∙ append-nil (nodes_of [] front))) so_far
      | inr fresh ↦
          let below = later.1 in
          let letters = no_colon (letters_to node letter_bytes all) (all_letters (λ byte. not (is_colon byte)) node letter_bytes all refl) in
          let digits = digits_colon (decimal node) (decimal_digits node (omega arith)) in
          let new : _ ≡ false = has_node_at all (nodes_of [] front) node ∙ has_nodes front node ∙ fresh in
          let ok = pass_law number count (first_branches all front) (letters_to node letter_bytes all) (decimal node) node so_far letters digits
          (is_next all k node long inside is fresh) (number_read-decimal node (omega arith)) later new in
          let passed = subst (λ (ws : List (List ℕ)). IsOk (branches_in number count no_branches ws))
          (sym (map-append branch_spelling (first_branches all front) (branch_at all node ∷ []))) ok in
          subst (λ (bs : List Branch). Pass number count bs)
          (sym (ap (map (branch_at all)) (nodes_more front node false fresh) ∙ map-append (branch_at all) (nodes_of [] front) (node ∷ [])))
          (all_more (λ (branch : Branch). branch.node ≤ 4294967295) (first_branches all front) (branch_at all node) so_far.0 (omega arith), passed)
    ]

passes : (number count : ℕ) (all : List Next) (k : ℕ) → count ≤ 65535 → length all ≡ 14 → AllByRecursion (IsLater number count) all → k ≤ 14
    → Pass number count (first_branches all (take k all))
unfolding branches_in
passes number count all zero few long later inside = (tt, refl)
passes number count all (suc k) few long later inside =
    let more : take (suc k) all ≡ take k all ++ get_or all k End ∷ [] =
    ap (λ (i : ℕ). take i all) {x = suc k} {y = k + 1} (omega arith) ∙ take_more all k End (omega (arith, long, inside)) in
    subst (λ (ns : List Next). Pass number count (first_branches all ns)) (sym more)
    (one_passes number count all k (get_or all k End) few long (omega arith) refl (later_at number count all k later)
    (passes number count all k few long later (omega arith)))

pub line_spelled : (number count : ℕ) (nexts : List Next) → count ≤ 65535 → length nexts ≡ 14 → AllByRecursion (IsLater number count) nexts
    → (last : ℕ) × (branches_in number count no_branches (map (branch_word nexts) (nodes_of [] nexts)) ≡ Ok (record { nexts = nexts; least = last }))
line_spelled number count nexts few long later =
    let pass = subst (λ (ns : List Next). Pass number count (first_branches nexts ns)) (take_all 14 nexts (omega (arith, long)))
    (passes number count nexts 14 few long later (omega arith)) in
    let p = passing number count (branches_of nexts) pass in
    let same = same_nexts p.before.nexts nexts p.stand.long long (sym p.stand.are) in
    let words = ap (branches_in number count no_branches) (sym (map-map branch_spelling (branch_at nexts) (nodes_of [] nexts))) in
    (p.before.least, words ∙ p.read ∙ ap (λ (ns : List Next). Ok (record { nexts = ns; least = p.before.least })) same)
