-- The branches of a see line as the code keeps them, and as their letters and nodes.
use Rattle.std.proofs.Common.{◌≡◌, ℕ, zero, suc, ◌+◌, ◌<◌, ◌≤◌, Bool, true, false, not, cond, eqb, ◌||◌, List, [], ◌∷◌, ◌++◌, length, map, get_or, take}
use Rattle.std.proofs.Common.{◌↔◌, refl, sym, ap, subst, ◌∙◌, arith, inl, inr}
use Rattle.std.specs.Prelude.{replicate}
use Rattle.std.specs.List.{position_or_len, AllByRecursion}
use Rattle.std.proofs.lemmas.Bool.{cases_Bool, and_parts, or_parts}
use Rattle.std.proofs.lemmas.Bool.Decides.{nat_tests}
use Rattle.std.proofs.lemmas.List.{get_or_past, ext_get_or, length-map, map-append}
use Rattle.std.proofs.lemmas.List.Folds.{list_any_at}
use Rattle.std.proofs.Math.ListN.{get_or-map}
use Rattle.crib_cards.specs.Sets.{has}
use Rattle.crib_cards.proofs.Members.{has_here, has_there}
use Rattle.crib_plan.specs.declared.plan.Next.{Next}
use Rattle.crib_plan.specs.declared.plan.Next.TheVariants.{End, To}
use Rattle.crib_plan.specs.Nodes.{IsLater}
use Rattle.crib_plan.specs.Spelling.{letter_bytes, leads_to, letters_to, nodes_of}
use Rattle.crib_plan.specs.Reading.{is_end, is_free, are_free, led_by, Branches, no_branches, Letters}
use Rattle.crib_plan.specs.SeeLaws.{Branch, AreInOrder, letter_number, first_number, has_letter, has_node, IsBehindLast, IsNextSet}
use Rattle.crib_plan.proofs.LeadsTo.{leads, leads_in, has_nodes}
use Rattle.crib_plan.proofs.SeeSets.{chosen, chosen_in_order, index_of, has_chosen, letters_chosen, number_of_first, free_at}

-- ---- nodes

no_new : (before : List ℕ) (node : ℕ) (nexts : List Next) → nodes_of before (To node ∷ nexts) ≡ [] → (has before node ≡ true) × (nodes_of before nexts ≡ [])
no_new before node nexts none = grind arith

-- where no branch has a new node, none has one after a set has led to a node that was there before
no_more : (node : ℕ) (before : List ℕ) (holding : List Bool) (nexts : List Next) → length holding ≡ length nexts → nodes_of before nexts ≡ []
    → nodes_of (node ∷ before) (led_by node holding nexts) ≡ []
no_more node before [] [] long none = refl
no_more node before (holds ∷ holding) (End ∷ nexts) long none = grind (arith, nat_tests, no_more node before holding nexts (omega arith) none)
no_more node before (holds ∷ holding) (To other ∷ nexts) long none =
    let old = no_new before other nexts none in
    grind (arith, nat_tests, old.0, no_more node before holding nexts (omega arith) old.1)
no_more node before holding nexts long none = absurd (omega arith)

first_later : (holding : List Bool) → position_or_len (λ holds. holds) (false ∷ holding) + 1 ≡ suc (position_or_len (λ holds. holds) holding + 1)
first_later holding = omega arith

-- a new node is last among the nodes, if no branch from the index of its first letter on has a new node
nodes_led : (node : ℕ) (before : List ℕ) (holding : List Bool) (nexts : List Next) (least : ℕ) → length holding ≡ length nexts
    → are_free holding nexts ≡ true → leads nexts node ≡ false → has before node ≡ false
    → least ≤ position_or_len (λ holds. holds) holding → position_or_len (λ holds. holds) holding < length holding
    → nodes_of before (take least nexts) ≡ nodes_of before nexts
    → (nodes_of before (led_by node holding nexts) ≡ nodes_of before nexts ++ node ∷ [])
    × (nodes_of before (take (position_or_len (λ holds. holds) holding + 1) (led_by node holding nexts)) ≡ nodes_of before nexts ++ node ∷ [])
nodes_led node before (true ∷ holding) (To other ∷ nexts) least long free fresh new low some same = absurd cc
nodes_led node before (true ∷ holding) (End ∷ nexts) zero long free fresh new low some same =
    let one = ap (λ (ns : List ℕ). ns ++ node ∷ []) same in
    (rw new (ap (λ (ns : List ℕ). node ∷ ns) (no_more node before holding nexts (omega arith) (sym same)) ∙ one), rw new one)
nodes_led node before (false ∷ holding) (End ∷ nexts) zero long free fresh new low some same =
    let rest = nodes_led node before holding nexts zero (omega arith) free fresh new (omega arith) (omega arith) same in
    (rest.0, rw (first_later holding) rest.1)
nodes_led node before (false ∷ holding) (End ∷ nexts) (suc least) long free fresh new low some same =
    let rest = nodes_led node before holding nexts least (omega arith) free fresh new (omega arith) (omega arith) same in
    (rest.0, rw (first_later holding) rest.1)
nodes_led node before (false ∷ holding) (To other ∷ nexts) zero long free fresh new low some same =
    let apart = or_parts (eqb other node) (leads nexts node) fresh in
    let old = no_new before other nexts (sym same) in
    let rest = nodes_led node before holding nexts zero (omega arith) free apart.1 new (omega arith) (omega arith) (sym old.1) in
    (rw old.0 rest.0, rw (first_later holding, old.0) rest.1)
nodes_led node before (false ∷ holding) (To other ∷ nexts) (suc least) long free fresh new low some same =
    let apart = or_parts (eqb other node) (leads nexts node) fresh in
    elim (cases_Bool (has before other)) [
      | inl e ↦
          let left : nodes_of before (take least nexts) ≡ nodes_of before nexts = rw e at same in
          let rest = nodes_led node before holding nexts least (omega arith) free apart.1 new (omega arith) (omega arith) left in
          (rw e rest.0, rw (first_later holding, e) rest.1)
      | inr e ↦
          let both : other ∷ nodes_of (other ∷ before) (take least nexts) ≡ other ∷ nodes_of (other ∷ before) nexts = rw e at same in
          let left : nodes_of (other ∷ before) (take least nexts) ≡ nodes_of (other ∷ before) nexts = cc in
          let not_it : has (other ∷ before) node ≡ false = rw (apart.0, new) refl in
          let rest = nodes_led node (other ∷ before) holding nexts least (omega arith) free apart.1 not_it (omega arith) (omega arith) left in
          (rw e (ap (λ (ns : List ℕ). other ∷ ns) rest.0), rw (first_later holding, e) (ap (λ (ns : List ℕ). other ∷ ns) rest.1))
    ]
nodes_led node before holding nexts least long free fresh new low some same = absurd (omega arith)

-- ---- letters

letters_kept : (other node : ℕ) → eqb node other ≡ false → (letters : List ℕ) (holding : List Bool) (nexts : List Next) → are_free holding nexts ≡ true →
    letters_to other letters (led_by node holding nexts) ≡ letters_to other letters nexts
letters_kept other node differs [] holding nexts free = refl
letters_kept other node differs (letter ∷ letters) [] nexts free = refl
letters_kept other node differs (letter ∷ letters) (holds ∷ holding) [] free = refl
letters_kept other node differs (letter ∷ letters) (holds ∷ holding) (next ∷ nexts) free =
    let parts = and_parts (is_free holds next) (are_free holding nexts) free in
    grind (arith, parts.0, letters_kept other node differs letters holding nexts parts.1)

letters_new : (node : ℕ) (letters : List ℕ) (holding : List Bool) (nexts : List Next) → leads nexts node ≡ false → length holding ≡ length nexts →
    letters_to node letters (led_by node holding nexts) ≡ chosen holding letters
letters_new node [] [] nexts fresh long = refl
letters_new node [] (holds ∷ holding) nexts fresh long = refl
letters_new node (letter ∷ letters) [] [] fresh long = refl
letters_new node (letter ∷ letters) (holds ∷ holding) (next ∷ nexts) fresh long =
    let apart = or_parts (leads_to node next) (leads nexts node) fresh in
    grind (arith, nat_tests, apart.0, letters_new node letters holding nexts apart.1 (omega arith))
letters_new node letters holding nexts fresh long = absurd (omega arith)

all_led : (number count node : ℕ) → IsLater number count (To node) → (holding : List Bool) (nexts : List Next) → AllByRecursion (IsLater number count) nexts →
    AllByRecursion (IsLater number count) (led_by node holding nexts)
all_led number count node later [] nexts all = all
all_led number count node later (holds ∷ holding) [] all = tt
all_led number count node later (true ∷ holding) (next ∷ nexts) all = (later, all_led number count node later holding nexts all.1)
all_led number count node later (false ∷ holding) (next ∷ nexts) all = (all.0, all_led number count node later holding nexts all.1)

all_ends : (number count k : ℕ) → AllByRecursion (IsLater number count) (replicate k End)
all_ends number count zero = tt
all_ends number count (suc k) = (tt, all_ends number count k)

-- ---- the branches so far

abbrev pub branch_at : List Next → ℕ → Branch
branch_at nexts node = record { set = letters_to node letter_bytes nexts; node = node }

-- the branches of a node, in the order of their first letters
abbrev pub branches_of : List Next → List Branch
branches_of nexts = map (branch_at nexts) (nodes_of [] nexts)

map_agree : (f g : ℕ → Branch) (nodes : List ℕ) → ((node : ℕ) → has nodes node ≡ true → f node ≡ g node) → map f nodes ≡ map g nodes
map_agree f g [] same = refl
map_agree f g (node ∷ nodes) same = cc (same node (has_here node nodes), map_agree f g nodes (λ other h. same other (has_there node other nodes h)))

-- what the code keeps represents the branches that were read
pub record Stand (number count : ℕ) (earlier : List Branch) (before : Branches) : Type 0 where
  pub long : length before.nexts ≡ 14
  pub later : AllByRecursion (IsLater number count) before.nexts
  pub low : nodes_of [] (take before.least before.nexts) ≡ nodes_of [] before.nexts
  pub are : earlier ≡ branches_of before.nexts
  pub behind : (index : ℕ) → (before.least ≤ index → IsBehindLast earlier index) × (IsBehindLast earlier index → before.least ≤ index)

pub none_stand : (number count : ℕ) → Stand number count [] no_branches
none_stand number count = record { long = refl; later = all_ends number count 14; low = refl; are = refl; behind = λ index. (λ h. tt, λ h. omega arith) }

behind_last : (earlier : List Branch) (branch : Branch) (index : ℕ) → IsBehindLast (earlier ++ branch ∷ []) index ↔ first_number branch.set < index
behind_last [] branch index = (λ h. h, λ h. h)
behind_last (one ∷ []) branch index = (λ h. h, λ h. h)
behind_last (one ∷ next ∷ earlier) branch index = behind_last (next ∷ earlier) branch index

-- bytes that were read as the letters of the next branch
pub record AreLetters (before : Branches) (bytes : List ℕ) (letters : Letters) : Type 0 where
  pub bytes_are : bytes ≡ chosen letters.set letter_bytes
  pub long : length letters.set ≡ 14
  pub first_is : position_or_len (λ holds. holds) letters.set ≡ letters.first
  pub some : letters.first < length letters.set
  pub behind : before.least ≤ letters.first
  pub free : are_free letters.set before.nexts ≡ true

first_is : (before : Branches) (set : List ℕ) (letters : Letters) → AreLetters before set letters → first_number set ≡ letters.first
first_is before set letters are =
    ap (λ (bytes : List ℕ). first_number bytes) are.bytes_are
    ∙ number_of_first letters.set letter_bytes refl are.long (omega (arith, are.first_is, are.some)) ∙ are.first_is

pub length-led : (node : ℕ) (holding : List Bool) (nexts : List Next) → length (led_by node holding nexts) ≡ length nexts
length-led node [] nexts = refl
length-led node (holds ∷ holding) [] = refl
length-led node (holds ∷ holding) (next ∷ nexts) = ap suc (length-led node holding nexts)

-- one more branch was read
pub one_more : (number count : ℕ) (earlier : List Branch) (before : Branches) (branch : Branch) (letters : Letters) → Stand number count earlier before
    → AreLetters before branch.set letters → IsLater number count (To branch.node) → leads before.nexts branch.node ≡ false
    → Stand number count (earlier ++ branch ∷ []) (record { nexts = led_by branch.node letters.set before.nexts; least = letters.first + 1 })
one_more number count earlier before branch letters stand are later fresh =
    let nexts : List Next = before.nexts in
    let node : ℕ = branch.node in
    let after : List Next = led_by node letters.set nexts in
    let long : length letters.set ≡ length nexts = are.long ∙ sym stand.long in
    let nodes = nodes_led node [] letters.set nexts before.least long are.free fresh refl (omega (arith, are.first_is, are.behind))
    (omega (arith, are.first_is, are.some)) stand.low in
    let kept : map (branch_at after) (nodes_of [] nexts) ≡ branches_of nexts = map_agree _ _ (nodes_of [] nexts) (λ other e.
    let differs : eqb node other ≡ false = grind (arith, nat_tests, e, has_nodes nexts other, fresh) in
    ap (λ (ls : List ℕ). record { set = ls; node = other }) (letters_kept other node differs letter_bytes letters.set nexts are.free)) in
    let new : branch_at after node ≡ branch =
    ap (λ (ls : List ℕ). record { set = ls; node = node }) (letters_new node letter_bytes letters.set nexts fresh long ∙ sym are.bytes_are) in
    let same_first = first_is before branch.set letters are in
    record {
      long = length-led node letters.set nexts ∙ stand.long;
      later = all_led number count node later letters.set nexts stand.later;
      low = ap (λ (k : ℕ). nodes_of [] (take (k + 1) after)) (sym are.first_is) ∙ nodes.1 ∙ sym nodes.0;
      are = ap (λ (bs : List Branch). bs ++ branch ∷ []) (stand.are ∙ sym kept)
          ∙ ap (λ (b : Branch). map (branch_at after) (nodes_of [] nexts) ++ b ∷ []) (sym new)
          ∙ sym (map-append (branch_at after) (nodes_of [] nexts) (node ∷ [])) ∙ ap (map (branch_at after)) (sym nodes.0);
      behind = λ first. let last = behind_last earlier branch first in (λ h. last.1 (omega (arith, same_first, h)), λ h. omega (arith, same_first, last.0 h));
    }

-- ---- the letters and the nodes of branches

pub has_node_at : (nexts : List Next) (nodes : List ℕ) (node : ℕ) → has_node (map (branch_at nexts) nodes) node ≡ has nodes node
has_node_at nexts [] node = refl
has_node_at nexts (other ∷ nodes) node = ap (λ (b : Bool). eqb other node || b) (has_node_at nexts nodes node)

pub node_stands : (number count : ℕ) (earlier : List Branch) (before : Branches) (node : ℕ) → Stand number count earlier before
    → leads before.nexts node ≡ has_node earlier node
node_stands number count earlier before node stand =
    sym (ap (λ (bs : List Branch). has_node bs node) stand.are ∙ has_node_at before.nexts (nodes_of [] before.nexts) node ∙ has_nodes before.nexts node)

-- where a letter leads
abbrev pub where_to : List Branch → ℕ → Next
where_to [] letter = End
where_to (branch ∷ branches) letter = cond (has branch.set letter) (To branch.node) (where_to branches letter)

pub has_where : (branches : List Branch) (letter : ℕ) → has_letter branches letter ≡ not (is_end (where_to branches letter))
has_where [] letter = refl
has_where (branch ∷ branches) letter = grind (arith, has_where branches letter)

pub letter_at : (nexts : List Next) (letter node : ℕ) → length nexts ≡ 14
    → has (letters_to node letter_bytes nexts) letter ≡ leads_to node (get_or nexts (letter_number letter) End)
letter_at nexts letter node long =
    ap (λ (ls : List ℕ). has ls letter) (letters_chosen node letter_bytes nexts)
    ∙ has_chosen (map (leads_to node) nexts) letter_bytes letter refl (length-map nexts (leads_to node) ∙ long)
    ∙ get_or-map (leads_to node) nexts (letter_number letter) End

-- where a letter leads by the branches of some nodes
pub where_among : (nexts : List Next) (letter : ℕ) (to : Next) (nodes : List ℕ)
    → ((node : ℕ) → has (letters_to node letter_bytes nexts) letter ≡ leads_to node to)
    → where_to (map (branch_at nexts) nodes) letter ≡ cond (leads_in nodes to) to End
where_among nexts letter to [] each = grind arith
where_among nexts letter to (node ∷ nodes) each = grind (arith, nat_tests, each node, where_among nexts letter to nodes each)

pub where_is : (nexts : List Next) (letter : ℕ) → length nexts ≡ 14 → where_to (branches_of nexts) letter ≡ get_or nexts (letter_number letter) End
where_is nexts letter long =
    where_among nexts letter (get_or nexts (letter_number letter) End) (nodes_of [] nexts) (λ node. letter_at nexts letter node long)
    ∙ whole (get_or nexts (letter_number letter) End) refl
  where
    whole : (to : Next) → get_or nexts (letter_number letter) End ≡ to → cond (leads_in (nodes_of [] nexts) to) to End ≡ to
    whole End is = refl
    whole (To node) is =
        let inside = list_any_at (leads_to node) nexts (letter_number letter) End in
        grind (arith, nat_tests, is, has_nodes nexts node, inside, get_or_past nexts (letter_number letter) End)

pub letter_stands : (number count : ℕ) (earlier : List Branch) (before : Branches) (letter : ℕ) → Stand number count earlier before
    → has_letter earlier letter ≡ not (is_end (get_or before.nexts (letter_number letter) End))
letter_stands number count earlier before letter stand =
    ap (λ (bs : List Branch). has_letter bs letter) stand.are ∙ has_where (branches_of before.nexts) letter
    ∙ ap (λ (to : Next). not (is_end to)) (where_is before.nexts letter stand.long)

-- branches that have the same letters and nodes are the same
pub same_nexts : (nexts other : List Next) → length nexts ≡ 14 → length other ≡ 14 → branches_of nexts ≡ branches_of other → nexts ≡ other
same_nexts nexts other long long2 same = ext_get_or End nexts other (long ∙ sym long2) (λ index inside.
    let letter : ℕ = get_or letter_bytes index 0 in
    let at : letter_number letter ≡ index = index_of letter_bytes index refl (omega (arith, long, inside)) in
    ap (λ (k : ℕ). get_or nexts k End) (sym at) ∙ sym (where_is nexts letter long) ∙ ap (λ (bs : List Branch). where_to bs letter) same
    ∙ where_is other letter long2 ∙ ap (λ (k : ℕ). get_or other k End) at)

-- ---- the letters of the next branch

pub some_bytes : (set : List ℕ) → first_number set < 14 → 0 < length set
some_bytes [] less = absurd (omega (arith, less))
some_bytes (byte ∷ set) less = omega arith

pub next_set_found : (number count : ℕ) (earlier : List Branch) (before : Branches) (set : List ℕ) (letters : Letters) → Stand number count earlier before
    → AreLetters before set letters → IsNextSet earlier set
next_set_found number count earlier before set letters stand are = record {
  some = some_bytes set (omega (arith, first_is before set letters are, are.some, are.long));
  in_order = subst (λ (bytes : List ℕ). AreInOrder bytes letter_bytes) (sym are.bytes_are) (chosen_in_order letters.set letter_bytes);
  once = λ letter there.
      let held = sym (has_chosen letters.set letter_bytes letter refl are.long) ∙ ap (λ (s : List ℕ). has s letter) (sym are.bytes_are) ∙ there in
      letter_stands number count earlier before letter stand ∙ ap not (free_at letters.set before.nexts (letter_number letter) are.free held);
  behind = (stand.behind (first_number set)).0 (omega (arith, first_is before set letters are, are.behind));
}
