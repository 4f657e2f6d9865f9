-- If branches are read, the words are their spelling.
use Rattle.std.proofs.Common.{◌≡◌, ℕ, zero, suc, ◌+◌, ◌^◌, ◌<◌, Bool, false, not, cond, ◌&&◌, List, [], ◌∷◌, ◌++◌, length, map, get_or}
use Rattle.std.proofs.Common.{take, drop, Option, Some, None, Ok, decimal, refl, sym, ap, subst, ◌∙◌, append_assoc, arith}
use Rattle.std.specs.Prelude.{option_map, position, nat_le}
use Rattle.std.specs.List.{list_any, AllByRecursion}
use Rattle.std.proofs.lemmas.Bool.Decides.{nat_tests}
use Rattle.std.proofs.lemmas.Bool.{eqb-true, leb-true, and_parts, not-true}
use Rattle.std.proofs.lemmas.List.{append-nil, take-append-drop, drop_more}
use Rattle.std.proofs.lemmas.List.Sums.{position_or_len_is}
use Rattle.std.proofs.lemmas.Simd.{map-map}
use Rattle.std.proofs.lemmas.List.Quantifiers.{position-Some}
use Rattle.crib_text.specs.Refusals.{bad_line}
use Rattle.crib_text.specs.Reading.{or_refused, unless_refused}
use Rattle.crib_text.proofs.ReadingLemmas.{bind_ok, unless_ok, ok_is, or_ok}
use Rattle.crib_plan.specs.Nodes.{IsLater}
use Rattle.crib_plan.specs.Spelling.{letter_bytes, colon, leads_to, branch_word, nodes_of}
use Rattle.crib_plan.specs.Refusals.{bad_set}
use Rattle.crib_plan.specs.Reading.{is_colon, begins_with, letters_read, are_free, Branches, no_branches, Letters, Parts, parts_in, letters_in}
use Rattle.crib_plan.specs.Reading.{branch_in, branches_in, branch_node_in}
use Rattle.crib_plan.specs.SeeLaws.{Branch, branch_spelling}
use Rattle.crib_plan.proofs.BranchLemmas.{rest_after, letters_cons}
use Rattle.crib_plan.proofs.NextReadIsSpelled.{branch_node_found}
use Rattle.crib_plan.proofs.SeeSets.{chosen}
use Rattle.crib_plan.proofs.SeeLines.{branch_at, Stand, none_stand, AreLetters, one_more}

take_none : (bytes : List ℕ) (n : ℕ) → ((k : ℕ) → k < n → is_colon (get_or bytes k 0) ≡ false) → list_any is_colon (take n bytes) ≡ false
take_none bytes zero none = refl
take_none [] (suc n) none = refl
take_none (byte ∷ bytes) (suc n) none =
    rw (none 0 (omega arith)) (take_none bytes n (λ i below. none (suc i) (omega arith)))

-- a word is its parts with the byte between them, which neither part has
pub record AreParts (word : List ℕ) (parts : Parts) : Type 0 where
  pub whole : word ≡ parts.front ++ colon ∷ parts.back
  pub none_in_front : list_any is_colon parts.front ≡ false
  pub none_behind : list_any is_colon parts.back ≡ false

pub parts_found : (word : List ℕ) (parts : Parts) → parts_in word ≡ Ok parts → AreParts word parts
unfolding parts_in
parts_found word parts e =
    let a = bind_ok (or_refused bad_line (position is_colon word)) _ parts e in
    let b = bind_ok (unless_refused bad_line (not (list_any is_colon (drop (a.0 + 1) word)))) _ parts a.2 in
    let p = position-Some is_colon word a.0 0 (or_ok bad_line (position is_colon word) a.0 a.1) in
    let is : get_or word a.0 0 ≡ colon = eqb-true _ _ p.1 in
    subst (AreParts word) (ok_is _ parts b.2) (record {
      whole = sym (take-append-drop a.0 word) ∙ ap (λ (bs : List ℕ). take a.0 word ++ bs) (drop_more word a.0 0 p.0)
          ∙ ap (λ (byte : ℕ). take a.0 word ++ byte ∷ drop (a.0 + 1) word) is;
      none_in_front = take_none word a.0 p.2;
      none_behind = not-true _ (unless_ok _ bad_line b.0 b.1);
    })

-- the bytes that are read as a set are its letters
begins_found : (bytes : List ℕ) (letter : ℕ) (holds : Bool) → begins_with bytes letter ≡ holds
    → bytes ≡ cond holds (letter ∷ rest_after holds bytes) (rest_after holds bytes)
begins_found bytes letter holds e = grind (arith, nat_tests, e)

map_some : (holds : Bool) (o : Option (List Bool)) (holding : List Bool) → option_map (λ after. holds ∷ after) o ≡ Some holding → (after : List Bool) ×
    (o ≡ Some after) × (holds ∷ after ≡ holding)
map_some holds (Some after) holding e = (after, refl, cc)
map_some holds None holding e = absurd cc

pub read_found : (letters bytes : List ℕ) (holding : List Bool) → letters_read letters bytes ≡ Some holding → (bytes ≡ chosen holding letters) ×
    (length holding ≡ length letters)
unfolding letters_read
read_found [] [] holding e = let is : [] ≡ holding = cc in subst (λ (h : List Bool). ([] ≡ chosen h []) × (length h ≡ 0)) is (refl, refl)
read_found [] (byte ∷ bytes) holding e = absurd cc
read_found (letter ∷ letters) bytes holding e =
    let holds : Bool = begins_with bytes letter in
    let m = map_some holds (letters_read letters (rest_after holds bytes)) holding (sym (letters_cons letter letters bytes) ∙ e) in
    let r = read_found letters (rest_after holds bytes) m.0 m.1 in
    subst (λ (h : List Bool). (bytes ≡ chosen h (letter ∷ letters)) × (length h ≡ suc (length letters))) m.2
    (begins_found bytes letter holds refl ∙ ap (λ (bs : List ℕ). cond holds (letter ∷ bs) bs) r.0, ap suc r.1)

pub letters_found : (before : Branches) (bytes : List ℕ) (letters : Letters) → letters_in before bytes ≡ Ok letters → AreLetters before bytes letters
unfolding letters_in
letters_found before bytes letters e =
    let a = bind_ok (or_refused bad_set (letters_read letter_bytes bytes)) _ letters e in
    let b = bind_ok (or_refused bad_set (position (λ holds. holds) a.0)) _ letters a.2 in
    let d = bind_ok (unless_refused bad_set (nat_le before.least b.0 && are_free a.0 before.nexts)) _ letters b.2 in
    let both = and_parts _ _ (unless_ok _ bad_set d.0 d.1) in
    let r = read_found letter_bytes bytes a.0 (or_ok bad_set _ a.0 a.1) in
    let p = position-Some (λ (holds : Bool). holds) a.0 b.0 false (or_ok bad_set _ b.0 b.1) in
    subst (λ (l : Letters). AreLetters before bytes l) (ok_is _ letters d.2) (record {
      bytes_are = r.0;
      long = r.1;
      first_is = position_or_len_is (λ (holds : Bool). holds) a.0 b.0 false (omega (arith, p.0)) p.2 (λ inside. p.1);
      some = p.0;
      behind = leb-true _ _ both.0;
      free = both.1;
    })

-- no part of a branch has a colon, and its node is a number
abbrev pub IsPlain : Branch → Type 0
IsPlain branch = (list_any is_colon branch.set ≡ false) × (list_any is_colon (decimal branch.node) ≡ false) × (branch.node < 2 ^ 32)

branch_found : (number count : ℕ) (earlier : List Branch) (before after : Branches) (word : List ℕ) → Stand number count earlier before
    → branch_in number count before word ≡ Ok after
    → (branch : Branch) × (word ≡ branch_spelling branch) × IsPlain branch × Stand number count (earlier ++ branch ∷ []) after
unfolding branch_in
branch_found number count earlier before after word stand e =
    let a = bind_ok (parts_in word) _ after e in
    let b = bind_ok (letters_in before a.0.front) _ after a.2 in
    let d = bind_ok (branch_node_in number count a.0.back) _ after b.2 in
    let f = bind_ok (unless_refused bad_set (not (list_any (leads_to d.0) before.nexts))) _ after d.2 in
    let parts = parts_found word a.0 a.1 in
    let letters = letters_found before a.0.front b.0 b.1 in
    let node = branch_node_found number count a.0.back d.0 d.1 in
    let branch : Branch = record { set = a.0.front; node = d.0 } in (
      branch,
      parts.whole ∙ ap (λ (w : List ℕ). a.0.front ++ colon ∷ w) node.0,
      (parts.none_in_front, ap (list_any is_colon) (sym node.0) ∙ parts.none_behind, node.1),
      subst (λ (v : Branches). Stand number count (earlier ++ branch ∷ []) v) (ok_is _ after f.2)
          (one_more number count earlier before branch b.0 stand letters (node.2, node.3) (not-true _ (unless_ok _ bad_set f.0 f.1))),
    )

pub branches_found : (number count : ℕ) (earlier : List Branch) (before after : Branches) (words : List (List ℕ)) → Stand number count earlier before
    → branches_in number count before words ≡ Ok after
    → (more : List Branch) × (words ≡ map branch_spelling more) × AllByRecursion IsPlain more × Stand number count (earlier ++ more) after
unfolding branches_in
branches_found number count earlier before after [] stand e =
    ([], refl, tt, subst (λ (v : Branches). Stand number count (earlier ++ []) v) (ok_is before after e) (rw (append-nil earlier) stand))
branches_found number count earlier before after (word ∷ words) stand e =
    let a = bind_ok (branch_in number count before word) _ after e in
    let one = branch_found number count earlier before a.0 word stand a.1 in
    let more = branches_found number count (earlier ++ one.0 ∷ []) a.0 after words one.3 a.2 in
    let stands = subst (λ (bs : List Branch). Stand number count bs after) (append_assoc earlier (one.0 ∷ []) more.0) more.3 in
    (one.0 ∷ more.0, cc (one.1, more.1), (one.2, more.2), stands)

-- all branches of a line were read
pub line_found : (number count : ℕ) (words : List (List ℕ)) (after : Branches) → branches_in number count no_branches words ≡ Ok after
    → (words ≡ map (branch_word after.nexts) (nodes_of [] after.nexts)) × (length after.nexts ≡ 14) × AllByRecursion (IsLater number count) after.nexts
line_found number count words after e =
    let h = branches_found number count [] no_branches after words (none_stand number count) e in
    (h.1 ∙ ap (map branch_spelling) h.3.are ∙ map-map branch_spelling (branch_at after.nexts) (nodes_of [] after.nexts), h.3.long, h.3.later)
