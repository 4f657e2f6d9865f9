-- What a table of positions holds, over the lists that it keeps.
use Rattle.std.proofs.Common.{◌≡◌, ◌⊎◌, ◌↔◌, ℕ, ◌<◌, ◌≤◌, Bool, true, false, cond, not, ◌&&◌, List, [], ◌∷◌, ◌++◌, length}
use Rattle.std.proofs.Common.{IsTrue, OnErr, Result, Ok, Err, inl, inr, refl, sym, ap, subst, ◌∙◌, arith, if◌then◌else◌}
use Rattle.std.specs.Bool.{Decides}
use Rattle.std.specs.Cmp.{IsEquivalence}
use Rattle.std.specs.List.{list_any, position_or_len, AllByRecursion}
use Rattle.std.proofs.lemmas.Bool.{both_ways, cases_Bool, cond_both, cond-false, eqb-true, false_from_ne_true, or_from}
use Rattle.std.proofs.lemmas.Bool.Decides.{nat_tests, Decides-eqb, Decides-and, Decides-like}
use Rattle.std.proofs.lemmas.List.Folds.{prefix_len-append}
use Rattle.std.proofs.lemmas.List.{length-append}
use Rattle.indexmap.specs.IndexSet.{insert_key}
use lib.Dec.{eqb}
use Rattle.crib_know.specs.Hidden.{IsKnown}
use Rattle.crib_know.specs.Knowledge.{sight_of, shown_of}
use Rattle.crib_know.specs.declared.knowledge.Sight.{Sight}
use Rattle.crib_know.specs.declared.knowledge.Shown.{Shown}
use Rattle.crib_know.specs.contracts.knowledge.SightPartialEq.TheImpl as sights_compared
use Rattle.crib_know.specs.contracts.knowledge.ShownPartialEq.TheImpl as shown_compared
use Rattle.crib_know.specs.contracts.knowledge.SightEq.TheImpl.Laws.{laws-law as sights_alike}
use Rattle.crib_know.proofs.Equality.{same_knows}
use Rattle.crib_check.specs.Table.{Table, entry_of, IsInside, AreInside}
use Rattle.crib_check.specs.Private.Numbers.{IsMore, IsNumber}
use Rattle.crib_check.specs.declared.entries.Entry.{Entry}
use Rattle.crib_sure.specs.declared.keys.Key.{Key}
use Rattle.crib_check.specs.contracts.entries.EntryPartialEq.TheImpl as entries_compared
use Rattle.crib_check.proofs.Equality.{same_nexts, same_showns}

-- ---- two values that have one number are equal
module _ {X : Type 0} (eq : X → X → Bool) (laws : IsEquivalence eq) (one other : X) where
  same_number : (xs : List X) → position_or_len (eq one) xs ≡ position_or_len (eq other) xs → position_or_len (eq one) xs < length xs → eq one other ≡ true
  same_number [] e l = absurd (omega (arith, l))
  same_number (x ∷ xs) e l = grind (arith, nat_tests, e, l, same_number xs, laws.congr one x other, laws.symm x other)

-- ---- entries
abbrev same_entry : Entry → Entry → Bool
same_entry = entries_compared.ghosts.eq

same_entries : (one other : Entry) → Decides (same_entry one other) (one ≡ other)
same_entries one other =
    Decides-like _ (λ h i. record { sight = h.0 i; shown = h.1.0 i; place = h.1.1 i })
    (λ e. (ap (λ (x : Entry). x.sight) e, (ap (λ (x : Entry). x.shown) e, ap (λ (x : Entry). x.place) e)))
    (Decides-and _ _ (Decides-eqb one.sight other.sight) (Decides-and _ _ (same_showns one.shown other.shown) (same_nexts one.place other.place)))

-- an entry whose index is out of range is not among entries whose indices are in range
no_entry : (sights : ℕ) (entry : Entry) (entries : List Entry) → AllByRecursion (IsInside sights) entries → (IsInside sights entry → ⊥) →
    list_any (same_entry entry) entries ≡ false
no_entry sights entry [] all out = refl
no_entry sights entry (x ∷ xs) all out =
    or_from _ _ (false_from_ne_true _ (λ same. out (rw ((same_entries entry x).0 same) all.0))) (no_entry sights entry xs all.1 out)

all_inside : (low high : ℕ) (entries : List Entry) → low ≤ high → AllByRecursion (IsInside low) entries → AllByRecursion (IsInside high) entries
all_inside low high [] more all = tt
all_inside low high (x ∷ xs) more all = ((omega (arith, all.0.0, more), all.0.1), all_inside low high xs more all.1)

all_put : (P : Entry → Type 0) (b : Bool) (entries : List Entry) (entry : Entry) → AllByRecursion P entries → P entry →
    AllByRecursion P (if b then entries else entries ++ entry ∷ [])
all_put P true entries entry all last = all
all_put P false [] entry all last = (last, tt)
all_put P false (x ∷ xs) entry all last = (all.0, all_put P false xs entry all.1 last)

-- ---- what a table holds
abbrev entry_in : Table → Key → Entry
entry_in = entry_of sights_compared.ghosts.eq

abbrev found : Table → Key → Bool
found kept key = list_any (same_entry (entry_in kept key)) kept.entries

abbrev pub Holds : Table → Key → Type 0
Holds kept key = found kept key ≡ true

-- a key whose sight has no number isn't held
pub without_sight : (kept now : Table) → kept ≡ now → AreInside kept → (key : Key) (sight : Sight) → sight ≡ sight_of key.know →
    (IsNumber (sights_compared.ghosts.eq sight) kept.sights (position_or_len (sights_compared.ghosts.eq sight) kept.sights) → ⊥) → IsTrue false ↔ Holds now key
without_sight kept now seen inside key sight is none =
    let absent = no_entry (length kept.sights) (entry_in kept key) kept.entries inside
    (λ at. none (rw is (record { first = refl; within = at.0; small = at.1 }))) in
    (λ e. absurd cc, λ held. absurd (both_ways (found kept key) absent (rw seen held)))

-- after a put: the list of sights may have more
module _ (before now after : Table) (seen : before ≡ now) (inside : AreInside before) (more : IsMore before.sights after.sights) where
  -- the entries of before are found as before
  found_alike : (key : Key) → list_any (same_entry (entry_in after key)) before.entries ≡ found now key
  found_alike key =
      let split = ap (position_or_len same) more.parts ∙ prefix_len-append (λ x. not (same x)) before.sights more.more in
      rw (← seen) (elim (cases_Bool (eqb (position_or_len same before.sights) (length before.sights))) [
        | inl last ↦
            let after_all = rw last at split in
            let end = eqb-true _ _ last in
            no_entry _ (entry_in after key) before.entries inside (λ at. omega (arith, after_all, at.0))
            ∙ sym (no_entry _ (entry_in before key) before.entries inside (λ at. omega (arith, end, at.0)))
        | inr inner ↦
            ap (λ (k : ℕ). list_any (same_entry (record { sight = k; shown = shown_of key.know; place = key.place })) before.entries) (rw inner at split)
      ])
    where
      same : Sight → Bool
      same = sights_compared.ghosts.eq (sight_of key.know)

  inside_more : AllByRecursion (IsInside (length after.sights)) before.entries
  inside_more = all_inside _ _ before.entries (omega (arith, ap length more.parts, length-append before.sights more.more)) inside

  -- a refused put: the entries are as they were
  pub inside_refused : after.entries ≡ before.entries → AreInside after
  inside_refused same = subst (AllByRecursion (IsInside (length after.sights))) (sym same) inside_more

  pub refused_same : after.entries ≡ before.entries → (other : Key) → Holds after other ↔ Holds now other
  refused_same same other =
      let alike : found after other ≡ found now other =
      ap (λ (es : List Entry). list_any (same_entry (entry_in after other)) es) same ∙ found_alike other in
      (λ is. sym alike ∙ is, λ is. alike ∙ is)

  -- a put: the entries are those of before and that of the key
  module _ (key : Key) (sight : Sight) (shown : Shown) (seen_is : sight ≡ sight_of key.know) (shown_is : shown ≡ shown_of key.know) (number : ℕ)
      (is_number : IsNumber (sights_compared.ghosts.eq sight) after.sights number) where
    abbrev entry : Entry
    entry = record { sight = number; shown = shown; place = key.place }

    is_entry : entry ≡ entry_in after key
    is_entry = λ i. record {
      sight = (is_number.first ∙ ap (λ (s : Sight). position_or_len (sights_compared.ghosts.eq s) after.sights) seen_is) i;
      shown = shown_is i;
      place = key.place;
    }

    pub inside_put : after.entries ≡ insert_key same_entry before.entries entry → AreInside after
    inside_put is =
        subst (AllByRecursion (IsInside (length after.sights))) (sym is)
        (all_put _ (list_any (same_entry entry) before.entries) before.entries entry inside_more (is_number.within, is_number.small))

    -- an entry that is the new one is that of the key
    is_key : (other : Key) → IsKnown key.know → IsKnown other.know → entry ≡ entry_in after other → other ≡ key
    is_key other known known_other e =
        let same : entry_in after key ≡ entry_in after other = sym is_entry ∙ e in
        let sights = same_number sights_compared.ghosts.eq sights_alike (sight_of key.know) (sight_of other.know) after.sights
        (ap (λ (x : Entry). x.sight) same) (omega (arith, ap (λ (x : Entry). x.sight) is_entry, is_number.within)) in
        let showns = (same_showns (shown_of key.know) (shown_of other.know)).1 (ap (λ (x : Entry). x.shown) same) in
        let knows = (same_knows key.know other.know known known_other).0
        (ap (λ (c : Bool). c && shown_compared.ghosts.eq (shown_of key.know) (shown_of other.know)) sights ∙ showns) in
        sym (λ i. record { know = knows i; place = (same i).place })

    module _ (updates : (e : Entry) → list_any (same_entry e) after.entries ≡ cond (same_entry entry e) true (list_any (same_entry e) before.entries)) where
      found_after : (other : Key) → found after other ≡ cond (same_entry entry (entry_in after other)) true (found now other)
      found_after other =
          updates (entry_in after other) ∙ ap (λ (c : Bool). cond (same_entry entry (entry_in after other)) true c) (found_alike other)

      pub put_stays : (other : Key) → Holds now other → Holds after other
      put_stays other is = found_after other
          ∙ cond_both (same_entry entry (entry_in after other)) true (found now other) (λ (b : Bool). b ≡ true) (λ _. refl) (λ _. is)

      pub put_kept : Holds after key
      put_kept = found_after key ∙ ap (λ (c : Bool). cond c true (found now key)) ((same_entries entry (entry_in after key)).1 is_entry)

      pub put_held : IsKnown key.know → (other : Key) → IsKnown other.know → Holds after other → Holds now other ⊎ (other ≡ key)
      put_held known other known_other is = elim (cases_Bool (same_entry entry (entry_in after other))) [
        | inl same ↦ inr (is_key other known known_other ((same_entries entry (entry_in after other)).0 same))
        | inr apart ↦ inl (sym (cond-false _ true _ apart) ∙ sym (found_after other) ∙ is)
      ]

-- what a refusal means without a condition, it means with it
pub refused_too : {T E : Type 0} {P Q : Type 0} (result : Result T E) → (P → Q) → OnErr result P → OnErr result Q
refused_too (Ok x) more is = tt
refused_too (Err e) more is = more is
