-- Lemmas about the spot of a line, which is in the first section that is long enough.
use Rattle.std.proofs.Common.{arith, ◌≡◌, ◌≤◌, ◌<◌, ℕ, ◌+◌, ◌-◌, List, [], ◌∷◌, length, drop, leb, refl, ap, ◌∙◌, inl, inr}
use Rattle.std.specs.Prelude.{slice_index_or}
use Rattle.std.proofs.lemmas.Bool.{cases_Bool, le-leb, leb-true}
use Rattle.crib_message.specs.declared.scene.Spot.{Spot}
use Rattle.crib_message.specs.declared.scene.Section.{Section}
use Rattle.crib_message.specs.declared.scene.Section.TheVariants.{Problem}
use Rattle.crib_message.specs.Place.{announced, first_lines, lines_behind, spot_behind}

-- the first one
abbrev first : List Section → Section
first sections = slice_index_or sections 0 Problem

pub in_first_lines : (input : List ℕ) (line before least : ℕ) (sections : List Section) → 1 ≤ length sections → before ≤ line →
    least ≡ first_lines input (first sections) → line - before ≤ least →
    ◌≡◌ {A = Spot} (record { section = first sections; number = line - before }) (spot_behind input line before sections)
unfolding spot_behind
in_first_lines input line before least [] some from e within = absurd (omega (arith, some))
in_first_lines input line before least (section ∷ others) some from e within =
    rw (le-leb line (before + lines_behind input before section) (omega (arith, within, from, e))) refl

pub in_announced : (input : List ℕ) (line before least count : ℕ) (sections : List Section) → 1 ≤ length sections → before ≤ line →
    least ≡ first_lines input (first sections) → count ≡ announced input (before + least) → line - before - least ≤ count →
    ◌≡◌ {A = Spot} (record { section = first sections; number = line - before }) (spot_behind input line before sections)
unfolding spot_behind
in_announced input line before least count [] some from e f within = absurd (omega (arith, some))
in_announced input line before least count (section ∷ others) some from e f within =
    let g : count ≡ announced input (before + first_lines input section) = f ∙ ap (λ n. announced input (before + n)) e in
    rw (le-leb line (before + lines_behind input before section) (omega (arith, within, from, e, g))) refl

pub in_later_one : (input : List ℕ) (line before least count : ℕ) (sections : List Section) → 1 ≤ length sections →
    least ≡ first_lines input (first sections) → count ≡ announced input (before + least) → before + least + count < line →
    spot_behind input line (before + least + count) (drop 1 sections) ≡ spot_behind input line before sections
unfolding spot_behind
in_later_one input line before least count [] some e f behind = absurd (omega (arith, some))
in_later_one input line before least count (section ∷ others) some e f behind =
    let g : count ≡ announced input (before + first_lines input section) = f ∙ ap (λ n. announced input (before + n)) e in
    let same : before + least + count ≡ before + lines_behind input before section = omega (arith, e, g) in
    elim (cases_Bool (leb line (before + lines_behind input before section))) [
      | inl here ↦ absurd (omega (arith, behind, same, leb-true line (before + lines_behind input before section) here))
      | inr later ↦ rw later (ap (λ n. spot_behind input line n others) same)
    ]
