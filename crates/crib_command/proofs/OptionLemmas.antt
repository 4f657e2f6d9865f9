-- Unknown options with two hyphens are refused as such, after words at which clap doesn't stop.
use Rattle.std.specs.Prelude.{◌==◌, ◌-◌, nat_eq, get_or, drop, take}
use Rattle.std.specs.List.{list_any, before_first, starts_with}
use Rattle.std.specs.Str.{bytes_eq}
use Rattle.std.proofs.Common.{◌≡◌, ◌⊎◌, inl, inr, ℕ, List, [], ◌∷◌, ◌++◌, true, false, Option, Some}
use Rattle.std.proofs.Common.{None, map, length, IfSome, ◌∙◌, refl, sym, subst, ap, arith, codes, ◌≤◌, not}
use Rattle.std.proofs.lemmas.Bool.{cases_Bool, false_from_ne_true}
use Rattle.std.proofs.lemmas.Bool.Decides.{Decides-eqb}
use Rattle.std.proofs.lemmas.List.{take_all}
use Rattle.std.proofs.lemmas.Slice.Eq.{bytes_eq-Decides, starts_is}
use Rattle.clap.specs.Walk.{Text}
use Rattle.clap.specs.declared.error.kind.ErrorKind.TheVariants.{UnknownArgument}
use Rattle.crib_command.specs.Command.{refusal_from}
use Rattle.crib_command.specs.Private.Command.{is_unknown_option}

-- a text that isn't a word, and doesn't begin with it and `=`, has another word before its first `=`
other_name : (word text : List ℕ) → list_any (λ x. x == 61) word ≡ false → bytes_eq text word ≡ false
    → starts_with nat_eq text (word ++ 61 ∷ []) ≡ false → bytes_eq word (before_first (λ x. x == 61) text) ≡ false
other_name [] [] plain differs begins = cc
other_name [] (x ∷ text) plain differs begins = elim (cases_Bool (x == 61)) [
  | inl same ↦ grind (arith, begins, same)
  | inr other ↦ rw other (grind arith)
]
other_name (c ∷ word) [] plain differs begins = refl
other_name (c ∷ word) (x ∷ text) plain differs begins = elim (cases_Bool (x == 61)) [
  | inl same ↦ rw same refl
  | inr other ↦ rw other (grind (arith, plain, differs, begins, other_name word text))
]

-- a text after two hyphens
after_hyphens : (text : List ℕ) → (text ≡ [] → ⊥) → (text ≡ codes "help" → ⊥) → starts_with nat_eq text (codes "help=") ≡ false
    → is_unknown_option (45 ∷ 45 ∷ text) ≡ true
after_hyphens [] some help begins = absurd (some refl)
after_hyphens (x ∷ text) some help begins =
    let differs = false_from_ne_true (bytes_eq (x ∷ text) (codes "help")) (λ e. help ((bytes_eq-Decides (x ∷ text) (codes "help")).0 e)) in
    ap not (other_name (codes "help") (x ∷ text) refl differs begins)

-- a word that begins with two hyphens and is none of these is an unknown option
pub unknown_if : (word : List ℕ) → (word ≡ codes "--" → ⊥) → (word ≡ codes "--help" → ⊥) → starts_with nat_eq word (codes "--help=") ≡ false
    → starts_with nat_eq word (codes "--") ≡ true → is_unknown_option word ≡ true
unknown_if word mark help begins hyphens =
    let text = drop 2 word in
    let is : word ≡ 45 ∷ 45 ∷ text = (starts_is Decides-eqb word (codes "--") _ refl).0 hyphens in
    let begins' : starts_with nat_eq (45 ∷ 45 ∷ text) (codes "--help=") ≡ false =
    subst (λ (w : List ℕ). starts_with nat_eq w (codes "--help=") ≡ false) is begins in
    subst (λ (w : List ℕ). is_unknown_option w ≡ true) (sym is) (after_hyphens text
    (λ e. mark (is ∙ ap (λ (t : List ℕ). 45 ∷ 45 ∷ t) e)) (λ e. help (is ∙ ap (λ (t : List ℕ). 45 ∷ 45 ∷ t) e)) begins')

-- an unknown option is refused as such
pub unknown_is_refused : (names : List Text) (name : Option Text) (word : Text) (rest : List Text) → is_unknown_option word ≡ true
    → refusal_from names (word ∷ rest) false name ≡ Some UnknownArgument
unfolding refusal_from
unknown_is_refused names name [] rest unknown = cc
unknown_is_refused names name (a ∷ []) rest unknown = grind (arith, unknown)
unknown_is_refused names name (a ∷ b ∷ []) rest unknown = grind (arith, unknown)
unknown_is_refused names name (a ∷ b ∷ x ∷ text) rest unknown = grind (arith, unknown)

-- a word without a hyphen at its front, or of a hyphen alone, is no option
pub plain_is_passed : (names : List Text) (word : Text) (rest : List Text) → (word ≡ codes "-") ⊎ (starts_with nat_eq word (codes "-") ≡ false)
    → ((name : Option Text) → refusal_from names rest false name ≡ Some UnknownArgument) → (name : Option Text)
    → refusal_from names (word ∷ rest) false name ≡ Some UnknownArgument
unfolding refusal_from
plain_is_passed names word rest (inl only) later None = rw only (later (Some (codes "-")))
plain_is_passed names word rest (inl only) later (Some name) = rw only refl
plain_is_passed names [] rest (inr plain) later None = later (Some [])
plain_is_passed names [] rest (inr plain) later (Some name) = refl
plain_is_passed names (a ∷ word) rest (inr plain) later None = grind (arith, plain, later (Some (a ∷ word)))
plain_is_passed names (a ∷ word) rest (inr plain) later (Some name) = grind (arith, plain)

-- some texts are the first one and the others
pub first_text : {S : Type 0} (text : S → Text) (typed : List S) (first : S) → 1 ≤ length typed → first ≡ get_or typed 0 first
    → map text typed ≡ text first ∷ map text (take (length typed - 1) (drop 1 typed))
first_text text [] first some is = absurd (omega (arith, some))
first_text text (x ∷ typed) first some is = λ i. text (sym is i) ∷ map text (sym (take_all (length (x ∷ typed) - 1) typed (omega arith)) i)

-- an unknown option among the others is one among some texts whose first is no option
pub later_unknown : {word : Text} {texts rest : List Text} → texts ≡ word ∷ rest → (word ≡ codes "-") ⊎ (starts_with nat_eq word (codes "-") ≡ false)
    → {T : Type 0} (found : Option T)
    → IfSome found (λ _. (names : List Text) (name : Option Text) → refusal_from names rest false name ≡ Some UnknownArgument)
    → IfSome found (λ _. (names : List Text) (name : Option Text) → refusal_from names texts false name ≡ Some UnknownArgument)
later_unknown is plain None refused = tt
later_unknown {word} {texts} {rest} is plain (Some one) refused = λ names name. rw is (plain_is_passed names word rest plain (refused names) name)
