-- Lemmas about words that are compared with names, one name after another.
use Rattle.std.proofs.Common.{◌≡◌, ℕ, cond, List, Result, Ok, Err, ◌⊎◌, arith}
use Rattle.std.specs.Prelude.{bytes_eq}
use Rattle.std.proofs.lemmas.Slice.Eq.{bytes_eq-Decides}
use Rattle.crib_cards.specs.declared.sides.Side.{Side}
use Rattle.crib_cards.specs.declared.sides.Side.TheVariants.{Owner, Opponent}
use Rattle.crib_problem.specs.Reading.{side_called}

-- a word is the name that it is compared with, or it is read in another way
pub if_named : {A : Type 0} (word name : List ℕ) (named other : Result A ℕ) (value : A) → cond (bytes_eq word name) named other ≡ Ok value →
    ((word ≡ name) × (named ≡ Ok value)) ⊎ (other ≡ Ok value)
if_named word name named other value e = grind (arith, e, (bytes_eq-Decides word name).0)

-- a word that is read is the one name that it is compared with
pub only_named : {A : Type 0} (word name : List ℕ) (named : Result A ℕ) (number : ℕ) (value : A) → cond (bytes_eq word name) named (Err number) ≡ Ok value →
    (word ≡ name) × (named ≡ Ok value)
only_named word name named number value e = grind (arith, e, (bytes_eq-Decides word name).0)

-- a word that is read as a side is its name
pub side_called_is : (name : Side → List ℕ) (word : List ℕ) (side : Side) → side_called name word ≡ Ok side → word ≡ name side
side_called_is name word side e = grind (arith, e, (bytes_eq-Decides word (name Owner)).0, (bytes_eq-Decides word (name Opponent)).0)
