-- Letters and their indices in the order of letters.
use Rattle.std.proofs.Common.{◌≡◌, ◌<◌, refl, ap, arith}
use Rattle.crib_cards.specs.Letters.{IsLetter, letter_index}
use Rattle.crib_cards.specs.declared.letters.Letter.{Letter}
use Rattle.crib_cards.specs.declared.letters.Letter.TheVariants.{Seen, Go}

pub index_small : (letter : Letter) → IsLetter letter → letter_index letter < 14
index_small (Seen rank) is = let high = is.1 in omega (arith, high)
index_small Go is = omega arith

pub same_letter : (letter other : Letter) → IsLetter letter → IsLetter other → letter_index letter ≡ letter_index other → letter ≡ other
same_letter (Seen rank) (Seen other) is is_other e =
    let low = is.0 in
    let low_other = is_other.0 in
    ap Seen (omega (arith, low, low_other, e))
same_letter (Seen rank) Go is is_other e = let high = is.1 in absurd (omega (arith, high, e))
same_letter Go (Seen rank) is is_other e = let high = is_other.1 in absurd (omega (arith, high, e))
same_letter Go Go is is_other e = refl
