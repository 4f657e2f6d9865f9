use Rattle.std.proofs.Common.{◌≡◌, ℕ, not, ◌&&◌, List, [], ◌∷◌, sym, ap, ◌∙◌, arith}
use Rattle.std.proofs.lemmas.Bool.{and_parts, false_from_ne_true}
use Rattle.std.proofs.lemmas.Bool.Decides.{nat_tests}
use Rattle.std.specs.List.{list_all}
use Rattle.std.specs.Option.{is_some}
use Rattle.crib_cards.specs.Sets.{has, set_without_all, IsCardSet, first_of_list}
use Rattle.crib_cards.proofs.LowestCard.{in_set}
use Rattle.crib_cards.proofs.Members.{all_from, all_has, has_here}
use Rattle.crib_cards.proofs.SetFacts.{in_set_where}
use Rattle.crib_cards.proofs.SetLemmas.{has-set_where}
use Rattle.crib_show.proofs.worst.listing.has_all.Goals as goal

-- some cards have all of a set exactly if the set has no other card
none_left : (cards set left : List ℕ) → IsCardSet set → left ≡ set_without_all set cards → not (is_some (first_of_list left)) ≡ list_all (has cards) set
none_left cards set [] is without = sym (all_from (has cards) set (λ card h.
    let there = ap (λ xs. has xs card) without ∙ has-set_where (λ c. has set c && not (has cards c)) card (in_set set card is h) in
    grind (arith, nat_tests, h, there)))
none_left cards set (first ∷ rest) is without =
    let found = (in_set_where (λ c. has set c && not (has cards c)) first (ap (λ xs. has xs first) (sym without) ∙ has_here first rest)).1 in
    sym (false_from_ne_true _ (λ all. grind (arith, nat_tests, found, all_has (has cards) set first all (and_parts _ _ found).0)))

pub returns : goal.returns
returns c =
    let some = sym (ap is_some c.lowest.ensures.first) ∙ c.is_none.ensures in
    let held = none_left c.args.cards.now c.args.set c.without_all.result c.know_set.ensures c.without_all.ensures in
    grind (arith, nat_tests, some, held)
