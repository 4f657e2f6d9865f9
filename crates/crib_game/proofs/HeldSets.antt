-- Lemmas about the sets of cards that sides hold.
use Rattle.std.proofs.Common.{◌≡◌, ℕ, Bool, true, false, not, ◌&&◌, eqb, List, [], ◌∷◌, sym, ◌∙◌, arith}
use Rattle.std.specs.List.{list_any, filter, AllByRecursion}
use Rattle.std.proofs.lemmas.Bool.{cond_both}
use Rattle.std.proofs.lemmas.Bool.Decides.{nat_tests}
use Rattle.crib_cards.specs.Cards.{IsCard}
use Rattle.crib_cards.specs.Sets.{has, set_of, set_without}
use Rattle.crib_cards.proofs.SetLemmas.{set_where_agree, has-set_where}
use Rattle.crib_cards.proofs.SetFacts.{in_set_where, has-filter}
use Rattle.crib_play.proofs.CardLemmas.{IsWithout, none_passes}
use Rattle.crib_problem.proofs.HonestTurns.{none_any}
use Rattle.crib_problem.proofs.StartLemmas.{each_has}

pub has-set_of : (cards : List ℕ) (card : ℕ) → AllByRecursion IsCard cards → has (set_of cards) card ≡ has cards card
has-set_of cards card all =
    let is_card : has cards card ≡ true → IsCard card = each_has IsCard cards card all in
    grind (arith, is_card, has-set_where (has cards) card, in_set_where (has cards) card)

pub same_any : (f : ℕ → Bool) (xs ys : List ℕ) → ((x : ℕ) → has xs x ≡ has ys x) → list_any f xs ≡ list_any f ys
same_any f xs ys same =
    let none : list_any f ys ≡ false → list_any f xs ≡ false = λ none. none_any f xs (λ x is. none_passes f ys x none (sym (same x) ∙ is)) in
    let none_there : list_any f xs ≡ false → list_any f ys ≡ false = λ none. none_any f ys (λ y is. none_passes f xs y none (same y ∙ is)) in
    grind (arith, none, none_there)

pub any-set_of : (f : ℕ → Bool) (cards : List ℕ) → AllByRecursion IsCard cards → list_any f (set_of cards) ≡ list_any f cards
any-set_of f cards all = same_any f (set_of cards) cards (λ card. has-set_of cards card all)

-- ---- a hand without one card
pub all_filter : (p : ℕ → Bool) (cards : List ℕ) → AllByRecursion IsCard cards → AllByRecursion IsCard (filter p cards)
all_filter p [] all = tt
all_filter p (card ∷ cards) all = cond_both (p card) _ _ (AllByRecursion IsCard) (λ e. (all.0, all_filter p cards all.1)) (λ e. all_filter p cards all.1)

pub set_without_filter : (cards : List ℕ) (p q : ℕ → Bool) (card : ℕ) → IsWithout p q card → set_without (set_of (filter p cards)) card ≡ set_of
    (filter q cards)
set_without_filter cards p q card without =
    set_where_agree (λ x. has (set_of (filter p cards)) x && not (eqb x card)) (has (filter q cards))
    (λ x small.
    let left = has-set_where (has (filter p cards)) x small in
    grind (arith, nat_tests, left, has-filter p cards x, has-filter q cards x, without x))
