-- The holds that the opponent may have.
use Rattle.std.specs.Prelude.{ℕ, ◌+◌, ◌/◌, ◌%◌, nat_lt, Bool, ◌&&◌, not, cond, Option, Some, None, IsTrue}
use Rattle.std.specs.Prelude.{List, [], ◌∷◌, ◌++◌, slice_index, sum_by}
use Rattle.std.specs.Option.{is_some}
use Rattle.crib_cards.specs.Cards.{card_of}
use Rattle.crib_cards.specs.Sets.{has, first_of_list, set_without_all}
use Rattle.crib_problem.specs.Setup.{unseen_of}
use Rattle.crib_deals.specs.Deals.{Behind, IsBehind}
use Rattle.crib_deals.specs.Exact.{AreExactly}
use Rattle.crib_deals.specs.Throws.{passing_throws}
use Rattle.crib_deals.specs.Private.Sums.{AreHeld}

-- whether a set has no card
unfoldable pub is_empty : List ℕ → Bool
is_empty cards = not (is_some (first_of_list cards))

-- two cards, if they are unseen and in pack order
abbrev pub pair_of : List ℕ → ℕ → ℕ → Option (List ℕ)
pair_of unseen first second =
    cond (nat_lt first second && (has unseen first && has unseen second)) (Some (first ∷ second ∷ [])) None

-- the two cards at an index of a hold and the next whose suits have a number, if they are unseen and in pack order
abbrev pub pair_at : List ℕ → List ℕ → ℕ → ℕ → Option (List ℕ)
pair_at unseen ranks at number =
    pair_of unseen (card_of (slice_index ranks at) (number / 4 % 4)) (card_of (slice_index ranks (at + 1)) (number % 4))

-- the hold of two pairs, if there are both, in pack order
abbrev pub join : Option (List ℕ) → Option (List ℕ) → Option (List ℕ)
join (Some front) (Some back) =
    cond (nat_lt (slice_index front 1) (slice_index back 0)) (Some (front ++ back)) None
join front back = None

-- how many throws that some holds leave pass a test, beside their hold
abbrev pub left_by : List ℕ → (List ℕ → List ℕ → Bool) → List (List ℕ) → ℕ
left_by unseen test holds = sum_by (λ hold. passing_throws (test hold) (set_without_all unseen hold)) holds

-- these are the holds of the open deals with some ranks: for each test, as many of these deals pass it as throws that
-- the holds leave
pub record AreListed (behind : Behind) (holds : List (List ℕ)) : Type 0 where
  pub held : AreHeld (unseen_of behind.problem) behind.ranks holds
  pub exact : (test : List ℕ → List ℕ → Bool) →
      AreExactly (λ dealt. IsBehind behind dealt × IsTrue (test dealt.hold dealt.throw))
      (left_by (unseen_of behind.problem) test holds)
