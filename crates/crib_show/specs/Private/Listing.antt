-- The hidden deals that agree, tried one by one in dictionary order. These definitions follow the code. Worst defines
-- what the public calls return, without any listing.
use Rattle.std.specs.Prelude.{ℕ, ◌≤◌, zero, suc, nat_lt, Bool, true, not, ◌&&◌, List, [], ◌∷◌, ◌++◌, map}
use Rattle.std.specs.Prelude.{Option, Some, None, IsTrue, IsFalse, if◌then◌else◌}
use Rattle.std.specs.List.{list_all}
use Rattle.std.specs.Option.{option_or}
use Rattle.std.specs.Str.{bytes_eq}
use Rattle.crib_cards.specs.Cards.{rank_of}
use Rattle.crib_cards.specs.Sets.{has, rank_counts, count_at, set_without_all}
use Rattle.crib_cards.specs.declared.sides.Dealt.{Dealt}
use Rattle.crib_show.specs.declared.deals.WorstShow.{WorstShow}
use Rattle.crib_show.specs.declared.demands.Demand.{Demand}
use Rattle.crib_show.specs.declared.worst.listing.Sought.{Sought}
use Rattle.crib_show.specs.Demands.{is_met, is_met_by}
use Rattle.crib_show.specs.Show.{hand_points}
use Rattle.crib_show.specs.Worst.{AgreesInShow, hidden_hand, hidden_crib}

-- whether a hidden deal misses a demand
abbrev pub misses : WorstShow → Demand → Dealt → Bool
misses worst demand dealt = not (is_met_by worst demand dealt)

-- whether a deal may miss the demand in which the opponent's hand has these points: the least or the greatest crib does
abbrev pub may_miss : Sought → ℕ → Bool
may_miss sought hand = not (is_met sought.demand hand sought.least && is_met sought.demand hand sought.most)

-- each deal with a hand that may not miss the demand meets it
abbrev pub IsBounded : WorstShow → Sought → Type 0
IsBounded worst sought =
    (dealt : Dealt) → AgreesInShow worst dealt → IsFalse (may_miss sought (hidden_hand worst dealt))
    → IsTrue (is_met_by worst sought.demand dealt)

-- the crib of each deal has at least and at most so many points
abbrev pub AreWithin : WorstShow → ℕ → ℕ → Type 0
AreWithin worst least most =
    (dealt : Dealt) → AgreesInShow worst dealt → (least ≤ hidden_crib worst dealt) × (hidden_crib worst dealt ≤ most)

-- the first deal made of the chosen cards and n more cards of a list. The picks are tried in dictionary order, and
-- only with cards that may be chosen
unfoldable pub first_pick : (List ℕ → Option Dealt) → (ℕ → Bool) → List ℕ → ℕ → List ℕ → Option Dealt
first_pick gives may taken zero cards = gives taken
first_pick gives may taken (suc n) [] = None
first_pick gives may taken (suc n) (card ∷ cards) =
    option_or
    (if may card then first_pick gives may (taken ++ card ∷ []) n cards else None)
    (first_pick gives may taken (suc n) cards)

-- the deal of a hold and a throw, if it misses a demand
abbrev pub try_throw : WorstShow → Demand → List ℕ → List ℕ → Option Dealt
try_throw worst demand hold throw =
    if misses worst demand (record { hold = hold; throw = throw })
    then Some (record { hold = hold; throw = throw })
    else None

-- any card may be thrown
abbrev pub any_card : ℕ → Bool
any_card card = true

-- the first deal with this hold that misses a demand and whose throw is two of some other cards
abbrev pub first_throw : WorstShow → Demand → List ℕ → List ℕ → Option Dealt
first_throw worst demand hold others = first_pick (try_throw worst demand hold) any_card [] 2 others

-- whether four cards may be the opponent's hold: they have the opponent's ranks, and the fixed cards are among them
abbrev pub may_hold : WorstShow → List ℕ → Bool
may_hold worst hold = bytes_eq (rank_counts (map rank_of hold)) worst.ranks && list_all (has hold) worst.fixed

-- the first deal with this hold that is sought, if the opponent may hold it and its points may miss the demand
abbrev pub try_hold : WorstShow → Sought → List ℕ → Option Dealt
try_hold worst sought hold =
    if may_hold worst hold && may_miss sought (hand_points hold worst.starter)
    then first_throw worst sought.demand hold (set_without_all worst.unseen hold)
    else None

-- whether a card has a rank that the opponent held
abbrev pub may_be_held : WorstShow → ℕ → Bool
may_be_held worst card = nat_lt 0 (count_at worst.ranks (rank_of card))

-- the first deal that is sought and whose hold is the chosen cards and n more of a list
abbrev pub first_hold : WorstShow → Sought → List ℕ → ℕ → List ℕ → Option Dealt
first_hold worst sought taken n cards = first_pick (try_hold worst sought) (may_be_held worst) taken n cards
