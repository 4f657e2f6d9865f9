-- Cases: at some places of the owner a card is fixed.
use Rattle.std.specs.Prelude.{◌≡◌, ℕ, suc, ◌+◌, ◌*◌, ◌≤◌, ◌&&◌, List, ◌++◌, map, Some, IsTrue}
use Rattle.crib_cards.specs.Cards.{rank_of}
use Rattle.crib_cards.specs.Letters.{letter_of}
use Rattle.crib_cards.specs.Sets.{has}
use Rattle.crib_cards.specs.Start.{pone_of}
use Rattle.crib_cards.specs.declared.letters.Letter.{Letter}
use Rattle.crib_cards.specs.declared.letters.Letter.TheVariants.{Seen, Go}
use Rattle.crib_cards.specs.declared.moves.Move.{Move}
use Rattle.crib_cards.specs.declared.sides.Dealt.{Dealt}
use Rattle.crib_cards.specs.declared.sides.Side.TheVariants.{Owner}
use Rattle.crib_play.specs.History.{Event, Own, Theirs, acts_of, history_of}
use Rattle.crib_play.specs.Legal.{cards_left, fits}
use Rattle.crib_problem.specs.Setup.{Setup, hands_of, start_of}
use Rattle.crib_plan.specs.declared.plan.Node.{Node}
use Rattle.crib_know.specs.Knowledge.{played_events}
use Rattle.crib_deals.specs.Exact.{AreExactly, IsIn}
use Rattle.crib_players.specs.Players.{IsPlayedBy, follower_of}
use Rattle.crib_beaten.specs.Beaten.{Beats}
use Rattle.crib_bound.specs.declared.path.Fixed.{Fixed}

-- the number of a letter: 0 for a go
abbrev pub letter_number : Letter → ℕ
letter_number (Seen rank) = suc rank
letter_number Go = 0

-- the digit of a turn: twice the number of its letter, and one more if it is the owner's
abbrev pub digit_of : Event → ℕ
digit_of (Own turn) = 2 * letter_number (letter_of turn) + 1
digit_of (Theirs letter) = 2 * letter_number letter

-- a trail has the digits of the turns of a history since the opening, the last one first
abbrev pub IsTrailOf : Setup → List ℕ → List Event → Type 0
IsTrailOf problem trail history = map digit_of history ≡ trail ++ map digit_of (played_events problem)

-- where cards are fixed for this trail, a card has their rank
abbrev pub IsAllowedAt : List Fixed → List ℕ → ℕ → Type 0
IsAllowedAt fixed trail rank = (one : Fixed) → IsIn one fixed → one.trail.items ≡ trail → rank ≡ one.rank

-- the same for a history
abbrev pub IsAllowedBy : Setup → List Fixed → List Event → ℕ → Type 0
IsAllowedBy problem fixed history card =
    (one : Fixed) → IsIn one fixed → IsTrailOf problem one.trail.items history → rank_of card ≡ one.rank

-- wherever a player who follows a plan plays a card that they hold and that fits, it has the rank of those that are
-- fixed there
abbrev pub KeepsTo : Setup → List Fixed → List Node → Type 0
KeepsTo problem fixed plan =
    (one : Fixed) → IsIn one fixed → (dealt : Dealt) (played : List Move) →
    IsPlayedBy problem (follower_of problem plan) dealt played →
    IsTrailOf problem one.trail.items (history_of (pone_of (start_of problem)) played) → (card : ℕ) →
    follower_of problem plan (acts_of (pone_of (start_of problem)) played) ≡ Some card →
    IsTrue (has (cards_left (hands_of problem dealt) Owner played) card && fits played card) → rank_of card ≡ one.rank

-- each plan that keeps to what is fixed is beaten by so many parts of deals at least
abbrev pub BoundsKeepers : Setup → ℕ → List Fixed → ℕ → Type 0
BoundsKeepers problem parts fixed value =
    (plan : List Node) (count : ℕ) → KeepsTo problem fixed plan → AreExactly (Beats problem plan) count →
    value ≤ parts * count
