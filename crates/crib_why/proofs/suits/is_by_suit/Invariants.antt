use Rattle.std.proofs.Common.{ℕ, ◌<◌}
use Rattle.crib_cards.specs.Cards.{card_of}
use Rattle.crib_why.specs.Answer.{IsSureAfter}
use Rattle.crib_why.proofs.suits.is_by_suit.Given as goal

-- the cards of the suits so far
abbrev pub invariant-loop-suit : goal.invariant-loop-suit
invariant-loop-suit g l = (suit : ℕ) → suit < l.suit-index → IsSureAfter l.problem (card_of l.rank suit)
