-- The greatest crib, and the greatest sum of hand and crib, searched for among the throws of two cards. These
-- definitions follow the code. Worst defines what the public call returns.
use Rattle.std.specs.Prelude.{ℕ, ◌+◌, ◌≤◌, ◌==◌, nat_le, Bool, not, ◌&&◌, ◌||◌, IsTrue, IsFalse}
use Rattle.crib_cards.specs.Cards.{IsRank, card_of}
use Rattle.crib_cards.specs.Sets.{set_without}
use Rattle.crib_show.specs.declared.deals.WorstShow.{WorstShow}
use Rattle.crib_show.specs.declared.worst.totals.Target.{Target}
use Rattle.crib_show.specs.declared.worst.totals.Target.TheVariants.{Crib, CribAndHand}
use Rattle.crib_show.specs.Private.Extremes.{crib_with, has_room, is_free, most_crib_suits, most_suit_points}
use Rattle.crib_show.specs.Private.Extremes.{plain_crib}
use Rattle.crib_show.specs.Show.{crib_points}

-- the show with two thrown cards removed from the unseen ones, since the opponent can't hold them
abbrev pub without_throw : WorstShow → ℕ → ℕ → WorstShow
without_throw worst first second = record worst { unseen = set_without (set_without worst.unseen first) second }

-- the points to make as great as possible, with these two cards thrown: those of the crib alone, or of the crib and the
-- most that suits can add to the hand of some ranks
abbrev pub target_points : WorstShow → Target → ℕ → ℕ → ℕ
target_points worst Crib first second = crib_points (crib_with worst first second) worst.starter
target_points worst (CribAndHand ranks) first second =
    crib_points (crib_with worst first second) worst.starter + most_suit_points (without_throw worst first second) ranks

-- whether the second of two cards may be thrown with the first, and this throw gives enough points
abbrev pub throw_scores : WorstShow → Target → ℕ → ℕ → ℕ → Bool
throw_scores worst aim wanted first second =
    is_free worst second && not (first == second) && nat_le wanted (target_points worst aim first second)

-- whether a card may be thrown with one of a rank, and some such throw gives enough points
abbrev pub card_scores : WorstShow → Target → ℕ → ℕ → ℕ → Bool
card_scores worst aim wanted first rank =
    is_free worst first
    && (throw_scores worst aim wanted first (card_of rank 0) || throw_scores worst aim wanted first (card_of rank 1)
    || throw_scores worst aim wanted first (card_of rank 2) || throw_scores worst aim wanted first (card_of rank 3))

-- whether some throw of two ranks gives enough points. A bound is tried first: the points of the ranks, the most that
-- suits add to the crib, and some spare points
abbrev pub ranks_score : WorstShow → Target → ℕ → ℕ → ℕ → ℕ → Bool
ranks_score worst aim suit_bonus wanted first second =
    nat_le wanted (plain_crib worst first second + most_crib_suits worst first second + suit_bonus)
    && has_room worst first second
    && (card_scores worst aim wanted (card_of first 0) second
    || card_scores worst aim wanted (card_of first 1) second
    || card_scores worst aim wanted (card_of first 2) second
    || card_scores worst aim wanted (card_of first 3) second)

-- some throw of two ranks gives enough points
abbrev pub SomeScores : WorstShow → Target → ℕ → ℕ → Type 0
SomeScores worst aim suit_bonus wanted =
    (first : ℕ) × (second : ℕ) × IsRank first × IsRank second
    × IsTrue (ranks_score worst aim suit_bonus wanted first second)

-- no throw of two ranks gives enough points
abbrev pub NoneScores : WorstShow → Target → ℕ → ℕ → Type 0
NoneScores worst aim suit_bonus wanted =
    (first second : ℕ) → IsRank first → IsRank second → first ≤ second
    → IsFalse (ranks_score worst aim suit_bonus wanted first second)
