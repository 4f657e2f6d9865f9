-- A problem without its opening, and what a letter that can be shown says of a knowledge.
use Rattle.std.specs.Prelude.{◌≡◌, ◌+◌, ◌<◌, ◌≤◌, []}
use Rattle.crib_cards.specs.Cards.{IsRank, rank_value}
use Rattle.crib_cards.specs.Sets.{count_at, count_rank}
use Rattle.crib_cards.specs.declared.letters.Letter.{Letter}
use Rattle.crib_cards.specs.declared.letters.Letter.TheVariants.{Seen, Go}
use Rattle.crib_play.specs.declared.turns.Turn.TheVariants as turns
use Rattle.crib_play.specs.Record.{count_of}
use Rattle.crib_problem.specs.Setup.{Setup}
use Rattle.crib_know.specs.Knowledge.{Knowledge}

-- the problem without its opening
abbrev pub at_first_lead : Setup → Setup
at_first_lead problem = record problem { played = [] }

-- the opponent is asked, and the letter is a rank that fits, that has at least the least value, and of which some
-- unseen card is not played, or it is a go at a count of at least 22
abbrev pub Shows : Knowledge → Letter → Type 0
Shows know (Seen rank) =
    IsRank rank × (know.round.asked ≡ turns.Opponent) × (count_of know.round.pile + rank_value rank ≤ 31)
    × (know.least ≤ rank_value rank) × (count_at know.ranks_seen rank < count_rank rank know.unseen)
Shows know Go = (know.round.asked ≡ turns.Opponent) × (22 ≤ count_of know.round.pile)
