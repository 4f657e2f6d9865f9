-- The count and the side asked after visible turns.
use Rattle.std.specs.Prelude.{ℕ, List}
use Rattle.crib_play.specs.declared.turns.Turn.{Turn}
use Rattle.crib_cards.specs.declared.letters.Letter.{Letter}
use Rattle.crib_play.specs.Record.{count_of, pile_of}
use Rattle.crib_cards.specs.Start.{Start}
use Rattle.crib_play.specs.Score.{asked_after}
use Rattle.crib_play.specs.Filled.{filled_record}

-- the count after visible turns
abbrev pub count_seen : Start → List Letter → ℕ
count_seen start seen = count_of (pile_of (filled_record start seen))

-- whom the rules ask after visible turns
abbrev pub asked_seen : Start → List Letter → Turn
asked_seen start seen = asked_after start (filled_record start seen)
