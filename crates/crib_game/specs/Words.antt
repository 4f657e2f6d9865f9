-- The words of endings.
use Rattle.std.specs.Prelude.{ℕ, List, codes}
use Rattle.crib_game.specs.declared.following.ending.Ending.{Ending}
use Rattle.crib_game.specs.declared.following.ending.Ending.TheVariants as ending

-- the word of an ending
abbrev pub ending_word : Ending → List ℕ
ending_word ending.Open = codes "open"
ending_word ending.Stuck = codes "stuck"
ending_word ending.Lost = codes "lost"
ending_word ending.Short = codes "short"
ending_word ending.Reached = codes "reached"
