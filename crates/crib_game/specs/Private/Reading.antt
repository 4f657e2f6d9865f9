-- The lines of a game from the number of its acts on.
use Rattle.std.specs.Prelude.{Result, Ok, codes}
use Rattle.crib_cards.specs.declared.sides.Dealt.{Dealt}
use Rattle.crib_text.specs.Refusals.{Refusal}
use Rattle.crib_text.specs.Reading.{◌>>=◌, Rest, value_at}
use Rattle.crib_text.specs.Forms.{values_at}
use Rattle.crib_problem.specs.Reading.{acts_count_in, act_in}
use Rattle.crib_game.specs.declared.section.game.Game.{Game}

-- the game of these cards that the next lines spell: the number of acts, and the acts
unfoldable pub acts_at : Dealt → Rest → Result (Game × Rest) Refusal
acts_at dealt rest = do
  count ← value_at (acts_count_in (codes "acts")) rest
  acts ← values_at (λ number. act_in) 0 count.0 count.1
  Ok (record { opp = dealt; acts = record { items = acts.0 } }, acts.1)
