use Rattle.std.proofs.Common.{inl, rules, refl, sym}
use Rattle.crib_sheet.proofs.MadeSheets.{game_judged, game_made, game_refused}
use Rattle.crib_sheet.proofs.answer.played.game_sheet.Goals as goal

pub returns-in_err-played-clause-outcome : goal.returns-in_err-played-clause-outcome
returns-in_err-played-clause-outcome c = let refused = game_refused _ _ c.in_err-played.ensures.read in search rules

pub returns-in-Ok-clause-outcome : goal.returns-in-Ok-clause-outcome
returns-in-Ok-clause-outcome c = (inl refl, game_made _ _ _ _ _ c.in_ok-played.ensures.read (sym c.in-Ok.ensures.exact))

pub returns-in-Err-clause-outcome : goal.returns-in-Err-clause-outcome
returns-in-Err-clause-outcome c = game_judged _ _ _ _ _ c.of_game.result c.in_ok-played.ensures.read (sym c.in-Err.ensures.exact) c.of_game.ensures.printed
