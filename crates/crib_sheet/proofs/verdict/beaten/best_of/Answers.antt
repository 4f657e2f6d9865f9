use Rattle.crib_sheet.proofs.PlanBeatenLines.{deals_of_worth}
use Rattle.crib_sheet.proofs.verdict.beaten.best_of.Goals as goal

pub returns : goal.returns
returns g c = record {
  found = c.requires;
  plans = λ plan count exact.
      rw (c.min.ensures, c.saturating_mul.ensures, c.div_ceil-times.ensures) (deals_of_worth _ _ _ 4294967295 count c.unit_of-unit.ensures.some
      (c.unit_of-unit.ensures.multiple plan count exact) (c.in_ok-worth.ensures.plans plan count exact));
  players = λ all player count exact.
      rw (c.min.ensures, c.saturating_mul.ensures, c.div_ceil-times.ensures) (deals_of_worth _ _ _ 4294967295 count c.unit_of-unit.ensures.some
      (c.unit_of-unit.ensures.players player count exact)
      (c.is_for_all_players.ensures.players all _ _ count player (c.in_ok-worth.ensures.strategy (c.is_for_all_players.ensures.exact.0 all)) exact));
}
