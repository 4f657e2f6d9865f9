use Rattle.std.proofs.Common.{refl}
use Rattle.crib_tables.proofs.SureTurns.{large_is_sure, yes}
use Rattle.crib_tables.proofs.sure.is_winnable.Goals as goal

pub returns-in-Ok-Plan : goal.returns-in-Ok-Plan
returns-in-Ok-Plan g c = yes (record { plan = _; sure = (rw (c.in-Ok-Plan.is, c.in-Ok-Plan.field-0-is) at c.find.ensures.sure) _ refl })

pub returns-in-Err-TooLarge : goal.returns-in-Err-TooLarge
returns-in-Err-TooLarge g c = yes (large_is_sure _ c.requires ((rw (c.in-Err-TooLarge.is, c.in-Err-TooLarge.field-0-is) at c.find.ensures.too_large) refl))
