use Rattle.std.proofs.Common.{arith}
use Rattle.crib_game.specs.Spelling.{game_text}
use Rattle.crib_run.proofs.Printing.{piece}
use Rattle.crib_sheet.proofs.refutation.put_sections.Goals as goal

pub loop-game-preserved : goal.loop-game-preserved
loop-game-preserved g c = piece game_text _ _ _ (omega arith) c.game-item.is c.loop-game.invariant c.put_section.ensures
