use Rattle.std.proofs.Common.{arith}
use Rattle.std.proofs.lemmas.Grind.{common_steps}
use Rattle.crib_game.specs.Spelling.{game_lines, game_text}
use Rattle.crib_game.proofs.section.writing.write_game.Goals as goal

pub returns-clause-text : goal.returns-clause-text
unfolding game_text game_lines
returns-clause-text g c = grind (arith, common_steps)
