use Rattle.std.proofs.Common.{◌≡◌, ◌+◌, take, drop}
use Rattle.crib_text.specs.Lines.{line_of}
use Rattle.crib_text.specs.Forms.{each_in}
use Rattle.crib_problem.specs.Reading.{card_in}
use Rattle.crib_problem.proofs.CardLemmas.{with_front}
use Rattle.crib_game.proofs.section.words_of_lines.read_cards.Given as goal

abbrev pub invariant-loop-i : goal.invariant-loop-i
invariant-loop-i l = record {
  so_far : with_front (take l.i l.cards) (each_in card_in (drop (l.i + 1) (line_of l.line).words)) ≡ each_in card_in (drop 1 (line_of l.line).words);
}
