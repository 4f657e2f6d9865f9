use Rattle.std.proofs.Common.{◌≡◌, ◌+◌, List, ℕ, take, drop}
use Rattle.crib_text.specs.Lines.{line_of}
use Rattle.crib_problem.specs.Reading.{new_cards}
use Rattle.crib_problem.specs.Private.Reading.{IsSetOf}
use Rattle.crib_problem.proofs.CardLemmas.{onto, with_front}
use Rattle.crib_problem.proofs.words_of_lines.read_cards.Given as goal

abbrev pub invariant-loop-i : goal.invariant-loop-i
invariant-loop-i l = (listed : List ℕ) → IsSetOf l.initial.known listed → record {
  set : IsSetOf l.known (onto listed (take l.i l.cards));
  so_far : with_front (take l.i l.cards) (new_cards (onto listed (take l.i l.cards)) (drop (l.i + 1) (line_of l.line).words)) ≡ new_cards listed
      (drop 1 (line_of l.line).words);
}
