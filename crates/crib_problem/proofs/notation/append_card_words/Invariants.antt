use Rattle.std.proofs.Common.{◌≡◌, ◌≤◌, ◌+◌, ◌*◌, ◌++◌, take, vec_len, vec_capacity}
use Rattle.std.specs.List.{flat_map}
use Rattle.crib_problem.specs.Private.Spelling.{spaced_card}
use Rattle.crib_problem.proofs.notation.append_card_words.Given as goal

abbrev pub invariant-loop-card : goal.invariant-loop-card
invariant-loop-card g l = record {
  items : l.text.items ≡ l.initial.text.items ++ flat_map spaced_card (take l.card-index l.cards);
  room : vec_capacity l.initial.text ≤ vec_capacity l.text;
  len : vec_len l.text ≡ vec_len l.initial.text + 3 * l.card-index;
}
