-- The line of a node is read as this node.
use Rattle.std.proofs.Common.{◌≡◌, ℕ, ◌^◌, ◌<◌, ◌≤◌, Ok, decimal, refl}
use Rattle.std.proofs.lemmas.Bool.{eq-eqb}
use Rattle.crib_cards.proofs.CardReadLemmas.{card_read-card_text}
use Rattle.crib_text.proofs.ReadingLemmas.{number_spelled}
use Rattle.crib_plan.specs.declared.plan.Node.{Node}
use Rattle.crib_plan.specs.declared.plan.Node.TheVariants.{Play, See}
use Rattle.crib_plan.specs.Nodes.{IsNode}
use Rattle.crib_plan.specs.Spelling.{node_line}
use Rattle.crib_plan.specs.Reading.{own_number_in, play_in, see_in, node_from}
use Rattle.crib_plan.proofs.BranchSpelledIsRead.{next_spelled}
use Rattle.crib_plan.proofs.LineSpelledIsRead.{line_spelled}

own_spelled : (number : ℕ) → number < 2 ^ 32 → own_number_in number (decimal number) ≡ Ok tt
unfolding own_number_in
own_spelled number small = rw (number_spelled number small, eq-eqb number number refl) refl

pub node_spelled : (number count : ℕ) (node : Node) → number < 2 ^ 32 → count ≤ 65535 → IsNode number count node →
    node_from number count (node_line number node) ≡ Ok node
unfolding node_from play_in see_in
node_spelled number count (Play card next) small few is =
    rw (own_spelled number small, card_read-card_text card is.0, next_spelled number count next few is.1) refl
node_spelled number count (See nexts) small few is = rw (own_spelled number small, (line_spelled number count nexts few is.0 is.1).1) refl
