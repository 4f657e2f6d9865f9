use Rattle.std.proofs.Common.{append_assoc, true, false, length, ap, arith}
use Rattle.std.proofs.lemmas.Grind.{common_steps}
use Rattle.crib_plan.specs.Spelling.{letter_bytes}
use Rattle.crib_plan.proofs.WrittenIsSpelled.{letters_next}
use Rattle.crib_plan.proofs.writing.append_letters.Goals as goal
use Rattle.crib_plan.proofs.writing.append_letters.Goals.{then-set-index, else-set-index}

pub append-requires : goal.append-requires
append-requires g c =
    let leads = rw c.letters_to-set.ensures at c.if-set-index.true in
    let here = letters_next c.args.node letter_bytes c.args.nexts.now c.loop-index.index true leads (omega arith) (omega arith) in
    omega (arith, ap length here)

pub loop-index-preserved : goal.loop-index-preserved
loop-index-preserved g c = elim c.if-set-index.branch [
  | then-set-index w ↦
      let leads = rw c.letters_to-set.ensures at w.if-set-index.true in
      let here = letters_next c.args.node letter_bytes c.args.nexts.now c.loop-index.index true leads (omega arith) (omega arith) in
      rw w.text-is (grind (arith, common_steps, append_assoc, ap length here))
  | else-set-index w ↦
      let leads = rw c.letters_to-set.ensures at w.if-set-index.false in
      let past = letters_next c.args.node letter_bytes c.args.nexts.now c.loop-index.index false leads (omega arith) (omega arith) in
      rw (w.text-is, ← past) c.loop-index.invariant
]
