use Rattle.std.proofs.Common.{◌≡◌, ℕ, ap, arith, decimal, length}
use Rattle.crib_plan.proofs.WrittenIsSpelled.{branch_len, branch_text}
use Rattle.crib_plan.proofs.writing.append_branch.Goals as goal

pub append-requires : goal.append-requires
append-requires g c = omega (arith, branch_len c.args.nexts.now c.args.node)

pub append_letters-requires : goal.append_letters-requires
append_letters-requires g c = omega (arith, branch_len c.args.nexts.now c.args.node)

pub append-requires-2 : goal.append-requires-2
append-requires-2 g c = omega (arith, branch_len c.args.nexts.now c.args.node)

pub append_number-requires : goal.append_number-requires
append_number-requires g c =
    let same : c.from.result ≡ c.args.node = omega arith in
    omega (arith, branch_len c.args.nexts.now c.args.node, ap (λ (number : ℕ). length (decimal number)) same)

pub returns : goal.returns
returns g c =
    let same : c.from.result ≡ c.args.node = omega arith in
    record {
      items = rw (c.append_number.ensures.items, c.append-2.ensures.items, c.append_letters.ensures.items, c.append.ensures.items, same)
          (branch_text c.args.nexts.now c.args.node c.args.text.now.items);
      room = omega arith;
      len = omega (arith, branch_len c.args.nexts.now c.args.node, ap (λ (number : ℕ). length (decimal number)) same);
    }
