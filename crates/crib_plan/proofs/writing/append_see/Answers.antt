use Rattle.std.proofs.Common.{arith}
use Rattle.crib_plan.specs.Nodes.{most_nodes}
use Rattle.crib_plan.proofs.WrittenIsSpelled.{branches_len, see_text}
use Rattle.crib_plan.proofs.writing.append_see.Goals as goal

pub append_branches-requires : goal.append_branches-requires
append_branches-requires g c = omega (arith, branches_len c.args.number most_nodes c.args.nexts.now c.requires.small c.told-nexts (omega arith))

pub append-requires-2 : goal.append-requires-2
append-requires-2 g c = omega (arith, branches_len c.args.number most_nodes c.args.nexts.now c.requires.small c.told-nexts (omega arith))

pub returns : goal.returns
returns g c =
    let k = branches_len c.args.number most_nodes c.args.nexts.now c.requires.small c.told-nexts (omega arith) in
    record {
      items = rw (c.append-2.ensures.items, c.append_branches.ensures.items, c.append.ensures.items, c.append_short_number.ensures.items)
          (see_text c.args.number c.args.nexts.now c.args.text.now.items);
      room = omega arith;
      len = omega arith;
    }
