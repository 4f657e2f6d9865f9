use Rattle.std.proofs.Common.{[], ◌∷◌, append_assoc, take, map, add-one, arith}
use Rattle.std.proofs.lemmas.List.{map-append, flat_map_more, take_all}
use Rattle.std.proofs.Math.Seq.{take-suc}
use Rattle.crib_text.specs.Spelling.{line_text}
use Rattle.crib_problem.specs.Spelling.{act_line}
use Rattle.crib_problem.proofs.notation.append_acts.Goals as goal

pub loop-act-preserved : goal.loop-act-preserved
loop-act-preserved g c =
    let before = c.loop-act.invariant.written in
    let done = take c.loop-act.act-index c.args.acts.now in
    let act = c.act-item.result in
    record {
      written = record {
        items = rw (
          c.append_act.ensures.items,
          before.items,
          add-one,
          take-suc c.args.acts.now c.loop-act.act-index act c.loop-act-test.true,
          ← c.act-item.is,
          map-append act_line done (act ∷ []),
        ) (flat_map_more line_text c.append_count.new.text.items (map act_line done) (act_line act));
        room = omega arith;
        len = omega arith;
      };
    }

pub returns-clause-items : goal.returns-clause-items
returns-clause-items g c = rw (
  c.loop-act.invariant.written.items,
  c.append_count.ensures.items,
  take_all c.loop-act.act-index c.args.acts.now c.loop-act-test.false,
) (append_assoc c.args.text.now.items _ _)
