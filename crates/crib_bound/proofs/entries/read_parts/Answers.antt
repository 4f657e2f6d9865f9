use Rattle.std.proofs.Common.{◌<◌, ◌∙◌, sym, ap, get_or, length, set, inl, inr, arith}
use Rattle.std.proofs.Math.ListN.{length-set}
use Rattle.std.proofs.lemmas.Bool.{cases_eq}
use Rattle.std.proofs.lemmas.List.{get_or-set_other, get_or-set_same}
use Rattle.crib_bound.proofs.entries.read_parts.Goals as goal

pub loop-at-preserved : goal.loop-at-preserved
loop-at-preserved c =
    let at = c.loop-at.at in
    let inside : at < length c.loop-at.parts = omega (arith, c.loop-at-test.true, c.loop-at.invariant.room, c.requires.room) in
    let amount = get_or c.args.amounts.now (get_or c.args.indices.now at 0) 0 in
    record {
      read = λ place less. elim (cases_eq place at) [
        | inl same ↦ ap (λ n. get_or (set c.loop-at.parts at amount) n 0) same ∙ get_or-set_same c.loop-at.parts at amount 0 inside
            ∙ ap (λ n. get_or c.args.amounts.now (get_or c.args.indices.now n 0) 0) (sym same)
        | inr apart ↦ get_or-set_other c.loop-at.parts at place amount 0 apart ∙ c.loop-at.invariant.read place (omega (arith, less, apart))
      ];
      room = length-set _ _ _ ∙ c.loop-at.invariant.room;
    }
