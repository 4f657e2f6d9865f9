use Rattle.std.proofs.Common.{◌<◌, ◌∙◌, ap, get_or, length, min, set, sym, refl, inl, inr, arith}
use Rattle.std.proofs.Math.ListN.{length-set}
use Rattle.std.proofs.lemmas.Bool.{cases_eq}
use Rattle.std.proofs.lemmas.List.{get_or-set_other, get_or-set_same}
use Rattle.crib_bound.proofs.entries.take_both.Goals as goal

pub loop-at-init : goal.loop-at-init
loop-at-init c = record { both = λ place less. absurd (omega (arith, less)); ahead = λ place less. refl; room = refl }

pub loop-at-preserved : goal.loop-at-preserved
loop-at-preserved c =
    let at = c.loop-at.at in
    let inside : at < length c.loop-at.parts = omega (arith, c.loop-at-test.true, c.loop-at.invariant.room) in
    let here = c.loop-at.invariant.ahead at (omega arith) in
    record {
      both = λ place less. elim (cases_eq place at) [
        | inl same ↦ ap (λ n. get_or (set c.loop-at.parts at c.min.result) n 0) same ∙ get_or-set_same c.loop-at.parts at c.min.result 0 inside ∙ c.min.ensures
            ∙ ap (λ n. min n (get_or c.args.other.now at 0)) here
            ∙ ap (λ n. min (get_or c.args.parts.now n 0) (get_or c.args.other.now n 0)) (sym same)
        | inr apart ↦ get_or-set_other c.loop-at.parts at place c.min.result 0 apart
            ∙ c.loop-at.invariant.both place (omega (arith, less, apart))
      ];
      ahead = λ place less.
          get_or-set_other c.loop-at.parts at place c.min.result 0 (λ same. absurd (omega (arith, same, less)))
          ∙ c.loop-at.invariant.ahead place (omega (arith, less));
      room = length-set _ _ _ ∙ c.loop-at.invariant.room;
    }
