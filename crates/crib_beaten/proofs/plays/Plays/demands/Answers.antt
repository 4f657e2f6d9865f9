use Rattle.std.proofs.Common.{◌≡◌, ◌≤◌, ◌*◌, length, sym, subst, ap, arith, rules}
use Rattle.crib_know.specs.Private.Ahead.{turns_ahead}
use Rattle.std.proofs.lemmas.List.{get_or-replicate}
use Rattle.crib_know.specs.Knowledge.{played_events}
use Rattle.crib_show.specs.Demands.{IsMetByAll}
use Rattle.crib_beaten.proofs.DemandsAfterOpening.{decided_as, stands_as}
use Rattle.crib_beaten.proofs.plays.Plays.demands.Goals as goal

pub join_from-requires : goal.join_from-requires
join_from-requires g c =
    let are = c.requires.2 in
    let turns : turns_ahead c.args.self.now.start.know ≤ 27 = grind arith in
    let many : length c.each_index.result ≡ 1820 = search rules in record {
      own = rw are.same_problem are.points;
      here = (played_events c.requires.0, stands_as are);
      small = c.each_index.ensures.indices;
      room = omega (arith, turns, ap (λ n. n * turns_ahead c.args.self.now.start.know) many);
    }

pub returns : goal.returns
returns g c = λ problem plan are index small.
    decided_as are (subst IsMetByAll (sym (get_or-replicate 1820 index c.none-demands.result _ small))
    (λ hand crib few also. c.none-demands.ensures hand crib (omega (arith, few, also))))
    (c.join_from.ensures.here index (c.each_index.ensures.all index small))
