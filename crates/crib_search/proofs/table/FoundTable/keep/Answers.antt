use Rattle.std.proofs.Common.{◌≡◌}
use Rattle.indexmap.specs.IndexMap.{get}
use Rattle.crib_know.specs.contracts.know.KnowPartialEq.TheImpl as knows_compared
use Rattle.crib_search.proofs.FoundAfterTurns.{kept_by}
use Rattle.crib_search.proofs.table.FoundTable.keep.Goals as goal

pub returns : goal.returns
returns g c =
    kept_by c.insert.result (get knows_compared.ghosts.eq c.args.self.now.found) (get knows_compared.ghosts.eq c.insert.new.self) c.args.know c.args.found _ _
    (λ u other. u.0 other) (λ w other. let e : c.insert.new.self.entries ≡ c.args.self.now.found.entries = w in
    cc) c.insert.ensures.updates c.insert.ensures.err
