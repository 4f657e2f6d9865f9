use Rattle.std.proofs.Common.{length, arith}
use Rattle.std.proofs.lemmas.List.Elements.{All-from_recursion}
use Rattle.crib_search.specs.declared.nodes.DraftPlace.TheVariants.{End}
use Rattle.crib_search.specs.Private.Nodes.{IsEarlier}
use Rattle.crib_search.proofs.numbering.Numbering.nexts_of.Goals as goal

pub next_of-requires-clause-earlier : goal.next_of-requires-clause-earlier
next_of-requires-clause-earlier g c =
    All-from_recursion (IsEarlier (length c.args.self.now.draft_nodes)) c.args.draft_places.now c.requires.earlier c.loop-index.index End
    (omega (arith, c.requires.all, c.loop-index-test.true))
