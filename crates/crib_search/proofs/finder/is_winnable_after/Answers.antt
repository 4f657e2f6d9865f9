use Rattle.std.proofs.Common.{refl, sym, ◌∙◌}
use Rattle.std.proofs.lemmas.Bool.{both_ways}
use Rattle.crib_know.specs.Knowledge.{played_events}
use Rattle.crib_search.proofs.AfterRank.{found_exactly, over_found, rank_shown, unshown_wins}
use Rattle.crib_search.proofs.finder.is_winnable_after.Goals as goal

pub returns-then-not-can_play : goal.returns-then-not-can_play
returns-then-not-can_play g c =
    let exact = c.can_play.ensures.exact c.args.problem.now (played_events c.args.problem.now) c.start-know.ensures in (
      λ is. unshown_wins c.args.problem.now c.start-know.ensures.setup c.args.rank
          (λ can. both_ways c.can_play.result c.if-not-can_play.true (exact.1 can)),
      λ winnable. refl,
    )

pub returns-in-Over : goal.returns-in-Over
returns-in-Over g c =
    let knows = c.saw_play.ensures c.args.problem.now (played_events c.args.problem.now) c.start-know.ensures in (
      λ is. over_found c.args.problem.now c.start-know.ensures.setup c.args.rank _ knows (sym c.turn.ensures ∙ c.in-Over.is),
      λ winnable. refl,
    )

pub search-requires : goal.search-requires
search-requires g c = record {
  good = c.new-search.ensures;
  here = (
    rank_shown c.args.problem.now c.args.rank,
    c.saw_play.ensures c.args.problem.now (played_events c.args.problem.now) c.start-know.ensures,
  );
}

pub returns : goal.returns
returns g c =
    let problem = c.args.problem.now in
    let exact = c.can_play.ensures.exact problem (played_events problem) c.start-know.ensures in
    rw c.is_some.ensures
    (found_exactly problem c.start-know.ensures.setup c.args.rank _ (c.saw_play.ensures problem (played_events problem) c.start-know.ensures)
    (exact.0 c.if-not-can_play.false) (λ over. c.in_default.not-Over (c.turn.ensures ∙ over)) _ c.in_ok-found.found (c.in_ok-found.ensures.found))
