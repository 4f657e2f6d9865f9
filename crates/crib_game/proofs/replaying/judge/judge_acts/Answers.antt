use Rattle.std.proofs.Common.{List, reverse, sym, ap, subst, ◌∙◌, arith}
use Rattle.std.proofs.lemmas.Bool.{both_ways}
use Rattle.std.proofs.lemmas.List.{take_all}
use Rattle.std.specs.Prelude.{is_some}
use Rattle.crib_cards.specs.declared.moves.Act.{Act}
use Rattle.crib_game.specs.Private.Judging.{is_over}
use Rattle.crib_game.proofs.ActFaults.{first_none}
use Rattle.crib_game.proofs.JudgeLemmas.{judged_start, length_before}
use Rattle.crib_game.proofs.JudgedWalks.{acts_before, one_more, walk_ends, walk_goes_on, walk_next, walk_played, walk_shows, walk_stops}
use Rattle.crib_game.proofs.replaying.judge.judge_acts.Goals as goal

pub loop-act-init : goal.loop-act-init
loop-act-init g c = record {
  walks = record { judged = judged_start c.new-walk.result c.new-walk.ensures.stands c.new-walk.ensures.held; counted = λ _. 0 };
  followed = c.requires.follower;
}

pub returns-in-Some-clause-refused : goal.returns-in-Some-clause-refused
returns-in-Some-clause-refused g c =
    let walks = c.loop-act.invariant.walks in
    let can = c.requires.cards in
    let inside = c.loop-act-test.true in
    let remarked = c.remark-remark.ensures _ _ _ c.loop-act.invariant.followed (c.played_at-played.ensures ∙ walk_played walks can inside) in
    walk_stops walks can inside c.act-item.is remarked c.fault.ensures c.in-Some.is

pub take-requires-clause-may : goal.take-requires-clause-may
take-requires-clause-may g c =
    let walks = c.loop-act.invariant.walks in
    let can = c.requires.cards in
    let inside = c.loop-act-test.true in
    let remarked = c.remark-remark.ensures _ _ _ c.loop-act.invariant.followed (c.played_at-played.ensures ∙ walk_played walks can inside) in
    walk_shows walks can inside c.act-item.is remarked c.fault.ensures c.in_default.is

pub loop-act-preserved : goal.loop-act-preserved
loop-act-preserved g c =
    let walks = c.loop-act.invariant.walks in
    let can = c.requires.cards in
    let inside = c.loop-act-test.true in
    let at = c.act-item.is in
    let followed = c.loop-act.invariant.followed in
    let remarked = c.remark-remark.ensures _ _ _ followed (c.played_at-played.ensures ∙ walk_played walks can inside) in
    let stands = c.take.ensures.stands _ _ walks.judged.stands in
    let points = c.take.ensures.points _ _ walks.judged.stands in
    let next = walk_next walks can inside at remarked c.fault.ensures c.in_default.is c.take.new.self stands
    (c.is_some-is_played.ensures ∙ ap is_some c.played_at-played.ensures) c.take.ensures.act c.take.ensures.count points c.take.ensures.scores in
    let H : List Act → Type 0 = λ xs. g.F.Follower.has_followed c.args.follower.now c.take-in-loop-act.new.self c.args.problem.now xs in
    record {
      walks = walk_goes_on walks can inside at remarked c.fault.ensures c.in_default.is c.take.new.self stands c.take.ensures.held;
      followed = subst H (one_more c.args.acts.now c.loop-act.act-index c.act-item.result inside at) (c.take-in-loop-act.ensures _ _ _ followed next);
    }

pub returns-clause-judged : goal.returns-clause-judged
returns-clause-judged g c = walk_ends c.loop-act.invariant.walks c.loop-act-test.false

pub overflow_add-number : goal.overflow_add-number
overflow_add-number g c = let counted = c.loop-act.invariant.walks.counted in omega (arith, counted)

pub take-requires-clause-asked : goal.take-requires-clause-asked
take-requires-clause-asked g c = λ over.
    let none = first_none c.remark-remark.result (is_over c.loop-act.walk.round.asked) _ _ _ (sym c.fault.ensures ∙ c.in_default.is) in
    both_ways _ none.1 (ap is_over over)

pub take-requires-in-loop-act : goal.take-requires-in-loop-act
take-requires-in-loop-act g c =
    let long = length_before c.args.acts.now c.loop-act.act-index c.loop-act-test.true in
    (c.args.follower.now, c.args.problem.now, acts_before c.args.acts.now c.loop-act.act-index, c.loop-act.invariant.followed, omega (arith, long))

pub returns-clause-followed : goal.returns-clause-followed
returns-clause-followed g c =
    let H : List Act → Type 0 = λ xs. g.F.Follower.has_followed c.args.follower.now c.loop-act.follower c.args.problem.now (reverse xs) in
    subst H (take_all c.loop-act.act-index c.args.acts.now c.loop-act-test.false) c.loop-act.invariant.followed
