use Rattle.std.proofs.Common.{rules, ◌≡◌, ℕ, ◌<◌, ◌≤◌, List, length, None, take, refl, sym, ap, ◌∙◌, arith}
use Rattle.std.proofs.lemmas.List.{drop_all}
use Rattle.crib_play.specs.History.{Own, Theirs}
use Rattle.crib_search.proofs.FoundBySide.{take_letter}
use Rattle.crib_search.proofs.FoundAfterTurns.{goes_on, over_found, own_go, own_tried, tried_some, tried_next, branch_end, branch_after}
use Rattle.crib_search.proofs.FoundAfterTurns.{branches_more, theirs_none, theirs_some, branches_named, ok_map}
use Rattle.crib_search.proofs.FoundAfterTurns.{answer_earlier, answers_kept, later_trans, later_nodes, after_turn}
use Rattle.crib_search.proofs.CardsToTry.{has_at, none_fits}
use Rattle.crib_search.proofs.search.Search.+search.Goals as goal

-- ---- the deal is done
pub search-returns-in-Over-clause-found : goal.search-returns-in-Over-clause-found
search-returns-in-Over-clause-found g t c =
    rw c.then_some.ensures (over_found _ _ _ (sym c.in-Over.ensures) c.is_reached-reached.result c.is_reached-reached.ensures.reached)

pub search-search_own-requires : goal.search-search_own-requires
search-search_own-requires g t c κs within =
    (omega arith, (within, record { good = c.requires.good; here = c.requires.here; asked = sym c.in-Owner.ensures }))

pub search-search_theirs-requires : goal.search-search_theirs-requires
search-search_theirs-requires g t c κs within =
    (omega arith, (within, record { good = c.requires.good; here = c.requires.here; asked = sym c.in-Opponent.ensures }))

-- ---- one turn further
pub after_own-search-requires : goal.after_own-search-requires
after_own-search-requires g t c κs within =
    let on = goes_on c.args.know.now c.copy-next.result c.did.new.self (Own c.args.what.now) c.copy-next.ensures c.did.ensures c.args.problem.now
    c.requires.here in
    (omega (arith, on.1), (within, (c.requires.good, on.0)))

pub after_own-returns-clause-found : goal.after_own-returns-clause-found
after_own-returns-clause-found g t c =
    ok_map c.search.result _ _ (after_turn _ _ _ c.did.new.self (Own c.args.what.now) ((rw c.copy-next.ensures at c.did.ensures) c.args.problem.now))
    c.search.ensures.found

pub branch-saw-requires : goal.branch-saw-requires
branch-saw-requires g t c = rw c.copy-next.ensures (c.can_show.ensures.shown c.if-not-can_show.false)

pub branch-search-requires : goal.branch-search-requires
branch-search-requires g t c κs within =
    let on = goes_on c.args.know.now c.copy-next.result c.saw.new.self (Theirs c.args.letter.now) c.copy-next.ensures c.saw.ensures c.args.problem.now
    c.requires.here in
    (omega (arith, on.1), (within, (c.requires.good, on.0)))

pub branch-returns-then-not-can_show-clause-found : goal.branch-returns-then-not-can_show-clause-found
branch-returns-then-not-can_show-clause-found g t c = branch_end _ _ _ _ c.can_show.result (c.can_show.ensures.exact c.args.problem.now) c.if-not-can_show.true

pub branch-returns-clause-found : goal.branch-returns-clause-found
branch-returns-clause-found g t c =
    ok_map c.search.result _ _
    (λ found answer. branch_after _ _ _ _ c.can_show.result (c.can_show.ensures.exact c.args.problem.now) c.if-not-can_show.false found
    (after_turn _ _ _ c.saw.new.self (Theirs c.args.letter.now) ((rw c.copy-next.ensures at c.saw.ensures) c.args.problem.now) found answer))
    c.search.ensures.found

-- ---- the owner
pub search_own-after_own-requires : goal.search_own-after_own-requires
search_own-after_own-requires g t c κs within =
    let none = none_fits c.args.know.now c.args.know.now c.args.problem.now c.requires.here.0 c.requires.here.1 refl
    (sym (c.options-cards.ensures.cards c.requires.here.0 c.requires.here.1) ∙ ap (λ (len : ℕ). take len c.options-cards.result.0) c.if-len-eq0.true) in
    (omega arith, (within, (c.requires.good, (c.requires.here, (c.requires.asked, none)))))

pub search_own-returns-then-len-eq0-clause-found : goal.search_own-returns-then-len-eq0-clause-found
search_own-returns-then-len-eq0-clause-found g t c =
    ok_map c.after_own.result _ _
    (λ found. own_go _ _ _ c.requires.asked found
    (λ history knows. sym (c.options-cards.ensures.cards history knows) ∙ ap (λ (len : ℕ). take len c.options-cards.result.0) c.if-len-eq0.true))
    c.after_own.ensures.found

pub search_own-loop-card-init : goal.search_own-loop-card-init
search_own-loop-card-init g t c = record {
  later = record { good = c.requires.good; more = λ index draft_node there. there };
  tried = λ draft_nodes found tried. tried;
}

pub search_own-after_own-requires-in-loop-card : goal.search_own-after_own-requires-in-loop-card
search_own-after_own-requires-in-loop-card g t c κs within =
    let playable = c.options-cards.ensures.playable c.card-item.result
    (has_at _ c.loop-card.card-index c.card-item.result (omega (arith, c.options-cards.ensures.whole, c.loop-card-test.true)) c.card-item.is) in
    (omega arith, (within, (c.loop-card.invariant.later.good, (c.requires.here, (c.requires.asked, playable.0, playable.1)))))

pub search_own-returns-in_err-next-clause-later : goal.search_own-returns-in_err-next-clause-later
search_own-returns-in_err-next-clause-later g t c = search (rules, later_trans)

pub search_own-place_of-requires : goal.search_own-place_of-requires
search_own-place_of-requires g t c = answer_earlier _ _ _ _ c.in-Some.next c.requires.here (rw c.in-Some.is at c.in_ok-next.ensures.found)

pub search_own-returns-in_err-place-clause-later : goal.search_own-returns-in_err-place-clause-later
search_own-returns-in_err-place-clause-later g t c = search (rules, later_trans, later_nodes)

pub search_own-returns-in-Some-clause-later : goal.search_own-returns-in-Some-clause-later
search_own-returns-in-Some-clause-later g t c = search (rules, later_trans, later_nodes)

pub search_own-returns-in-Some-clause-found : goal.search_own-returns-in-Some-clause-found
search_own-returns-in-Some-clause-found g t c =
    let cards : List ℕ = take c.options-cards.result.1 c.options-cards.result.0 in
    let within : c.loop-card.card-index < length cards = omega (arith, c.options-cards.ensures.whole, c.loop-card-test.true) in
    own_tried _ _ _ c.requires.asked _ cards (omega (arith, within)) c.options-cards.ensures.cards
    (c.loop-card.invariant.tried _ _
    (tried_some _ _ _ cards c.loop-card.card-index c.card-item.result within c.card-item.is _ c.place_of.ensures.kept c.in-Some.next c.in_ok-place.place
    (rw c.in-Some.is at c.in_ok-next.ensures.found) c.in_ok-place.ensures.node))

pub search_own-loop-card-preserved : goal.search_own-loop-card-preserved
search_own-loop-card-preserved g t c =
    let within : c.loop-card.card-index < length (take c.options-cards.result.1 c.options-cards.result.0) =
    omega (arith, c.options-cards.ensures.whole, c.loop-card-test.true) in
    record {
      later = search (rules, later_trans);
      tried = λ draft_nodes found tried. c.loop-card.invariant.tried draft_nodes found
          (tried_next _ _ _ _ c.loop-card.card-index c.card-item.result within c.card-item.is _ found (rw c.in_default.is at c.in_ok-next.ensures.found) tried);
    }

pub search_own-returns-clause-found : goal.search_own-returns-clause-found
search_own-returns-clause-found g t c =
    let cards : List ℕ = take c.options-cards.result.1 c.options-cards.result.0 in
    let end : length cards ≤ c.loop-card.card-index = omega (arith, c.options-cards.ensures.whole, c.loop-card-test.false) in
    own_tried _ c.loop-card.self.nodes _ c.requires.asked _ cards (omega (arith, c.options-cards.ensures.whole, c.if-len-eq0.false))
    c.options-cards.ensures.cards
    (c.loop-card.invariant.tried _ _ (rw (drop_all c.loop-card.card-index cards end) (record { each = λ history more knows less. (None, refl, refl) })))

-- ---- the opponent
pub search_theirs-returns-in-Some-clause-found : goal.search_theirs-returns-in-Some-clause-found
search_theirs-returns-in-Some-clause-found g t c = c.requires.good.answers.each c.args.know.now c.in-Some.found c.requires.here (sym c.in-Some.ensures)

pub search_theirs-search_all-requires : goal.search_theirs-search_all-requires
search_theirs-search_all-requires g t c κs within = (omega arith, (within, c.requires))

pub search_theirs-returns-clause-later : goal.search_theirs-returns-clause-later
search_theirs-returns-clause-later g t c =
    let answers = answers_kept _ _ _ _ _ _ _ c.copy.ensures c.requires.here c.in_ok-found.ensures.found c.search_all.ensures.later.good.answers
    c.keep.ensures in
    search (rules, answers)

pub search_all-returns-in_default-clause-found : goal.search_all-returns-in_default-clause-found
search_all-returns-in_default-clause-found g t c = theirs_none _ _ _ c.requires.asked c.at-letter.result (rw c.in_default.is at c.in_ok-next.ensures.found)

pub search_all-returns-in_err-next-clause-later : goal.search_all-returns-in_err-next-clause-later
search_all-returns-in_err-next-clause-later g t c = later_trans _ _ _ c.loop-index.invariant.later _ c.branch-self.ensures.later

pub search_all-returns-in_default-clause-later : goal.search_all-returns-in_default-clause-later
search_all-returns-in_default-clause-later g t c = later_trans _ _ _ c.loop-index.invariant.later _ c.branch-self.ensures.later

pub search_all-branch-self-requires : goal.search_all-branch-self-requires
search_all-branch-self-requires g t c κs within = (omega arith, (within, (c.loop-index.invariant.later.good, c.requires.here)))

pub search_all-loop-index-preserved : goal.search_all-loop-index-preserved
search_all-loop-index-preserved g t c = record {
  later = later_trans _ _ _ c.loop-index.invariant.later _ c.branch-self.ensures.later;
  count = omega (arith, c.push.ensures.len, c.loop-index.invariant.count);
  branches = rw (take_letter c.at-letter.result c.loop-index.index c.at-letter.ensures.valid c.at-letter.ensures.index, c.push.ensures.items)
      (branches_more _ _ _ c.branch-self.ensures.later.more _ _ _ _ c.in-Some.next c.loop-index.invariant.branches
      (rw c.in-Some.is at c.in_ok-next.ensures.found));
}

pub search_all-join-requires-clause-named : goal.search_all-join-requires-clause-named
search_all-join-requires-clause-named g t c =
    let end : c.loop-index.index ≡ 14 = omega (arith, c.loop-index.auto.index-end, c.loop-index-test.false) in
    branches_named _ _ _ _ _ c.deref.ensures.0 (rw end at c.loop-index.invariant.branches) c.requires.here

pub search_all-returns-in_err-draft_place-clause-later : goal.search_all-returns-in_err-draft_place-clause-later
search_all-returns-in_err-draft_place-clause-later g t c = search (rules, later_nodes)

pub search_all-returns-clause-later : goal.search_all-returns-clause-later
search_all-returns-clause-later g t c = search (rules, later_nodes)

pub search_all-returns-clause-found : goal.search_all-returns-clause-found
search_all-returns-clause-found g t c =
    let end : c.loop-index.index ≡ 14 = omega (arith, c.loop-index.auto.index-end, c.loop-index-test.false) in
    theirs_some _ _ _ _ _ c.deref.ensures.0 (rw end at c.loop-index.invariant.branches) _ c.in_ok-draft_place.draft_place c.requires.asked
    c.in_ok-draft_place.ensures.joined
