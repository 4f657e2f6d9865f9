use Rattle.std.proofs.Common.{◌≡◌, ◌+◌, ◌≤◌, ℕ, Bool, List, [], ◌∷◌, Option, Some, None, length, sym, ap, subst, ◌∙◌, arith}
use Rattle.std.specs.Prelude.{IfNone, IfSome, IsTrue}
use Rattle.std.proofs.lemmas.Bool.{both_ways, leb-true}
use Rattle.crib_cards.specs.Sets.{IsCardSet, first_of_list, has, set_without}
use Rattle.crib_cards.specs.declared.letters.Letter.TheVariants.{Seen}
use Rattle.crib_cards.specs.declared.sides.Side.TheVariants.{Owner, Opponent}
use Rattle.crib_cards.specs.declared.moves.Move.TheVariants as move
use Rattle.crib_cards.proofs.LowestCard.{in_set, lowest_none, lowest_split}
use Rattle.crib_cards.proofs.SetCounts.{length-set_without}
use Rattle.crib_problem.specs.Setup.{Setup}
use Rattle.crib_know.specs.Knowledge.{Knowledge, played_events}
use Rattle.crib_know.specs.Hidden.{CanShow, CanShowAt}
use Rattle.crib_game.specs.declared.section.game.Game.{Game}
use Rattle.crib_play.specs.Fitting.{fits_at}
use Rattle.crib_play.specs.Record.{count_of}
use Rattle.crib_play.specs.Standing.{Standing}
use Rattle.crib_search.proofs.FoundAfterTurns.{ok_map}
use Rattle.crib_why.specs.Answer.{SomeIsSure}
use Rattle.crib_why.specs.Private.Search.{AreFew, orders, own_count}
use Rattle.crib_why.proofs.FewGames.{same_after_go, same_after_theirs}
use Rattle.crib_why.proofs.Found.{AreTried, found_before, found_longer, some_none, tried_none, tried_more, tried_all}
use Rattle.crib_why.proofs.Joined.{AreFor, all_few, first_left, for_all, for_more, for_none, for_skipped}
use Rattle.crib_why.proofs.SureAfter.{sure_if_winnable, sure_if_refused, sure_own_go, sure_theirs}
use Rattle.crib_why.proofs.Turns.{asked_is, can_some, may_left, never_over, no_card, no_fit, sure_own_card}
use Rattle.crib_why.proofs.search.+refute.Goals as goal

pub refute-unreachable-requires : goal.refute-unreachable-requires
refute-unreachable-requires g t c = never_over c.requires (sym c.turn.ensures ∙ c.in-Over.is)

-- ---- one turn more
pub refute_longer-returns-in_default-clause-right : goal.refute_longer-returns-in_default-clause-right
refute_longer-returns-in_default-clause-right g t c =
    sure_if_refused c.args.problem.now c.requires.setup c.args.act.now c.requires.going (some_none _ _ c.in_default.ensures.exact)

pub refute_longer-returns-then-branch-clause-right : goal.refute_longer-returns-then-branch-clause-right
refute_longer-returns-then-branch-clause-right g t c =
    subst SomeIsSure c.in-Ok.ensures.exact.1 (sure_if_winnable c.in-Ok.longer (c.in_ok-is_winnable.ensures.0 c.if-branch.true))

pub refute_longer-returns-clause-right : goal.refute_longer-returns-clause-right
refute_longer-returns-clause-right g t c =
    ok_map c.refute.result _ _
    (λ found is. found_longer c.args.problem.now c.in-Ok.longer c.args.act.now.side c.args.act.now.what found c.in-Ok.ensures.exact.1 is) c.refute.ensures.right

pub refute_longer-returns-clause-few : goal.refute_longer-returns-clause-few
refute_longer-returns-clause-few g t c =
    ok_map c.refute.result _ _
    (λ found is. subst (λ (count : ℕ). AreFew count found) (ap own_count c.in-Ok.ensures.exact.1) is) c.refute.ensures.few

-- ---- the owner
pub refute_own-returns-then-must_go-clause-right : goal.refute_own-returns-then-must_go-clause-right
refute_own-returns-then-must_go-clause-right g t c =
    let knows = c.requires.knows in
    ok_map c.refute_with.result _ _
    (λ found is. found_before c.args.problem.now Owner move.Go found (λ games refutes. refutes)
    (sure_own_go c.args.problem.now knows.setup (sym (asked_is knows) ∙ c.requires.asked) (no_card knows (c.must_go.ensures.exact.0 c.if-must_go.true).1)) is)
    c.refute_with.ensures.right

-- the walk through the cards that are left
rest_is : {cards rest : List ℕ} {card : ℕ} {found : Option ℕ} → IsCardSet cards → found ≡ first_of_list cards → found ≡ Some card →
    rest ≡ set_without cards card → cards ≡ card ∷ rest
rest_is set first is without = lowest_split _ _ _ set (sym is ∙ first) without

fits_here : {count other : ℕ} {fit : Bool} (card : ℕ) → count ≡ other → fits_at count card ≡ fit → fits_at other card ≡ fit
fits_here {count} {other} {fit} card same is = subst (λ (n : ℕ). fits_at n card ≡ fit) same is

none_left : {problem : Setup} {cards : List ℕ} {games : List Game} {found : Option ℕ} → found ≡ first_of_list cards → found ≡ None →
    AreFor problem cards games → AreFor problem [] games
none_left {problem} {cards} {games} first none are = subst (λ (rest : List ℕ). AreFor problem rest games) (lowest_none cards (sym none ∙ first)) are

pub refute_own-loop-card-init : goal.refute_own-loop-card-init
refute_own-loop-card-init g t c =
    let knows = c.requires.knows in
    let left = c.own_left-rest.ensures ∙ ap (λ (k : Knowledge). k.own_left) knows.knowledge in
    rw (left, c.new-games.ensures.items) (for_none c.args.problem.now (may_left knows))

pub refute_own-refute_with-requires-then-fits : goal.refute_own-refute_with-requires-then-fits
refute_own-refute_with-requires-then-fits g t c κs within =
    let knows = c.requires.knows in
    let all = rest_is c.lowest.ensures.set c.lowest.ensures.first c.in-Some.is c.without-rest.ensures in
    let fit = fits_here _ (c.count.ensures.value ∙ ap (λ (r : Standing). count_of r.pile) c.round.ensures) (sym c.fits.ensures ∙ c.if-fits.true) in
    (omega arith, (within, ((c.requires.asked, first_left knows c.loop-card.invariant all, leb-true _ 31 fit), knows)))

pub refute_own-loop-card-smaller : goal.refute_own-loop-card-smaller
refute_own-loop-card-smaller g t c =
    let all = ap length (rest_is c.lowest.ensures.set c.lowest.ensures.first c.in-Some.is c.without-rest.ensures) in
    omega (arith, all)

pub refute_own-loop-card-smaller-in-Continue-branch-3 : goal.refute_own-loop-card-smaller-in-Continue-branch-3
refute_own-loop-card-smaller-in-Continue-branch-3 g t c =
    let all = ap length (rest_is c.lowest.ensures.set c.lowest.ensures.first c.in-Some.is c.without-rest.ensures) in
    omega (arith, all)

pub refute_own-returns-in_default-2-clause-right : goal.refute_own-returns-in_default-2-clause-right
refute_own-returns-in_default-2-clause-right g t c =
    let knows = c.requires.knows in
    let all = rest_is c.lowest.ensures.set c.lowest.ensures.first c.in-Some.is c.without-rest.ensures in
    let fit = fits_here _ (c.count.ensures.value ∙ ap (λ (r : Standing). count_of r.pile) c.round.ensures) (sym c.fits.ensures ∙ c.if-fits.true) in
    sure_own_card knows c.requires.asked _ (first_left knows c.loop-card.invariant all) fit (rw c.in_default-2.is at c.in_ok-more.ensures.right)

-- a card after which games refute
pub refute_own-loop-card-preserved-in-Continue-branch-3 : goal.refute_own-loop-card-preserved-in-Continue-branch-3
refute_own-loop-card-preserved-in-Continue-branch-3 g t c =
    let problem = c.args.problem.now in
    let all = rest_is c.lowest.ensures.set c.lowest.ensures.first c.in-Some.is c.without-rest.ensures in
    let are = subst (λ (rest : List ℕ). AreFor problem rest c.loop-card.games.items) all c.loop-card.invariant in
    rw c.in_ok-join.ensures
    (for_more problem _ _ c.loop-card.games.items are c.in-Some-2.more.items (rw c.in-Some-2.is at c.in_ok-more.ensures.right)
    (rw c.in-Some-2.is at c.in_ok-more.ensures.few))

-- a card that does not fit
pub refute_own-loop-card-preserved : goal.refute_own-loop-card-preserved
refute_own-loop-card-preserved g t c =
    let problem = c.args.problem.now in
    let all = rest_is c.lowest.ensures.set c.lowest.ensures.first c.in-Some.is c.without-rest.ensures in
    let are = subst (λ (rest : List ℕ). AreFor problem rest c.loop-card.games.items) all c.loop-card.invariant in
    let out = fits_here _ (c.count.ensures.value ∙ ap (λ (r : Standing). count_of r.pile) c.round.ensures) (sym c.fits.ensures ∙ c.if-fits.false) in
    for_skipped problem _ _ c.loop-card.games.items are (no_fit c.requires.knows _ out)

pub refute_own-returns-clause-right : goal.refute_own-returns-clause-right
refute_own-returns-clause-right g t c =
    let some = can_some c.requires.knows c.requires.asked c.must_go.result c.must_go.ensures.exact c.if-must_go.false in
    for_all c.args.problem.now c.loop-card.games.items (none_left c.lowest.ensures.first c.in_default.is c.loop-card.invariant) some.0 some.1

pub refute_own-returns-clause-few : goal.refute_own-returns-clause-few
refute_own-returns-clause-few g t c =
    all_few c.args.problem.now c.loop-card.games.items (none_left c.lowest.ensures.first c.in_default.is c.loop-card.invariant)

pub refute_own-returns-then-must_go-clause-few : goal.refute_own-returns-then-must_go-clause-few
refute_own-returns-then-must_go-clause-few g t c =
    let problem = c.args.problem.now in
    ok_map c.refute_with.result _ _ (λ found is. subst (λ (count : ℕ). AreFew count found) (same_after_go problem) is) c.refute_with.ensures.few

-- ---- the opponent
one_less : (cards : List ℕ) (card : ℕ) (found : Option ℕ) → IsCardSet cards → found ≡ Some card → IfSome found (λ one. IsTrue (has cards one)) →
    length cards ≡ length (set_without cards card) + 1
one_less cards card found set is held =
    let here = subst (λ (one : Option ℕ). IfSome one (λ other. IsTrue (has cards other))) is held in
    length-set_without cards card set (in_set cards card set here) here

pub refute_theirs-loop-card-init : goal.refute_theirs-loop-card-init
refute_theirs-loop-card-init g t c = subst (AreTried c.args.problem.now) (sym c.full-rest.ensures) (tried_none c.args.problem.now)

pub refute_theirs-refute_with-requires : goal.refute_theirs-refute_with-requires
refute_theirs-refute_with-requires g t c κs within = (
  omega arith,
  (
    within,
    (
      subst (λ (rank : ℕ). CanShowAt c.args.know.now (Seen rank)) c.rank.ensures.value (c.can_play.ensures.shown c.if-can_play.true),
      c.requires.knows,
    ),
  ),
)

pub refute_theirs-loop-card-smaller : goal.refute_theirs-loop-card-smaller
refute_theirs-loop-card-smaller g t c =
    let shorter = one_less c.loop-card.rest c.in-Some.card c.first_to_try.result c.first_to_try.ensures.set c.in-Some.is c.first_to_try.ensures.held in
    omega (arith, shorter, ap length c.without-rest.ensures)

pub refute_theirs-loop-card-smaller-in_default-2 : goal.refute_theirs-loop-card-smaller-in_default-2
refute_theirs-loop-card-smaller-in_default-2 g t c =
    let shorter = one_less c.loop-card.rest c.in-Some.card c.first_to_try.result c.first_to_try.ensures.set c.in-Some.is c.first_to_try.ensures.held in
    omega (arith, shorter, ap length c.without-rest.ensures)

pub refute_theirs-loop-card-preserved : goal.refute_theirs-loop-card-preserved
refute_theirs-loop-card-preserved g t c =
    let problem = c.args.problem.now in
    tried_more problem c.loop-card.rest c.without-rest.result c.in-Some.card c.without-rest.ensures c.loop-card.invariant
    (λ can. absurd (both_ways c.can_play.result c.if-can_play.false ((c.can_play.ensures.exact problem (played_events problem) c.requires.knows).1
    (subst (λ (rank : ℕ). CanShow problem (played_events problem) (Seen rank)) (sym c.rank.ensures.value) can))))

pub refute_theirs-loop-card-preserved-in_default-2 : goal.refute_theirs-loop-card-preserved-in_default-2
refute_theirs-loop-card-preserved-in_default-2 g t c =
    tried_more c.args.problem.now c.loop-card.rest c.without-rest.result c.in-Some.card c.without-rest.ensures c.loop-card.invariant
    (λ can. rw c.in_default-2.is at c.in_ok-games.ensures.right)

pub refute_theirs-returns-then-not-can_go-clause-right : goal.refute_theirs-returns-then-not-can_go-clause-right
refute_theirs-returns-then-not-can_go-clause-right g t c =
    let problem = c.args.problem.now in
    let knows = c.requires.knows in
    let none = subst (λ (found : Option ℕ). IfNone found (c.loop-card.rest ≡ [])) c.in_default.is c.first_to_try.ensures.none in
    sure_theirs problem knows.setup (sym (asked_is knows) ∙ c.requires.asked) (tried_all problem (subst (AreTried problem) none c.loop-card.invariant))
    (λ can. absurd (both_ways c.can_go.result c.if-not-can_go.true ((c.can_go.ensures.exact problem (played_events problem) knows).1 can)))

pub refute_theirs-returns-clause-right : goal.refute_theirs-returns-clause-right
refute_theirs-returns-clause-right g t c =
    let problem = c.args.problem.now in
    let knows = c.requires.knows in
    let none = subst (λ (found : Option ℕ). IfNone found (c.loop-card.rest ≡ [])) c.in_default.is c.first_to_try.ensures.none in
    ok_map c.refute_with-2.result _ _
    (λ found is. found_before problem Opponent move.Go found (λ games refutes. refutes)
    (λ sure. sure_theirs problem knows.setup (sym (asked_is knows) ∙ c.requires.asked)
    (tried_all problem (subst (AreTried problem) none c.loop-card.invariant)) (λ can. sure)) is)
    c.refute_with-2.ensures.right

pub refute_theirs-returns-in-Some-2-clause-few : goal.refute_theirs-returns-in-Some-2-clause-few
refute_theirs-returns-in-Some-2-clause-few g t c =
    subst (λ (count : ℕ). length c.in-Some-2.games.items ≤ orders count) (same_after_theirs c.args.problem.now (move.Card c.in-Some.card))
    (rw c.in-Some-2.is at c.in_ok-games.ensures.few)

pub refute_theirs-returns-clause-few : goal.refute_theirs-returns-clause-few
refute_theirs-returns-clause-few g t c =
    let problem = c.args.problem.now in
    ok_map c.refute_with-2.result _ _
    (λ found is. subst (λ (count : ℕ). AreFew count found) (same_after_theirs problem move.Go) is) c.refute_with-2.ensures.few

-- ---- with one turn more
pub refute_with-refute_ended-requires-clause-knows : goal.refute_with-refute_ended-requires-clause-knows
refute_with-refute_ended-requires-clause-knows g t c = c.with_turn-next.ensures c.args.problem.now (played_events c.args.problem.now) c.requires.knows

pub refute_with-refute_longer-requires : goal.refute_with-refute_longer-requires
refute_with-refute_longer-requires g t c κs within =
    let next = c.with_turn-next.ensures c.args.problem.now (played_events c.args.problem.now) c.requires.knows in (
      omega arith,
      (
        within,
        (
          c.requires.knows.setup,
          λ over. c.in_default.not-Over (c.turn.ensures ∙ ap (λ (k : Knowledge). k.round.asked) next.knowledge ∙ over),
        ),
      ),
    )
