use Rattle.std.proofs.Common.{sym, ap, subst, ◌∙◌}
use Rattle.crib_play.specs.History.{Theirs, event_by}
use Rattle.crib_know.specs.Knowledge.{Knowledge}
use Rattle.crib_know.specs.Hidden.{CanDoAt, KnowsAfter}
use Rattle.crib_know.proofs.OwnCalls.{knows_as}
use Rattle.crib_why.proofs.Found.{come_own, come_theirs}
use Rattle.crib_why.proofs.search.with_turn.Goals as goal

pub did-requires : goal.did-requires
did-requires c =
    let what = c.args.act.now.what in
    subst (λ (know : Knowledge). CanDoAt know what) (sym c.copy-next.ensures) (come_own c.args.know.now what c.in-Owner.is c.requires)

pub saw-requires : goal.saw-requires
saw-requires c =
    let what = c.args.act.now.what in
    rw (c.copy-next.ensures, c.letter.ensures) (come_theirs c.args.know.now what c.in-Opponent.is c.requires)

pub returns-in-Owner : goal.returns-in-Owner
returns-in-Owner c = λ problem history knows.
    let what = c.args.act.now.what in
    knows_as _ problem history _ _ (ap (λ side. event_by side what) c.in-Owner.is)
    (c.did.ensures problem history (subst (λ (know : Knowledge). KnowsAfter know problem history) (sym c.copy-next.ensures) knows))

pub returns-in-Opponent : goal.returns-in-Opponent
returns-in-Opponent c = λ problem history knows.
    let what = c.args.act.now.what in
    knows_as _ problem history _ _ (ap (λ side. event_by side what) c.in-Opponent.is ∙ ap Theirs (sym c.letter.ensures))
    (c.saw.ensures problem history (subst (λ (know : Knowledge). KnowsAfter know problem history) (sym c.copy-next.ensures) knows))
