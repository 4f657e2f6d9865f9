use Rattle.std.proofs.Common.{◌≡◌, sym, subst, ◌∙◌}
use Rattle.crib_cards.specs.declared.moves.Move.{Move}
use Rattle.crib_play.specs.History.{Own}
use Rattle.crib_sure.specs.HistoryPlaces.{place_after_event}
use Rattle.crib_sure.proofs.PositionHistories.{stands_with}
use Rattle.crib_sure.proofs.turns.go_by_own.Goals as goal
use Rattle.crib_sure.proofs.turns.go_by_own.Goals.{in-Card, in-Go}

pub did-requires : goal.did-requires
did-requires g c = c.requires.0

pub returns : goal.returns
returns g c = λ problem history stands.
    let key = c.args.key.now in
    let P : Move → Type 0 = λ what. c.match-what.key ≡ place_after_event c.args.plan.now key.place (Own what) in
    stands_with stands (Own c.args.what.now) _ _ (c.did.ensures problem history stands.knows)
    (elim c.match-what.branch [
      | in-Card w ↦ subst P (sym w.in-Card.is) (w.key-is ∙ w.after_card-key.ensures.place)
      | in-Go w ↦ subst P (sym w.in-Go.is) w.key-is
    ])
    c.requires.1
