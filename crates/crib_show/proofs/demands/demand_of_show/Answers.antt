use Rattle.std.proofs.Common.{ap, arith}
use Rattle.std.proofs.lemmas.Bool.Decides.{nat_tests}
use Rattle.crib_cards.specs.declared.sides.Scores.{Scores}
use Rattle.crib_show.proofs.ShowDemands.{dealer_met, pone_met, show_lost, show_reached}
use Rattle.crib_show.proofs.demands.demand_of_show.Goals as goal

pub returns-then-scores-target-clause-show : goal.returns-then-scores-target-clause-show
returns-then-scores-target-clause-show c full show = show_reached show c.if-scores-target.true (c.none.ensures _ _ show.few)

pub returns-then-scores-ge-GAME_HOLE-clause-show : goal.returns-then-scores-ge-GAME_HOLE-clause-show
returns-then-scores-ge-GAME_HOLE-clause-show c full show =
    show_lost show c.if-scores-target.false c.if-scores-ge-GAME_HOLE.true (c.impossible.ensures _ _)

pub returns-in-Opponent-clause-show : goal.returns-in-Opponent-clause-show
returns-in-Opponent-clause-show c full show =
    pone_met show c.if-scores-target.false c.if-scores-ge-GAME_HOLE.false c.in-Opponent.is
    (grind (arith, nat_tests, c, ap (λ (s : Scores). s.owner) c.with-counted.ensures, c.none-in-Opponent.ensures _ _ show.few))

pub returns-in-Opponent-2-clause-show : goal.returns-in-Opponent-2-clause-show
returns-in-Opponent-2-clause-show c full show =
    pone_met show c.if-scores-target.false c.if-scores-ge-GAME_HOLE.false c.in-Opponent-2.is
    (grind (arith, nat_tests, c, ap (λ (s : Scores). s.owner) c.with-counted.ensures, c.if-is_to_stop.true, show.few))

pub returns-in-Opponent-3-clause-show : goal.returns-in-Opponent-3-clause-show
returns-in-Opponent-3-clause-show c full show =
    pone_met show c.if-scores-target.false c.if-scores-ge-GAME_HOLE.false c.in-Opponent-2.is
    (grind (arith, nat_tests, c, ap (λ (s : Scores). s.owner) c.with-counted.ensures, c.if-is_to_stop.false, c.impossible-in-Opponent-3.ensures))

pub returns-in-Owner-clause-show : goal.returns-in-Owner-clause-show
returns-in-Owner-clause-show c full show =
    dealer_met show c.if-scores-target.false c.if-scores-ge-GAME_HOLE.false c.in-Owner.is
    (grind (arith, nat_tests, c, ap (λ (s : Scores). s.owner) c.with-counted.ensures))

pub returns-in-Owner-2-clause-show : goal.returns-in-Owner-2-clause-show
returns-in-Owner-2-clause-show c full show =
    dealer_met show c.if-scores-target.false c.if-scores-ge-GAME_HOLE.false c.in-Owner-2.is
    (grind (arith, nat_tests, c, ap (λ (s : Scores). s.owner) c.with-counted.ensures, c.if-target-gt-GAME_HOLE.true, c.impossible-in-Owner-2.ensures))

pub returns-in-Owner-3-clause-show : goal.returns-in-Owner-3-clause-show
returns-in-Owner-3-clause-show c full show =
    dealer_met show c.if-scores-target.false c.if-scores-ge-GAME_HOLE.false c.in-Owner-2.is
    (grind (arith, nat_tests, c, ap (λ (s : Scores). s.owner) c.with-counted.ensures, c.if-target-gt-GAME_HOLE.false, show.few))
