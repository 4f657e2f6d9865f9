use Rattle.std.proofs.Common.{◌≡◌, ◌∷◌, cond, ap, sym, subst, refl, ◌∙◌}
use Rattle.crib_cards.specs.Letters.{letter_of}
use Rattle.crib_cards.specs.declared.letters.Letter.{Letter}
use Rattle.crib_cards.specs.declared.letters.Letter.TheVariants.{Seen}
use Rattle.crib_play.specs.Legal.{letters_of}
use Rattle.crib_play.specs.History.{moves_of}
use Rattle.crib_play.specs.Standing.{StandsFor}
use Rattle.crib_cards.specs.Sides.{same_side}
use Rattle.crib_cards.specs.declared.sides.Side.TheVariants.{Opponent}
use Rattle.crib_play.specs.Least.{least_with_go}
use Rattle.crib_problem.proofs.TableLemmas.{taken_card, taken_go, shows_go}
use Rattle.crib_problem.proofs.turns.OpeningTable.take.Goals as goal

pub say_go-requires-clause-high : goal.say_go-requires-clause-high
say_go-requires-clause-high c = shows_go c.args.self.now c.requires.real c.args.act.now c.requires.may c.in-Go.is

pub returns-in-Card-clause-taken : goal.returns-in-Card-clause-taken
returns-in-Card-clause-taken c = λ basis before after.
    let act = c.args.act.now in
    let letter : Seen c.rank.result ≡ letter_of act.what = ap Seen c.rank.ensures.value ∙ ap letter_of (sym c.in-Card.is) in
    let S : Letter → Type 0 = λ l. StandsFor c.play.new.self basis.start (l ∷ letters_of (moves_of before)) in
    taken_card c.args.self.now _ basis before act after (subst S letter (c.play.ensures.stands basis.start (letters_of (moves_of before)) after.stands))
    c.requires.may c.in-Card.card c.in-Card.is c.without-self.ensures c.insert.ensures.set refl

pub returns-in-Go-clause-taken : goal.returns-in-Go-clause-taken
returns-in-Go-clause-taken c = λ basis before after.
    let act = c.args.act.now in
    let S : Letter → Type 0 = λ l. StandsFor c.say_go.new.self basis.start (l ∷ letters_of (moves_of before)) in
    taken_go c.args.self.now _ basis before act after
    (subst S (ap letter_of (sym c.in-Go.is)) (c.say_go.ensures.stands basis.start (letters_of (moves_of before)) after.stands))
    c.requires.may c.in-Go.is refl refl
    (c.least_after_go-self.ensures ∙ ap (λ n. cond (same_side act.side Opponent) (least_with_go n c.args.self.now.least) c.args.self.now.least)
    c.count.ensures.value)
