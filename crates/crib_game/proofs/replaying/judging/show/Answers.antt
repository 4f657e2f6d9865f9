use Rattle.std.proofs.Common.{◌≡◌, ◌∷◌, sym, ap, subst, ◌∙◌}
use Rattle.crib_cards.specs.Letters.{letter_of}
use Rattle.crib_cards.specs.declared.letters.Letter.{Letter}
use Rattle.crib_cards.specs.declared.letters.Letter.TheVariants.{Seen}
use Rattle.crib_play.specs.Filled.{points_added}
use Rattle.crib_play.specs.Standing.{StandsFor}
use Rattle.crib_game.proofs.replaying.judging.show.Goals as goal

pub returns-in-Card-clause-stands : goal.returns-in-Card-clause-stands
returns-in-Card-clause-stands c = λ start seen after.
    let letter : Seen c.rank.result ≡ letter_of c.args.what = ap Seen c.rank.ensures.value ∙ ap letter_of (sym c.in-Card.is) in
    let S : Letter → Type 0 = λ l. StandsFor c.play.new.self start (l ∷ seen) in subst S letter (c.play.ensures.stands start seen after)

pub returns-in-Card-clause-points : goal.returns-in-Card-clause-points
returns-in-Card-clause-points c = λ start seen after.
    let letter : Seen c.rank.result ≡ letter_of c.args.what = ap Seen c.rank.ensures.value ∙ ap letter_of (sym c.in-Card.is) in
    c.play.ensures.points start seen after ∙ ap (λ (l : Letter). points_added start l seen) letter

pub returns-in-Go-clause-stands : goal.returns-in-Go-clause-stands
returns-in-Go-clause-stands c = λ start seen after.
    let S : Letter → Type 0 = λ l. StandsFor c.say_go.new.self start (l ∷ seen) in
    subst S (ap letter_of (sym c.in-Go.is)) (c.say_go.ensures.stands start seen after)

pub returns-in-Go-clause-points : goal.returns-in-Go-clause-points
returns-in-Go-clause-points c = λ start seen after.
    c.say_go.ensures.points start seen after ∙ ap (λ (l : Letter). points_added start l seen) (ap letter_of (sym c.in-Go.is))
