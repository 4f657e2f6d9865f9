use Rattle.std.proofs.Common.{◌≡◌, [], map, rules, ap, ◌∙◌}
use Rattle.crib_cards.specs.Cards.{rank_of}
use Rattle.crib_game_sheet.specs.GameShow.{plain_combinations}
use Rattle.crib_game_sheet.proofs.CountedCards.{all_listed, plain_listed}
use Rattle.crib_game_sheet.proofs.game.shows.counted_combinations.Goals as goal

pub returns : goal.returns
returns c =
    let one : c.as_slice.result.now ≡ map rank_of c.with_starter-all.result = search rules in
    let two : c.as_slice-2.result.now ≡ map rank_of c.with_starter-all.result = search rules in
    let three : c.as_slice-3.result.now ≡ map rank_of c.with_starter-all.result = search rules in
    let none : c.new-found.result.items ≡ [] = search rules in
    let plain = plain_listed _ _ _ _ one two three none c.put_choices.ensures.listed c.put_choices-2.ensures.listed c.put_choices-3.ensures.listed in
    all_listed c.args.crib c.args.cards.now c.args.starter (plain ∙ ap plain_combinations c.with_starter-all.ensures) c.put_flush.ensures.listed
    c.put_jack.ensures
