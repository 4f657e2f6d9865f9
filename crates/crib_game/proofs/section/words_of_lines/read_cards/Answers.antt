use Rattle.std.proofs.Common.{◌+◌, take, Ok, ap, ◌∙◌, arith}
use Rattle.std.proofs.lemmas.List.{take_all, take_more_set}
use Rattle.std.proofs.Math.ListN.{drop_of_length-le}
use Rattle.std.proofs.lemmas.Result.{err_from_is_err_and}
use Rattle.crib_text.specs.Lines.{line_of}
use Rattle.crib_text.proofs.SectionLemmas.{drop_get}
use Rattle.crib_game.specs.Reading.{cards_in_line}
use Rattle.crib_game.proofs.LineLemmas.{goes_on, stops, all_read}
use Rattle.crib_game.proofs.section.words_of_lines.read_cards.Goals as goal

pub returns-in_err-cards : goal.returns-in_err-cards
unfolding cards_in_line
returns-in_err-cards c =
    let p = err_from_is_err_and c.from_residual-in_err-cards.result c.from_residual-in_err-cards.ensures.1 in
    let next = drop_get (line_of c.args.line.now).words (c.loop-i.i + 1) _ c.word_at.ensures in
    rw (p.1, p.2, c.in_ok-check_keyword.ensures.exact) (stops (take c.loop-i.i c.loop-i.cards) _ _ c.loop-i.invariant.so_far _ _ _ next c.in_err-cards.ensures)

pub loop-i-preserved : goal.loop-i-preserved
loop-i-preserved c =
    let next = drop_get (line_of c.args.line.now).words (c.loop-i.i + 1) _ c.word_at.ensures in
    let more = take_more_set c.loop-i.cards c.loop-i.i c.in_ok-cards.field-0 (omega arith) in
    record { so_far = rw more (goes_on (take c.loop-i.i c.loop-i.cards) _ _ c.loop-i.invariant.so_far _ _ _ next c.in_ok-cards.ensures) }

pub returns : goal.returns
unfolding cards_in_line
returns c =
    let none = drop_of_length-le (line_of c.args.line.now).words {i = c.loop-i.i + 1} (omega (arith, c.in_ok-check_keyword.ensures.len)) in
    rw c.in_ok-check_keyword.ensures.exact
    (all_read (take c.loop-i.i c.loop-i.cards) _ _ c.loop-i.invariant.so_far none ∙ ap Ok (take_all c.loop-i.i c.loop-i.cards (omega arith)))
