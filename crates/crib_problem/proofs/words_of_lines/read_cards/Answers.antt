use Rattle.std.proofs.Common.{◌+◌, take, Ok, sym, ap, ◌∙◌, arith}
use Rattle.std.proofs.lemmas.List.{take_all, take_more_set}
use Rattle.std.proofs.Math.ListN.{drop_of_length-le}
use Rattle.std.proofs.lemmas.Result.{err_from_is_err_and}
use Rattle.crib_text.specs.Lines.{line_of}
use Rattle.crib_text.proofs.SectionLemmas.{drop_get}
use Rattle.crib_problem.proofs.CardLemmas.{onto, onto_more, goes_on, stops, all_read, new_card_same, set_with_cons}
use Rattle.crib_problem.proofs.words_of_lines.read_cards.Goals as goal

pub returns-in_err-cards : goal.returns-in_err-cards
returns-in_err-cards c = λ listed known.
    let p = err_from_is_err_and c.from_residual.result c.from_residual.ensures.1 in
    let front = take c.loop-i.i c.loop-i.cards in
    let so_far = c.loop-i.invariant listed known in
    let next = drop_get (line_of c.args.line.now).words (c.loop-i.i + 1) _ c.word_at.ensures in
    let same = new_card_same _ (onto listed front) c.word_at.result.now so_far.set in
    rw (p.1, p.2) (stops listed front _ _ so_far.so_far _ _ _ next (sym same ∙ c.in_err-cards.ensures.card))

pub loop-i-preserved : goal.loop-i-preserved
loop-i-preserved c = λ listed known.
    let front = take c.loop-i.i c.loop-i.cards in
    let so_far = c.loop-i.invariant listed known in
    let next = drop_get (line_of c.args.line.now).words (c.loop-i.i + 1) _ c.word_at.ensures in
    let same = new_card_same _ (onto listed front) c.word_at.result.now so_far.set in
    let more = take_more_set c.loop-i.cards c.loop-i.i c.in_ok-cards.field-0 (omega arith) in
    record {
      set = rw (c.in_ok-cards.ensures.known, more, onto_more listed front c.in_ok-cards.field-0)
          (set_with_cons _ (onto listed front) c.in_ok-cards.field-0 so_far.set);
      so_far = rw more (goes_on listed front _ _ so_far.so_far _ _ _ next (sym same ∙ c.in_ok-cards.ensures.card));
    }

pub returns : goal.returns
returns c = λ listed known.
    let none = drop_of_length-le (line_of c.args.line.now).words {i = c.loop-i.i + 1} (omega arith) in
    all_read listed (take c.loop-i.i c.loop-i.cards) _ _ (c.loop-i.invariant listed known).so_far none
    ∙ ap Ok (take_all c.loop-i.i c.loop-i.cards (omega arith))
