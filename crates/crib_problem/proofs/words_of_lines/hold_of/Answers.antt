use Rattle.std.proofs.Common.{◌∷◌, [], refl}
use Rattle.std.proofs.lemmas.Result.{err_from_is_err_and}
use Rattle.crib_problem.specs.Reading.{cards_in_line}
use Rattle.crib_problem.proofs.KnownLemmas.{one_known, known_set}
use Rattle.crib_problem.proofs.words_of_lines.hold_of.Goals as goal

pub returns-in_err-check_keyword : goal.returns-in_err-check_keyword
unfolding cards_in_line
returns-in_err-check_keyword c =
    let p = err_from_is_err_and c.from_residual.result c.from_residual.ensures.1 in rw (p.1, p.2, c.in_err-check_keyword.ensures.exact) refl

pub returns-in_err-read_cards : goal.returns-in_err-read_cards
unfolding cards_in_line
returns-in_err-read_cards c =
    let p = err_from_is_err_and c.from_residual-in_err-read_cards.result c.from_residual-in_err-read_cards.ensures.1 in
    let known = known_set c.with.result (c.args.starter ∷ []) (one_known c.new.result c.with.result c.args.starter c.new.ensures c.with.ensures) in
    rw (p.1, p.2, c.in_ok-check_keyword.ensures.exact) (c.in_err-read_cards.ensures (c.args.starter ∷ []) known)

pub returns : goal.returns
unfolding cards_in_line
returns c =
    let known = known_set c.with.result (c.args.starter ∷ []) (one_known c.new.result c.with.result c.args.starter c.new.ensures c.with.ensures) in
    rw c.in_ok-check_keyword.ensures.exact (c.in_ok-read_cards.ensures (c.args.starter ∷ []) known)
