use Rattle.std.proofs.Common.{ℕ, List, ◌∷◌, [], ap, ◌∙◌}
use Rattle.std.proofs.lemmas.Result.{err_from_is_err_and}
use Rattle.crib_cards.specs.Sets.{set_with_all}
use Rattle.crib_cards.proofs.SetWalks.{set_with_all-set_of}
use Rattle.crib_problem.specs.Reading.{cards_in_line}
use Rattle.crib_problem.proofs.KnownLemmas.{one_known, known_set}
use Rattle.crib_problem.proofs.words_of_lines.thrown_of.Goals as goal

pub returns-in_err-read_cards : goal.returns-in_err-read_cards
unfolding cards_in_line
returns-in_err-read_cards c =
    let p = err_from_is_err_and c.from_residual-in_err-read_cards.result c.from_residual-in_err-read_cards.ensures.1 in
    let one = one_known c.new.result c.with.result c.args.starter c.new.ensures c.with.ensures in
    let known = known_set c.with_all-known.result (c.args.starter ∷ c.args.hold.now) (c.with_all-known.ensures
    ∙ ap (λ (set : List ℕ). set_with_all set c.args.hold.now) one ∙ set_with_all-set_of (c.args.starter ∷ []) c.args.hold.now) in
    rw (p.1, p.2, c.in_ok-check_keyword.ensures.exact) (c.in_err-read_cards.ensures (c.args.starter ∷ c.args.hold.now) known)

pub returns : goal.returns
unfolding cards_in_line
returns c =
    let one = one_known c.new.result c.with.result c.args.starter c.new.ensures c.with.ensures in
    let known = known_set c.with_all-known.result (c.args.starter ∷ c.args.hold.now) (c.with_all-known.ensures
    ∙ ap (λ (set : List ℕ). set_with_all set c.args.hold.now) one ∙ set_with_all-set_of (c.args.starter ∷ []) c.args.hold.now) in
    rw c.in_ok-check_keyword.ensures.exact (c.in_ok-read_cards.ensures (c.args.starter ∷ c.args.hold.now) known)
