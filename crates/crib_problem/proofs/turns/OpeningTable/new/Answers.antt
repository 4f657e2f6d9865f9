use Rattle.std.proofs.Common.{◌≡◌, ℕ, List, [], refl, ap, subst, ◌∙◌}
use Rattle.crib_cards.specs.Sets.{set_of, set_with_all}
use Rattle.crib_cards.proofs.SetWalks.{set_with_all-set_of}
use Rattle.crib_cards.specs.Start.{Start}
use Rattle.crib_play.specs.Standing.{StandsFor}
use Rattle.crib_problem.specs.Setup.{start_of, opening_basis_of}
use Rattle.crib_problem.proofs.KnownLemmas.{none_known}
use Rattle.crib_problem.proofs.TableLemmas.{table_new}
use Rattle.crib_problem.proofs.AskedHolds.{keeps_first}
use Rattle.crib_problem.proofs.turns.OpeningTable.new.Goals as goal

pub returns-clause-after : goal.returns-clause-after
returns-clause-after c =
    let start : record { dealer = c.dealer.result; scores = c.scores.result; target = c.target.result } ≡ start_of c.args.problem.now =
    (λ i. record { dealer = c.dealer.ensures i; scores = c.scores.ensures i; target = c.target.ensures.value i }) in
    let S : Start → Type 0 = λ s. StandsFor c.new.result s [] in
    table_new _ (opening_basis_of c.args.problem.now) (subst S start c.new.ensures)
    (c.with_all.ensures ∙ ap (λ (none : List ℕ). set_with_all none c.hold.result) (none_known c.new-2.result c.new-2.ensures)
    ∙ set_with_all-set_of [] c.hold.result ∙ ap set_of c.hold.ensures) c.known-seen.ensures.cards refl
    (keeps_first c.args.problem.now c.known-seen.ensures.setup)
