use Rattle.std.proofs.Common.{rules, ◌≡◌, not, sym, ap, ◌∙◌}
use Rattle.std.specs.List.{list_any}
use Rattle.std.proofs.lemmas.Bool.{not-true}
use denote.Enum.Bare.{same_true}
use Rattle.crib_play.specs.contracts.turns.Turn as turn_type
use Rattle.crib_play.specs.declared.turns.Turn.TheVariants as turns
use Rattle.crib_play.specs.Fitting.{fits_at}
use Rattle.crib_play.specs.Record.{count_of}
use Rattle.crib_know.proofs.know.Know.must_go.Goals as goal

pub returns-then-eq : goal.returns-then-eq
returns-then-eq c =
    let know = c.args.self.now in
    let any : c.any_fits.result ≡ list_any (fits_at (count_of know.round.pile)) know.own_left =
    c.any_fits.ensures ∙ (λ i. list_any (fits_at (c.count.ensures.value i)) c.self.inside.sight.own_left)
    ∙ (λ i. list_any (fits_at (count_of (c.self.view_is i).round.pile)) (c.self.view_is i).own_left) in
    let asked : know.round.asked ≡ turns.Owner = sym c.turn.ensures ∙ same_true turn_type.the_type (search rules) _ _ (sym c.eq.ensures ∙ c.if-eq.true) in
    record { exact = (λ none. (asked, sym any ∙ not-true c.any_fits.result none), λ both. ap not (any ∙ both.1)) }
