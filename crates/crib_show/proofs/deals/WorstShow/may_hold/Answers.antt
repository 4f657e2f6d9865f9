use Rattle.std.proofs.Common.{◌≡◌, ◌&&◌, ap, sym, ◌∙◌}
use Rattle.std.specs.List.{list_all}
use Rattle.std.specs.Prelude.{bytes_eq}
use Rattle.crib_cards.specs.Sets.{has, rank_counts}
use Rattle.crib_show.proofs.deals.WorstShow.may_hold.Goals as goal

pub returns-then-eq : goal.returns-then-eq
returns-then-eq c =
    let counts = c.count_ranks.ensures.value ∙ ap rank_counts c.ranks_of.ensures in
    c.has_all.ensures ∙ ap (λ same. same && list_all (has c.args.hold.now) c.args.self.now.fixed)
    (sym c.if-eq.true ∙ c.eq.ensures ∙ ap (λ four. bytes_eq four c.args.self.now.ranks) counts)

pub returns-else-eq : goal.returns-else-eq
returns-else-eq c =
    let counts = c.count_ranks.ensures.value ∙ ap rank_counts c.ranks_of.ensures in
    c.if-eq.false ∙ ap (λ same. same && list_all (has c.args.hold.now) c.args.self.now.fixed)
    (sym c.if-eq.false ∙ c.eq.ensures ∙ ap (λ four. bytes_eq four c.args.self.now.ranks) counts)
