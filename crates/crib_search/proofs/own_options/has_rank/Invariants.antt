use Rattle.std.proofs.Common.{◌≡◌, drop}
use Rattle.std.specs.List.{list_any}
use Rattle.std.specs.Prelude.{◌==◌}
use Rattle.crib_cards.specs.Cards.{rank_of}
use Rattle.crib_search.proofs.own_options.has_rank.Given as goal

abbrev pub invariant-loop-card : goal.invariant-loop-card
invariant-loop-card l = list_any (λ card. rank_of card == l.rank) l.cards ≡ list_any (λ card. rank_of card == l.rank) (drop l.card-index l.cards)
