use Rattle.std.proofs.Common.{◌≡◌, ℕ, ◌-◌, ◌<◌, List, length, reverse, get_or, slice_get, Some, refl, sym, ap, ◌∙◌, arith}
use Rattle.std.proofs.lemmas.List.{get_or-reverse, length-reverse}
use Rattle.std.proofs.lemmas.Option.{slice_get_read}
use Rattle.crib_search.specs.Private.Numbers.{Walked}
use Rattle.crib_search.proofs.numbering.Numbering.index_numbered.Goals as goal

-- the index of the node with a number, counted from the end of the order
numbered : (order left : List ℕ) (number len index : ℕ) → reverse order ≡ left → len ≡ length order → number < length left →
    index ≡ get_or order (len - 1 - number) index → slice_get left number ≡ Some index
numbered order left number len index view count within is =
    slice_get_read left _ number index refl within (is ∙ ap (λ n. get_or order (n - 1 - number) index) count
    ∙ sym (get_or-reverse order number index (omega (arith, within, ap length view, length-reverse order))) ∙ ap (λ indices. get_or indices number index) view)

pub returns-clause-index : goal.returns-clause-index
returns-clause-index g c =
    numbered c.self.inside.order.items c.args.self.now.left c.args.number c.len.result c.index.result.now
    (ap (λ (walked : Walked). walked.left) c.self.view_is) (c.len.ensures ∙ c.self.inside.order.ok.0) c.requires c.index.ensures
