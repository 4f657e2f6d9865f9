use Rattle.std.proofs.Common.{◌≡◌, ◌<◌, [], ◌∷◌, ◌++◌, List, ℕ, length, reverse, Option, Some, refl, ap, sym, ◌∙◌, arith}
use Rattle.std.specs.List.{AllByRecursion}
use Rattle.std.proofs.Math.ListN.{set, length-set}
use Rattle.std.proofs.lemmas.List.{length-reverse, reverse-append}
use Rattle.crib_search.specs.declared.nodes.DraftNode.{DraftNode}
use Rattle.crib_search.specs.Private.Nodes.{AreKept}
use Rattle.crib_search.specs.Private.Numbers.{AreMarks, Walked}
use Rattle.crib_search.proofs.NodeWalks.{marks_left}
use Rattle.crib_search.proofs.numbering.Numbering.leave.Goals as goal

pushed : (order after : List ℕ) (index : ℕ) → after ≡ order ++ index ∷ [] → reverse after ≡ index ∷ reverse order
pushed order after index is = ap reverse is ∙ reverse-append order (index ∷ [])

-- what is known of the nodes left and of their marks
abbrev AreWalked : List DraftNode → List ℕ → List (Option ℕ) → Type 0
AreWalked nodes left marks =
    AreKept nodes × AllByRecursion (λ index. index < length nodes) left × AreMarks marks left × (length marks ≡ length nodes)

one_left : (nodes nodes' : List DraftNode) (order after : List ℕ) (marks : List (Option ℕ)) (index before : ℕ) → nodes ≡ nodes' →
    index < length nodes' → before ≡ length order → after ≡ order ++ index ∷ [] → AreWalked nodes (reverse order) marks →
    AreWalked nodes (reverse after) (set marks index (Some before))
one_left nodes nodes' order after marks index before same inside count goes are =
    let within : index < length nodes = rw same inside in
    rw (pushed order after index goes) (
      are.0,
      (within, are.1),
      marks_left marks index (reverse order) (index ∷ reverse order) before are.2 (omega (arith, within, are.3)) (count ∙ sym (length-reverse order)) refl,
      length-set marks index (Some before) ∙ are.3,
    )

pub invariant_of-self-2 : goal.invariant_of-self-2
invariant_of-self-2 g c =
    one_left c.self.inside.nodes.now c.args.self.now.draft_nodes c.self.inside.order.items c.push.new.self.items c.self.inside.marks.items c.args.index
    c.len-before.result (ap (λ (walked : Walked). walked.draft_nodes) c.self.view_is) c.requires (c.len-before.ensures ∙ c.self.inside.order.ok.0)
    c.in_ok-push.ensures.items c.self.invariant

pub invariant_of-self : goal.invariant_of-self
invariant_of-self g c = rw c.in_err-push.ensures.items c.self.invariant

pub returns-clause-left : goal.returns-clause-left
returns-clause-left g c =
    pushed c.self.inside.order.items c.push.new.self.items c.args.index c.in_ok-push.ensures.items
    ∙ ap (λ (walked : Walked). c.args.index ∷ walked.left) c.self.view_is
