-- If a line is read as a node, it is the spelling of that node.
use Rattle.std.proofs.Common.{◌≡◌, ℕ, ◌^◌, ◌<◌, eqb, List, [], ◌∷◌, Ok, codes, decimal, ap, subst, ◌∙◌}
use Rattle.std.proofs.Common.{inl, inr}
use Rattle.std.specs.Prelude.{bytes_eq}
use Rattle.std.proofs.lemmas.Bool.{cases_Bool, eqb-true}
use Rattle.std.proofs.lemmas.Slice.Eq.{bytes_eq-Decides}
use Rattle.crib_cards.specs.CardText.{card_read}
use Rattle.crib_cards.proofs.CardReadLemmas.{card_read_is}
use Rattle.crib_text.specs.Refusals.{bad_line, bad_card}
use Rattle.crib_text.specs.Reading.{or_refused, number_in}
use Rattle.crib_text.proofs.ReadingLemmas.{bind_ok, unless_ok, or_ok, ok_is, number_found}
use Rattle.crib_plan.specs.declared.plan.Node.{Node}
use Rattle.crib_plan.specs.declared.plan.Node.TheVariants.{Play, See}
use Rattle.crib_plan.specs.Nodes.{IsNode}
use Rattle.crib_plan.specs.Spelling.{node_line}
use Rattle.crib_plan.specs.Reading.{own_number_in, next_in, no_branches, branches_in, play_in, see_in, node_from}
use Rattle.crib_plan.proofs.NextReadIsSpelled.{next_found}
use Rattle.crib_plan.proofs.BranchReadIsSpelled.{line_found}

own_found : (number : ℕ) (word : List ℕ) (u : Unit {0}) → own_number_in number word ≡ Ok u → (word ≡ decimal number) × (number < 2 ^ 32)
unfolding own_number_in
own_found number word u e =
    let a = bind_ok (number_in word) _ u e in
    let is = eqb-true _ _ (unless_ok (eqb a.0 number) bad_line u a.2) in
    let found = number_found word a.0 a.1 in
    (found.0 ∙ ap decimal is, subst (λ (n : ℕ). n < 2 ^ 32) is found.1)

-- the words are the line of a node, and the node may have its number
abbrev IsLineOf : ℕ → ℕ → List (List ℕ) → Node → Type 0
IsLineOf number count words node = (words ≡ node_line number node) × (number < 2 ^ 32) × IsNode number count node

-- a play line that was read is that of its node
play_found : (number count : ℕ) (own kind : List ℕ) (words : List (List ℕ)) (node : Node) → kind ≡ codes "play" →
    play_in number count (own ∷ kind ∷ words) ≡ Ok node → IsLineOf number count (own ∷ kind ∷ words) node
unfolding play_in
play_found number count own kind (card ∷ next ∷ []) node is e =
    let a = bind_ok (own_number_in number own) _ node e in
    let b = bind_ok (or_refused bad_card (card_read card)) _ node a.2 in
    let d = bind_ok (next_in number count next) _ node b.2 in
    let o = own_found number own a.0 a.1 in
    let c = card_read_is card b.0 (or_ok bad_card (card_read card) b.0 b.1) in
    let n = next_found number count next d.0 d.1 in
    subst (λ (v : Node). IsLineOf number count (own ∷ kind ∷ card ∷ next ∷ []) v) (ok_is (Play b.0 d.0) node d.2)
    (cc (o.0, is, c.0, n.0), o.1, (c.1, n.1))
play_found number count own kind words node is e = absurd cc

-- a see line that was read is that of its node
see_found : (number count : ℕ) (own kind : List ℕ) (words : List (List ℕ)) (node : Node) → kind ≡ codes "see" →
    see_in number count (own ∷ kind ∷ words) ≡ Ok node → IsLineOf number count (own ∷ kind ∷ words) node
unfolding see_in
see_found number count own kind words node is e =
    let a = bind_ok (own_number_in number own) _ node e in
    let b = bind_ok (branches_in number count no_branches words) _ node a.2 in
    let o = own_found number own a.0 a.1 in
    let l = line_found number count words b.0 b.1 in
    subst (λ (v : Node). IsLineOf number count (own ∷ kind ∷ words) v) (ok_is (See b.0.nexts) node b.2) (cc (o.0, is, l.0), o.1, (l.1, l.2))

pub node_found : (number count : ℕ) (words : List (List ℕ)) (node : Node) → node_from number count words ≡ Ok node → IsLineOf number count words node
unfolding node_from
node_found number count (own ∷ kind ∷ words) node e =
    elim (cases_Bool (bytes_eq kind (codes "play"))) [
      | inl plays ↦ play_found number count own kind words node ((bytes_eq-Decides kind (codes "play")).0 plays) (rw plays at e)
      | inr other ↦
          elim (cases_Bool (bytes_eq kind (codes "see"))) [
            | inl sees ↦ see_found number count own kind words node ((bytes_eq-Decides kind (codes "see")).0 sees) (rw (other, sees) at e)
            | inr neither ↦ (let refused = rw (other, neither) at e in absurd cc)
          ]
    ]
node_found number count words node e = absurd cc
