use Rattle.std.proofs.Common.{drop, ap, ◌∙◌, refl, arith}
use Rattle.std.proofs.lemmas.Bool.{eq-eqb, ne_eqb}
use Rattle.std.proofs.lemmas.List.{length-drop}
use Rattle.crib_text.specs.Reading.{end_at}
use Rattle.crib_text.specs.Lines.{rest_of}
use Rattle.crib_text.proofs.WordLemmas.{lf_place}
use Rattle.crib_text.proofs.LineLemmas.{no_lines, first_left, end_at-nil, end_at-cons}
use Rattle.crib_text.proofs.text.lines.Lines.finish.Goals as goal

pub returns-then-self : goal.returns-then-self
unfolding rest_of
returns-then-self c =
    let l = c.args.self.now in
    let rest = drop l.at l.source.now in
    let first = first_left l.source.now rest l.at (lf_place rest) refl l.ended (ne_eqb _ _ (λ e. omega (arith, e, length-drop l.at l.source.now))) refl in
    rw c.at.ensures (ap (λ ls. end_at (record { number = l.number; lines = ls })) first.1 ∙ end_at-cons l.number _ _)

pub returns : goal.returns
unfolding rest_of
returns c =
    let l = c.args.self.now in
    ap (λ ls. end_at (record { number = l.number; lines = ls }))
    (no_lines l.source.now _ l.at refl (eq-eqb _ _ (omega (arith, length-drop l.at l.source.now)))) ∙ end_at-nil l.number
