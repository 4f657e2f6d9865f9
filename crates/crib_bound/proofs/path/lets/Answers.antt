use Rattle.std.proofs.Common.{◌≡◌, ◌∙◌, Bool, eqb, not, true, false, sym, refl}
use Rattle.std.proofs.lemmas.Bool.{both_ways, eq-eqb, not-true}
use Rattle.crib_bound.proofs.path.lets.Goals as goal

not_from : (b : Bool) → (b ≡ true → ⊥) → not b ≡ true
not_from true none = absurd (none refl)
not_from false none = refl

pub returns : goal.returns
returns c = (
  λ apart there. absurd (both_ways c.is_same.result (not-true c.is_same.result apart) (c.is_same.ensures.1 there)),
  λ goes. not_from c.is_same.result (λ same. both_ways (eqb c.args.one.now.rank c.args.rank) (sym c.eq.ensures ∙ c.if-eq.false)
      (eq-eqb c.args.one.now.rank c.args.rank (sym (goes (c.is_same.ensures.0 same))))),
)
