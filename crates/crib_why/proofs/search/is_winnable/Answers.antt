use Rattle.std.proofs.Common.{inl, inr}
use Rattle.std.proofs.Common.{refl, sym, ap, ◌∙◌}
use Rattle.std.specs.Prelude.{Err}
use Rattle.crib_search.specs.declared.finder.SearchFault.{SearchFault}
use Rattle.crib_search.proofs.LawProofs.{sure_law}
use Rattle.crib_why.proofs.Found.{winnable_or_none, plan_none}
use Rattle.crib_why.proofs.search.is_winnable.Goals as goal

pub returns-in-Ok-Plan : goal.returns-in-Ok-Plan
returns-in-Ok-Plan g c = (
  λ is. elim (winnable_or_none c.args.problem.now c.in-Ok-Plan.field-0 c.in-Ok-Plan.ensures.sure) [
    | inl winnable ↦ winnable
    | inr none ↦ absurd (plan_none _ (sym c.in-Ok-Plan.field-0-is ∙ none))
  ],
  λ is. refl,
)

pub returns-in-Err-TooLarge : goal.returns-in-Err-TooLarge
returns-in-Err-TooLarge g c = (
  λ is. (
      let large = c.find.ensures.too_large (c.in-Err-TooLarge.is ∙ ap (λ (fault : SearchFault). Err fault) c.in-Err-TooLarge.field-0-is) in
      record { plan = large.0; sure = sure_law c.args.problem.now large.0 c.requires large.1 }
      ),
  λ is. refl,
)
