-- Worked examples of an input that begins with a doubled letter: it spells nothing, whatever follows.
use Rattle.std.proofs.Common.{◌≡◌, ◌∙◌, inl, inr, ℕ, List, ◌++◌, codes, refl, sym, ap, arith, get_or}
use Rattle.crib_problem.specs.Spelling.{problem_lines, problem_text}
use Rattle.crib_run.specs.Reply.{Reply}
use Rattle.crib_run.specs.declared.status.Status.{Status}
use Rattle.crib_run.specs.declared.status.Status.TheVariants.{Yes, No, Refused}
use Rattle.crib_sheet.specs.Meaning.{SheetMeans}
use Rattle.crib_sheet.specs.declared.answer.job.SheetJob.TheVariants.{Plan, Game, Beaten, Try, Refute, Why, Leads, Next, Scores, Holes}

abbrev doubled : List ℕ → List ℕ
doubled rest = codes "pp" ++ rest

abbrev replies : Status → List ℕ → Reply
replies status text = record { output = text; status = status }

-- the second letter is p, and not r
other_letter : (bytes others : List ℕ) → bytes ≡ others → get_or bytes 1 0 ≡ 112 → get_or others 1 0 ≡ 114 → ⊥
other_letter bytes others same p r =
    let letter : 112 ≡ 114 = sym p ∙ ap (λ (text : List ℕ). get_or text 1 0) same ∙ r in absurd (omega (arith, letter))

refused_by_each_job : (rest text : List ℕ) → SheetMeans Plan (doubled rest) (replies Refused text)
    × SheetMeans Beaten (doubled rest) (replies Refused text) × SheetMeans Try (doubled rest) (replies Refused text)
    × SheetMeans Refute (doubled rest) (replies Refused text) × SheetMeans Why (doubled rest) (replies Refused text)
    × SheetMeans Leads (doubled rest) (replies Refused text) × SheetMeans Next (doubled rest) (replies Refused text)
    × SheetMeans Scores (doubled rest) (replies Refused text) × SheetMeans Holes (doubled rest) (replies Refused text)
unfolding problem_text problem_lines
refused_by_each_job rest text = (
  λ problem. (λ spelled. other_letter _ _ spelled.text refl refl, λ plan spelled. other_letter _ _ spelled.text refl refl),
  λ problem plan spelled. other_letter _ _ spelled.text refl refl,
  λ problem spelled. other_letter _ _ spelled.text refl refl,
  λ problem spelled. other_letter _ _ spelled.text refl refl,
  λ problem spelled. other_letter _ _ spelled.text refl refl,
  λ problem spelled. other_letter _ _ spelled.text refl refl,
  λ problem plan turns spelled. absurd (other_letter _ _ spelled.text refl refl),
  λ problem spelled. other_letter _ _ spelled.text refl refl,
  λ problem spelled. other_letter _ _ spelled.text refl refl,
)

nothing_is_sure : (rest text : List ℕ) → (SheetMeans Plan (doubled rest) (replies Yes text) → ⊥)
    × (SheetMeans Beaten (doubled rest) (replies Yes text) → ⊥) × (SheetMeans Try (doubled rest) (replies Yes text) → ⊥)
    × (SheetMeans Refute (doubled rest) (replies Yes text) → ⊥) × (SheetMeans Why (doubled rest) (replies Yes text) → ⊥)
    × (SheetMeans Leads (doubled rest) (replies Yes text) → ⊥) × (SheetMeans Next (doubled rest) (replies Yes text) → ⊥)
unfolding problem_text problem_lines
nothing_is_sure rest text = (
  λ means. elim means.asked [ inl spelled ↦ other_letter _ _ spelled.text refl refl | inr asks ↦ other_letter _ _ asks.0.text refl refl ],
  λ means. other_letter _ _ means.0.spelled.text refl refl,
  λ means. other_letter _ _ means.spelled.text refl refl,
  λ means. other_letter _ _ means.0.spelled.text refl refl,
  λ means. other_letter _ _ means.0.spelled.text refl refl,
  λ means. other_letter _ _ means.1.text refl refl,
  λ means. other_letter _ _ means.0.spelled.text refl refl,
)

nothing_is_unsure : (rest text : List ℕ) → (SheetMeans Plan (doubled rest) (replies No text) → ⊥)
    × (SheetMeans Beaten (doubled rest) (replies No text) → ⊥) × (SheetMeans Try (doubled rest) (replies No text) → ⊥)
    × (SheetMeans Refute (doubled rest) (replies No text) → ⊥) × (SheetMeans Why (doubled rest) (replies No text) → ⊥)
    × (SheetMeans Leads (doubled rest) (replies No text) → ⊥) × (SheetMeans Next (doubled rest) (replies No text) → ⊥)
unfolding problem_text problem_lines
nothing_is_unsure rest text = (
  λ means. elim means.asked [ inl spelled ↦ other_letter _ _ spelled.text refl refl | inr asks ↦ other_letter _ _ asks.0.text refl refl ],
  λ means. other_letter _ _ means.0.spelled.text refl refl,
  λ means. other_letter _ _ means.0.spelled.text refl refl,
  λ means. elim means [ inl is ↦ other_letter _ _ is.spelled.text refl refl | inr is ↦ other_letter _ _ is.none.spelled.text refl refl ],
  λ means. elim means [ inl is ↦ other_letter _ _ is.spelled.text refl refl | inr is ↦ other_letter _ _ is.none.spelled.text refl refl ],
  λ means. other_letter _ _ means.1.text refl refl,
  λ means. other_letter _ _ means.0.spelled.text refl refl,
)

nothing_has_a_sheet : (rest text : List ℕ) → (SheetMeans Game (doubled rest) (replies Yes text) → ⊥)
    × (SheetMeans Scores (doubled rest) (replies Yes text) → ⊥) × (SheetMeans Holes (doubled rest) (replies Yes text) → ⊥)
unfolding problem_text problem_lines
nothing_has_a_sheet rest text = (
  λ means. other_letter _ _ means.spelled.text refl refl,
  λ means. other_letter _ _ means.spelled.text refl refl,
  λ means. other_letter _ _ means.1.text refl refl,
)
