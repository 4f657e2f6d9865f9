-- The goal of a problem: its hole, and the form of its line. All lemmas that go goal by goal are here.
use Rattle.std.proofs.Common.{◌≡◌, ℕ, ◌-◌, ◌<◌, ◌≤◌, true, false, eqb, cond, ◌&&◌, List, [], ◌∷◌, length, Ok, Err, codes, decimal, refl, sym, ap, subst}
use Rattle.std.proofs.Common.{◌∙◌, arith, inl, inr}
use Rattle.std.specs.Prelude.{nat_le, bytes_eq}
use Rattle.std.proofs.lemmas.Bool.{cases_Bool, cond-true, cond-false, leb-true, le-leb, and_parts, and_from}
use Rattle.crib_cards.specs.Sides.{game_hole}
use Rattle.crib_text.specs.Refusals.{bad_line}
use Rattle.crib_text.specs.Reading.{unless_refused, after_keyword, only_word, number_in}
use Rattle.crib_text.proofs.SpellingLemmas.{is_word, are_words, is_word-decimal}
use Rattle.crib_text.proofs.ReadingLemmas.{bind_ok, unless_ok, ok_is, after_found, only_found, number_found, after_spelled, only_spelled, number_spelled}
use Rattle.crib_text.proofs.RoomLemmas.{three_digits}
use Rattle.crib_text.proofs.TextLengths.{words_length}
use Rattle.crib_text.proofs.Forms.{AreWordsForm}
use Rattle.crib_problem.specs.declared.problem.Goal.{Goal}
use Rattle.crib_problem.specs.declared.problem.Goal.TheVariants.{Win, Holes, Stop}
use Rattle.crib_problem.specs.declared.problem.Version.{Version}
use Rattle.crib_problem.specs.declared.problem.Version.TheVariants.{One, Two}
use Rattle.crib_problem.specs.Setup.{IsGoal, CanSay, goal_hole, is_stop}
use Rattle.crib_problem.specs.Spelling.{goal_words}
use Rattle.crib_problem.specs.Refusals.{bad_goal}
use Rattle.crib_problem.specs.Reading.{holes_in, stop_goal, plain_goal, holes_goal, win_in, target_in, goal_in}
use Rattle.crib_problem.proofs.NamedWords.{if_named, only_named}

-- the hole of a goal is above the owner's score and at most 121
pub goal_bounds : (score : ℕ) (goal : Goal) → score ≤ 120 → IsGoal score goal → (score < goal_hole score goal) × (goal_hole score goal ≤ 121)
goal_bounds score Win low is = (omega arith, omega arith)
goal_bounds score Stop low is = (omega arith, omega arith)
goal_bounds score (Holes holes) low is = (omega (arith, is.0), omega (arith, is.1))

-- ---- what is read as a goal is spelled so

abbrev HasGoal : Version → ℕ → List (List ℕ) → Goal → Type 0
HasGoal version score words goal = (words ≡ goal_words goal) × (IsGoal score goal × CanSay version goal [])

-- both versions have each goal but `stop`
said : (version : Version) (goal : Goal) → is_stop goal ≡ false → CanSay version goal []
said One goal other = (other, refl)
said Two goal other = tt

holes_found : (version : Version) (score : ℕ) (word : List ℕ) (goal : Goal) → holes_in score word ≡ Ok goal →
    HasGoal version score (codes "holes" ∷ word ∷ []) goal
unfolding holes_in
holes_found version score word goal e =
    let a = bind_ok (number_in word) _ goal e in
    let b = bind_ok (unless_refused bad_goal (nat_le 1 a.0 && nat_le a.0 (game_hole - score))) _ goal a.2 in
    let both = and_parts _ _ (unless_ok _ bad_goal b.0 b.1) in
    let spelled = ap (λ (w : List ℕ). codes "holes" ∷ w ∷ []) (number_found word a.0 a.1).0 in
    subst (HasGoal version score (codes "holes" ∷ word ∷ [])) (ok_is (Holes a.0) goal b.2)
    (spelled, ((leb-true _ _ both.0, leb-true _ _ both.1), said version (Holes a.0) refl))

two_found : (version : Version) (score : ℕ) (words : List (List ℕ)) (goal : Goal) → holes_goal score words ≡ Ok goal → HasGoal version score words goal
unfolding holes_goal
two_found version score (kind ∷ word ∷ []) goal e =
    let is = only_named kind (codes "holes") (holes_in score word) bad_line goal e in
    let holes = holes_found version score word goal is.1 in (ap (λ (k : List ℕ). k ∷ word ∷ []) is.0 ∙ holes.0, holes.1)
two_found version score words goal e = absurd cc

stop_found : (version : Version) (score : ℕ) (kind : List ℕ) (goal : Goal) → kind ≡ codes "stop" → stop_goal version ≡ Ok goal →
    HasGoal version score (kind ∷ []) goal
unfolding stop_goal
stop_found One score kind goal is e = absurd cc
stop_found Two score kind goal is e = subst (HasGoal Two score (kind ∷ [])) (ok_is Stop goal e) (ap (λ (k : List ℕ). k ∷ []) is, (tt, tt))

plain_found : (version : Version) (score : ℕ) (kind : List ℕ) (goal : Goal) → plain_goal version kind ≡ Ok goal → HasGoal version score (kind ∷ []) goal
unfolding plain_goal
plain_found version score kind goal e =
    elim (if_named kind (codes "win") (Ok Win) (cond (bytes_eq kind (codes "stop")) (stop_goal version) (Err bad_line)) goal e) [
      | inl is ↦ subst (HasGoal version score (kind ∷ [])) (ok_is Win goal is.1) (ap (λ (k : List ℕ). k ∷ []) is.0, (tt, said version Win refl))
      | inr other ↦
          let is = only_named kind (codes "stop") (stop_goal version) bad_line goal other in stop_found version score kind goal is.0 is.1
    ]

pub goal_found : (version : Version) (score : ℕ) (words : List (List ℕ)) (goal : Goal) → goal_in version score words ≡ Ok goal →
    (words ≡ codes "goal" ∷ goal_words goal) × (IsGoal score goal × CanSay version goal [])
unfolding goal_in win_in target_in
goal_found version score words goal e =
    elim (cases_Bool (eqb (length words) 2)) [
      | inl holds ↦
          let read : win_in version words ≡ Ok goal = sym (cond-true (eqb (length words) 2) (win_in version words) (target_in score words) holds) ∙ e in
          let a = bind_ok (after_keyword (codes "goal") 1 words) _ goal read in
          let b = bind_ok (only_word a.0) _ goal a.2 in
          let p = plain_found version score b.0 goal b.2 in
          ((after_found (codes "goal") 1 words a.0 a.1).0 ∙ ap (λ (w : List (List ℕ)). codes "goal" ∷ w) (only_found a.0 b.0 b.1 ∙ p.0), p.1)
      | inr fails ↦
          let read : target_in score words ≡ Ok goal = sym (cond-false (eqb (length words) 2) (win_in version words) (target_in score words) fails) ∙ e in
          let a = bind_ok (after_keyword (codes "goal") 2 words) _ goal read in
          let t = two_found version score a.0 goal a.2 in
          ((after_found (codes "goal") 2 words a.0 a.1).0 ∙ ap (λ (w : List (List ℕ)). codes "goal" ∷ w) t.0, t.1)
    ]

-- ---- what is spelled as a goal is read so

holes_spelled : (score holes : ℕ) → IsGoal score (Holes holes) → holes_in score (decimal holes) ≡ Ok (Holes holes)
unfolding holes_in
holes_spelled score holes is =
    rw (number_spelled holes (omega arith), le-leb 1 holes is.0, le-leb holes (game_hole - score) is.1) refl

stop_spelled : (version : Version) → CanSay version Stop [] → stop_goal version ≡ Ok Stop
unfolding stop_goal
stop_spelled One says = let e = says.0 in absurd cc
stop_spelled Two says = refl

goal_spelled : (version : Version) (score : ℕ) (goal : Goal) → CanSay version goal [] → IsGoal score goal →
    goal_in version score (codes "goal" ∷ goal_words goal) ≡ Ok goal
unfolding goal_in win_in target_in plain_goal holes_goal
goal_spelled version score Win says is = rw (after_spelled (codes "goal") 1 (codes "win" ∷ []) refl, only_spelled (codes "win")) refl
goal_spelled version score Stop says is = rw (after_spelled (codes "goal") 1 (codes "stop" ∷ []) refl, only_spelled (codes "stop")) (stop_spelled version says)
goal_spelled version score (Holes holes) says is = rw (after_spelled (codes "goal") 2 (codes "holes" ∷ decimal holes ∷ []) refl) (holes_spelled score holes is)

goal_words-words : (score : ℕ) (goal : Goal) → IsGoal score goal → are_words (codes "goal" ∷ goal_words goal) ≡ true
goal_words-words score Win is = refl
goal_words-words score Stop is = refl
goal_words-words score (Holes holes) is = and_from (is_word (decimal holes)) true (is_word-decimal holes (omega arith)) refl

goal_short : (score : ℕ) (goal : Goal) → IsGoal score goal → words_length (codes "goal" ∷ goal_words goal) ≤ 15
goal_short score Win is = omega arith
goal_short score Stop is = omega arith
goal_short score (Holes holes) is = omega (arith, three_digits holes (omega (arith, is.1)))

pub goal_form : (version : Version) (score : ℕ) → AreWordsForm (goal_in version score) (λ goal. codes "goal" ∷ goal_words goal)
    (λ goal. IsGoal score goal × CanSay version goal []) (λ goal. 15)
goal_form version score = record {
  found = goal_found version score;
  spelled = λ goal is. goal_spelled version score goal is.1 is.0;
  full = λ goal is. goal_words-words score goal is.0;
  short = λ goal is. goal_short score goal is.0;
}
