-- The form of a problem: what is read is spelled so, and what is spelled so is read. The laws of its spelling follow.
use Rattle.std.proofs.Common.{◌≡◌, ℕ, zero, suc, ◌+◌, ◌*◌, ◌≤◌, List, [], ◌∷◌, ◌++◌, length, map, reverse, Ok, codes, decimal, refl}
use Rattle.std.proofs.Common.{sym, ap, subst, ◌∙◌, arith}
use Rattle.std.proofs.lemmas.Bool.Decides.{nat_tests}
use Rattle.std.proofs.lemmas.List.{append-nil, reverse-reverse, length-map}
use Rattle.crib_cards.specs.CardText.{card_text}
use Rattle.crib_cards.specs.declared.moves.Act.{Act}
use Rattle.crib_text.specs.Spelling.{line_bytes}
use Rattle.crib_text.specs.Reading.{◌>>=◌, Rest}
use Rattle.crib_text.proofs.ReadingLemmas.{bind_ok, ok_is}
use Rattle.crib_text.proofs.SteadyReaders.{IsSteady, from_line, steady_ok, steady_then, steady_value}
use Rattle.crib_text.proofs.Forms.{IsForm, line_form, each_line_form, none_form, then_form, form_as}
use Rattle.crib_problem.specs.declared.problem.Version.{Version}
use Rattle.crib_problem.specs.declared.problem.Version.TheVariants.{One, Two}
use Rattle.crib_problem.specs.Setup.{Setup, IsSetup, setup_by, CanSay, opening_basis_of}
use Rattle.crib_problem.specs.Played.{OpeningBasis, AreAllowed}
use Rattle.crib_cards.specs.Words.{side_word}
use Rattle.crib_problem.specs.Spelling.{version_word, goal_words, act_line, played_lines, problem_lines}
use Rattle.crib_problem.specs.Reading.{seven_lines_at, allowed_in, allowed_at, turns_at, played_at, problem_at, with_played}
use Rattle.crib_problem.proofs.CardLemmas.{all_parts, all-append}
use Rattle.crib_problem.proofs.Setups.{AllMoves, says_goal, with_opening, without_opening}
use Rattle.crib_problem.proofs.TurnLemmas.{acts_words, turns_found, turns_spelled}
use Rattle.crib_problem.proofs.ActForms.{act_form, count_form}
use Rattle.crib_problem.proofs.LinesReadAreSpelled.{AreNew, seven_distinct}
use Rattle.crib_problem.proofs.SpelledIsRead.{version_form, dealer_form, scores_form, starter_form, cards_form}
use Rattle.crib_problem.proofs.GoalForms.{goal_form}
use Rattle.crib_problem.proofs.SpelledIsRead.{unplayed}
use Rattle.crib_cards.proofs.Members.{distinct_parts, distinct_left, distinct_right, distinct_apart}

-- the lines that each version has
abbrev pub seven_lines : Setup → List (List (List ℕ))
seven_lines p =
    (codes "problem" ∷ version_word p.version ∷ [])
    ∷ (codes "dealer" ∷ side_word p.dealer ∷ [])
    ∷ (codes "score" ∷ decimal p.scores.owner ∷ decimal p.scores.opponent ∷ [])
    ∷ (codes "starter" ∷ card_text p.starter ∷ [])
    ∷ (codes "hold" ∷ map card_text p.hold)
    ∷ (codes "throw" ∷ map card_text p.thrown)
    ∷ (codes "goal" ∷ goal_words p.goal) ∷ []

-- a problem with no opening
pub record IsUnplayed (p : Setup) : Type 0 where
  pub setup : IsSetup p
  pub none : p.played ≡ []

pub seven_form : IsForm seven_lines_at seven_lines IsUnplayed (λ p. 95)
unfolding seven_lines_at
seven_form =
    form_as (
    then_form _ (λ (p : Setup). p.version) (line_form version_form (λ _. refl)) (λ version.
    then_form _ (λ (p : Setup). p.dealer) (line_form dealer_form (λ _. refl)) (λ dealer.
    then_form _ (λ (p : Setup). p.scores) (line_form scores_form (λ _. refl)) (λ scores.
    then_form _ (λ (p : Setup). p.starter) (line_form starter_form (λ _. refl)) (λ starter.
    then_form _ (λ (p : Setup). p.hold) (line_form (cards_form (codes "hold") 4 (starter ∷ []) refl) (λ _. refl)) (λ hold.
    then_form _ (λ (p : Setup). p.thrown) (line_form (cards_form (codes "throw") 2 (starter ∷ hold) refl) (λ _. refl)) (λ thrown.
    then_form _ (λ (p : Setup). p.goal) (line_form (goal_form version scores.owner) (λ _. refl)) (λ goal.
    none_form (setup_by version dealer scores starter hold thrown goal []))
    (λ goal p is are. ap (λ (q : Setup). q.goal) are))
    (λ thrown p is are. ap (λ (q : Setup). q.thrown) are.1))
    (λ hold p is are. ap (λ (q : Setup). q.hold) are.1.1))
    (λ starter p is are. ap (λ (q : Setup). q.starter) are.1.1.1))
    (λ scores p is are. ap (λ (q : Setup). q.scores) are.1.1.1.1))
    (λ dealer p is are. ap (λ (q : Setup). q.dealer) are.1.1.1.1.1))
    (λ version p is are. ap (λ (q : Setup). q.version) are.1.1.1.1.1.1))
    (λ p is.
    let cards = is.1.1.1 in
    let hold = cards.1.0.1 in
    let thrown = cards.1.1.0.1 in
    let all = all-append p.hold p.thrown hold.all_cards thrown.all_cards in
    let distinct = seven_distinct p.starter p.hold p.thrown hold thrown in
    let few : 0 ≤ 32 = omega arith in
    subst IsUnplayed (sym cards.1.1.1.1) (record { setup = assumption (all, distinct, few); none = refl }))
    (λ p is.
    let setup = is.setup in
    let cards = all_parts (p.starter ∷ p.hold) p.thrown setup.cards in
    let own = distinct_parts p.starter p.hold (distinct_left (p.starter ∷ p.hold) p.thrown setup.distinct) in
    let hold : AreNew (p.starter ∷ []) p.hold = record { all_cards = cards.0.1; distinct = own.1; fresh = λ card h. grind (arith, nat_tests, h, own.0) } in
    let thrown : AreNew (p.starter ∷ p.hold) p.thrown = record {
      all_cards = cards.1;
      distinct = distinct_right (p.starter ∷ p.hold) p.thrown setup.distinct;
      fresh = λ card h. grind (arith, nat_tests, h, distinct_apart (p.starter ∷ p.hold) p.thrown card setup.distinct);
    } in
    let made : p ≡ unplayed p = ap (λ (acts : List Act). record p { played = acts }) is.none in
    let says = says_goal p.version p.goal p.played setup.of_version in
    assumption (hold, thrown, made, says))
    (λ p is. refl) (λ p is. omega arith)

-- what seven lines are read as meets the conditions of a problem
pub seven_setup : (rest : Rest) (p : Setup) → (seven_lines_at rest >>= λ seven. Ok seven.0) ≡ Ok p → IsSetup p
seven_setup rest p e =
    let read = bind_ok (seven_lines_at rest) _ p e in
    subst IsSetup (ok_is read.0.0 p read.2) (seven_form.found rest read.0.0 read.0.1 read.1).0.setup

-- ---- the opening

allowed_steady : (basis : OpeningBasis) (before : List Act) (count : ℕ) → IsSteady (allowed_at basis before count)
unfolding allowed_at
allowed_steady basis before zero = steady_ok before
allowed_steady basis before (suc left) =
    steady_then _ _ (steady_value (allowed_in basis before)) (λ act. allowed_steady basis (act ∷ before) left)

allowed_form : (basis : OpeningBasis) (count : ℕ) → IsForm (allowed_at basis [] count) (λ acts. map act_line (reverse acts))
    (λ acts. (length (reverse acts) ≡ count) × AllMoves (reverse acts) × AreAllowed basis acts) (λ acts. 7 * length (reverse acts))
allowed_form basis count = record {
  found = λ rest acts after e.
      let turns = turns_found basis [] count rest (acts, after) e in
      let spelled = turns.spelled ∙ ap (λ more. map line_bytes (map act_line more) ++ after.lines) (sym turns.turned) in
      ((ap length turns.turned ∙ turns.counted, subst AllMoves (sym turns.turned) turns.moves, turns.allowed tt), spelled);
  spelled = λ acts number rest is.
      let same : reverse (reverse acts) ++ [] ≡ acts = append-nil (reverse (reverse acts)) ∙ reverse-reverse acts in
      let last = number + length (map act_line (reverse acts)) in
      let turns = turns_spelled basis [] (reverse acts) number last rest is.1 (subst (AreAllowed basis) (sym same) is.2)
      (omega (arith, length-map (reverse acts) act_line)) in
      ap (λ k. allowed_at basis [] k (from_line number (map line_bytes (map act_line (reverse acts)) ++ rest))) (sym is.0) ∙ turns
      ∙ ap (λ all. Ok (all, from_line last rest)) same;
  full = λ acts is. acts_words (reverse acts) is.1;
  short = λ acts is. (each_line_form act_form (λ _. refl) count).short (reverse acts) (is.0, is.1);
  steady = allowed_steady basis [] count;
}

-- a problem with an opening after seven lines
pub record HasTurns (seven p : Setup) : Type 0 where
  pub few : length p.played ≤ 32
  pub moves : AllMoves p.played
  pub allowed : AreAllowed (opening_basis_of seven) (reverse p.played)
  pub made : p ≡ record seven { played = p.played }

turns_form : (seven : Setup) → IsForm (turns_at seven) (λ p. played_lines Two p.played) (HasTurns seven) (λ p. 234)
unfolding turns_at
turns_form seven =
    form_as (
    then_form _ (λ (p : Setup). length p.played) (line_form (count_form (codes "played") refl) (λ _. refl)) (λ count.
    then_form _ (λ (p : Setup). reverse p.played) (allowed_form (opening_basis_of seven) count) (λ acts. none_form (with_played seven acts))
    (λ acts p is are. ap (λ (q : Setup). reverse q.played) are ∙ reverse-reverse acts))
    (λ count p is are. ap length (sym (reverse-reverse p.played)) ∙ are.0.0))
    (λ p is. record {
      few = is.0;
      moves = subst AllMoves (reverse-reverse p.played) is.1.0.1;
      allowed = is.1.0.2;
      made = is.1.1 ∙ ap (λ (acts : List Act). record seven { played = acts }) (reverse-reverse p.played);
    })
    (λ p has.
    let same = reverse-reverse p.played in
    let made = has.made ∙ ap (λ (acts : List Act). record seven { played = acts }) (sym same) in
    (has.few, ((ap length same, subst AllMoves (sym same) has.moves, has.allowed), made)))
    (λ p has. rw (reverse-reverse p.played, append-nil (map act_line p.played)) refl)
    (λ p has. omega (arith, has.few, ap length (reverse-reverse p.played)))

-- the opening that was read makes another problem
pub setup_with : (p q : Setup) (first after : Rest) → IsSetup p → p.version ≡ Two → turns_at p first ≡ Ok (q, after) → IsSetup (record p { played = q.played })
setup_with p q first after is two read =
    let has = ((turns_form p).found first q after read).0 in
    let C : Version → Type 0 = λ version. CanSay version p.goal q.played in
    with_opening p q.played is (subst C (sym two) tt) has.few has.moves has.allowed

-- what a version has after the seven lines
abbrev Continues : Version → Setup → Setup → Type 0
Continues One seven p = p ≡ seven
Continues Two seven p = HasTurns seven p

played_form : (version : Version) (seven : Setup) → seven.version ≡ version → IsForm (played_at version seven) (λ p. played_lines p.version p.played)
    (Continues version seven) (λ p. 234)
unfolding played_at
played_form One seven e = form_as (none_form seven) (λ p is. is) (λ p is. is)
    (λ p is. ap (λ (version : Version). played_lines version p.played) (sym (ap (λ (q : Setup). q.version) is ∙ e))) (λ p is. omega arith)
played_form Two seven e = form_as (turns_form seven) (λ p is. is) (λ p is. is)
    (λ p is. ap (λ (version : Version). played_lines version p.played) (sym (ap (λ (q : Setup). q.version) is.made ∙ e))) (λ p is. omega arith)

agrees : (version : Version) (seven p : Setup) → seven.played ≡ [] → Continues version seven p → unplayed p ≡ seven
agrees One seven p none is = ap unplayed is ∙ ap (λ (acts : List Act). record seven { played = acts }) (sym none)
agrees Two seven p none is = ap unplayed is.made ∙ ap (λ (acts : List Act). record seven { played = acts }) (sym none)

setup_of : (version : Version) (p : Setup) → p.version ≡ version → IsSetup (unplayed p) → Continues version (unplayed p) p → IsSetup p
setup_of One p e is same = subst IsSetup (sym same) is
setup_of Two p e is turns =
    let C : Version → Type 0 = λ version. CanSay version p.goal p.played in
    with_opening (unplayed p) p.played is (subst C (sym e) tt) turns.few turns.moves turns.allowed

continues : (version : Version) (p : Setup) → p.version ≡ version → IsSetup p → Continues version (unplayed p) p
continues One p e is =
    let C : Version → Type 0 = λ version. CanSay version p.goal p.played in
    ap (λ (acts : List Act). record p { played = acts }) (subst C e is.of_version).1
continues Two p e is = record { few = is.few; moves = is.moves; allowed = is.allowed; made = refl }

-- 95 bytes for seven lines, and 234 for the line `played N` and at most 32 lines of acts
pub problem_form : IsForm problem_at problem_lines IsSetup (λ p. 329)
unfolding problem_at problem_lines
problem_form =
    form_as (
    then_form _ unplayed seven_form (λ seven. played_form seven.version seven refl) (λ seven p is are. agrees seven.version seven p is.none are))
    (λ p is. setup_of p.version p refl is.0.setup is.1)
    (λ p is. (record { setup = without_opening p is; none = refl }, continues p.version p refl is))
    (λ p is. refl) (λ p is. omega arith)
