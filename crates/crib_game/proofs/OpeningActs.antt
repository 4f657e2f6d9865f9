-- Acts that begin with the opening, and records without a remark.
use Rattle.std.proofs.Common.{◌≡◌, ℕ, ◌+◌, ◌<◌, ◌≤◌, zero, suc, Bool, true, false, ◌&&◌, List, [], ◌∷◌, ◌++◌, length, get_or, take, reverse, Option, Some}
use Rattle.std.proofs.Common.{refl, sym, ap, subst, ◌∙◌, inl, inr, arith}
use Rattle.std.specs.Prelude.{slice_get}
use Rattle.std.proofs.lemmas.Bool.{cases_Bool, cases_eq, and_parts, cond-true, cond_both, both_ways}
use Rattle.std.proofs.lemmas.Bool.Decides.{nat_tests}
use Rattle.std.proofs.lemmas.List.{take_all, length-reverse, length-take-le, length-append}
use Rattle.std.proofs.lemmas.Option.{slice_get-get_or, slice_get_past}
use Rattle.crib_cards.specs.Letters.{letter_of}
use Rattle.crib_cards.specs.Sides.{same_side}
use Rattle.crib_cards.specs.Start.{pone_of}
use Rattle.crib_cards.specs.declared.sides.Side.{Side}
use Rattle.crib_cards.specs.declared.sides.Side.TheVariants.{Owner}
use Rattle.crib_cards.specs.declared.moves.Move.{Move}
use Rattle.crib_cards.specs.declared.moves.Move.TheVariants as move
use Rattle.crib_cards.specs.declared.moves.Act.{Act}
use Rattle.crib_play.specs.Filled.{is_visible}
use Rattle.crib_play.specs.Legal.{letters_of}
use Rattle.crib_play.specs.History.{acts_of}
use Rattle.crib_play.proofs.TurnFacts.{same_is, same_self}
use Rattle.crib_play.proofs.FilledRecords.{acts_visible, acts_silent}
use Rattle.crib_problem.specs.Setup.{Setup, start_of, BeginsAsPlayed}
use Rattle.crib_game.specs.declared.replaying.remark.Remark.TheVariants.{Fine, NotPlayed}
use Rattle.crib_game.specs.Replay.{same_move, same_act, remark_of, by_rules}
use Rattle.crib_game.specs.Laws.{NoneStrays}
use Rattle.crib_game.proofs.JudgeLemmas.{reverse_more}

-- ---- equal acts
move_is : (what other : Move) → same_move what other ≡ true → what ≡ other
move_is what other e = grind (arith, nat_tests, e)

same_move_self : (what : Move) → same_move what what ≡ true
same_move_self what = grind (arith, nat_tests)

pub act_is : (act other : Act) → same_act act other ≡ true → act ≡ other
act_is act other e =
    let parts = and_parts (same_side act.side other.side) (same_move act.what other.what) e in
    λ i. record { side = same_is act.side other.side parts.0 i; what = move_is act.what other.what parts.1 i }

pub same_act_self : (act : Act) → same_act act act ≡ true
same_act_self act = (λ i. same_self act.side i && same_move act.what act.what) ∙ same_move_self act.what

-- there is no remark exactly where the act is the turn of the opening, or the opening has no turn there
fine_played : (played act : Act) (strays : Bool) → remark_of (Some played) strays act ≡ Fine → played ≡ act
fine_played played act strays e = let same : same_act played act ≡ true = grind (arith, e) in act_is played act same

played_fine : (played : Act) (strays : Bool) → remark_of (Some played) strays played ≡ Fine
played_fine played strays = cond-true (same_act played played) Fine NotPlayed (same_act_self played)

-- ---- acts that are as in the opening
abbrev pub AreAsPlayed : List Act → List Act → Type 0
AreAsPlayed played [] = Unit {0}
AreAsPlayed played (act ∷ before) = AreAsPlayed played before × (remark_of (slice_get played (length before)) false act ≡ Fine)

-- the first turns of the opening are as in the opening
front_played : (played : List Act) (n : ℕ) → n ≤ length played → AreAsPlayed played (reverse (take n played))
front_played played zero inside = tt
front_played played (suc n) inside =
    let A : List Act → Type 0 = λ acts. AreAsPlayed played acts in
    let lt : n < length played = omega arith in
    let act : Act = get_or played n default_act in
    let at : n + 1 ≡ suc n = omega arith in
    let long = length-reverse (take n played) ∙ length-take-le n played (omega arith) in
    let here : slice_get played (length (reverse (take n played))) ≡ Some act = ap (slice_get played) long ∙ slice_get-get_or played n default_act lt in
    let now : remark_of (slice_get played (length (reverse (take n played)))) false act ≡ Fine = ap (λ (o : Option Act). remark_of o false act) here
    ∙ played_fine act false in
    subst A (sym (ap (λ (k : ℕ). reverse (take k played)) (sym at) ∙ reverse_more played n default_act lt)) (front_played played n (omega arith), now)
  where
    default_act : Act
    default_act = record { side = Owner; what = move.Go }

pub begins_as_played : (played later : List Act) → AreAsPlayed played (later ++ reverse played)
begins_as_played played [] =
    let A : List Act → Type 0 = λ acts. AreAsPlayed played (reverse acts) in
    subst A (take_all (length played) played (omega arith)) (front_played played (length played) (omega arith))
begins_as_played played (act ∷ later) =
    let long = length-append later (reverse played) in
    let past = slice_get_past played (length (later ++ reverse played)) (omega (arith, long, length-reverse played)) in
    (begins_as_played played later, ap (λ (o : Option Act). remark_of o false act) past)

-- acts that are as in the opening, and not more than it has, are its first turns
first_ones : (played acts : List Act) → AreAsPlayed played acts → length acts ≤ length played → acts ≡ reverse (take (length acts) played)
first_ones played [] as_played few = refl
first_ones played (act ∷ before) as_played few =
    let lt : length before < length played = omega arith in
    let rest = first_ones played before as_played.0 (omega arith) in
    let first : get_or played (length before) act ≡ act =
    fine_played (get_or played (length before) act) act false
    (ap (λ (o : Option Act). remark_of o false act) (sym (slice_get-get_or played (length before) act lt)) ∙ as_played.1) in
    let at : length before + 1 ≡ suc (length before) = omega arith in
    (λ i. sym first i ∷ rest i) ∙ sym (reverse_more played (length before) act lt) ∙ ap (λ (k : ℕ). reverse (take k played)) at

-- as many acts as the opening has, and as in the opening, are the opening
all_played : (problem : Setup) (acts : List Act) → AreAsPlayed problem.played acts → length problem.played ≡ length acts → BeginsAsPlayed problem acts
all_played problem acts as_played whole = record {
  later = [];
  parts = first_ones problem.played acts as_played (omega (arith, whole)) ∙ ap reverse (take_all (length acts) problem.played (omega (arith, whole)));
}

-- acts that are as in the opening, and at least as many, begin with it
pub enough_begin : (problem : Setup) (acts : List Act) → AreAsPlayed problem.played acts → length problem.played ≤ length acts → BeginsAsPlayed problem acts
enough_begin problem [] as_played enough = all_played problem [] as_played (omega arith)
enough_begin problem (act ∷ before) as_played enough =
    elim (cases_eq (length problem.played) (length before + 1)) [
      | inl whole ↦ all_played problem (act ∷ before) as_played (omega (arith, whole))
      | inr more ↦
          let rest = enough_begin problem before as_played.0 (omega arith) in
          record { later = act ∷ rest.later; parts = ap (λ (acts : List Act). act ∷ acts) rest.parts }
    ]

pub begin_played : (problem : Setup) (acts : List Act) → BeginsAsPlayed problem acts → AreAsPlayed problem.played acts × (length problem.played ≤ length acts)
begin_played problem acts begins =
    let A : List Act → Type 0 = λ xs. AreAsPlayed problem.played xs in
    let long = ap length begins.parts ∙ length-append begins.later (reverse problem.played) in
    let same = length-reverse problem.played in
    (subst A (sym begins.parts) (begins_as_played problem.played begins.later), omega (arith, long, same))

-- ---- records
module _ (problem : Setup) where
  abbrev pone : Side
  pone = pone_of (start_of problem)

  -- there is no remark on a record exactly where its visible turns are as in the opening
  pub none_from : (played : List Move) → AreAsPlayed problem.played (acts_of pone played) → NoneStrays (by_rules problem) pone played
  none_from [] as_played = tt
  none_from (turn ∷ past) as_played =
      let A : List Act → Type 0 = λ acts. AreAsPlayed problem.played acts in
      let b = is_visible pone (letter_of turn) (letters_of past) in
      elim (cases_Bool b) [
        | inl v ↦ (let both = subst A (acts_visible pone turn past v) as_played in (none_from past both.0, λ _. both.1))
        | inr v ↦ (none_from past (subst A (acts_silent pone turn past v) as_played), λ seen. absurd (both_ways b v seen))
      ]

  pub none_to : (played : List Move) → NoneStrays (by_rules problem) pone played → AreAsPlayed problem.played (acts_of pone played)
  none_to [] none = tt
  none_to (turn ∷ past) none =
      cond_both (is_visible pone (letter_of turn) (letters_of past)) _ _ (λ (acts : List Act). AreAsPlayed problem.played acts)
      (λ v. (none_to past none.0, none.1 v)) (λ v. none_to past none.0)
