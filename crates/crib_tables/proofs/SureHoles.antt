-- The most holes that are sure, found from the limit downwards, and those of one turn after another.
use Rattle.std.proofs.Common.{◌≡◌, ◌≤◌, ◌<◌, inl, inr, ℕ, zero, suc, ◌+◌, ◌-◌, Bool, true, false, cond, List, [], ◌∷◌, ◌++◌, take, get_or, length, arith}
use Rattle.std.proofs.Common.{None, Option, Some, length-append, sym, ap, subst, ◌∙◌}
use Rattle.std.specs.Prelude.{◌↔◌, IfOk, IsTrue, Result, filter}
use Rattle.std.specs.declared.alloc.AllocError.{AllocError}
use Rattle.std.specs.List.{AllByRecursion, AllZip}
use Rattle.std.proofs.lemmas.Bool.{cases_lt, false≢true}
use Rattle.std.proofs.lemmas.List.{append-nil, length-map, take_all, take_more}
use Rattle.std.proofs.lemmas.List.Elements.{filter-append}
use Rattle.std.proofs.lemmas.Slice.Zip.{all_zipped_more}
use Rattle.crib_cards.specs.Sides.{game_hole, score_with}
use Rattle.crib_cards.specs.declared.moves.Act.{Act}
use Rattle.crib_cards.specs.declared.moves.Move.TheVariants as move
use Rattle.crib_cards.specs.declared.sides.Side.TheVariants.{Owner}
use Rattle.crib_cards.specs.declared.sides.Scores.{Scores}
use Rattle.crib_problem.specs.Setup.{IsSetup, Setup}
use Rattle.crib_search.specs.Winnable.{IsWinnable}
use Rattle.crib_leads.specs.Leads.{may_come, played_by}
use Rattle.crib_tables.specs.declared.holes.TurnHoles.{TurnHoles}
use Rattle.crib_tables.specs.Holes.{AreMost, AreMostWith, AreSureBy, AreSureHoles, AreSureWith, opening_scores, with_holes}
use Rattle.crib_tables.specs.Turns.{IsSureTurn, own_turns}
use Rattle.crib_tables.specs.Private.Next.{IsSureNext}

-- what is next: a plan, or a turn
pub plan_next : (problem : Setup) (next : Option Act) (result : Result Bool AllocError) → next ≡ None → IfOk result (λ sure. IsTrue sure ↔ IsWinnable problem) →
    IfOk result (λ sure. IsTrue sure ↔ IsSureNext next problem)
unfolding IsSureNext
plan_next problem next result none ok =
    subst (λ (what : Option Act). IfOk result (λ sure. IsTrue sure ↔ IsSureNext what problem)) (sym none) ok

pub turn_next : (problem : Setup) (next : Option Act) (act : Act) (result : Result Bool AllocError) → next ≡ Some act →
    IfOk result (λ sure. IsTrue sure ↔ IsSureTurn problem act) → IfOk result (λ sure. IsTrue sure ↔ IsSureNext next problem)
unfolding IsSureNext
turn_next problem next act result some ok =
    subst (λ (what : Option Act). IfOk result (λ sure. IsTrue sure ↔ IsSureNext what problem)) (sym some) ok

pub with_plan : (problem : Setup) (holes : ℕ) → AreMost (AreSureBy (IsSureNext None) problem) problem holes → AreMost (AreSureHoles problem) problem holes
unfolding IsSureNext
with_plan problem holes most = most

pub with_turn : (problem : Setup) (act : Act) (holes : ℕ) → AreMost (AreSureBy (IsSureNext (Some act)) problem) problem holes →
    AreMost (AreSureWith act problem) problem holes
unfolding IsSureNext
with_turn problem act holes most = most

-- a goal that is possible, as another problem
pub as_goal : (Is : Setup → Type 0) (problem : Setup) (holes : ℕ) (other : Setup) (sure : Bool) → other ≡ with_holes problem holes → IsSetup other →
    (IsTrue sure ↔ Is other) → IsTrue sure ↔ (IsSetup (with_holes problem holes) × Is (with_holes problem holes))
as_goal Is problem holes other sure same setup is =
    subst (λ (p : Setup). IsTrue sure ↔ (IsSetup p × Is p)) same (λ yes. (setup, is.0 yes), λ both. is.1 both.1)

-- a score with points is not below it, and at most 121
in_range : (score points : ℕ) → score ≤ 120 → (score ≤ score_with score points) × (score_with score points ≤ game_hole)
in_range score points small = (omega (arith, small), omega (arith, small))

pub score_range : (problem : Setup) (scores : Scores) (pegged : ℕ) → IsSetup problem → scores ≡ problem.scores →
    pegged ≡ (opening_scores problem).owner → (scores.owner ≤ 120) × (scores.owner ≤ pegged) × (pegged ≤ game_hole)
score_range problem scores pegged setup same opening =
    let range : (problem.scores.owner ≤ pegged) × (pegged ≤ game_hole) =
    subst (λ (score : ℕ). (problem.scores.owner ≤ score) × (score ≤ game_hole)) (sym opening) (in_range problem.scores.owner _ setup.owner_score)
    in
    subst (λ (own : Scores). (own.owner ≤ 120) × (own.owner ≤ pegged) × (pegged ≤ game_hole)) (sym same) (setup.owner_score, range.0, range.1)

-- no more holes than these are sure, and what is pegged is no more
pub record NoneAbove (AreSure : ℕ → Type 0) (score pegged holes : ℕ) : Type 0 where
  pub left : holes ≤ game_hole - score
  pub above : pegged ≤ score + holes
  pub none : (more : ℕ) → holes < more → more ≤ game_hole - score → ¬ AreSure more

module _ (AreSure : ℕ → Type 0) (score pegged : ℕ) where
  pub none_above_all : (holes : ℕ) → holes ≡ game_hole - score → score ≤ 120 → pegged ≤ game_hole → NoneAbove AreSure score pegged holes
  none_above_all holes all small under = record {
    left = omega (arith, all);
    above = omega (arith, all, small, under);
    none = λ more above below. absurd (omega (arith, all, above, below));
  }

  pub one_less : (holes less : ℕ) → holes ≡ less + 1 → NoneAbove AreSure score pegged holes → pegged < score + holes → ¬ AreSure holes →
      NoneAbove AreSure score pegged less
  one_less holes less one above over not = record {
    left = omega (arith, above.left, one);
    above = omega (arith, over, one);
    none = λ more beyond within. elim (cases_lt holes more) [
      | inl lt ↦ above.none more lt within
      | inr ge ↦ λ sure. let same : more ≡ holes = omega (arith, beyond, ge, one) in not (subst AreSure same sure)
    ];
  }

pub found : (AreSure : ℕ → Type 0) (problem : Setup) (scores : Scores) (pegged holes : ℕ) → scores ≡ problem.scores →
    NoneAbove AreSure scores.owner pegged holes → AreSure holes → AreMost AreSure problem holes
found AreSure problem scores pegged holes same above sure =
    let from : NoneAbove AreSure problem.scores.owner pegged holes = subst (λ (own : Scores). NoneAbove AreSure own.owner pegged holes) same above in
    record { sure = sure; left = from.left; most = from.none }

-- holes that aren't pegged are sure if the goal is
module _ (Is : Setup → Type 0) (problem : Setup) (scores : Scores) (pegged holes : ℕ) (same : scores ≡ problem.scores)
    (opening : pegged ≡ (opening_scores problem).owner) where
  not_pegged : (from to : ℕ) → scores.owner ≡ from → pegged ≡ to → pegged < scores.owner + holes → from + holes ≤ to → ⊥
  not_pegged from to own at over are = omega (arith, own, at, over, are)

  pub not_these : (sure : Bool) → (IsTrue sure ↔ (IsSetup (with_holes problem holes) × Is (with_holes problem holes))) → pegged < scores.owner + holes →
      sure ≡ false → ¬ AreSureBy Is problem holes
  not_these sure is over not (inl are) =
      not_pegged problem.scores.owner (opening_scores problem).owner (ap (λ (own : Scores). own.owner) same) opening over are
  not_these sure is over not (inr both) = false≢true (sym not ∙ is.1 both)

  pub these : (sure : Bool) → (IsTrue sure ↔ (IsSetup (with_holes problem holes) × Is (with_holes problem holes))) → sure ≡ true →
      AreSureBy Is problem holes
  these sure is are = inr (is.0 are)

  pub pegged_are : scores.owner + holes ≤ pegged → AreSureBy Is problem holes
  pegged_are within =
      inl (subst (λ (own : Scores). own.owner + holes ≤ (opening_scores problem).owner) same
      (subst (λ (to : ℕ). scores.owner + holes ≤ to) opening within))

-- ---- one turn after another

-- the most holes with each turn so far that may come next
pub record AreSoFar (problem : Setup) (acts : List Act) (turns : List TurnHoles) (done : ℕ) : Type 0 where
  pub all : AllZip (AreMostWith problem) (filter (may_come problem) (take done acts)) turns
  pub few : length turns ≤ done

pub no_turn : (problem : Setup) (acts : List Act) → AreSoFar problem acts [] 0
no_turn problem acts = record { all = tt; few = omega arith }

module _ (problem : Setup) (acts : List Act) (turns : List TurnHoles) (done : ℕ) (d : Act) (below : done < length acts)
    (are : AreSoFar problem acts turns done) where
  abbrev act : Act
  act = get_or acts done d

  next_turns : filter (may_come problem) (take (done + 1) acts) ≡ filter (may_come problem) (take done acts) ++ filter (may_come problem) (act ∷ [])
  next_turns = rw (take_more acts done d below) (filter-append (may_come problem) (take done acts) (act ∷ []))

  pub turn_more : (turn : TurnHoles) → may_come problem act ≡ true → AreMostWith problem act turn → AreSoFar problem acts (turns ++ turn ∷ []) (done + 1)
  turn_more turn may most = record {
    all = subst (λ (all : List Act). AllZip (AreMostWith problem) all (turns ++ turn ∷ []))
        (sym (next_turns ∙ ap (λ (b : Bool). filter (may_come problem) (take done acts) ++ cond b (act ∷ []) []) may))
        (all_zipped_more (AreMostWith problem) (filter (may_come problem) (take done acts)) turns act turn are.all most);
    few = omega (arith, are.few, length-append turns (turn ∷ []));
  }

  pub turn_skip : may_come problem act ≡ false → AreSoFar problem acts turns (done + 1)
  turn_skip not = record {
    all = subst (λ (all : List Act). AllZip (AreMostWith problem) all turns)
        (sym (next_turns ∙ ap (λ (b : Bool). filter (may_come problem) (take done acts) ++ cond b (act ∷ []) []) not
        ∙ append-nil (filter (may_come problem) (take done acts)))) are.all;
    few = omega (arith, are.few);
  }

pub all_turns : (problem : Setup) (acts : List Act) (turns : List TurnHoles) (done : ℕ) → length acts ≤ done → AreSoFar problem acts turns done →
    AllZip (AreMostWith problem) (filter (may_come problem) acts) turns
all_turns problem acts turns done end are =
    subst (λ (all : List Act). AllZip (AreMostWith problem) (filter (may_come problem) all) turns) (take_all done acts end) are.all

pub own_at : (acts : List Act) (index : ℕ) (d : Act) → index < length acts → AllByRecursion (λ (act : Act). act.side ≡ Owner) acts →
    (get_or acts index d).side ≡ Owner
own_at [] index d below are = absurd (omega (arith, below))
own_at (act ∷ acts) zero d below are = are.0
own_at (act ∷ acts) (suc index) d below are = own_at acts index d (omega (arith, below)) are.1

-- four cards and a go are five turns
pub five_turns : (problem : Setup) → length problem.hold ≡ 4 → length (own_turns problem) ≡ 5
five_turns problem four = five problem.hold four
  where
    five : (cards : List ℕ) → length cards ≡ 4 → length (played_by Owner cards ++ record { side = Owner; what = move.Go } ∷ []) ≡ 5
    five cards four =
        omega (
          arith,
          four,
          length-append (played_by Owner cards) (record { side = Owner; what = move.Go } ∷ []),
          length-map {B = Act} cards (λ card. record { side = Owner; what = move.Card card }),
        )
