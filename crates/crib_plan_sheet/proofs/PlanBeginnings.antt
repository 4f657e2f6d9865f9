-- The sheet of a long plan begins with the lines of its first look, and none of them has lines below it.
use Rattle.std.proofs.Common.{◌≡◌, ℕ, zero, suc, ◌<◌, ◌≤◌, ◌⊎◌, inl, inr, Bool, true, ◌||◌, List, [], ◌∷◌, length, map, slice_get, get_or}
use Rattle.std.proofs.Common.{Some, refl, sym, ap, subst, ◌∙◌, arith}
use Rattle.std.specs.List.{AllByRecursion}
use Rattle.std.proofs.lemmas.Bool.{cases_Bool, cond_both}
use Rattle.std.proofs.lemmas.Bool.Decides.{nat_tests}
use Rattle.std.proofs.lemmas.Option.{slice_get-get_or}
use Rattle.crib_plan.specs.declared.plan.Next.{Next}
use Rattle.crib_plan.specs.declared.plan.Next.TheVariants.{End, To}
use Rattle.crib_plan.specs.declared.plan.Node.{Node}
use Rattle.crib_plan.specs.declared.plan.Node.TheVariants.{Play, See}
use Rattle.crib_plan.specs.Nodes.{ArePlan, AreNodes, IsLater, IsNode}
use Rattle.crib_plan.specs.Places.{after_play, node_at, place_after_card}
use Rattle.crib_plan.specs.Spelling.{leads_to}
use Rattle.crib_plan_sheet.specs.PlanOutline.{BeginsWithFirst, apart_in, behind_cards, branches_at, first_look, is_among, looks_to_name, second_looks}
use Rattle.crib_plan_sheet.specs.PlanSheet.{sheet_with, rows_from}
use Rattle.crib_plan_sheet.specs.PlanSheetSize.{level_count}
use Rattle.crib_plan_sheet.specs.Private.Spots.{AreLow, AreSized, IsWhole, cards_at, is_apart_at, levels_at, most_levels}
use Rattle.crib_plan_sheet.specs.Private.Ways.{ways_or_named, ways_to}
use Rattle.crib_plan_sheet.specs.declared.spots.Spot.{Spot}
use Rattle.crib_plan_sheet.proofs.PlanFits.{HasSize, each_below, node_fits, rows_behind}
use Rattle.crib_plan_sheet.proofs.PlanSheets.{node_is}

either_first : (a b : Bool) → a ≡ true → (a || b) ≡ true
either_first a b e = grind (arith, e)

either_second : (a b : Bool) → b ≡ true → (a || b) ≡ true
either_second a b e = grind (arith, e)

leads_there : (i : ℕ) → leads_to i (To i) ≡ true
leads_there i = grind (arith, nat_tests)

module _ (named : List Next) (spots : List Spot) (plan : List Node) (are : AreNodes 0 (length plan) plan) (low : AreLow spots)
    (sized : AreSized named 1 plan spots) where
  abbrev IsWholeAt : ℕ → Node → Type 0
  IsWholeAt i node = IsWhole spots (levels_at spots (To i)) (cards_at spots (To i)) (ways_or_named named i (ways_to plan i)) node

  -- rows go on at a node with no lines, or it has no paragraph
  flat_or_whole : (i : ℕ) (node : Node) → 1 ≤ i → slice_get plan i ≡ Some node → (levels_at spots (To i) ≡ 0) ⊎ IsWholeAt i node
  flat_or_whole i node above found =
      elim (cases_Bool (is_apart_at spots i)) [
        | inl e ↦ inl (sized.broken i node above found e).no_levels
        | inr e ↦ inr (sized.whole i node above found e)
      ]

  named_flat : (i : ℕ) → 1 ≤ i → i < length plan → is_among named i ≡ true → levels_at spots (To i) ≡ 0
  named_flat i above within is =
      elim (flat_or_whole i (get_or plan i (Play 0 End)) above (slice_get-get_or plan i (Play 0 End) within)) [
        | inl flat ↦ flat
        | inr whole ↦ whole.once (rw is (omega arith))
      ]

  -- ---- behind the cards of a row

  step_of : (i : ℕ) (node : Node) → slice_get plan i ≡ Some node → place_after_card plan (To i) ≡ after_play (Some node) (To i)
  step_of i node is = ap (λ found. after_play found (To i)) is

  abbrev steps : ℕ → Next → Next
  steps zero place = place
  steps (suc k) place = steps k (place_after_card plan place)

  look_stays : (k i : ℕ) (branches : List Next) → slice_get plan i ≡ Some (See branches) → steps k (To i) ≡ To i
  look_stays zero i branches is = refl
  look_stays (suc k) i branches is = ap (steps k) (step_of i (See branches) is) ∙ look_stays k i branches is

  step_later : (from i : ℕ) (node : Node) → IsLater from (length plan) (To i) → IsNode i (length plan) node →
      IsLater from (length plan) (after_play (Some node) (To i))
  step_later from i (Play card End) later is = tt
  step_later from i (Play card (To j)) later is = (omega (arith, later.0, is.1.0), is.1.1)
  step_later from i (See branches) later is = later

  steps_later : (k from : ℕ) (place : Next) → IsLater from (length plan) place → IsLater from (length plan) (steps k place)
  steps_later zero from place later = later
  steps_later (suc k) from End later = steps_later k from End later
  steps_later (suc k) from (To i) later =
      let node = get_or plan i (Play 0 End) in
      let found = slice_get-get_or plan i (Play 0 End) later.1 in
      let next = step_later from i node later (node_is plan i node are found) in
      steps_later k from (place_after_card plan (To i)) (subst (IsLater from (length plan)) (sym (step_of i node found)) next)

  -- a place behind these cards has at most so many levels, if it is that of a look
  abbrev IsFlatBehind : ℕ → ℕ → Next → Type 0
  IsFlatBehind bound k place = cards_at spots (steps k place) ≡ 0 → levels_at spots (steps k place) ≤ bound

  behind_node : (bound k i : ℕ) (node : Node) → slice_get plan i ≡ Some node → IsNode i (length plan) node → IsWholeAt i node →
      cards_at spots (To i) ≤ suc k → IsFlatBehind bound (suc k) (To i) →
      ((next : Next) → IsLater i (length plan) next → cards_at spots next ≤ k → IsFlatBehind bound k next → levels_at spots next ≤ bound) →
      levels_at spots (To i) ≤ bound
  behind_node bound k i (Play card next) found is whole few end rest =
      let on : steps (suc k) (To i) ≡ steps k next = ap (steps k) (step_of i (Play card next) found) in
      let flat : IsFlatBehind bound k next =
      λ none. subst (λ place. levels_at spots place ≤ bound) on (end (ap (cards_at spots) on ∙ none)) in
      omega (arith, whole.its_levels, rest next is.1 (omega (arith, few, whole.its_cards)) flat)
  behind_node bound k i (See branches) found is whole few end rest =
      let on : steps (suc k) (To i) ≡ To i = look_stays (suc k) i branches found in
      subst (λ place. levels_at spots place ≤ bound) on (end (ap (cards_at spots) on ∙ whole.its_cards))

  -- a row with at most so many cards has no more levels than what is behind them
  behind_row : (bound k from : ℕ) (place : Next) → IsLater from (length plan) place → cards_at spots place ≤ k → IsFlatBehind bound k place →
      levels_at spots place ≤ bound
  behind_row bound k from End later few end = omega arith
  behind_row bound zero from (To i) later few end = end (omega (arith, few))
  behind_row bound (suc k) from (To i) later few end =
      let node = get_or plan i (Play 0 End) in
      let found = slice_get-get_or plan i (Play 0 End) later.1 in
      elim (flat_or_whole i node (omega (arith, later.0)) found) [
        | inl flat ↦ omega (arith, flat)
        | inr whole ↦ behind_node bound k i node found (node_is plan i node are found) whole few end (λ next. behind_row bound k i next)
      ]

  -- ---- the lines of a look

  flat_at : (from : ℕ) (place : Next) → IsLater from (length plan) place → ((i : ℕ) → leads_to i place ≡ true → is_among named i ≡ true) →
      levels_at spots place ≤ 0
  flat_at from End later among = omega arith
  flat_at from (To i) later among = omega (arith, named_flat i (omega (arith, later.0)) later.1 (among i (leads_there i)))

  -- if the looks behind them are named, the lines of a look have no lines below them
  lines_flat : (from : ℕ) (branches : List Next) → AllByRecursion (IsLater from (length plan)) branches →
      ((i : ℕ) → is_among (map (behind_cards plan) branches) i ≡ true → is_among named i ≡ true) → most_levels spots branches ≤ 0
  lines_flat from [] later among = omega arith
  lines_flat from (place ∷ places) later among =
      let others = λ (i : ℕ). is_among (map (behind_cards plan) places) i in
      let behind = flat_at from (steps 4 place) (steps_later 4 from place later.0)
      (λ i e. among i (either_first (leads_to i (behind_cards plan place)) (others i) e)) in
      let here = behind_row 0 4 from place later.0 (low.cards place) (λ none. behind) in
      omega (arith, here, lines_flat from places later.1 (λ i e. among i (either_second (leads_to i (behind_cards plan place)) (others i) e)))

  -- ---- the first look

  second_at : (place : Next) (branches : List Next) → first_look plan ≡ place → node_at plan place ≡ Some (See branches) →
      second_looks plan ≡ map (behind_cards plan) branches
  second_at place branches is found =
      ap (λ p. map (behind_cards plan) (branches_at (node_at plan p))) is ∙ ap (λ node. map (behind_cards plan) (branches_at node)) found

  abbrev AreNamed : Type 0
  AreNamed = (i : ℕ) → is_among (second_looks plan) i ≡ true → is_among named i ≡ true

  -- of the first look, the lines
  lines_of_first : (from : ℕ) (place : Next) (branches : List Next) → first_look plan ≡ place → node_at plan place ≡ Some (See branches) →
      AllByRecursion (IsLater from (length plan)) branches → AreNamed → most_levels spots branches ≤ 0
  lines_of_first from place branches is found later among =
      lines_flat from branches later (λ i e. among i (ap (λ places. is_among places i) (second_at place branches is found) ∙ e))

  look_node : (i : ℕ) (node : Node) → first_look plan ≡ To i → slice_get plan i ≡ Some node → IsNode i (length plan) node → IsWholeAt i node →
      AreNamed → cards_at spots (To i) ≡ 0 → levels_at spots (To i) ≤ 1
  look_node i (Play card next) is found fits whole among none = absurd (omega (arith, none, whole.its_cards))
  look_node i (See branches) is found fits whole among none =
      omega (arith, whole.its_levels, lines_of_first i (To i) branches is found fits.1 among)

  look_low : (place : Next) → first_look plan ≡ place → IsLater 0 (length plan) place → AreNamed → cards_at spots place ≡ 0 → levels_at spots place ≤ 1
  look_low End is later among none = omega arith
  look_low (To i) is later among none =
      let node = get_or plan i (Play 0 End) in
      let found = slice_get-get_or plan i (Play 0 End) later.1 in
      elim (flat_or_whole i node (omega (arith, later.0)) found) [
        | inl flat ↦ omega (arith, flat)
        | inr whole ↦ look_node i node is found (node_is plan i node are found) whole among none
      ]

  first_size : (first : Node) → first_look plan ≡ steps 5 (To 0) → slice_get plan 0 ≡ Some first → AreNamed → HasSize spots 1 5 first
  first_size (Play card next) start found among =
      let later = (node_is plan 0 (Play card next) are found).1 in
      let is : first_look plan ≡ steps 4 next = start ∙ ap (steps 4) (step_of 0 (Play card next) found) in
      (behind_row 1 4 0 next later (low.cards next) (look_low (steps 4 next) is (steps_later 4 0 next later) among), omega (arith, low.cards next))
  first_size (See branches) start found among =
      let later = (node_is plan 0 (See branches) are found).1 in
      let is : first_look plan ≡ To 0 = start ∙ look_stays 5 0 branches found in
      (omega arith, each_below spots branches 1 (omega (arith, lines_of_first 0 (To 0) branches is found later among)))

begins : (spots : List Spot) (plan : List Node) → length spots ≡ length plan → AreNodes 0 (length plan) plan → AreLow spots →
    AreSized (looks_to_name plan) 1 plan spots → BeginsWithFirst (apart_in (map (λ spot. spot.is_apart) spots)) plan
unfolding sheet_with
begins spots [] fits are low sized long = omega arith
begins spots (node ∷ nodes) fits are low sized long =
    let apart : ℕ → Bool = apart_in (map (λ (s : Spot). s.is_apart) spots) in
    let plan : List Node = node ∷ nodes in
    let size = first_size (looks_to_name plan) spots plan are low sized node refl refl (λ i e. rw long e) in
    let first = node_fits apart spots low (rows_from apart 1 nodes) 1 5 node (rows_behind (looks_to_name plan) spots plan fits low sized) size in
    cond_both (apart 0) _ _ (λ row. level_count row ≤ 1) (λ e. omega arith) (λ e. first.depth)

pub outline_begins : (spots : List Spot) (plan nodes : List Node) → nodes ≡ plan → length spots ≡ length nodes → ArePlan nodes → AreLow spots →
    AreSized (looks_to_name plan) 1 nodes spots → BeginsWithFirst (apart_in (map (λ spot. spot.is_apart) spots)) plan
outline_begins spots plan nodes known long are low sized =
    subst (λ p. BeginsWithFirst (apart_in (map (λ (s : Spot). s.is_apart) spots)) p) known
    (begins spots nodes long are.1 low (subst (λ p. AreSized (looks_to_name p) 1 nodes spots) (sym known) sized))
