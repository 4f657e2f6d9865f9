-- The rows of a sheet fit in few levels and few cards.
use Rattle.std.proofs.Common.{◌≡◌, ℕ, suc, ◌+◌, ◌<◌, ◌≤◌, Bool, false, eqb, List, [], ◌∷◌, length, map, drop, slice_get}
use Rattle.std.proofs.Common.{Some, option_map, unwrap_or, refl, sym, ap, ◌∙◌, arith, add-zero}
use Rattle.std.specs.List.{AllByRecursion}
use Rattle.std.proofs.lemmas.Bool.{cond_both, eqb-true}
use Rattle.std.proofs.lemmas.Option.{slice_get-map, slice_get_cases, slice_get_within}
use Rattle.crib_plan.specs.declared.plan.Next.{Next}
use Rattle.crib_plan.specs.declared.plan.Next.TheVariants.{End, To}
use Rattle.crib_plan.specs.declared.plan.Node.{Node}
use Rattle.crib_plan.specs.declared.plan.Node.TheVariants.{Play, See}
use Rattle.crib_cards.proofs.AllEntries.{all_every, all_filter, all_weaker}
use Rattle.crib_plan_sheet.specs.PlanSheet.{Paragraph, Over, Named, row_named, row_to, lines_to, row_of, rows_from}
use Rattle.crib_plan_sheet.specs.PlanSheet.{sheet_with}
use Rattle.crib_plan_sheet.specs.PlanSheetSize.{levels_below}
use Rattle.crib_plan_sheet.specs.PlanOutline.{apart_in}
use Rattle.crib_plan_sheet.specs.Private.Spots.{levels_at, cards_at, is_apart_at, most_levels, AreLow, IsWhole, AreSized}
use Rattle.crib_plan_sheet.specs.Private.Ways.{ways_or_named, ways_to}
use Rattle.crib_plan_sheet.specs.declared.spots.Spot.{Spot}
use Rattle.crib_plan_sheet.proofs.SheetSizes.{IsSmall, IsSmallSheet, most_cards_below}

-- the row of a node has at most so many levels, and begins with at most so many cards
abbrev pub HasSize : List Spot → ℕ → ℕ → Node → Type 0
HasSize spots levels cards (Play card next) = (levels_at spots next ≤ levels) × (cards_at spots next < cards)
HasSize spots levels cards (See branches) =
    (0 < levels) × AllByRecursion (λ next. levels_at spots next < levels) branches

small_over : (levels cards : ℕ) → IsSmall levels cards Over
small_over levels cards = record { depth = omega arith; width = λ before few. omega arith }

small_named : (levels cards number : ℕ) → IsSmall levels cards (Named number)
small_named levels cards number = record { depth = omega arith; width = λ before few. omega arith }

module _ (apart : ℕ → Bool) (spots : List Spot) (low : AreLow spots) where
  -- a row whose node has no paragraph is as small as is known of it, and each is small
  pub record Fits (paragraph : Paragraph) : Type 0 where
    pub known : apart paragraph.number ≡ false → IsSmall (levels_at spots (To paragraph.number)) (cards_at spots (To paragraph.number)) paragraph.row
    pub small : IsSmall 5 5 paragraph.row

  named_fits : (later : List Paragraph) (number : ℕ) → AllByRecursion Fits later → apart number ≡ false →
      IsSmall (levels_at spots (To number)) (cards_at spots (To number)) (row_named later number)
  named_fits [] number all here = small_over (levels_at spots (To number)) (cards_at spots (To number))
  named_fits (paragraph ∷ later) number all here =
      let rest = named_fits later number all.1 here in
      cond_both (eqb paragraph.number number) _ _ (IsSmall (levels_at spots (To number)) (cards_at spots (To number)))
      (λ e. rw (eqb-true paragraph.number number e) at (all.0.known (ap apart (eqb-true paragraph.number number e) ∙ here))) (λ e. rest)

  pub to_fits : (later : List Paragraph) (next : Next) → AllByRecursion Fits later →
      IsSmall (levels_at spots next) (cards_at spots next) (row_to apart later next)
  to_fits later End all = small_over 0 0
  to_fits later (To number) all =
      cond_both (apart number) _ _ (IsSmall (levels_at spots (To number)) (cards_at spots (To number)))
      (λ e. small_named (levels_at spots (To number)) (cards_at spots (To number)) number) (λ e. named_fits later number all e)

  -- the lines of a look, if the places of its letters have fewer levels
  lines_fit : (later : List Paragraph) (levels : ℕ) (all : List Next) (from : ℕ) (branches : List Next) → AllByRecursion Fits later → 0 < levels →
      AllByRecursion (λ next. levels_at spots next < levels) branches →
      (levels_below (lines_to apart later all from branches) < levels) × (most_cards_below (lines_to apart later all from branches) ≤ 5)
  lines_fit later levels all from [] fit some each = (some, omega arith)
  lines_fit later levels all from (End ∷ branches) fit some each = lines_fit later levels all (from + 1) branches fit some each.1
  lines_fit later levels all from (To number ∷ branches) fit some each =
      let row = to_fits later (To number) fit in
      grind (arith, lines_fit later levels all (from + 1) branches fit some each.1, each.0, row.depth, row.width 0 (omega (arith, low.cards (To number))))

  pub node_fits : (later : List Paragraph) (levels cards : ℕ) (node : Node) → AllByRecursion Fits later → HasSize spots levels cards node →
      IsSmall levels cards (row_of apart later node)
  node_fits later levels cards (Play card next) fit size =
      let row = to_fits later next fit in
      record { depth = omega (arith, row.depth, size.0); width = λ before few. row.width (before + 1) (omega (arith, few, size.1)) }
  node_fits later levels cards (See branches) fit size =
      let lines = lines_fit later levels branches 0 branches fit size.0 size.1 in
      record { depth = omega (arith, lines.0); width = λ before few. omega (arith, few, lines.1) }

  each_small : (node : Node) → HasSize spots 5 5 node
  each_small (Play card next) = (omega (arith, low.levels next), omega (arith, low.cards next))
  each_small (See branches) = (omega arith, all_every (λ next. levels_at spots next < 5) (λ next. omega (arith, low.levels next)) branches)

  rows_fit : (number : ℕ) (nodes : List Node) →
      ((i : ℕ) (node : Node) → slice_get nodes i ≡ Some node → apart (number + i) ≡ false →
      HasSize spots (levels_at spots (To (number + i))) (cards_at spots (To (number + i))) node) →
      AllByRecursion Fits (rows_from apart number nodes)
  rows_fit number [] sized = tt
  rows_fit number (node ∷ nodes) sized =
      let later = rows_fit (number + 1) nodes
      (λ i other is. let e : number + suc i ≡ number + 1 + i = omega arith in rw e at (sized (suc i) other is)) in
      let here = rw add-zero at (sized 0 node refl) in (
        record {
          known = λ inline. node_fits (rows_from apart (number + 1) nodes) (levels_at spots (To number)) (cards_at spots (To number)) node later (here inline);
          small = node_fits (rows_from apart (number + 1) nodes) 5 5 node later (each_small node);
        },
        later,
      )

pub apart_is : (spots : List Spot) (i : ℕ) →
    apart_in (map (λ spot. spot.is_apart) spots) i ≡ unwrap_or (option_map (λ (spot : Spot). spot.is_apart) (slice_get spots i)) false
apart_is spots i = ap (λ found. unwrap_or found false) (slice_get-map (λ (spot : Spot). spot.is_apart) spots i)

pub apart_same : (spots : List Spot) (i : ℕ) → i < length spots → apart_in (map (λ spot. spot.is_apart) spots) i ≡ is_apart_at spots i
apart_same spots i within = grind (arith, apart_is spots i, slice_get_cases spots i, within)

pub each_below : (spots : List Spot) (branches : List Next) (bound : ℕ) → most_levels spots branches < bound →
    AllByRecursion (λ next. levels_at spots next < bound) branches
each_below spots [] bound below = tt
each_below spots (next ∷ branches) bound below = (omega (arith, below), each_below spots branches bound (omega (arith, below)))

-- a node without a paragraph has the size that is known of it
sized_apart : (named : List Next) (spots : List Spot) (plan : List Node) → length spots ≡ length plan → AreSized named 1 plan spots → (i : ℕ) (node : Node) →
    1 ≤ i →
    slice_get plan i ≡ Some node → apart_in (map (λ spot. spot.is_apart) spots) i ≡ false → HasSize spots (levels_at spots (To i)) (cards_at spots (To i)) node
sized_apart named spots plan long are i node above found inline =
    size_of node (are.whole i node above found (sym (apart_same spots i (omega (arith, slice_get_within plan i node found))) ∙ inline))
  where
    size_of : (one : Node) → IsWhole spots (levels_at spots (To i)) (cards_at spots (To i)) (ways_or_named named i (ways_to plan i)) one →
        HasSize spots (levels_at spots (To i)) (cards_at spots (To i)) one
    size_of (Play card next) whole = (omega (arith, whole.its_levels), omega (arith, whole.its_cards))
    size_of (See branches) whole = (omega (arith, whole.its_levels), each_below spots branches _ (omega (arith, whole.its_levels)))

-- the rows behind node 0 fit, and so the sheet does
pub rows_behind : (named : List Next) (spots : List Spot) (plan : List Node) → length spots ≡ length plan → (low : AreLow spots) → AreSized named 1 plan spots →
    AllByRecursion (Fits (apart_in (map (λ spot. spot.is_apart) spots)) spots low)
    (rows_from (apart_in (map (λ spot. spot.is_apart) spots)) 1 (drop 1 plan))
rows_behind named spots [] long low are = tt
rows_behind named spots (node ∷ nodes) long low are =
    let apart : ℕ → Bool = apart_in (map (λ (s : Spot). s.is_apart) spots) in
    rows_fit apart spots low 1 nodes
    (λ i other is. let e : suc i ≡ 1 + i = omega arith in rw e at (sized_apart named spots (node ∷ nodes) long are (suc i) other (omega arith) is))

pub outline_fits : (named : List Next) (spots : List Spot) (plan : List Node) → length spots ≡ length plan → AreLow spots → AreSized named 1 plan spots →
    IsSmallSheet (sheet_with (apart_in (map (λ spot. spot.is_apart) spots)) plan)
unfolding sheet_with
outline_fits named spots [] long low are = (small_over 5 5, tt)
outline_fits named spots (node ∷ nodes) long low are =
    let apart : ℕ → Bool = apart_in (map (λ (s : Spot). s.is_apart) spots) in
    let later = rows_behind named spots (node ∷ nodes) long low are in
    let first = node_fits apart spots low (rows_from apart 1 nodes) 5 5 node later (each_small apart spots low node) in
    let others = all_weaker (Fits apart spots low) (λ paragraph. IsSmall 5 5 paragraph.row) (λ paragraph fit. fit.small) (rows_from apart 1 nodes) later in (
      cond_both (apart 0) _ _ (IsSmall 5 5) (λ e. small_named 5 5 0) (λ e. first),
      all_filter (λ paragraph. IsSmall 5 5 paragraph.row) (λ paragraph. apart paragraph.number) (rows_from apart 0 (node ∷ nodes)) (first, others),
    )
