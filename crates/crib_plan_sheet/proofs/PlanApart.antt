-- Only nodes whose rows are too large have paragraphs of their own.
use Rattle.std.proofs.Common.{◌≡◌, ℕ, zero, suc, ◌+◌, ◌<◌, ◌≤◌, Bool, true, false, List, [], ◌∷◌, length, map, slice_get, get_or}
use Rattle.std.proofs.Common.{Some, unwrap_or, inl, inr, sym, ap, subst, ◌∙◌, arith, true≢false}
use Rattle.std.proofs.lemmas.Bool.{cases_Bool}
use Rattle.std.proofs.lemmas.Option.{slice_get-get_or, slice_get_cases, slice_get_within}
use Rattle.crib_cards.specs.Letters.{letter_index}
use Rattle.crib_cards.specs.declared.letters.Letter.{Letter}
use Rattle.crib_cards.specs.declared.letters.Letter.TheVariants.{Seen}
use Rattle.crib_plan.specs.declared.plan.Next.{Next}
use Rattle.crib_plan.specs.declared.plan.Next.TheVariants.{End, To}
use Rattle.crib_plan.specs.declared.plan.Node.{Node}
use Rattle.crib_plan.specs.declared.plan.Node.TheVariants.{Play, See}
use Rattle.crib_plan.specs.Nodes.{ArePlan, IsLater, IsNode, AreNodes}
use Rattle.crib_plan_sheet.specs.PlanOutline.{apart_in, first_cards, is_among, looks_to_name, IsTooLarge, OnlyLargeAreApart}
use Rattle.crib_plan_sheet.specs.PlanSheet.{Row, Lines, Paragraph, NoLine, Line, row_for, row_named, row_to, lines_to, rows_from}
use Rattle.crib_plan_sheet.specs.PlanSheetSize.{level_count, levels_below}
use Rattle.crib_plan_sheet.specs.Private.Spots.{levels_at, cards_at, most_levels, node_levels, node_cards, is_first_apart}
use Rattle.crib_plan_sheet.specs.Private.Spots.{AreSized}
use Rattle.crib_plan_sheet.specs.Private.Ways.{ways_to}
use Rattle.crib_plan_sheet.specs.declared.spots.Spot.{Spot}
use Rattle.crib_plan_sheet.proofs.PlanFits.{apart_is, apart_same}
use Rattle.crib_plan_sheet.proofs.PlanSheets.{behind, branch_later, later_is, line_of, node_is, row_is}

-- the row of a letter has no more levels than the lines
one_line_below : (lines : Lines) (letter : Letter) → level_count (row_for lines letter) ≤ levels_below lines
one_line_below NoLine letter = omega arith
one_line_below (Line set row others) letter = grind (arith, one_line_below others letter)

most_below : (spots : List Spot) (branches : List Next) (bound : ℕ) →
    ((i : ℕ) → levels_at spots (unwrap_or (slice_get branches i) End) ≤ bound) → most_levels spots branches ≤ bound
most_below spots [] bound each = omega arith
most_below spots (next ∷ branches) bound each = omega (arith, each 0, most_below spots branches bound (λ i. each (suc i)))

flag_within : (spots : List Spot) (node : ℕ) → apart_in (map (λ spot. spot.is_apart) spots) node ≡ true → node < length spots
flag_within spots node apart = grind (arith, apart_is spots node, slice_get_cases spots node, apart)

module _ (spots : List Spot) (plan : List Node) (long : length spots ≡ length plan) (are : AreNodes 0 (length plan) plan)
    (sized : AreSized (looks_to_name plan) 1 plan spots) where
  abbrev apart : ℕ → Bool
  apart = apart_in (map (λ spot. spot.is_apart) spots)

  abbrev rows : List Paragraph
  rows = rows_from apart 0 plan

  -- what is known of a node is no more than its row has
  record IsKnown (node : Node) (row : Row) : Type 0 where
    pub levels : node_levels spots node ≤ level_count row
    pub cards : node_cards spots node ≤ first_cards row

  abbrev KnownFrom : ℕ → Type 0
  KnownFrom number = (i : ℕ) (node : Node) → number < i → slice_get plan i ≡ Some node → IsKnown node (row_named rows i)

  led : (number : ℕ) (next : Next) → KnownFrom number → IsLater number (length plan) next →
      (levels_at spots next ≤ level_count (row_to apart (behind apart plan number) next))
      × (cards_at spots next ≤ first_cards (row_to apart (behind apart plan number) next))
  led number End known later = (omega arith, omega arith)
  led number (To i) known later =
      let target = get_or plan i (Play 0 End) in
      let found = slice_get-get_or plan i (Play 0 End) later.1 in
      let row = later_is apart plan number i later.0 in
      let broken = sized.broken i target (omega (arith, later.0)) found in
      let whole = sized.whole i target (omega (arith, later.0)) found in
      grind (arith, apart_same spots i (omega (arith, long, later.1)), broken, whole, known i target later.0 found, ap level_count row, ap first_cards row)

  at_node : (number : ℕ) (node : Node) → slice_get plan number ≡ Some node → KnownFrom number → IsNode number (length plan) node →
      IsKnown node (row_named rows number)
  at_node number (Play card next) found known is =
      let rest = led number next known is.1 in
      rw (row_is apart plan number (Play card next) found) (record { levels = rest.0; cards = omega (arith, rest.1) })
  at_node number (See branches) found known is =
      let lines = lines_to apart (behind apart plan number) branches 0 branches in
      let each : (i : ℕ) → levels_at spots (unwrap_or (slice_get branches i) End) ≤ levels_below lines =
      λ i. (let e : letter_index (Seen (i + 1)) ≡ i = omega arith in
      let next : Next = unwrap_or (slice_get branches i) End in
      let row = ap level_count (line_of apart (behind apart plan number) branches (Seen (i + 1)) next (ap (λ k. unwrap_or (slice_get branches k) End) e)) in
      let rest = led number next known (branch_later number (length plan) branches i is.1) in
      omega (arith, rest.0, row, one_line_below lines (Seen (i + 1)))) in
      rw (row_is apart plan number (See branches) found)
      (record { levels = omega (arith, most_below spots branches (levels_below lines) each); cards = omega arith })

  known_from : (fuel number : ℕ) → length plan ≤ number + fuel → KnownFrom number
  known_from zero number enough i node above found =
      absurd (omega (arith, slice_get_within plan i node found, above, enough))
  known_from (suc fuel) number enough i node above found =
      at_node i node found (known_from fuel i (omega (arith, above, enough))) (node_is plan i node are found)

  only_large : is_first_apart spots ≡ false → OnlyLargeAreApart apart plan
  only_large first zero is = absurd (true≢false (sym is ∙ apart_is spots 0 ∙ first))
  only_large first (suc i) is =
      let within : suc i < length spots = flag_within spots (suc i) is in
      let node = get_or plan (suc i) (Play 0 End) in
      let found : slice_get plan (suc i) ≡ Some node = slice_get-get_or plan (suc i) (Play 0 End) (omega (arith, within, long)) in
      let broken = sized.broken (suc i) node (omega arith) found (sym (apart_same spots (suc i) within) ∙ is) in
      let known = known_from (length plan) 0 (omega arith) (suc i) node (omega arith) found in (
        omega arith,
        elim (cases_Bool (is_among (looks_to_name plan) (suc i))) [
          | inl e ↦ inr e
          | inr e ↦
              (let large : IsTooLarge (node_cards spots node) (node_levels spots node) (ways_to plan (suc i)) = rw e at broken.large in
              inl (grind (arith, known.cards, known.levels, large)))
        ],
      )

pub outline_apart : (spots : List Spot) (plan nodes : List Node) → nodes ≡ plan → length spots ≡ length nodes → ArePlan nodes →
    AreSized (looks_to_name plan) 1 nodes spots → is_first_apart spots ≡ false → OnlyLargeAreApart (apart_in (map (λ spot. spot.is_apart) spots)) plan
outline_apart spots plan nodes known long are sized first =
    subst (λ p. OnlyLargeAreApart (apart_in (map (λ (s : Spot). s.is_apart) spots)) p) known
    (only_large spots nodes long are.1 (subst (λ p. AreSized (looks_to_name p) 1 nodes spots) (sym known) sized) first)
