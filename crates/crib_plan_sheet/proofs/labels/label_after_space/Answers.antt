use Rattle.std.proofs.Common.{◌∙◌, ◌+◌, ◌<◌, ◌∷◌, List, ℕ, Bool, drop, take, length, append_assoc, arith}
use Rattle.std.proofs.lemmas.Grind.{flat_map-append}
use Rattle.crib_text.specs.Spelling.{space}
use Rattle.crib_plan_sheet.specs.PlanText.{range_words, rank_words}
use Rattle.crib_plan_sheet.specs.Private.Pages.{spaced}
use Rattle.crib_plan_sheet.proofs.LabelPieces.{ranks_in, ranks_out, ranks_done, thirteen, with_go, without_go}
use Rattle.crib_plan_sheet.proofs.labels.label_after_space.Goals as goal
use Rattle.crib_plan_sheet.proofs.labels.label_after_space.Goals.{then-ranks-index, else-ranks-index}

pub loop-index-preserved : goal.loop-index-preserved
loop-index-preserved c =
    let index : ℕ = c.loop-index.index in
    let before : ℕ = c.loop-index.before in
    let ranks : List Bool = take 13 c.args.set.now in
    let inside : index < length ranks = omega (arith, thirteen c.args.set.now c.told-set, c.loop-index-test.true) in
    elim c.if-ranks-index.branch [
      | then-ranks-index w ↦ rw (w.text-is, w.before-is) (record {
        items = rw (← ranks_in ranks index before _ inside w.if-ranks-index.true) c.loop-index.invariant.items;
        within = omega (arith, c.loop-index.invariant.within);
        len = omega (arith, c.loop-index.invariant.len);
      })
      | else-ranks-index w ↦
          (let words : List (List ℕ) = range_words index before in
          let rest : List (List ℕ) = rank_words (index + 1) 0 (drop (index + 1) ranks) in
          rw (w.text-is, w.before-is) (record {
            items = rw (w.add_range.ensures.items, append_assoc c.loop-index.text.items (spaced words) (spaced rest))
                (rw (← flat_map-append (λ (word : List ℕ). space ∷ word) words rest, ← ranks_out ranks index before _ inside w.if-ranks-index.false)
                c.loop-index.invariant.items);
            within = omega arith;
            len = omega (arith, w.add_range.ensures.len, c.loop-index.invariant.len);
          }))
    ]

pub returns-then-set-offset13-clause-items : goal.returns-then-set-offset13-clause-items
returns-then-set-offset13-clause-items c =
    c.add.ensures.items ∙ with_go c.args.set.now _ c.add_range-2.new.text.items c.told-set c.if-set-offset13.true
    (ranks_done c.args.set.now c.loop-index.index _ _ _ (omega arith) c.told-set c.add_range-2.ensures.items c.loop-index.invariant.items)

pub returns-else-set-offset13-clause-items : goal.returns-else-set-offset13-clause-items
returns-else-set-offset13-clause-items c =
    without_go c.args.set.now _ c.add_range-2.new.text.items c.told-set c.if-set-offset13.false
    (ranks_done c.args.set.now c.loop-index.index _ _ _ (omega arith) c.told-set c.add_range-2.ensures.items c.loop-index.invariant.items)
