-- The lines of turns that may come next, as the writers put them.
use Rattle.std.proofs.Common.{◌≡◌, ◌≢◌, ◌<◌, ◌≤◌, ◌-◌, ◌∙◌, ℕ, zero, suc, Bool, List, [], ◌∷◌, ◌++◌, length, get_or, take, drop, flat_map}
use Rattle.std.proofs.Common.{None, Some, ap, arith, codes, decimal, if◌then◌else◌, refl, sym, true}
use Rattle.std.specs.List.{list_all, list_any}
use Rattle.std.proofs.lemmas.List.{take_all}
use Rattle.crib_problem.specs.Spelling.{move_word}
use Rattle.crib_plan.specs.declared.plan.Node.{Node}
use Rattle.crib_plan.specs.declared.plan.Node.TheVariants.{Play}
use Rattle.crib_leads.specs.Leads.{is_worse}
use Rattle.crib_leads.specs.declared.leads.Lead.{Lead}
use Rattle.crib_leads.specs.declared.verdict.LeadVerdict.TheVariants.{Beaten}
use Rattle.crib_run.specs.declared.status.Status.TheVariants.{Yes, No}
use Rattle.crib_sheet.specs.LeadsText.{begins_words, best_line, best_of, has_sure, is_mostly_beaten, leads_status, little_lines, little_sentence, nodes_words}
use Rattle.crib_sheet.specs.LeadsText.{own_line, own_lines, their_line, their_lines}

-- ---- the owner's turn

pub own_alone : (leads stops : List Lead) (lead other : Lead) → 1 ≤ length leads → length stops < 1 → lead ≡ get_or leads 0 other
    → own_line lead None ++ own_lines (take (length leads - 1) (drop 1 leads)) [] ≡ own_lines leads stops
own_alone [] stops lead other some none is = absurd (omega (arith, some))
own_alone (first ∷ leads) (stop ∷ stops) lead other some none is = absurd (omega (arith, none))
own_alone (first ∷ leads) [] lead other some none is = rw (is, take_all (length (first ∷ leads) - 1) leads (omega arith)) refl

pub own_beside : (leads stops : List Lead) (lead stop other another : Lead) → 1 ≤ length leads → 1 ≤ length stops → lead ≡ get_or leads 0 other
    → stop ≡ get_or stops 0 another
    → own_line lead (Some stop) ++ own_lines (take (length leads - 1) (drop 1 leads)) (take (length stops - 1) (drop 1 stops)) ≡ own_lines leads stops
own_beside [] stops lead stop other another some more is too = absurd (omega (arith, some))
own_beside (first ∷ leads) [] lead stop other another some more is too = absurd (omega (arith, more))
own_beside (first ∷ leads) (column ∷ stops) lead stop other another some more is too =
    rw (is, too, take_all (length (first ∷ leads) - 1) leads (omega arith), take_all (length (column ∷ stops) - 1) stops (omega arith)) refl

pub nodes_several : (nodes : ℕ) → nodes ≢ 0 → nodes ≢ 1 → codes ", " ++ decimal nodes ++ codes " nodes" ≡ nodes_words nodes
nodes_several zero some several = absurd (some refl)
nodes_several (suc zero) some several = absurd (several refl)
nodes_several (suc (suc nodes)) some several = refl

pub little_if : (leads stops : List Lead) (each : Bool) → 2 ≤ length leads → list_all is_mostly_beaten leads ≡ each
    → (if each then little_sentence ++ best_line stops else []) ≡ little_lines leads stops
little_if [] stops each several is = absurd (omega (arith, several))
little_if (lead ∷ []) stops each several is = absurd (omega (arith, several))
little_if (lead ∷ other ∷ leads) stops each several is = ap (λ (b : Bool). if b then little_sentence ++ best_line stops else []) (sym is)

pub best_named : (stops : List Lead) (stop best other : Lead) → 1 ≤ length stops → stop ≡ get_or stops 0 other
    → best ≡ best_of stop (take (length stops - 1) (drop 1 stops)) → is_worse (Beaten 1 2) best.verdict ≡ true
    → codes "To stop them, the fewest deals beat a plan after " ++ move_word best.act.what ++ codes ".\n" ≡ best_line stops
best_named [] stop best other some first is good = absurd (omega (arith, some))
best_named (one ∷ stops) stop best other some first is good =
    let same : best ≡ best_of one stops = is ∙ rw (first, take_all (length (one ∷ stops) - 1) stops (omega arith)) refl in
    rw (rw same at good, same) refl

-- ---- the opponent's turn

pub theirs_headed : (leads : List Lead) → 1 ≤ length leads
    → codes "It is their turn. After what they may play:\n" ++ flat_map their_line leads ≡ their_lines leads
theirs_headed [] some = absurd (omega (arith, some))
theirs_headed (lead ∷ leads) some = refl

-- ---- the status

pub theirs_decide : (own theirs : List Lead) (good : Bool) → length own < 1 → list_all has_sure theirs ≡ good
    → (if good then Yes else No) ≡ leads_status own theirs
theirs_decide [] theirs good none is = ap (λ (b : Bool). if b then Yes else No) (sym is)
theirs_decide (lead ∷ own) theirs good none is = absurd (omega (arith, none))

pub own_decides : (own theirs : List Lead) (good : Bool) → 1 ≤ length own → list_any has_sure own ≡ good
    → (if good then Yes else No) ≡ leads_status own theirs
own_decides [] theirs good some is = absurd (omega (arith, some))
own_decides (lead ∷ own) theirs good some is = ap (λ (b : Bool). if b then Yes else No) (sym is)

-- ---- the plan to try

begins_alike : (node : Node) (nodes : List Node) → begins_words (node ∷ []) ≡ begins_words (node ∷ nodes)
begins_alike (Play card next) nodes = refl
begins_alike _ nodes = refl

pub begins_with : (nodes : List Node) (first other : Node) → 1 ≤ length nodes → first ≡ get_or nodes 0 other
    → begins_words (first ∷ []) ≡ begins_words nodes
begins_with [] first other some is = absurd (omega (arith, some))
begins_with (node ∷ nodes) first other some is = ap (λ (n : Node). begins_words (n ∷ [])) is ∙ begins_alike node nodes
