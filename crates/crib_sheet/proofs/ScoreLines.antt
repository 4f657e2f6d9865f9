-- Lines of a table of scores that are put item by item.
use Rattle.std.proofs.Common.{◌≡◌, ◌-◌, ◌≤◌, false, List, [], ◌∷◌, ◌++◌, length, take, drop, get_or, codes, flat_map, refl, arith}
use Rattle.std.specs.List.{list_all}
use Rattle.std.proofs.lemmas.List.{take_all}
use Rattle.crib_cards.specs.declared.moves.Act.{Act}
use Rattle.crib_tables.specs.declared.scores.Mark.{Mark}
use Rattle.crib_sheet.specs.Scores.{is_impossible, mark_text, marks_text, turn_text, turns_line}

pub turns_from : (acts : List Act) (act : Act) → 1 ≤ length acts → act ≡ get_or acts 0 act →
    codes "played " ++ turn_text act ++ flat_map (λ (one : Act). codes ", " ++ turn_text one) (take (length acts - 1) (drop 1 acts)) ++ codes "\n"
    ≡ turns_line acts
turns_from [] act some is = absurd (omega (arith, some))
turns_from (one ∷ acts) act some is = rw (is, take_all (length (one ∷ acts) - 1) acts (omega arith)) refl

pub marks_from : (marks : List Mark) (blank : Mark) → 1 ≤ length marks → list_all is_impossible marks ≡ false →
    codes " " ++ mark_text (get_or marks 0 blank) ++ marks_text (take (length marks - 1) (drop 1 marks)) ≡ marks_text marks
marks_from [] blank some shown = absurd (omega (arith, some))
marks_from (one ∷ marks) blank some shown = rw (take_all (length (one ∷ marks) - 1) marks (omega arith), shown) refl
