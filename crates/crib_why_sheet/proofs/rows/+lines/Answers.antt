use Rattle.std.proofs.Common.{◌≡◌, ◌∙◌, ℕ, ◌+◌, ◌∷◌, [], ◌++◌, List, flat_map, ap, sym, append_assoc, arith}
use Rattle.std.proofs.lemmas.Bool.{eqb-false, eqb-true}
use Rattle.crib_why_sheet.specs.declared.line.WhyLine.{WhyLine}
use Rattle.crib_why_sheet.specs.WhyPlay.{with_turns, shown_names}
use Rattle.crib_why_sheet.specs.WhyRows.{first_turns, row_line, runs_of, whatever_names}
use Rattle.crib_why_sheet.proofs.WhyLines.{as_written, each_row, first_is, line_before, lines_of_run, no_line, one_row, one_turn}
use Rattle.crib_why_sheet.proofs.WhyLines.{one_whatever, run_written, some_length}
use Rattle.crib_why_sheet.proofs.rows.+lines.Goals as goal

pub add_lines-returns-then-turn-eq32 : goal.add_lines-returns-then-turn-eq32
add_lines-returns-then-turn-eq32 g t c =
    as_written c.add_each.result c.add_each.new.lines.items c.add_each.ensures (ap (λ (lines : List WhyLine). c.args.lines.now.items ++ lines)
    (each_row c.args.problem.now c.args.turn c.args.level c.args.names.now.items c.args.games.now c.if-turn-eq32.true))

pub add_lines-returns-then-are_one_row : goal.add_lines-returns-then-are_one_row
add_lines-returns-then-are_one_row g t c =
    let problem = c.args.problem.now in let games = c.args.games.now in let names = c.args.names.now.items in
    let turns = c.turns_from-first.ensures.value ∙ first_is c.args.turn games c.index-games-0.result c.requires.some c.index-games-0.is in
    let named : c.with_turns-names.result.items ≡ with_turns problem.hold names (first_turns c.args.turn games) =
    rw (c.hold.ensures, turns) at c.with_turns-names.ensures.names in
    as_written c.add_row.result c.add_row.new.lines.items c.add_row.ensures (ap (λ (lines : List WhyLine). c.args.lines.now.items ++ lines)
    (ap (λ (names : List ℕ). row_line problem games c.args.level names ∷ []) named
    ∙ one_row problem c.args.turn c.args.level names games (omega (arith, c.requires.room.0, c.if-turn-eq32.false))
    (sym c.are_one_row.ensures ∙ c.if-are_one_row.true)))

pub add_lines-returns-then-all_go_on_alike : goal.add_lines-returns-then-all_go_on_alike
add_lines-returns-then-all_go_on_alike g t c =
    as_written c.add_next.result c.add_next.new.lines.items c.add_next.ensures (ap (λ (lines : List WhyLine). c.args.lines.now.items ++ lines)
    (one_turn c.args.problem.now c.args.turn c.args.level c.args.names.now.items c.args.games.now
    (omega (arith, c.requires.room.0, c.if-turn-eq32.false)) (sym c.are_one_row.ensures ∙ c.if-are_one_row.false)
    (sym c.all_go_on_alike.ensures ∙ c.if-all_go_on_alike.true)))

pub add_lines-returns-then-are_one_row_whatever : goal.add_lines-returns-then-are_one_row_whatever
add_lines-returns-then-are_one_row_whatever g t c =
    let problem = c.args.problem.now in let games = c.args.games.now in let names = c.args.names.now.items in
    let turns = c.turns_from-first.ensures.value ∙ first_is c.args.turn games c.index-games-0.result c.requires.some c.index-games-0.is in
    let named : c.whatever_names-names.result.items ≡ whatever_names names (shown_names (first_turns c.args.turn games)) =
    rw (c.shown_names.ensures.names, turns) at c.whatever_names-names.ensures.names in
    as_written c.add_row-then-are_one_row_whatever.result c.add_row-then-are_one_row_whatever.new.lines.items c.add_row-then-are_one_row_whatever.ensures
    (ap (λ (lines : List WhyLine). c.args.lines.now.items ++ lines)
    (ap (λ (names : List ℕ). row_line problem games c.args.level names ∷ []) named
    ∙ one_whatever problem c.args.turn c.args.level names games (omega (arith, c.requires.room.0, c.if-turn-eq32.false))
    (sym c.are_one_row.ensures ∙ c.if-are_one_row.false) (sym c.all_go_on_alike.ensures ∙ c.if-all_go_on_alike.false)
    (sym c.are_one_row_whatever.ensures ∙ c.if-are_one_row_whatever.true)))

pub add_lines-returns-then-is_empty : goal.add_lines-returns-then-is_empty
add_lines-returns-then-is_empty g t c =
    as_written c.add_runs.result c.add_runs.new.lines.items c.add_runs.ensures (ap (λ (lines : List WhyLine). c.args.lines.now.items ++ lines)
    (no_line c.args.problem.now c.args.turn c.args.level c.args.names.now.items c.args.games.now
    (omega (arith, c.requires.room.0, c.if-turn-eq32.false)) (sym c.are_one_row.ensures ∙ c.if-are_one_row.false)
    (sym c.all_go_on_alike.ensures ∙ c.if-all_go_on_alike.false) (sym c.are_one_row_whatever.ensures ∙ c.if-are_one_row_whatever.false)
    (eqb-true _ _ (sym c.is_empty.ensures ∙ c.if-is_empty.true))))

pub add_lines-returns : goal.add_lines-returns
add_lines-returns g t c =
    let line : List WhyLine = c.then_line.result ∷ [] in
    let below = flat_map (lines_of_run c.args.problem.now c.args.turn (c.args.level + 1)) (runs_of c.args.problem.now c.args.turn c.args.games.now) in
    as_written c.add_runs-2.result c.add_runs-2.new.lines.items c.add_runs-2.ensures
    (ap (λ (lines : List WhyLine). lines ++ below) c.in_ok-push.ensures.items ∙ append_assoc c.args.lines.now.items line below
    ∙ ap (λ (lines : List WhyLine). c.args.lines.now.items ++ lines)
    (line_before c.args.problem.now c.args.turn c.args.level c.args.names.now.items c.args.games.now c.then_line.result
    (omega (arith, c.requires.room.0, c.if-turn-eq32.false)) (sym c.are_one_row.ensures ∙ c.if-are_one_row.false)
    (sym c.all_go_on_alike.ensures ∙ c.if-all_go_on_alike.false) (sym c.are_one_row_whatever.ensures ∙ c.if-are_one_row_whatever.false)
    (eqb-false _ _ (sym c.is_empty.ensures ∙ c.if-is_empty.false)) c.then_line.ensures))

pub add_runs-loop-rest-preserved : goal.add_runs-loop-rest-preserved
add_runs-loop-rest-preserved g t c =
    run_written c.args.problem.now c.args.turn c.args.level c.run_len.result c.new.result.items c.loop-rest.rest.now
    c.split_at.result.0.now c.split_at.result.1.now _ _ _
    (some_length _ _ c.is_empty.ensures c.loop-rest-test.true) c.run_len.ensures.value c.split_at.ensures.front c.split_at.ensures.back
    c.new.ensures c.in_ok-add_next.ensures c.loop-rest.invariant
