-- The lines of games case by case, and their runs one after another.
use Rattle.std.specs.Prelude.{◌≡◌, ℕ, zero, suc, ◌+◌, ◌-◌, ◌==◌, ◌<◌, Bool, true, false, ◌&&◌, List, [], ◌∷◌, ◌++◌, length, map, flat_map, take, drop}
use Rattle.std.specs.Prelude.{slice_get, Result, IfOk, if◌then◌else◌}
use Rattle.std.proofs.Common.{◌∙◌, get_or, refl, ap, sym, subst, append_assoc, arith}
use Rattle.std.proofs.lemmas.Bool.{eqb-false}
use Rattle.crib_problem.specs.Setup.{Setup}
use Rattle.crib_game.specs.declared.section.game.Game.{Game}
use Rattle.crib_why_sheet.specs.declared.line.WhyLine.{WhyLine}
use Rattle.crib_why_sheet.specs.WhyPlay.{shown_names, with_turns}
use Rattle.crib_why_sheet.specs.WhyRows.{all_with_first, before_runs, first_turn, first_turns, go_on_alike, held_alike, level_below, lines_from}
use Rattle.crib_why_sheet.specs.WhyRows.{next_lines, play_alike, row_line, runs_of, show_alike, then_line, turns_from, whatever_names}
use Rattle.crib_why_sheet.specs.Private.Runs.{more_in_run, run_len}

-- ---- cases

one_less : (turn : ℕ) → turn < 32 → 32 - turn ≡ suc (31 - turn)
one_less turn below = omega (arith, below)

-- a row for each game, after all turns
pub each_row : (problem : Setup) (turn level : ℕ) (names : List ℕ) (games : List Game) → turn ≡ 32
    → map (λ game. row_line problem (game ∷ []) level names) games ≡ lines_from (32 - turn) problem turn level names games
unfolding lines_from
each_row problem turn level names games is = rw is refl

-- whether some games that pass a test are one row
abbrev pub AreRow : (Game → Game → Bool) → Setup → List Game → Bool → Type 0
AreRow test problem games are = (all_with_first test games && all_with_first (held_alike problem) games) ≡ are

-- one row
pub one_row : (problem : Setup) (turn level : ℕ) (names : List ℕ) (games : List Game) → turn < 32
    → AreRow (play_alike problem turn) problem games true
    → row_line problem games level (with_turns problem.hold names (first_turns turn games)) ∷ [] ≡ lines_from (32 - turn) problem turn level names games
unfolding lines_from
one_row problem turn level names games below plays = rw (one_less turn below, plays) refl

-- one turn, with which all go on
pub one_turn : (problem : Setup) (turn level : ℕ) (names : List ℕ) (games : List Game) → turn < 32
    → AreRow (play_alike problem turn) problem games false → all_with_first (go_on_alike problem turn) games ≡ true
    → next_lines (lines_from (31 - turn) problem (turn + 1) level) problem level names games (first_turn turn games)
    ≡ lines_from (32 - turn) problem turn level names games
unfolding lines_from
one_turn problem turn level names games below plays on = rw (one_less turn below, plays, on) refl

-- one row whatever the owner plays
pub one_whatever : (problem : Setup) (turn level : ℕ) (names : List ℕ) (games : List Game) → turn < 32
    → AreRow (play_alike problem turn) problem games false → all_with_first (go_on_alike problem turn) games ≡ false
    → AreRow (show_alike turn) problem games true
    → row_line problem games level (whatever_names names (shown_names (first_turns turn games))) ∷ [] ≡ lines_from (32 - turn) problem turn level names games
unfolding lines_from
one_whatever problem turn level names games below plays on shown = rw (one_less turn below, plays, on, shown) refl

-- the lines of the runs of some games
abbrev pub lines_of_run : Setup → ℕ → ℕ → List Game → List WhyLine
lines_of_run problem turn level run =
    next_lines (lines_from (31 - turn) problem (turn + 1) level) problem level [] run (first_turn turn run)

-- a line, and the lines of runs
pub many_runs : (problem : Setup) (turn level : ℕ) (names : List ℕ) (games : List Game) → turn < 32
    → AreRow (play_alike problem turn) problem games false → all_with_first (go_on_alike problem turn) games ≡ false
    → AreRow (show_alike turn) problem games false
    → then_line level names ++ flat_map (lines_of_run problem turn (level_below level names)) (runs_of problem turn games)
    ≡ lines_from (32 - turn) problem turn level names games
unfolding lines_from
many_runs problem turn level names games below plays on shown = rw (one_less turn below, plays, on, shown) refl

-- ---- runs

longer_run : (problem : Setup) (turn : ℕ) (game other : Game) (games : List Game) (more : ℕ) (alike : Bool) → go_on_alike problem turn game other ≡ alike
    → runs_of problem turn (other ∷ games) ≡ (other ∷ take more games) ∷ runs_of problem turn (drop more games)
    → before_runs problem turn game (runs_of problem turn (other ∷ games))
    ≡ (game ∷ take (if alike then suc more else 0) (other ∷ games)) ∷ runs_of problem turn (drop (if alike then suc more else 0) (other ∷ games))
longer_run problem turn game other games more true is others = rw (others, is) refl
longer_run problem turn game other games more false is others =
    ap (before_runs problem turn game) others ∙ rw is (ap (λ (runs : List (List Game)). (game ∷ []) ∷ runs) (sym others))

first_run : (problem : Setup) (turn : ℕ) (game : Game) (games : List Game)
    → runs_of problem turn (game ∷ games)
    ≡ (game ∷ take (more_in_run problem turn game games) games) ∷ runs_of problem turn (drop (more_in_run problem turn game games) games)
first_run problem turn game [] = refl
first_run problem turn game (other ∷ games) =
    longer_run problem turn game other games (more_in_run problem turn other games) (go_on_alike problem turn game other) refl
    (first_run problem turn other games)

-- the first run of some games, and the runs of those after it
pub next_run : (problem : Setup) (turn : ℕ) (games : List Game) → 0 < length games
    → runs_of problem turn games ≡ take (run_len problem turn games) games ∷ runs_of problem turn (drop (run_len problem turn games) games)
next_run problem turn [] some = absurd (omega (arith, some))
next_run problem turn (game ∷ games) some = first_run problem turn game games

-- ---- what is written

-- the same lines, said in another way
pub as_written : {E : Type 0} (r : Result (Unit {0}) E) (new : List WhyLine) {a b : List WhyLine} → IfOk r (λ x. new ≡ a) → a ≡ b → IfOk r (λ x. new ≡ b)
as_written r new written same = subst (λ (lines : List WhyLine). IfOk r (λ x. new ≡ lines)) same written

pub first_is : (turn : ℕ) (games : List Game) (first : Game) → 0 < length games → first ≡ get_or games 0 first
    → turns_from turn first ≡ first_turns turn games
first_is turn [] first some is = absurd (omega (arith, some))
first_is turn (game ∷ games) first some is = ap (turns_from turn) is

pub next_is : (turn : ℕ) (games : List Game) (first : Game) → 0 < length games → first ≡ get_or games 0 first
    → slice_get first.acts.items turn ≡ first_turn turn games
next_is turn [] first some is = absurd (omega (arith, some))
next_is turn (game ∷ games) first some is = ap (λ (game : Game). slice_get game.acts.items turn) is

-- no line is written where no turn is named
pub no_line : (problem : Setup) (turn level : ℕ) (names : List ℕ) (games : List Game) → turn < 32
    → AreRow (play_alike problem turn) problem games false → all_with_first (go_on_alike problem turn) games ≡ false
    → AreRow (show_alike turn) problem games false → length names ≡ 0
    → flat_map (lines_of_run problem turn level) (runs_of problem turn games) ≡ lines_from (32 - turn) problem turn level names games
no_line problem turn level [] games below plays on shown none = many_runs problem turn level [] games below plays on shown
no_line problem turn level (byte ∷ names) games below plays on shown none = absurd (omega (arith, none))

-- a line, and the lines of the runs below it
pub line_before : (problem : Setup) (turn level : ℕ) (names : List ℕ) (games : List Game) (line : WhyLine) → turn < 32
    → AreRow (play_alike problem turn) problem games false → all_with_first (go_on_alike problem turn) games ≡ false
    → AreRow (show_alike turn) problem games false → (length names ≡ 0 → ⊥) → line ∷ [] ≡ then_line level names
    → line ∷ flat_map (lines_of_run problem turn (level + 1)) (runs_of problem turn games) ≡ lines_from (32 - turn) problem turn level names games
line_before problem turn level [] games line below plays on shown some is = absurd (some refl)
line_before problem turn level (byte ∷ names) games line below plays on shown some is =
    ap (λ (lines : List WhyLine). lines ++ flat_map (lines_of_run problem turn (level + 1)) (runs_of problem turn games)) is
    ∙ many_runs problem turn level (byte ∷ names) games below plays on shown

-- the lines of the next run are written, and those of the games after it are left
pub run_written : (problem : Setup) (turn level count : ℕ) (names : List ℕ) (rest run others : List Game) (old new whole : List WhyLine)
    → 0 < length rest → count ≡ run_len problem turn rest → run ≡ take count rest → others ≡ drop count rest → names ≡ []
    → new ≡ old ++ next_lines (lines_from (31 - turn) problem (turn + 1) level) problem level names run (first_turn turn run)
    → old ++ flat_map (lines_of_run problem turn level) (runs_of problem turn rest) ≡ whole
    → new ++ flat_map (lines_of_run problem turn level) (runs_of problem turn others) ≡ whole
run_written problem turn level count names rest run others old new whole some is first later none written before =
    let runs : runs_of problem turn rest ≡ run ∷ runs_of problem turn others = rw (first, later, is) (next_run problem turn rest some) in
    rw (written, none) (append_assoc old (lines_of_run problem turn level run) (flat_map (lines_of_run problem turn level) (runs_of problem turn others))
    ∙ ap (λ (lines : List WhyLine). old ++ lines) (sym (ap (flat_map (lines_of_run problem turn level)) runs)) ∙ before)

one_more : (f : List Game → WhyLine) (games : List Game) (index : ℕ) → index < length games
    → map (λ game. f (game ∷ [])) (take index games) ++ f (take 1 (drop index games)) ∷ [] ≡ map (λ game. f (game ∷ [])) (take (suc index) games)
one_more f [] index below = absurd (omega (arith, below))
one_more f (game ∷ games) zero below = refl
one_more f (game ∷ games) (suc index) below =
    ap (λ (lines : List WhyLine). f (game ∷ []) ∷ lines) (one_more f games index (omega (arith, below)))

-- a row more, of the game at an index
pub row_written : (problem : Setup) (level : ℕ) (names : List ℕ) (games : List Game) (index : ℕ) (old mid new : List WhyLine) → index < length games
    → new ≡ mid ++ row_line problem (take (index + 1 - index) (drop index games)) level names ∷ []
    → mid ≡ old ++ map (λ game. row_line problem (game ∷ []) level names) (take index games)
    → new ≡ old ++ map (λ game. row_line problem (game ∷ []) level names) (take (index + 1) games)
row_written problem level names games index old mid new below written before =
    let one : index + 1 - index ≡ 1 = omega arith in
    let next : index + 1 ≡ suc index = omega arith in
    let row : List WhyLine = row_line problem (take 1 (drop index games)) level names ∷ [] in
    rw next (rw one at written ∙ ap (λ (lines : List WhyLine). lines ++ row) before
    ∙ append_assoc old (map (λ game. row_line problem (game ∷ []) level names) (take index games)) row
    ∙ ap (λ (lines : List WhyLine). old ++ lines) (one_more (λ games. row_line problem games level names) games index below))

pub some_length : (n : ℕ) (none : Bool) → none ≡ (n == 0) → none ≡ false → 0 < n
some_length n none is some = let more = eqb-false n 0 (sym is ∙ some) in grind (arith, more)
