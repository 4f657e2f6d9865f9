-- Each row is of the games.
use Rattle.std.specs.Prelude.{◌≡◌, ℕ, zero, suc, ◌+◌, ◌-◌, Bool, true, false, List, [], ◌∷◌, ◌++◌, Option, Some, None}
use Rattle.std.specs.Prelude.{◌&&◌, length, map, flat_map, take, drop, slice_get, unwrap_or, if◌then◌else◌}
use Rattle.std.proofs.Common.{◌∙◌, inl, inr, refl, ap, sym, subst, append_assoc, arith}
use Rattle.std.specs.List.{list_all, list_any}
use Rattle.std.proofs.lemmas.Bool.{and_parts, false≢true}
use Rattle.std.proofs.lemmas.List.{append-nil}
use Rattle.std.proofs.lemmas.Option.{none-some}
use Rattle.std.proofs.lemmas.Slice.Eq.{bytes_eq-Decides}
use Rattle.crib_cards.specs.declared.moves.Act.{Act}
use Rattle.crib_problem.specs.Setup.{Setup}
use Rattle.crib_game.specs.declared.section.game.Game.{Game}
use Rattle.crib_why_sheet.specs.declared.line.Columns.{Columns}
use Rattle.crib_why_sheet.specs.declared.line.WhyLine.{WhyLine}
use Rattle.crib_why_sheet.specs.declared.line.Spread.{Spread}
use Rattle.crib_why_sheet.specs.WhyPlay.{are_alike, held_text, joined, shown_names, spread_of, turn_name, with_turns}
use Rattle.crib_why_sheet.specs.WhyRows.{all_with_first, are_alike_if_any, before_runs, columns_by, first_turn, first_turns, go_on_alike}
use Rattle.crib_why_sheet.specs.WhyRows.{held_alike, level_below, lines_from}
use Rattle.crib_why_sheet.specs.WhyRows.{next_lines, play_alike, play_text, row_line, runs_of, show_alike, then_line, whatever_names, why_lines}
use Rattle.crib_why_sheet.specs.WhyRows.{lines_of, reads_like, with_different}
use Rattle.crib_why_sheet.specs.WhyRowLaws.{IsAmong, IsPlayOf, IsRowOf}

-- ---- something of each of a list

abbrev Each : {X : Type 0} → (X → Type 0) → List X → Type 0
Each P [] = Unit {0}
Each P (x ∷ xs) = P x × Each P xs

each_at : {X : Type 0} (P : X → Type 0) (xs : List X) (index : ℕ) (x : X) → Each P xs → slice_get xs index ≡ Some x → P x
each_at P [] index x each is = absurd (none-some x is)
each_at P (y ∷ xs) zero x each is = subst P (ap (λ (found : Option _). unwrap_or found y) is) each.0
each_at P (y ∷ xs) (suc index) x each is = each_at P xs index x each.1 is

each_append : {X : Type 0} (P : X → Type 0) (xs ys : List X) → Each P xs → Each P ys → Each P (xs ++ ys)
each_append P [] ys first next = next
each_append P (x ∷ xs) ys first next = (first.0, each_append P xs ys first.1 next)

each_if : {X : Type 0} (P : X → Type 0) (is : Bool) (xs ys : List X) → (is ≡ true → Each P xs) → Each P ys → Each P (if is then xs else ys)
each_if P true xs ys first next = first refl
each_if P false xs ys first next = next

each_both : {X : Type 0} (P Q : X → Type 0) (xs : List X) → Each P xs → Each Q xs → Each (λ x. P x × Q x) xs
each_both P Q [] first next = tt
each_both P Q (x ∷ xs) first next = ((first.0, next.0), each_both P Q xs first.1 next.1)

each_to : {X : Type 0} (P Q : X → Type 0) (xs : List X) → ((x : X) → P x → Q x) → Each P xs → Each Q xs
each_to P Q [] all each = tt
each_to P Q (x ∷ xs) all each = (all x each.0, each_to P Q xs all each.1)

each_true : {X : Type 0} (test : X → Bool) (xs : List X) → list_all test xs ≡ true → Each (λ x. test x ≡ true) xs
each_true test [] all = tt
each_true test (x ∷ xs) all = let parts = and_parts (test x) (list_all test xs) all in (parts.0, each_true test xs parts.1)

each_in : {X Y : Type 0} (P : X → Type 0) (Q : Y → Type 0) (f : X → List Y) (xs : List X) → ((x : X) → P x → Each Q (f x)) → Each P xs
    → Each Q (flat_map f xs)
each_in P Q f [] all each = tt
each_in P Q f (x ∷ xs) all each = each_append Q (f x) (flat_map f xs) (all x each.0) (each_in P Q f xs all each.1)

each_of : {X Y : Type 0} (P : X → Type 0) (Q : Y → Type 0) (f : X → Y) (xs : List X) → ((x : X) → P x → Q (f x)) → Each P xs → Each Q (map f xs)
each_of P Q f [] all each = tt
each_of P Q f (x ∷ xs) all each = (all x each.0, each_of P Q f xs all each.1)

-- ---- names

-- the names are those of the turns of a game that end before an index
record IsNamed (problem : Setup) (turn : ℕ) (names : List ℕ) (game : Game) : Type 0 where
  before : List Act
  named : List Act
  turns : game.acts.items ≡ before ++ (named ++ drop turn game.acts.items)
  names_are : names ≡ with_turns problem.hold [] named

more_turns : (hold names : List ℕ) (acts others : List Act) → with_turns hold names (acts ++ others) ≡ with_turns hold (with_turns hold names acts) others
more_turns hold names [] others = refl
more_turns hold names (act ∷ acts) others = more_turns hold (joined names (turn_name hold act.side act.what)) acts others

parts : (acts : List Act) (turn : ℕ) → acts ≡ take turn acts ++ drop turn acts
parts [] zero = refl
parts [] (suc turn) = refl
parts (act ∷ acts) zero = refl
parts (act ∷ acts) (suc turn) = ap (λ (acts : List Act). act ∷ acts) (parts acts turn)

drop_at : (acts : List Act) (turn : ℕ) (act : Act) → slice_get acts turn ≡ Some act → drop turn acts ≡ act ∷ drop (turn + 1) acts
drop_at [] turn act is = absurd (none-some act is)
drop_at (first ∷ acts) zero act is = ap (λ (found : Option Act). unwrap_or found first ∷ acts) is
drop_at (first ∷ acts) (suc turn) act is =
    let next : suc turn + 1 ≡ suc (turn + 1) = omega arith in rw next (drop_at acts turn act is)

none_named : (problem : Setup) (turn : ℕ) (game : Game) → IsNamed problem turn [] game
none_named problem turn game = record { before = take turn game.acts.items; named = []; turns = parts game.acts.items turn; names_are = refl }

one_named : (problem : Setup) (turn : ℕ) (names : List ℕ) (game : Game) (act : Act) → IsNamed problem turn names game
    → slice_get game.acts.items turn ≡ Some act → IsNamed problem (turn + 1) (joined names (turn_name problem.hold act.side act.what)) game
one_named problem turn names game act is next = record {
  before = is.before;
  named = is.named ++ act ∷ [];
  turns = is.turns ∙ ap (λ (acts : List Act). is.before ++ acts)
      (ap (λ (acts : List Act). is.named ++ acts) (drop_at game.acts.items turn act next)
      ∙ sym (append_assoc is.named (act ∷ []) (drop (turn + 1) game.acts.items)));
  names_are = ap (λ (names : List ℕ). joined names (turn_name problem.hold act.side act.what)) is.names_are
      ∙ sym (more_turns problem.hold [] is.named (act ∷ []));
}

-- the names are those of each of some games
abbrev AreNamed : Setup → ℕ → List ℕ → List Game → Type 0
AreNamed problem turn names = Each (IsNamed problem turn names)

all_none_named : (problem : Setup) (turn : ℕ) (games : List Game) → AreNamed problem turn [] games
all_none_named problem turn [] = tt
all_none_named problem turn (game ∷ games) = (none_named problem turn game, all_none_named problem turn games)

-- ---- turns that are alike

abbrev name_of : Setup → Act → List ℕ
name_of problem act = turn_name problem.hold act.side act.what

same_name : (problem : Setup) (act other : Act) → are_alike problem act other ≡ true → name_of problem act ≡ name_of problem other
same_name problem act other = (bytes_eq-Decides (name_of problem act) (name_of problem other)).0

alike_by_name : (problem : Setup) (act other : Act) → name_of problem act ≡ name_of problem other → are_alike problem act other ≡ true
alike_by_name problem act other = (bytes_eq-Decides (name_of problem act) (name_of problem other)).1

-- two turns, or none, are alike
abbrev AreAlike : Setup → Option Act → Option Act → Type 0
AreAlike problem next other = are_alike_if_any problem next other ≡ true

alike_self : (problem : Setup) (next : Option Act) → AreAlike problem next next
alike_self problem None = refl
alike_self problem (Some act) = alike_by_name problem act act refl

alike_by : (problem : Setup) (next between other : Option Act) → AreAlike problem next between → AreAlike problem between other
    → AreAlike problem next other
alike_by problem None None other first last = last
alike_by problem None (Some between) other first last = absurd (false≢true first)
alike_by problem (Some act) None other first last = absurd (false≢true first)
alike_by problem (Some act) (Some between) None first last = absurd (false≢true last)
alike_by problem (Some act) (Some between) (Some other) first last =
    alike_by_name problem act other (same_name problem act between first ∙ same_name problem between other last)

-- a game goes on with a turn that is like this one, or ends where there is none
abbrev GoesOn : Setup → ℕ → Option Act → Game → Type 0
GoesOn problem turn next game = AreAlike problem next (slice_get game.acts.items turn)

next_named : (problem : Setup) (turn : ℕ) (names : List ℕ) (act : Act) (game : Game) (next : Option Act) → slice_get game.acts.items turn ≡ next
    → AreAlike problem (Some act) next → IsNamed problem turn names game → IsNamed problem (turn + 1) (joined names (name_of problem act)) game
next_named problem turn names act game None is alike named = absurd (false≢true alike)
next_named problem turn names act game (Some other) is alike named =
    subst (λ (name : List ℕ). IsNamed problem (turn + 1) (joined names name) game) (sym (same_name problem act other alike))
    (one_named problem turn names game other named is)

-- some games go on alike
abbrev AreGoingOn : Setup → ℕ → List Game → Type 0
AreGoingOn problem turn games = Each (GoesOn problem turn (first_turn turn games)) games

going_on : (problem : Setup) (turn : ℕ) (games : List Game) → all_with_first (go_on_alike problem turn) games ≡ true → AreGoingOn problem turn games
going_on problem turn [] all = tt
going_on problem turn (game ∷ games) all =
    (alike_self problem (slice_get game.acts.items turn), each_true (go_on_alike problem turn game) games all)

-- ---- rows

abbrev IsRow : Setup → List Game → WhyLine → Type 0
IsRow problem all line = (columns : Columns) → line.columns ≡ Some columns → IsRowOf problem all line columns

held_is : (held : List ℕ) (spread : Option Spread) (columns : Columns) → columns_by held spread ≡ Some columns → columns.held.items ≡ held
held_is held None columns is = absurd (none-some columns is)
held_is held (Some spread) columns is = sym (ap (λ (found : Option Columns). (unwrap_or found columns).held.items) is)

-- the row of games with the play of the first of them
is_row : (problem : Setup) (all : List Game) (level : ℕ) (names : List ℕ) (game : Game) (games : List Game) → IsAmong all game
    → IsPlayOf problem game (play_text level names []) → IsRow problem all (row_line problem (game ∷ games) level names)
is_row problem all level names game games among play columns is = record {
  game = game;
  among = among;
  play = play;
  held = held_is (held_text problem game) (spread_of problem (game ∷ games)) columns is;
}

named_play : (problem : Setup) (turn level : ℕ) (names : List ℕ) (game : Game) → IsNamed problem turn names game
    → IsPlayOf problem game (play_text level names [])
named_play problem turn level names game is = record {
  level = level;
  before = is.before;
  named = is.named;
  rest = drop turn game.acts.items;
  turns = is.turns;
  text = inl (ap (λ (names : List ℕ). play_text level names []) is.names_are);
}

whole_play : (problem : Setup) (turn level : ℕ) (names : List ℕ) (game : Game) → IsNamed problem turn names game
    → IsPlayOf problem game (play_text level (with_turns problem.hold names (drop turn game.acts.items)) [])
whole_play problem turn level names game is =
    let rest = drop turn game.acts.items in record {
      level = level;
      before = is.before;
      named = is.named ++ rest;
      rest = [];
      turns = is.turns ∙ ap (λ (acts : List Act). is.before ++ acts) (sym (append-nil (is.named ++ rest)));
      text = inl (ap (λ (names : List ℕ). play_text level names [])
          (ap (λ (names : List ℕ). with_turns problem.hold names rest) is.names_are ∙ sym (more_turns problem.hold [] is.named rest)));
    }

whatever_play : (problem : Setup) (turn level : ℕ) (names : List ℕ) (game : Game) → IsNamed problem turn names game
    → IsPlayOf problem game (play_text level (whatever_names names (shown_names (drop turn game.acts.items))) [])
whatever_play problem turn level names game is = record {
  level = level;
  before = is.before;
  named = is.named;
  rest = drop turn game.acts.items;
  turns = is.turns;
  text = inr (ap (λ (names : List ℕ). play_text level (whatever_names names (shown_names (drop turn game.acts.items))) []) is.names_are);
}

-- ---- runs

abbrev AreAmong : List Game → List Game → Type 0
AreAmong all games = Each (IsAmong all) games

-- a run of these games: all go on alike
abbrev IsRun : Setup → List Game → ℕ → List Game → Type 0
IsRun problem all turn run = AreAmong all run × AreGoingOn problem turn run

before_are : (problem : Setup) (all : List Game) (turn : ℕ) (game : Game) (runs : List (List Game)) → IsAmong all game
    → Each (IsRun problem all turn) runs → Each (IsRun problem all turn) (before_runs problem turn game runs)
before_are problem all turn game [] among others = (((among, tt), (alike_self problem (slice_get game.acts.items turn), tt)), tt)
before_are problem all turn game ([] ∷ runs) among others = (((among, tt), (alike_self problem (slice_get game.acts.items turn), tt)), others.1)
before_are problem all turn game ((other ∷ run) ∷ runs) among others =
    each_if (IsRun problem all turn) (go_on_alike problem turn game other) ((game ∷ other ∷ run) ∷ runs) ((game ∷ []) ∷ (other ∷ run) ∷ runs)
    (λ alike. (
      (
        (among, others.0.0),
        (
          alike_self problem (slice_get game.acts.items turn),
          each_to (GoesOn problem turn (slice_get other.acts.items turn))
              (GoesOn problem turn (slice_get game.acts.items turn)) (other ∷ run)
              (λ next goes. alike_by problem (slice_get game.acts.items turn) (slice_get other.acts.items turn) (slice_get next.acts.items turn) alike goes)
              others.0.1,
        ),
      ),
      others.1,
    ))
    (((among, tt), (alike_self problem (slice_get game.acts.items turn), tt)), others)

runs_are : (problem : Setup) (all : List Game) (turn : ℕ) (games : List Game) → AreAmong all games
    → Each (IsRun problem all turn) (runs_of problem turn games)
runs_are problem all turn [] among = tt
runs_are problem all turn (game ∷ games) among =
    before_are problem all turn game (runs_of problem turn games) among.0 (runs_are problem all turn games among.1)

-- ---- lines

abbrev HasRows : Setup → List Game → ℕ → (List ℕ → List Game → List WhyLine) → Type 0
HasRows problem all turn lines =
    (names : List ℕ) (games : List Game) → AreAmong all games → AreNamed problem turn names games → Each (IsRow problem all) (lines names games)

-- a row for each game
own_rows : (problem : Setup) (all : List Game) (turn level : ℕ) (names : List ℕ) (games : List Game) → AreAmong all games → AreNamed problem turn names games
    → Each (IsRow problem all) (map (λ game. row_line problem (game ∷ []) level names) games)
own_rows problem all turn level names games among named =
    each_of (λ game. IsAmong all game × IsNamed problem turn names game) (IsRow problem all) (λ game. row_line problem (game ∷ []) level names) games
    (λ game is. is_row problem all level names game [] is.0 (named_play problem turn level names game is.1))
    (each_both (IsAmong all) (IsNamed problem turn names) games among named)

next_rows : (later : List ℕ → List Game → List WhyLine) (problem : Setup) (all : List Game) (turn level : ℕ) (names : List ℕ) (games : List Game)
    (next : Option Act) → Each (GoesOn problem turn next) games → HasRows problem all (turn + 1) later → AreAmong all games
    → AreNamed problem turn names games → Each (IsRow problem all) (next_lines later problem level names games next)
next_rows later problem all turn level names games None goes rows among named = own_rows problem all turn level names games among named
next_rows later problem all turn level names games (Some act) goes rows among named =
    rows _ games among (each_to (λ game. IsNamed problem turn names game × GoesOn problem turn (Some act) game)
    (IsNamed problem (turn + 1) (joined names (name_of problem act))) games
    (λ game is. next_named problem turn names act game (slice_get game.acts.items turn) refl is.1 is.0)
    (each_both (IsNamed problem turn names) (GoesOn problem turn (Some act)) games named goes))

then_rows : (problem : Setup) (all : List Game) (level : ℕ) (names : List ℕ) → Each (IsRow problem all) (then_line level names)
then_rows problem all level [] = tt
then_rows problem all level (byte ∷ names) = ((λ columns is. absurd (none-some columns is)), tt)

whole_row : (problem : Setup) (all : List Game) (turn level : ℕ) (names : List ℕ) (games : List Game)
    → AreAmong all games → AreNamed problem turn names games
    → IsRow problem all (row_line problem games level (with_turns problem.hold names (first_turns turn games)))
whole_row problem all turn level names [] among named = λ columns is. absurd (none-some columns is)
whole_row problem all turn level names (game ∷ games) among named =
    is_row problem all level _ game games among.0 (whole_play problem turn level names game named.0)

whatever_row : (problem : Setup) (all : List Game) (turn level : ℕ) (names : List ℕ) (games : List Game)
    → AreAmong all games → AreNamed problem turn names games
    → IsRow problem all (row_line problem games level (whatever_names names (shown_names (first_turns turn games))))
whatever_row problem all turn level names [] among named = λ columns is. absurd (none-some columns is)
whatever_row problem all turn level names (game ∷ games) among named =
    is_row problem all level _ game games among.0 (whatever_play problem turn level names game named.0)

rows_from : (more : ℕ) (problem : Setup) (all : List Game) (turn level : ℕ) → HasRows problem all turn (lines_from more problem turn level)
unfolding lines_from
rows_from zero problem all turn level names games among named = own_rows problem all turn level names games among named
rows_from (suc more) problem all turn level names games among named =
    let below = level_below level names in
    let whole : List WhyLine = row_line problem games level (with_turns problem.hold names (first_turns turn games)) ∷ [] in
    let next : List WhyLine = next_lines (lines_from more problem (turn + 1) level) problem level names games (first_turn turn games) in
    let whatever : List WhyLine = row_line problem games level (whatever_names names (shown_names (first_turns turn games))) ∷ [] in
    let run_lines : List Game → List WhyLine = λ run. next_lines (lines_from more problem (turn + 1) below) problem below [] run (first_turn turn run) in
    let others : List WhyLine =
    if all_with_first (show_alike turn) games && all_with_first (held_alike problem) games then whatever
    else then_line level names ++ flat_map run_lines (runs_of problem turn games) in
    each_if (IsRow problem all) (all_with_first (play_alike problem turn) games && all_with_first (held_alike problem) games) whole
    (if all_with_first (go_on_alike problem turn) games then next else others)
    (λ is. (whole_row problem all turn level names games among named, tt))
    (each_if (IsRow problem all) (all_with_first (go_on_alike problem turn) games) next others
    (λ alike. next_rows (lines_from more problem (turn + 1) level) problem all turn level names games (first_turn turn games)
    (going_on problem turn games alike) (rows_from more problem all (turn + 1) level) among named)
    (each_if (IsRow problem all) (all_with_first (show_alike turn) games && all_with_first (held_alike problem) games) whatever
    (then_line level names ++ flat_map run_lines (runs_of problem turn games))
    (λ is. (whatever_row problem all turn level names games among named, tt))
    (each_append (IsRow problem all) (then_line level names) (flat_map run_lines (runs_of problem turn games)) (then_rows problem all level names)
    (each_in (IsRun problem all turn) (IsRow problem all) run_lines (runs_of problem turn games)
    (λ run is. next_rows (lines_from more problem (turn + 1) below) problem all turn below [] run (first_turn turn run) is.1
    (rows_from more problem all (turn + 1) below) is.0 (all_none_named problem turn run))
    (runs_are problem all turn games among)))))

-- each game is among them
all_among : (games front back : List Game) → games ≡ front ++ back → AreAmong games back
all_among games front [] is = tt
all_among games front (game ∷ back) is = (
  (length front, ap (λ (games : List Game). slice_get games (length front)) is ∙ at_length front game back),
  all_among games (front ++ game ∷ []) back (is ∙ sym (append_assoc front (game ∷ []) back)),
)
  where
    at_length : (front : List Game) (game : Game) (back : List Game) → slice_get (front ++ game ∷ back) (length front) ≡ Some game
    at_length [] game back = refl
    at_length (first ∷ front) game back = at_length front game back

rows_among : (problem : Setup) (all games : List Game) → AreAmong all games → Each (IsRow problem all) (lines_of problem games)
rows_among problem all [] among = tt
rows_among problem all (game ∷ games) among =
    rows_from (32 - length problem.played) problem all (length problem.played) 0 [] (game ∷ games) among
    (all_none_named problem (length problem.played) (game ∷ games))

-- and so is each that reads like none before it
different_among : (problem : Setup) (all kept games : List Game) → AreAmong all kept → AreAmong all games → AreAmong all (with_different problem kept games)
different_among problem all kept [] first next = first
different_among problem all kept (game ∷ games) first next =
    let is = list_any (reads_like problem game) kept in
    different_among problem all (if is then kept else kept ++ game ∷ []) games
    (each_if (IsAmong all) is kept (kept ++ game ∷ []) (λ alike. first) (each_append (IsAmong all) kept (game ∷ []) first (next.0, tt))) next.1

why_rows : (problem : Setup) (games : List Game) → Each (IsRow problem games) (why_lines problem games)
why_rows problem games =
    rows_among problem games (with_different problem [] games) (different_among problem games [] games tt (all_among games [] games refl))

pub rows_of_games : (problem : Setup) (games : List Game) (index : ℕ) (line : WhyLine) (columns : Columns)
    → slice_get (why_lines problem games) index ≡ Some line → line.columns ≡ Some columns → IsRowOf problem games line columns
rows_of_games problem games index line columns at is = each_at (IsRow problem games) (why_lines problem games) index line (why_rows problem games) at columns is
