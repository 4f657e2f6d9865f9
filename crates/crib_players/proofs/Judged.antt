-- What the judge of games compares, and what it means for a problem.
use Rattle.std.proofs.Common.{◌≡◌, ◌↔◌, ℕ, suc, ◌+◌, ◌-◌, ◌<◌, ◌≤◌, Bool, true, false, not, ◌&&◌, ◌||◌, List, [], ◌∷◌, ◌++◌, length, reverse, take, drop}
use Rattle.std.proofs.Common.{get_or}
use Rattle.std.proofs.Common.{refl, sym, ap, ◌∙◌, append_assoc, inl, inr, arith}
use Rattle.std.specs.Prelude.{Some, None, slice_get}
use Rattle.std.specs.List.{list_any}
use Rattle.std.proofs.Math.Bool.{or-false, or_comm}
use Rattle.std.proofs.lemmas.Bool.{and_parts, and_from, cases_Bool, both_ways}
use Rattle.std.proofs.lemmas.Bool.Decides.{nat_tests}
use Rattle.std.proofs.lemmas.List.{length-reverse, reverse-append, reverse-reverse, get_or_at, length-take-le, length-map}
use Rattle.std.proofs.lemmas.List.Folds.{Any-from_list_any, list_any_at, list_any-append}
use Rattle.std.proofs.lemmas.Option.{none-some, same_Some, slice_get-get_or, slice_get_cases, slice_get_within, get_or_from_slice_get}
use Rattle.crib_cards.specs.Cards.{card_value}
use Rattle.crib_cards.specs.Sets.{has}
use Rattle.crib_cards.specs.Start.{Start}
use Rattle.crib_cards.specs.declared.sides.Side.{Side}
use Rattle.crib_cards.specs.declared.sides.Side.TheVariants.{Owner, Opponent}
use Rattle.crib_cards.specs.declared.moves.Move.{Move}
use Rattle.crib_cards.specs.declared.moves.Move.TheVariants as move
use Rattle.crib_cards.specs.declared.moves.Act.{Act}
use Rattle.crib_cards.proofs.Members.{all_has, all_from}
use Rattle.crib_cards.proofs.SetFacts.{has-append}
use Rattle.crib_play.specs.Record.{count_of, pile_of}
use Rattle.crib_play.specs.Fitting.{fits_at}
use Rattle.crib_play.specs.Legal.{letters_of, cards_of, fits}
use Rattle.crib_play.specs.History.{filled_moves, moves_of}
use Rattle.crib_problem.specs.Setup.{Setup, start_of}
use Rattle.crib_problem.proofs.HonestTurns.{all_from_back}
use Rattle.crib_game.specs.declared.section.game.Game.{Game}
use Rattle.crib_game.specs.declared.replaying.report.Report.{Report}
use Rattle.crib_game.specs.declared.replaying.report.Row.{Row}
use Rattle.crib_game.specs.Replay.{same_act, same_move, count_with, act_row, act_rows, report_of}
use Rattle.crib_game.proofs.OpeningActs.{act_is, same_act_self}
use Rattle.crib_game.proofs.Reports.{rows_of_game, rows_so_far}
use Rattle.crib_players.specs.Players.{own_card}
use Rattle.crib_players.specs.Refutations.{acts_before, may_play, IsBegun, HasEachCard, Refutes}
use Rattle.crib_players.specs.Private.Judging.{IsAnswered, owners_card, is_played, may_follow, goes_on, is_begun, has_each}

-- ---- the cards that acts play
played_back_same : (acts : List Act) (card : ℕ) → is_played acts card ≡ has (cards_of (moves_of acts)) card
played_back_same [] card = refl
played_back_same (act ∷ acts) card = by_move act.what (played_back_same acts card)
  where
    by_move : (what : Move) → is_played acts card ≡ has (cards_of (moves_of acts)) card →
        (same_move what (move.Card card) || is_played acts card) ≡ has (cards_of (what ∷ moves_of acts)) card
    by_move (move.Card first) rest = grind (arith, nat_tests, rest, has-append (cards_of (moves_of acts)) (first ∷ []) card)
    by_move move.Go rest = rest

any_back : (p : Act → Bool) (acts : List Act) → list_any p (reverse acts) ≡ list_any p acts
any_back p [] = refl
any_back p (act ∷ acts) =
    ap (list_any p) (reverse-append (act ∷ []) acts) ∙ list_any-append p (reverse acts) (act ∷ [])
    ∙ (λ i. any_back p acts i || or-false (p act) i) ∙ or_comm (list_any p acts) (p act)

pub may_same : (problem : Setup) (acts : List Act) (count card : ℕ) →
    count ≡ count_of (pile_of (letters_of (filled_moves (start_of problem) (moves_of (reverse acts))))) →
    may_play problem (reverse acts) card ≡ (has problem.hold card && may_follow acts count card)
may_same problem acts count card is =
    let before = reverse acts in
    let plays : Act → Bool = λ (act : Act). same_move act.what (move.Card card) in
    let here : has (cards_of (moves_of before)) card ≡ is_played acts card = sym (played_back_same before card) ∙ any_back plays acts in
    let fit : fits (filled_moves (start_of problem) (moves_of before)) card ≡ fits_at count card = ap (λ (n : ℕ). fits_at n card) (sym is) in
    grind (arith, nat_tests, here, fit)

-- ---- acts that go on with a card
goes_from : (acts before : List Act) (card : ℕ) → goes_on acts before card ≡ true → take (suc (length before)) acts ≡ before ++ own_card card ∷ []
goes_from [] before card e = absurd (both_ways false refl e)
goes_from (act ∷ acts) [] card e = ap (λ (a : Act). a ∷ []) (act_is act (own_card card) e)
goes_from (act ∷ acts) (first ∷ before) card e =
    let both = and_parts (same_act first act) (goes_on acts before card) e in
    λ i. sym (act_is first act both.0) i ∷ goes_from acts before card both.1 i

heads : (act other : Act) (acts others : List Act) → act ∷ acts ≡ other ∷ others → (act ≡ other) × (acts ≡ others)
heads act other acts others same = (cc, cc)

goes_to : (acts before : List Act) (card : ℕ) → take (suc (length before)) acts ≡ before ++ own_card card ∷ [] → goes_on acts before card ≡ true
goes_to [] [] card e = absurd (let long = ap length e in omega (arith, long))
goes_to [] (first ∷ before) card e = absurd (let long = ap length e in omega (arith, long))
goes_to (act ∷ acts) [] card e =
    let same = (heads act (own_card card) [] [] e).0 in ap (λ (a : Act). same_act a (own_card card)) same ∙ same_act_self (own_card card)
goes_to (act ∷ acts) (first ∷ before) card e =
    let same = heads act first (take (suc (length before)) acts) (before ++ own_card card ∷ []) e in
    and_from (same_act first act) (goes_on acts before card) (ap (same_act first) same.0 ∙ same_act_self first) (goes_to acts before card same.1)

module _ (games : List Game) (before : List Act) (card : ℕ) where
  abbrev here : List Act
  here = own_card card ∷ reverse before

  here_back : reverse (before ++ own_card card ∷ []) ≡ here
  here_back = reverse-append before (own_card card ∷ [])

  here_long : length here ≡ suc (length before)
  here_long = ap suc (length-reverse before)

  pub begun_from : is_begun games before card ≡ true → IsBegun games here
  begun_from e =
      let found = Any-from_list_any (λ (game : Game). goes_on game.acts.items before card) games e in
      record {
        index = found.0;
        game = found.1;
        among = slice_get-get_or games found.0 found.1 found.2 ∙ ap Some found.3;
        begins = ap (acts_before found.1) here_long ∙ ap reverse (goes_from found.1.acts.items before card found.4) ∙ here_back;
      }

  pub begun_to : IsBegun games here → is_begun games before card ≡ true
  begun_to begun =
      let items = begun.game.acts.items in
      let first = ap reverse (ap (acts_before begun.game) (sym here_long) ∙ begun.begins ∙ sym here_back) in
      let parts = sym (reverse-reverse (take (suc (length before)) items)) ∙ first ∙ reverse-reverse (before ++ own_card card ∷ []) in
      let G : Game → Bool = λ (game : Game). goes_on game.acts.items before card in
      let inside = slice_get_within games begun.index begun.game begun.among in
      let at = get_or_from_slice_get games begun.index begun.game begun.game begun.among in
      list_any_at G games begun.index begun.game inside (ap G at ∙ goes_to items before card parts)

-- ---- each card that may follow
module _ (problem : Setup) (games : List Game) (game : Game) (turn count : ℕ)
    (is : count ≡ count_of (pile_of (letters_of (filled_moves (start_of problem) (moves_of (acts_before game turn)))))) where
  abbrev so_far : List Act
  so_far = take turn game.acts.items

  abbrev passes : ℕ → Bool
  passes card = not (may_follow so_far count card) || is_begun games so_far card

  pub each_from : has_each games problem.hold so_far count ≡ true → HasEachCard problem games game turn
  each_from all card other at may =
      let both = and_parts (has problem.hold other) (may_follow so_far count other) (sym (may_same problem so_far count other is) ∙ may) in
      let pass = all_has passes problem.hold other all both.0 in
      begun_from games so_far other (grind (arith, nat_tests, pass, both.1))

  pub each_to : (card : ℕ) → slice_get game.acts.items turn ≡ Some (own_card card) → HasEachCard problem games game turn →
      has_each games problem.hold so_far count ≡ true
  each_to card at each = all_from passes problem.hold (λ other held. elim (cases_Bool (may_follow so_far count other)) [
    | inl may ↦
        let begun = begun_to games so_far other (each card other at (may_same problem so_far count other is ∙ and_from _ _ held may)) in
        grind (arith, nat_tests, may, begun)
    | inr may ↦ grind (arith, nat_tests, may)
  ])

-- ---- the rows of a report
record HasRow (start : Start) (whole : List Act) (act : Act) (before : List Act) : Type 0 where
  front : List Row
  parts : act_rows start whole ≡ front ++ act_row start act before ∷ act_rows start before

row_among : (start : Start) (later : List Act) (act : Act) (before : List Act) → HasRow start (later ++ act ∷ before) act before
row_among start [] act before = record { front = []; parts = refl }
row_among start (first ∷ later) act before =
    let rest = row_among start later act before in
    record {
      front = act_row start first (later ++ act ∷ before) ∷ rest.front;
      parts = ap (λ (rows : List Row). act_row start first (later ++ act ∷ before) ∷ rows) rest.parts;
    }

pub row_at : (problem : Setup) (game : Game) (turn : ℕ) (act : Act) (row : Row) → turn < length game.acts.items → act ≡ get_or game.acts.items turn act →
    get_or (report_of problem game).rows.items turn row ≡ act_row (start_of problem) act (acts_before game turn)
row_at problem game turn act row inside at =
    let start = start_of problem in
    let before = acts_before game turn in
    let found = row_among start (reverse (drop (turn + 1) game.acts.items)) act before in
    let rows : act_rows start (reverse game.acts.items) ≡ found.front ++ act_row start act before ∷ act_rows start before =
    ap (act_rows start) (all_from_back game.acts.items turn act inside at) ∙ found.parts in
    let back : reverse (act_rows start (reverse game.acts.items)) ≡ reverse (act_rows start before) ++ act_row start act before ∷ reverse found.front =
    ap reverse rows ∙ reverse-append found.front (act_row start act before ∷ act_rows start before)
    ∙ ap (λ (front : List Row). front ++ reverse found.front) (reverse-append (act_row start act before ∷ []) (act_rows start before))
    ∙ append_assoc (reverse (act_rows start before)) (act_row start act before ∷ []) (reverse found.front) in
    let size = rows_so_far start before (reverse (act_rows start before)) refl in
    let same = length-reverse (take turn game.acts.items) in
    let most = length-take-le turn game.acts.items (omega (arith, inside)) in
    ap (λ (rows : List Row). get_or rows turn row) back
    ∙ get_or_at (reverse (act_rows start before)) (act_row start act before) (reverse found.front) row turn (omega (arith, size, same, most))

-- ---- the owner's card of a row
owners_is : (side : Side) (what : Move) (card : ℕ) → owners_card side what ≡ Some card → record { side = side; what = what } ≡ own_card card
owners_is Owner (move.Card first) card e = ap own_card (same_Some first card e)
owners_is Owner move.Go card e = absurd (none-some card e)
owners_is Opponent what card e = absurd (none-some card e)

own_is : (act : Act) (card : ℕ) → act ≡ own_card card → owners_card act.side act.what ≡ Some card
own_is act card e = ap (λ (a : Act). owners_card a.side a.what) e

rows_same : (problem : Setup) (game : Game) (report : Report) → report ≡ report_of problem game → length report.rows.items ≡ length game.acts.items
rows_same problem game report is =
    ap (λ (r : Report). length r.rows.items) is ∙ sym (length-map (report_of problem game).rows.items (λ (row : Row). row.act))
    ∙ ap length (rows_of_game problem game)

-- a game has no card of the owner after its last act
pub none_after : (problem : Setup) (games : List Game) (game : Game) (report : Report) (turn : ℕ) → report ≡ report_of problem game →
    length report.rows.items ≤ turn → HasEachCard problem games game turn
none_after problem games game report turn is past card other here may =
    let inside = slice_get_within game.acts.items turn (own_card card) here in
    let same = rows_same problem game report is in
    absurd (omega (arith, inside, same, past))

module _ (problem : Setup) (game : Game) (turn : ℕ) (report : Report) (row : Row) (is : report ≡ report_of problem game)
    (inside : turn < length report.rows.items) (at : row ≡ get_or report.rows.items turn row) where
  abbrev acts : List Act
  acts = game.acts.items

  pub inside_acts : turn < length acts
  inside_acts = (let same = rows_same problem game report is in omega (arith, inside, same))

  record IsRow : Type 0 where
    act : Act
    here : slice_get acts turn ≡ Some act
    row_is : row ≡ act_row (start_of problem) act (acts_before game turn)

  row_here : IsRow
  row_here = elim (slice_get_cases acts turn).1 [
    | inl found ↦ record {
      act = found.0;
      here = found.2;
      row_is = at ∙ ap (λ (r : Report). get_or r.rows.items turn row) is ∙ row_at problem game turn found.0 row inside_acts (sym found.3);
    }
    | inr past ↦ (let over = past.0 in let within = inside_acts in absurd (omega (arith, over, within)))
  ]

  abbrev count_before : ℕ
  count_before = count_of (pile_of (letters_of (filled_moves (start_of problem) (moves_of (acts_before game turn)))))

  pub row_act : slice_get acts turn ≡ Some row.act
  row_act = row_here.here ∙ ap (λ (r : Row). Some r.act) (sym row_here.row_is)

  pub row_count : (card : ℕ) → owners_card row.act.side row.act.what ≡ Some card → row.count ≡ count_before + card_value card
  row_count card e =
      let what : row.act.what ≡ move.Card card = ap (λ (a : Act). a.what) (owners_is row.act.side row.act.what card e) in
      let same : row_here.act ≡ row.act = ap (λ (r : Row). r.act) (sym row_here.row_is) in
      ap (λ (r : Row). r.count) row_here.row_is ∙ ap (λ (a : Act). count_with count_before a.what) same ∙ ap (count_with count_before) what

  pub row_each : (games : List Game) (card count : ℕ) → owners_card row.act.side row.act.what ≡ Some card → count ≡ row.count - card_value card →
      (has_each games problem.hold (take turn acts) count ≡ true) ↔ HasEachCard problem games game turn
  row_each games card count e left =
      let whole = row_count card e in
      let counted : count ≡ count_before = omega (arith, whole, left) in (
        each_from problem games game turn count counted,
        each_to problem games game turn count counted card (row_act ∙ ap Some (owners_is row.act.side row.act.what card e)),
      )

  pub row_free : (games : List Game) → owners_card row.act.side row.act.what ≡ None → HasEachCard problem games game turn
  row_free games e card other here may =
      let same : row.act ≡ own_card card = same_Some row.act (own_card card) (sym row_act ∙ here) in
      absurd (none-some card (sym e ∙ own_is row.act card same))

-- ---- all games
pub refutes_from : (problem : Setup) (games : List Game) → 0 < length games →
    ((index : ℕ) (game : Game) → slice_get games index ≡ Some game → IsAnswered problem games game) → Refutes problem games
refutes_from problem games some each = elim (slice_get_cases games 0).1 [
  | inl found ↦ record {
    some = (found.0, found.2);
    missed = λ index game among. (each index game among).0;
    complete = λ index turn game among late. (each index game among).1 turn late;
  }
  | inr none ↦ (let over = none.0 in absurd (omega (arith, some, over)))
]

pub answered : (problem : Setup) (games : List Game) (index : ℕ) (game : Game) → slice_get games index ≡ Some game → Refutes problem games →
    IsAnswered problem games game
answered problem games index game among refutes = (refutes.missed index game among, λ turn late. refutes.complete index turn game among late)
