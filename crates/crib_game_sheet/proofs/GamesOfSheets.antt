-- A game can be read back from its sheet: two games of a problem with the same sheet are equal.
use Rattle.std.proofs.Common.{◌≡◌, ℕ, zero, suc, ◌+◌, ◌-◌, ◌<◌, List, [], ◌∷◌, ◌++◌, length, replicate, codes}
use Rattle.std.proofs.Common.{decimal, flat_map, reverse}
use Rattle.std.proofs.Common.{Option, Some, None, Ok, refl, sym, ap, ◌∙◌, arith, append_assoc}
use Rattle.std.specs.List.{AllByRecursion}
use Rattle.std.proofs.lemmas.List.{append_cancel_left, append-nil}
use Rattle.crib_cards.specs.Cards.{IsCard}
use Rattle.crib_cards.specs.CardText.{card_text}
use Rattle.crib_cards.specs.Letters.{letter_of}
use Rattle.crib_cards.specs.Start.{Start, pone_of}
use Rattle.crib_cards.specs.declared.moves.Act.{Act}
use Rattle.crib_cards.specs.declared.moves.Move.{Move}
use Rattle.crib_cards.specs.declared.moves.Move.TheVariants as move
use Rattle.crib_cards.specs.declared.sides.Dealt.{Dealt}
use Rattle.crib_cards.specs.declared.sides.Side.{Side}
use Rattle.crib_cards.specs.declared.sides.Side.TheVariants.{Opponent}
use Rattle.crib_text.specs.Spelling.{line_feed, space}
use Rattle.crib_play.specs.History.{moves_of}
use Rattle.crib_play.specs.Legal.{letters_of}
use Rattle.crib_plan.proofs.WordLemmas.{IsDigit, decimal_digits}
use Rattle.crib_show.specs.declared.show.outcomes.Outcome.{Outcome}
use Rattle.crib_show.specs.declared.show.outcomes.Outcome.TheVariants.{Reached, Short}
use Rattle.crib_show.specs.declared.show.outcomes.ShowRow.{ShowRow}
use Rattle.crib_problem.specs.declared.problem.Goal.{Goal}
use Rattle.crib_problem.specs.declared.problem.Goal.TheVariants.{Win, Holes, Stop}
use Rattle.crib_problem.specs.Setup.{Setup, IsMove, start_of}
use Rattle.crib_problem.specs.Spelling.{move_word}
use Rattle.crib_problem.proofs.CardLemmas.{all_parts}
use Rattle.crib_game.specs.declared.section.game.Game.{Game}
use Rattle.crib_game.specs.declared.replaying.report.Report.{Report}
use Rattle.crib_game.specs.declared.replaying.report.Row.{Row}
use Rattle.crib_game.specs.declared.fault.GameFault.{GameFault}
use Rattle.crib_game.specs.Replay.{act_row, acts_back, game_fault, report_of, unless_fault}
use Rattle.crib_game.specs.Spelling.{AreSixCards}
use Rattle.crib_board.specs.Board.{left_in, right_in}
use Rattle.crib_run.specs.Pieces.{role_word, spaced_card, spaced_cards}
use Rattle.crib_game_sheet.specs.declared.game.reason.PlayReason.{PlayReason}
use Rattle.crib_game_sheet.specs.GamePlay.{act_reasons, game_reasons, reasons_added}
use Rattle.crib_game_sheet.specs.GameLaws.{SheetsHaveOneGameLaw}
use Rattle.crib_game_sheet.specs.GameText.{act_line, act_lines, act_text, columns_line, counted_name, counted_text, dealt_line, game_sheet_text, last_after}
use Rattle.crib_game_sheet.specs.GameText.{outcome_text, pegged_line, played_text, points_text, rows_text, score_text}
use Rattle.crib_game_sheet.specs.GameText.{sheet_for, sheet_of}
use Rattle.crib_game_sheet.specs.Heading.{heading_text}
use Rattle.crib_game_sheet.proofs.PlayWalks.{each_from, forward, rows_from, rows_of_report}
use Rattle.crib_cards.proofs.CardBytes.{no_card, same_cards}

-- ---- cards, moves and sides

-- as many cards, each after a space
same_spaced : (cards cards' rest rest' : List ℕ) → length cards ≡ length cards' → AllByRecursion IsCard cards → AllByRecursion IsCard cards'
    → flat_map spaced_card cards ++ rest ≡ flat_map spaced_card cards' ++ rest' → (cards ≡ cards') × (rest ≡ rest')
same_spaced [] [] rest rest' long all all' same = (refl, same)
same_spaced (card ∷ cards) (card' ∷ cards') rest rest' long all all' same =
    let after : card_text card ++ (flat_map spaced_card cards ++ rest) ≡ card_text card' ++ (flat_map spaced_card cards' ++ rest') = cc in
    let first = same_cards card card' _ _ all.0 all'.0 after in
    let more = same_spaced cards cards' rest rest' (omega (arith, long)) all.1 all'.1 first.1 in
    ((λ i. first.0 i ∷ more.0 i), more.1)
same_spaced _ _ rest rest' long all all' same = absurd (omega (arith, long))

same_moves : (what what' : Move) (rest rest' : List ℕ) → IsMove what → IsMove what' → move_word what ++ rest ≡ move_word what' ++ rest'
    → what ≡ what'
same_moves (move.Card card) (move.Card card') rest rest' is is' same = ap move.Card (same_cards card card' rest rest' is is' same).0
same_moves move.Go move.Go rest rest' is is' same = refl
same_moves (move.Card card) move.Go rest rest' is is' same = absurd (no_card 103 card refl is cc)
same_moves move.Go (move.Card card') rest rest' is is' same = absurd (no_card 103 card' refl is' cc)

-- a side in its column
same_sides : (dealer side side' : Side) (rest rest' : List ℕ) → left_in 6 (role_word dealer side) ++ rest ≡ left_in 6 (role_word dealer side') ++ rest'
    → (side ≡ side') × (rest ≡ rest')
same_sides dealer side side' rest rest' same = grind (arith)

-- ---- the line of an act

-- the line of an act with what comes after it, piece by piece
pieces : (n a l b m c k s p f more rest : List ℕ)
    → ((((((((((n ++ a) ++ l) ++ b) ++ m) ++ c) ++ k) ++ s) ++ p) ++ f) ++ more) ++ rest
    ≡ n ++ (a ++ (l ++ (b ++ (m ++ (c ++ (k ++ (s ++ (p ++ (f ++ (more ++ rest))))))))))
pieces n a l b m c k s p f more rest = simp append_assoc

line_is : (dealer : Side) (number : ℕ) (last : Side) (row : Row) (reasons : List PlayReason) (more rest : List ℕ)
    → (act_line dealer number last row reasons ++ more) ++ rest
    ≡ right_in 2 number ++ (codes " " ++ (left_in 6 (role_word dealer row.act.side) ++ (codes " " ++ (move_word row.act.what
    ++ (codes "      " ++ (right_in 2 row.count ++ (score_text row.scores ++ (points_text dealer last row reasons ++ (codes "\n" ++ (more ++ rest))))))))))
unfolding act_line act_text
line_is dealer number last row reasons more rest = search pieces

-- a line begins with a space or a digit
not_feed : (blanks : ℕ) (digits x rest : List ℕ) → AllByRecursion IsDigit digits → 0 < blanks + length digits
    → (replicate blanks space ++ digits) ++ x ≡ line_feed ∷ rest → ⊥
not_feed zero [] x rest all some same = absurd (omega (arith, some))
not_feed zero (digit ∷ digits) x rest all some same = (let h = all.0.0 in let e : digit ≡ line_feed = cc in omega (arith, e, h))
not_feed (suc blanks) digits x rest all some same = (let e : space ≡ line_feed = cc in omega (arith, e))

no_line : (number : ℕ) (x rest : List ℕ) → number < 100 → right_in 2 number ++ x ≡ line_feed ∷ rest → ⊥
unfolding right_in
no_line number x rest small same =
    not_feed (2 - length (decimal number)) (decimal number) x rest (decimal_digits number (omega arith)) (omega arith) same

-- ---- the lines of acts

-- the reasons of an act after other acts
abbrev reasons_after : Start → Act → List Act → List PlayReason
reasons_after start act before = reasons_added start (letter_of act.what) (letters_of (moves_of before))

abbrev reasons_from : Start → List Act → List Act → List (List PlayReason)
reasons_from start before acts = each_from (reasons_after start) before acts

reasons_of_game : (problem : Setup) (game : Game) → game_reasons problem game ≡ reasons_from (start_of problem) [] game.acts.items
reasons_of_game problem game =
    ap (λ (all : List Act). reverse (act_reasons (start_of problem) all)) (sym (append-nil (acts_back game)))
    ∙ forward (reasons_after (start_of problem)) (act_reasons (start_of problem)) (λ act before. refl) [] game.acts.items

-- the lines of acts after other acts
abbrev lines_from : Side → Start → ℕ → Side → List Act → List Act → List ℕ
lines_from dealer start number last before acts = act_lines dealer number last (rows_from start before acts) (reasons_from start before acts)

abbrev AreMoves : List Act → Type 0
AreMoves acts = AllByRecursion (λ (act : Act). IsMove act.what) acts

-- the act of the first line
first_act : (dealer : Side) (start : Start) (number : ℕ) (last : Side) (before : List Act) (act act' : Act) (acts acts' : List Act) (rest rest' : List ℕ)
    → IsMove act.what → IsMove act'.what
    → lines_from dealer start number last before (act ∷ acts) ++ rest ≡ lines_from dealer start number last before (act' ∷ acts') ++ rest' → act ≡ act'
unfolding act_lines
first_act dealer start number last before act act' acts acts' rest rest' is is' same =
    let opened =
    sym (line_is dealer number _ (act_row start act before) _ _ rest) ∙ same ∙ line_is dealer number _ (act_row start act' before) _ _ rest' in
    let sides = same_sides dealer act.side act'.side _ _ (append_cancel_left (codes " ") _ _ (append_cancel_left (right_in 2 number) _ _ opened)) in
    let moves = same_moves act.what act'.what _ _ is is' (append_cancel_left (codes " ") _ _ sides.1) in
    (λ i. record { side = sides.0 i; what = moves i })

same_acts : (dealer : Side) (start : Start) (number : ℕ) (last : Side) (before acts acts' : List Act) (rest rest' : List ℕ)
    → number + length acts < 100 → number + length acts' < 100 → AreMoves acts → AreMoves acts'
    → lines_from dealer start number last before acts ++ line_feed ∷ rest ≡ lines_from dealer start number last before acts' ++ line_feed ∷ rest'
    → (acts ≡ acts')
unfolding act_lines
same_acts dealer start number last before [] [] rest rest' few few' are are' same = refl
same_acts dealer start number last before [] (act' ∷ acts') rest rest' few few' are are' same =
    absurd (no_line number _ rest (omega arith) (sym (line_is dealer number _ (act_row start act' before) _ _ (line_feed ∷ rest')) ∙ sym same))
same_acts dealer start number last before (act ∷ acts) [] rest rest' few few' are are' same =
    absurd (no_line number _ rest' (omega arith) (sym (line_is dealer number _ (act_row start act before) _ _ (line_feed ∷ rest)) ∙ same))
same_acts dealer start number last before (act ∷ acts) (act' ∷ acts') rest rest' few few' are are' same =
    let first = first_act dealer start number last before act act' acts acts' (line_feed ∷ rest) (line_feed ∷ rest') are.0 are'.0 same in
    let again : lines_from dealer start number last before (act ∷ acts) ++ line_feed ∷ rest
    ≡ lines_from dealer start number last before (act ∷ acts') ++ line_feed ∷ rest' = rw (sym first) at same in
    let after = last_after act.side act.what last in
    let line = act_line dealer number after (act_row start act before) (reasons_after start act before) in
    let others = append_cancel_left line _ _ (sym (append_assoc line _ (line_feed ∷ rest)) ∙ again ∙ append_assoc line _ (line_feed ∷ rest')) in
    let more = same_acts dealer start (number + 1) after (act ∷ before) acts acts' rest rest' (omega arith) (omega arith) are.1 are'.1 others in
    (λ i. first i ∷ more i)

-- ---- what comes after the acts

outcome_feeds : (dealer : Side) (goal : Goal) (over : Option Outcome) (after : List ℕ)
    → (rest : List ℕ) × (outcome_text dealer goal over ++ after ≡ line_feed ∷ rest)
outcome_feeds dealer Win (Some Reached) after = (_, refl)
outcome_feeds dealer (Holes holes) (Some Reached) after = (_, refl)
outcome_feeds dealer Stop (Some Reached) after = (_, refl)
outcome_feeds dealer Win (Some Short) after = (_, refl)
outcome_feeds dealer (Holes holes) (Some Short) after = (_, refl)
outcome_feeds dealer Stop (Some Short) after = (_, refl)
outcome_feeds dealer goal _ after = (_, refl)

show_feeds : (problem : Setup) (dealt : Dealt) (rows : List ShowRow) (over : Option Outcome) (after : List ℕ)
    → (rest : List ℕ) × (flat_map (counted_text problem dealt) rows ++ (outcome_text problem.dealer problem.goal over ++ after) ≡ line_feed ∷ rest)
unfolding counted_text counted_name
show_feeds problem dealt [] over after = outcome_feeds problem.dealer problem.goal over after
show_feeds problem dealt (row ∷ rows) over after = (_, refl)

-- ---- the sheet

regroup : (d c r s o p : List ℕ) → ((((d ++ c) ++ r) ++ s) ++ o) ++ p ≡ d ++ (c ++ (r ++ (s ++ (o ++ p))))
regroup d c r s o p = simp append_assoc

opened_deal : (a role b hold c throw d rest : List ℕ)
    → ((((((a ++ role) ++ b) ++ hold) ++ c) ++ throw) ++ d) ++ rest ≡ a ++ (role ++ (b ++ (hold ++ (c ++ (throw ++ (d ++ rest))))))
opened_deal a role b hold c throw d rest = simp append_assoc

same_deals : (dealer : Side) (dealt dealt' : Dealt) (rest rest' : List ℕ) → AreSixCards dealt → AreSixCards dealt'
    → dealt_line dealer dealt ++ rest ≡ dealt_line dealer dealt' ++ rest' → (dealt ≡ dealt') × (rest ≡ rest')
unfolding dealt_line
same_deals dealer dealt dealt' rest rest' six six' same =
    let cards = all_parts dealt.hold dealt.throw six.cards in
    let cards' = all_parts dealt'.hold dealt'.throw six'.cards in
    let opened =
    sym (opened_deal (codes "The ") _ (codes " holds") (spaced_cards dealt.hold) (codes " and threw") (spaced_cards dealt.throw) (codes ".\n") rest) ∙ same
    ∙ opened_deal (codes "The ") (role_word dealer Opponent) (codes " holds") (spaced_cards dealt'.hold) (codes " and threw") (spaced_cards dealt'.throw)
    (codes ".\n") rest' in
    let holds = append_cancel_left (codes " holds") _ _ (append_cancel_left (role_word dealer Opponent) _ _ (append_cancel_left (codes "The ") _ _ opened)) in
    let hold = same_spaced dealt.hold dealt'.hold _ _ (six.held ∙ sym six'.held) cards.0 cards'.0 holds in
    let throw =
    same_spaced dealt.throw dealt'.throw _ _ (six.thrown ∙ sym six'.thrown) cards.1 cards'.1 (append_cancel_left (codes " and threw") _ _ hold.1) in
    ((λ i. record { hold = hold.0 i; throw = throw.0 i }), append_cancel_left (codes ".\n") _ _ throw.1)

-- the lines of the acts of a game
abbrev lines_of : Setup → Game → List ℕ
lines_of problem game = lines_from problem.dealer (start_of problem) 1 (pone_of (start_of problem)) [] game.acts.items

rows_are : (problem : Setup) (game : Game) → rows_text problem (report_of problem game) (game_reasons problem game) ≡ lines_of problem game
rows_are problem game = λ i. act_lines problem.dealer 1 (pone_of (start_of problem)) (rows_of_report problem game i) (reasons_of_game problem game i)

sheet_opened : (problem : Setup) (opp : Dealt) (report : Report) (reasons : List (List PlayReason)) → sheet_of problem opp report reasons
    ≡ heading_text problem ++ (dealt_line problem.dealer opp ++ (columns_line ++ (rows_text problem report reasons
    ++ (flat_map (counted_text problem opp) report.show.items ++ (outcome_text problem.dealer problem.goal report.over
    ++ pegged_line (pone_of (start_of problem)) report.rows.items)))))
unfolding sheet_of played_text
sheet_opened problem opp report reasons =
    ap (λ (played : List ℕ). heading_text problem ++ played)
    (regroup (dealt_line problem.dealer opp) columns_line (rows_text problem report reasons) (flat_map (counted_text problem opp) report.show.items)
    (outcome_text problem.dealer problem.goal report.over) (pegged_line (pone_of (start_of problem)) report.rows.items))

-- the sheet of a game, piece by piece: the heading, the deal, the acts, and then a line feed
abbrev Opens : Setup → Game → List ℕ → Type 0
Opens problem game text =
    (rest : List ℕ)
    × (text ≡ heading_text problem ++ (dealt_line problem.dealer game.opp ++ (columns_line ++ (lines_of problem game ++ line_feed ∷ rest))))

opened_sheet : (problem : Setup) (game : Game) (text : List ℕ) → game_sheet_text problem game ≡ Ok text → Opens problem game text
opened_sheet problem game text is = of_fault (game_fault problem game) is
  where
    of_fault : (fault : Option GameFault) → sheet_for problem game (unless_fault fault (report_of problem game)) ≡ Ok text → Opens problem game text
    of_fault None is =
        let report = report_of problem game in
        let pegged = pegged_line (pone_of (start_of problem)) report.rows.items in
        let feeds = show_feeds problem game.opp report.show.items report.over pegged in
        let whole : sheet_of problem game.opp report (game_reasons problem game) ≡ text = cc in (
          feeds.0,
          sym whole ∙ sheet_opened problem game.opp report (game_reasons problem game)
              ∙ (λ i. heading_text problem ++ (dealt_line problem.dealer game.opp ++ (columns_line ++ (rows_are problem game i ++ feeds.1 i)))),
        )
    of_fault (Some fault) is = absurd cc

pub sheets_have_one_game : SheetsHaveOneGameLaw
sheets_have_one_game problem game other text valid valid' is is' =
    let first = opened_sheet problem game text is in
    let second = opened_sheet problem other text is' in
    let bodies = append_cancel_left (heading_text problem) _ _ (sym first.1 ∙ second.1) in
    let deals = same_deals problem.dealer game.opp other.opp _ _ valid.six valid'.six bodies in
    let acts =
    same_acts problem.dealer (start_of problem) 1 (pone_of (start_of problem)) [] game.acts.items other.acts.items first.0 second.0
    (let few = valid.few in omega arith) (let few = valid'.few in omega arith) valid.moves valid'.moves
    (append_cancel_left columns_line _ _ deals.1) in
    (λ i. record { opp = deals.0 i; acts = record { items = acts i } })
