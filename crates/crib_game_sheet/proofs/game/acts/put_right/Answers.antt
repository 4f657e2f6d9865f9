use Rattle.std.proofs.Common.{◌≡◌, ℕ, ◌-◌, ◌≤◌, ◌++◌, List, codes, decimal, length, take, ap, rules, arith}
use Rattle.std.proofs.lemmas.List.{take-replicate}
use Rattle.crib_text.specs.Spelling.{space}
use Rattle.crib_board.specs.Board.{right_in}
use Rattle.crib_run.proofs.Printing.{as_text, more}
use Rattle.crib_game_sheet.proofs.game.acts.put_right.Goals as goal

-- a number in columns of at most this width
column : (width number blanks : ℕ) (digits : List ℕ) → width ≤ 3 → digits ≡ decimal number → blanks ≡ width - length digits
    → take blanks (codes "   ") ++ digits ≡ right_in width number
unfolding right_in
column width number blanks digits narrow is blank =
    rw (blank, is) (ap (λ (blank : List ℕ). blank ++ decimal number) (take-replicate (width - length (decimal number)) 3 space (omega arith)))

pub returns : goal.returns
returns g c =
    let digits : c.as_bytes-digits.result.now ≡ decimal c.args.number = search rules in
    as_text (more c.put.ensures c.put-2.ensures)
    (column c.args.width c.args.number c.saturating_sub.result c.as_bytes-digits.result.now c.requires digits (omega arith))
