use Rattle.std.proofs.Common.{◌≡◌, ℕ, ◌-◌, ◌≤◌, ◌++◌, List, length, take, replicate, ap, arith}
use Rattle.std.proofs.lemmas.List.{take-replicate}
use Rattle.crib_text.specs.Spelling.{space}
use Rattle.crib_board.specs.Board.{left_in}
use Rattle.crib_run.proofs.Printing.{as_text, more}
use Rattle.crib_why_sheet.proofs.page.put_left.Goals as goal

-- a text in columns of at most 512
column : (width blanks : ℕ) (text : List ℕ) → width ≤ 512 → blanks ≡ width - length text
    → text ++ take blanks (replicate 512 space) ≡ left_in width text
column width blanks text narrow blank =
    rw blank (ap (λ (blank : List ℕ). text ++ blank) (take-replicate (width - length text) 512 space (omega (arith, narrow))))

pub returns : goal.returns
returns g c =
    as_text (more c.put.ensures c.put-2.ensures) (column c.args.width c.saturating_sub.result c.args.text.now c.requires.0 (omega arith))
