-- The texts of ranks after which suits decide, by whether there are any.
use Rattle.std.proofs.Common.{◌≡◌, ℕ, ◌<◌, ◌≤◌, List, [], ◌∷◌, ◌++◌, length, codes, refl, arith}
use Rattle.crib_sheet.specs.Beaten.{ranks_text}
use Rattle.crib_sheet.specs.Refute.{somebody_sentence, suits_line, suits_sentences}

pub line_with : (ranks : List ℕ) → 1 ≤ length ranks → codes "suits " ++ ranks_text ranks ++ codes "\n" ≡ suits_line ranks
line_with [] some = absurd (omega (arith, some))
line_with (rank ∷ ranks) some = refl

pub sentences_with : (ranks : List ℕ) → 1 ≤ length ranks →
    somebody_sentence ++ codes "Look at the suit if they show one of these next: " ++ ranks_text ranks ++ codes "\n" ≡ suits_sentences ranks
sentences_with [] some = absurd (omega (arith, some))
sentences_with (rank ∷ ranks) some = refl

pub sentences_without : (ranks : List ℕ) → length ranks < 1 → somebody_sentence ≡ suits_sentences ranks
sentences_without [] none = refl
sentences_without (rank ∷ ranks) none = absurd (omega (arith, none))
