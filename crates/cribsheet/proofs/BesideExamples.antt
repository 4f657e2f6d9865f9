-- Worked examples of what is written beside a sheet: the message, and then the acts.
use Rattle.std.proofs.Common.{◌≡◌, ◌∙◌, refl, sym, ap, inl, ℕ, List, [], ◌++◌, codes}
use Rattle.std.specs.Fmt.{digits}
use Rattle.crib_text.specs.Words.{lines_of, number_read, words_of}
use Rattle.crib_input.specs.declared.reason.FaultCause.TheVariants.{NoMemory}
use Rattle.crib_input.specs.declared.reason.Reason.TheVariants.{Fault}
use Rattle.crib_input.specs.declared.sections.Sections.TheVariants.{Played}
use Rattle.crib_message.specs.Place.{spot_behind}
use Rattle.crib_message.proofs.MessageExamples.{all_plain}
use Rattle.crib_game_sheet.specs.ActsBefore.{acts_beside}
use Rattle.crib_game_sheet.proofs.ActsBeforeExamples.{line_13, out_of_turn}
use Rattle.cribsheet.specs.Beside.{IsSaid}

said_of_an_act : acts_beside Played out_of_turn line_13 ≡ codes " 1 pone   2C       2   0    0\n" → IsSaid Played out_of_turn line_13
    (codes "cribsheet: line 13, line 6 of the game: not your turn\n  13 | own 2D\n" ++ codes " 1 pone   2C       2   0    0\n")
unfolding digits lines_of words_of number_read spot_behind
said_of_an_act shown = (
  codes "cribsheet: line 13, line 6 of the game: not your turn\n  13 | own 2D\n",
  record {
    sentence = codes "not your turn";
    excerpt = codes "  13 | own 2D\n";
    is = refl;
    plain = all_plain (codes "not your turn") refl;
    worded = refl;
    shows = record { before = []; shown = codes "own 2D"; after = []; mark = []; cut = refl; wide = refl; is = refl; marks = inl refl };
  },
  ap (λ (acts : List ℕ). codes "cribsheet: line 13, line 6 of the game: not your turn\n  13 | own 2D\n" ++ acts) (sym shown),
)

nothing_said : (input : List ℕ) → IsSaid Played input (Fault NoMemory) [] → ⊥
nothing_said input (message, is, same) = (let text = same ∙ ap (λ bytes. bytes ++ []) is in cc)

a_message_alone : (input text : List ℕ) → IsSaid Played input (Fault NoMemory) text → text ≡ codes "cribsheet: out of memory\n"
a_message_alone input text (message, is, same) = same ∙ ap (λ bytes. bytes ++ []) is
