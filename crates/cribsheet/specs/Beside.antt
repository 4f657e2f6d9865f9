-- The words beside a sheet: the message of a refusal, and the acts before a refused one.
use Rattle.std.specs.Prelude.{◌≡◌, ℕ, List, ◌++◌, codes}
use Rattle.crib_input.specs.declared.reason.Reason.{Reason}
use Rattle.crib_input.specs.declared.sections.Sections.{Sections}
use Rattle.crib_message.specs.Message.{IsMessage}
use Rattle.crib_game_sheet.specs.ActsBefore.{acts_beside}

-- what is written beside a reply with a reason: its message, and the acts before a refused one
abbrev pub IsSaid : Sections → List ℕ → Reason → List ℕ → Type 0
IsSaid sections input reason text =
    (message : List ℕ) × IsMessage (codes "cribsheet") sections input reason message
    × (text ≡ message ++ acts_beside sections input reason)
