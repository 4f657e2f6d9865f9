-- The words beside a sheet.
use Rattle.std.proofs.Common.{◌≡◌, ◌∙◌, ℕ, List, ◌++◌, Bool, Option, codes, false, refl, subst, sym}
use Rattle.crib_text.specs.Device.{HasFailed}
use Rattle.crib_input.specs.declared.reason.Reason.{Reason}
use Rattle.crib_input.specs.declared.sections.Sections.{Sections}
use Rattle.crib_message.specs.Message.{IsMessage}
use Rattle.crib_run.specs.Beside.{Writes}
use Rattle.crib_run.specs.Prints.{Prints, Stand}
use Rattle.crib_run.proofs.Printing.{more, written}
use Rattle.crib_game_sheet.specs.ActsBefore.{acts_beside}
use Rattle.cribsheet.specs.Beside.{IsSaid}

-- the message and the acts beside it are what is said, on the device that the page was put on
pub said : {W : Type 0} (contents : W → Option (List ℕ)) (faults : W → ℕ) (left : W) {now : W} (sections : Sections)
    (input : List ℕ) (reason : Reason) (message : List ℕ)
    {s t : Stand} {name : ℕ} {is_cut : Bool} → IsMessage (codes "cribsheet") sections input reason message → Prints message s t
    → Prints (acts_beside sections input reason) t (record { name = name; contents = contents left; faults = faults left; is_cut = is_cut })
    → s.is_cut ≡ false → (name ≡ s.name → now ≡ left) → Writes (IsSaid sections input reason) s.contents (contents now) (HasFailed s.faults (faults now))
said {W} contents faults left sections input reason message {s} is puts prints whole behind =
    subst (λ (w : W). Writes (IsSaid sections input reason) s.contents (contents w) (HasFailed s.faults (faults w))) (sym (behind (prints.same ∙ puts.same)))
    (message ++ acts_beside sections input reason, (message, is, refl), written (more puts prints) whole)
