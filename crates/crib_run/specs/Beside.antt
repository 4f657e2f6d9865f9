-- What a program writes beside its reply.
use Rattle.std.specs.Prelude.{◌≡◌, ◌≢◌, ◌⊎◌, ◌<◌, ℕ, List, [], Option, None, Result, Ok, Err, take, length}
use Rattle.std.specs.Io.KnownBytes.{Appends}
use Rattle.crib_text.specs.declared.fault.TextCause.{TextCause}
use Rattle.crib_input.specs.declared.reason.FaultCause.TheVariants.{WriteFailed}
use Rattle.crib_input.specs.declared.reason.Reason.{Reason}
use Rattle.crib_input.specs.declared.reason.Reason.TheVariants as reasons
use Rattle.crib_input.specs.Refusals.{FitsFault}
use Rattle.crib_run.specs.declared.status.Status.{Status}
use Rattle.crib_run.specs.declared.status.Status.TheVariants.{Yes, No}
use Rattle.crib_run.specs.Reply.{Reply, reason_reply}

-- the bytes of an input, and none if it was not read
abbrev pub input_of : Result (List ℕ) TextCause → List ℕ
input_of (Ok input) = input
input_of (Err cause) = []

-- a reason is one that is given for what was read: `tells` relates it to the input, or there is no input, and so no
-- game in it
abbrev pub TellsRead : (List ℕ → Reason → Type 0) → Result (List ℕ) TextCause → Reason → Type 0
TellsRead tells (Ok input) reason = tells input reason
TellsRead tells (Err cause) reason = FitsFault None reason

-- the reason behind a run: it is one that `tells` allows, and the reply is the one with this reason. Or the run ends
-- with another status than that of its reply, since the writer failed
abbrev pub IsReason : (Reason → Type 0) → Reply → Status → Reason → Type 0
IsReason tells reply ended reason =
    ((ended ≡ reply.status) × (reply ≡ reason_reply reason) × tells reason)
    ⊎ ((ended ≢ reply.status) × (reason ≡ reasons.Fault WriteFailed))

-- one of some texts is written whole to a device, or the device failed after a proper beginning of it
abbrev pub Writes : (List ℕ → Type 0) → Option (List ℕ) → Option (List ℕ) → Type 0 → Type 0
Writes is_one old new failed =
    (text : List ℕ) × is_one text
    × (Appends old new text
    ⊎ ((sent : ℕ) × (sent < length text) × Appends old new (take sent text) × failed))

-- what a program writes beside a reply, by the status with which it ends: nothing beside yes and no, and otherwise a
-- text that says the reason
abbrev pub Explains :
    (Reason → Type 0) → (Reason → List ℕ → Type 0) → Reply → Status → Option (List ℕ) → Option (List ℕ) → Type 0 →
    Type 0
Explains tells says reply Yes old new failed = Appends old new []
Explains tells says reply No old new failed = Appends old new []
Explains tells says reply ended old new failed =
    (reason : Reason) × IsReason tells reply ended reason × Writes (says reason) old new failed
