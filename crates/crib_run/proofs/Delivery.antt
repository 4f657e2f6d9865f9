-- What is delivered: an answer, or the reason why there is none, and the words beside it.
use Rattle.std.proofs.Common.{◌≡◌, ◌⊎◌, ◌<◌, inl, inr, sym, subst, List, ℕ, [], length, take, Option, Result, Ok, Err, OnOk, OnErr, IfErr}
use Rattle.std.specs.Io.KnownBytes.{Appends}
use Rattle.crib_input.specs.declared.reason.Reason.{Reason}
use Rattle.crib_run.specs.declared.status.Status.{Status}
use Rattle.crib_run.specs.declared.status.Status.TheVariants.{Yes, No, Refused, Fault}
use Rattle.crib_run.specs.Beside.{Explains, IsReason}
use Rattle.crib_run.specs.Reply.{IsOutcome, Reply, reason_reply}

-- ---- outcomes

-- the same outcome of another question
pub outcome_map : {A : Type 0} (reply : A → Reply) (may other : Reply → Type 0) → ((r : Reply) → may r → other r) → (r : Result A Reason)
    → IsOutcome reply may r → IsOutcome reply other r
outcome_map reply may other f (Ok answer) is = (is.0, f (reply answer) is.1)
outcome_map reply may other f (Err reason) is = f (reason_reply reason) is

-- ---- the words

-- beside yes and no nothing is written
pub silent : (tells : Reason → Type 0) (says : Reason → List ℕ → Type 0) (reply : Reply) (ended : Status) (old new : Option (List ℕ)) (failed : Type 0)
    → Explains tells says reply ended old new failed → (ended ≡ Yes) ⊎ (ended ≡ No) → Appends old new []
silent tells says reply Yes old new failed nothing quiet = nothing
silent tells says reply No old new failed nothing quiet = nothing
silent tells says reply ended old new failed said (inl is) = cc
silent tells says reply ended old new failed said (inr is) = cc

same_reason : (tells : Reason → Type 0) (reply : Reply) (ended : Status) (reason told : Reason) → tells reason
    → IsReason (λ one. one ≡ reason) reply ended told → IsReason tells reply ended told
same_reason tells reply ended reason told may (inl is) = inl (is.0, is.1, subst tells (sym is.2) may)
same_reason tells reply ended reason told may (inr failed) = inr failed

-- the words of a reason that may be given
pub told : (tells : Reason → Type 0) (says : Reason → List ℕ → Type 0) (reply : Reply) (ended : Status) (old new : Option (List ℕ)) (failed : Type 0)
    (reason : Reason) → tells reason → Explains (λ one. one ≡ reason) says reply ended old new failed → Explains tells says reply ended old new failed
told tells says reply Yes old new failed reason may said = said
told tells says reply No old new failed reason may said = said
told tells says reply Refused old new failed reason may said = (said.0, same_reason tells reply Refused reason said.0 may said.1, said.2)
told tells says reply Fault old new failed reason may said = (said.0, same_reason tells reply Fault reason said.0 may said.1, said.2)

-- ---- a text

-- bytes were sent whole, or a proper beginning of them
pub sent_part : {E : Type 0} (sent : E → ℕ) (result : Result (Unit {0}) E) (old new : Option (List ℕ)) (bytes : List ℕ) (failed : Type 0) →
    OnOk result (Appends old new bytes) → IfErr result (λ stopped. Appends old new (take (sent stopped) bytes)) →
    IfErr result (λ stopped. sent stopped < length bytes) → OnErr result failed →
    Appends old new bytes ⊎ ((count : ℕ) × (count < length bytes) × Appends old new (take count bytes) × failed)
sent_part sent (Ok done) old new bytes failed all part cut stop = inl all
sent_part sent (Err stopped) old new bytes failed all part cut stop = inr (sent stopped, cut, part, stop)
