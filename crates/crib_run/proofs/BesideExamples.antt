-- Worked examples of what is written beside a reply.
use Rattle.std.proofs.Common.{◌≡◌, ◌∙◌, arith, refl, ap, inl, inr, zero, suc, take, ℕ, List, [], ◌∷◌, codes, map, Some, None, Ok, Err}
use Rattle.std.specs.Prelude.{slice_index}
use Rattle.std.specs.Fmt.{digits}
use Rattle.crib_text.specs.declared.fault.TextCause.TheVariants.{TooLong}
use Rattle.crib_input.specs.declared.reason.FaultCause.TheVariants.{NoMemory, TooLarge, WriteFailed}
use Rattle.crib_input.specs.declared.reason.Reason.{Reason}
use Rattle.crib_input.specs.declared.reason.Reason.TheVariants.{Fault, Refused}
use Rattle.crib_input.specs.declared.refusal.Cause.TheVariants as causes
use Rattle.crib_input.specs.Refusals.{FitsFault}
use Rattle.crib_run.specs.declared.status.Status.TheVariants as statuses
use Rattle.crib_run.specs.Beside.{Explains, IsReason, TellsRead, Writes, input_of}
use Rattle.crib_run.specs.Reply.{Reply}

abbrev holds_reply : Reply
holds_reply = record { output = codes "holds\n"; status = statuses.Yes }

abbrev memory_reply : Reply
memory_reply = record { output = codes "fault 11\n"; status = statuses.Fault }

-- the bytes of an input, and none of one that was not read
pub bytes_of_inputs : map input_of (Ok (codes "problem 1\n") ∷ Err TooLong ∷ []) ≡ codes "problem 1\n" ∷ [] ∷ []
bytes_of_inputs = refl

-- ---- the reason that is given: `only` is one that a job may give
abbrev any : Reason → Type 0
any reason = Unit {0}

abbrev only : Reason → Type 0
only reason = reason ≡ Fault NoMemory

of_an_input : TellsRead (λ input. only) (Ok []) (Fault NoMemory) × (TellsRead (λ input. only) (Ok []) (Fault TooLarge) → ⊥)
of_an_input = (refl, λ is. absurd cc)

abbrev a_text's : Reason
a_text's = Refused (record { line = 0; cause = causes.Text TooLong })

-- where no input was read, no game is at fault
of_no_input : TellsRead (λ input reason. ⊥) (Err TooLong) a_text's
    × ((reason : Reason) → TellsRead (λ input reason. Unit {0}) (Err TooLong) reason ≡ FitsFault None reason)
of_no_input = (refl, λ reason. refl)

-- ---- the reason
pub of_a_fault : IsReason only memory_reply statuses.Fault (Fault NoMemory)
unfolding digits
of_a_fault = inl (refl, refl, refl)

-- one that isn't given for the input
pub not_told : IsReason (λ reason. ⊥) memory_reply statuses.Fault (Fault NoMemory) → ⊥
not_told (inl told) = told.2
not_told (inr failed) = failed.0 refl

-- the answer was not written whole: the status isn't that of the reply
pub of_a_failed_writer : IsReason any holds_reply statuses.Fault (Fault WriteFailed)
of_a_failed_writer = inr ((λ same. absurd cc), refl)

pub no_failed_writer : IsReason any holds_reply statuses.Yes (Fault WriteFailed) → ⊥
no_failed_writer (inl same) = (let status : statuses.Yes ≡ statuses.Fault = ap (λ (reply : Reply). reply.status) same.1 in absurd cc)
no_failed_writer (inr failed) = failed.0 refl

-- ---- what is written
abbrev says : Reason → List ℕ → Type 0
says reason text = text ≡ codes "why\n"

-- nothing beside yes and no
pub nothing_beside_an_answer : Explains any says holds_reply statuses.Yes (Some (codes "a")) (Some (codes "a")) ⊥
    × Explains any says holds_reply statuses.No (Some (codes "a")) (Some (codes "a")) ⊥
    × (Explains any says holds_reply statuses.Yes (Some []) (Some (codes "a")) (Unit {0}) → ⊥)
    × (Explains any says holds_reply statuses.No (Some []) (Some (codes "a")) (Unit {0}) → ⊥)
nothing_beside_an_answer = (refl, refl, λ written. absurd cc, λ written. absurd cc)

pub a_fault_is_explained : Explains any says memory_reply statuses.Fault (Some []) (Some (codes "why\n")) ⊥
unfolding digits
a_fault_is_explained = (Fault NoMemory, inl (refl, refl, tt), (codes "why\n", refl, inl refl))

-- a fault isn't left unexplained
pub no_silent_fault : (reason : Reason) → Writes (says reason) (Some []) (Some []) ⊥ → ⊥
no_silent_fault reason (text, is, inl whole) = absurd cc
no_silent_fault reason (text, is, inr front) = front.3

-- all but the last byte is a beginning, too
pub cut_by_a_failure : (reason : Reason) → Writes (says reason) (Some []) (Some (codes "wh")) (Unit {0})
    × Writes (says reason) (Some []) (Some (codes "why")) (Unit {0})
cut_by_a_failure reason = ((codes "why\n", refl, inr (2, omega arith, refl, tt)), (codes "why\n", refl, inr (3, omega arith, refl, tt)))

-- ---- reasons that are none: another status, another number, and another fault than that of the writer
pub another_status : IsReason any memory_reply statuses.Yes (Fault NoMemory) → ⊥
another_status (inl same) = (let status : statuses.Yes ≡ statuses.Fault = same.0 in absurd cc)
another_status (inr failed) = (let reason = failed.1 in absurd cc)

pub another_number : IsReason any memory_reply statuses.Fault (Fault TooLarge) → ⊥
unfolding digits
another_number (inl same) = (let digit : 49 ≡ 53 = ap (λ (reply : Reply). slice_index reply.output 6) same.1 in absurd (omega (arith, digit)))
another_number (inr failed) = absurd (failed.0 refl)

pub another_fault : IsReason any holds_reply statuses.Fault (Fault NoMemory) → ⊥
another_fault (inl same) = (let status : statuses.Fault ≡ statuses.Yes = same.0 in absurd cc)
another_fault (inr failed) = (let reason = failed.1 in absurd cc)

-- ---- nothing else is written
pub no_fault_without_a_reason : ((reason : Reason) → IsReason any holds_reply statuses.Fault reason → ⊥) →
    Explains any says holds_reply statuses.Fault (Some []) (Some (codes "why\n")) ⊥ → ⊥
no_fault_without_a_reason none written = none written.0 written.1

pub no_text_to_write : Writes (λ text. ⊥) (Some []) (Some []) (Unit {0}) → ⊥
no_text_to_write written = written.1

pub another_text : Writes (λ text. text ≡ codes "why\n") (Some []) (Some (codes "x")) (Unit {0}) → ⊥
another_text (text, is, inl whole) = (let byte : 120 ≡ 119 = ap (λ bytes. slice_index bytes 0) (whole ∙ is) in absurd (omega (arith, byte)))
another_text (text, is, inr cut) = no cut.0 (cut.2 ∙ ap (take cut.0) is)
  where
    no : (sent : ℕ) → codes "x" ≡ take sent (codes "why\n") → ⊥
    no zero e = absurd cc
    no (suc sent) e = (let byte : 120 ≡ 119 = ap (λ bytes. slice_index bytes 0) e in absurd (omega (arith, byte)))
