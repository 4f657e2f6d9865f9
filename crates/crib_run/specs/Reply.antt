-- The reply of an answer, and the reply with a reason why there is none.
use Rattle.std.specs.Prelude.{◌≡◌, ◌⊎◌, ℕ, List, [], ◌∷◌, ◌++◌, Result, Ok, Err, codes, decimal}
use Rattle.crib_text.specs.Refusals.{Refusal}
use Rattle.crib_text.specs.Spelling.{line_text}
use Rattle.crib_input.specs.declared.reason.Reason.{Reason}
use Rattle.crib_input.specs.declared.reason.Reason.TheVariants as reasons
use Rattle.crib_input.specs.Refusals.{fault_number, refusal_of}
use Rattle.crib_run.specs.declared.answer.Answer as answers
use Rattle.crib_run.specs.declared.status.Status.{Status}
use Rattle.crib_run.specs.declared.status.Status.TheVariants.{Yes, No, Refused, Fault}
use Rattle.crib_run.specs.Text.{text_bytes}

-- a reply: the bytes that the program writes, and its exit status
pub record Reply : Type 0 where
  pub output : List ℕ
  pub status : Status

-- the reply of an answer: the bytes of its text, and its status
unfoldable pub reply_of : {A : Type 0} → answers.Answer A → Reply
reply_of answer = record { output = text_bytes answer.text; status = answer.status }

-- the reply to a refused input: the line and the number of its refusal
abbrev pub refusal_reply : Refusal → Reply
refusal_reply refusal = record {
  output = line_text (codes "refused" ∷ codes "line" ∷ (decimal refusal.line ++ codes ":")
      ∷ decimal refusal.number ∷ []);
  status = Refused;
}

-- the line of a fault, with its number
abbrev pub fault_line : ℕ → List ℕ
fault_line number = line_text (codes "fault" ∷ decimal number ∷ [])

-- the reply of a fault: the line with its number, and nothing else
abbrev pub fault_reply : ℕ → Reply
fault_reply number = record { output = fault_line number; status = Fault }

-- the reply with a reason why there is no answer: the line of the refusal, or that of the fault
abbrev pub reason_reply : Reason → Reply
reason_reply (reasons.Refused refusal) = refusal_reply (refusal_of refusal)
reason_reply (reasons.Fault cause) = fault_reply (fault_number cause)

-- a status is that of an answer: yes or no
abbrev pub IsAnswer : Status → Type 0
IsAnswer status = (status ≡ Yes) ⊎ (status ≡ No)

-- the outcome of a question: an answer, which is a yes or a no, or the reason why there is none. `may` relates the
-- question to the reply of either
abbrev pub IsOutcome : {A : Type 0} → (A → Reply) → (Reply → Type 0) → Result A Reason → Type 0
IsOutcome reply may (Ok answer) = IsAnswer (reply answer).status × may (reply answer)
IsOutcome reply may (Err reason) = may (reason_reply reason)
