-- Worked examples of replies, of the statuses, and of what a run reads and sends.
use Rattle.std.specs.Prelude.{map}
use Rattle.std.proofs.Common.{arith, ◌≡◌, ◌∙◌, refl, ap, subst, inl, inr, ◌<◌, ℕ, List, [], ◌∷◌, codes, length, Option, Some, None, Ok, Err}
use Rattle.std.specs.Fmt.{digits}
use Rattle.std.proofs.lemmas.List.{length-take-le}
use Rattle.crib_text.specs.declared.fault.TextCause.TheVariants as causes
use Rattle.crib_input.specs.declared.refusal.Refusal.{Refusal}
use Rattle.crib_input.specs.declared.refusal.Cause.TheVariants.{Text}
use Rattle.crib_run.specs.declared.answer.Answer as answers
use Rattle.crib_run.specs.declared.text.Text.TheVariants as texts
use Rattle.crib_input.specs.declared.reason.FaultCause.TheVariants.{ReadFailed, WriteFailed, NoMemory, TooLarge}
use Rattle.crib_input.specs.declared.reason.Reason.TheVariants as reasons
use Rattle.crib_input.specs.Input.{most_bytes}
use Rattle.crib_input.specs.Refusals.{fault_number}
use Rattle.crib_run.specs.declared.status.Status.{Status}
use Rattle.crib_run.specs.declared.status.Status.TheVariants.{Yes, No, Refused, Fault}
use Rattle.crib_run.specs.Reply.{IsAnswer, IsOutcome, Reply, fault_line, fault_reply, reason_reply, refusal_reply, reply_of}
use Rattle.crib_run.specs.Run.{AnswersRead, Delivers, HaveMeaning, IsRead, RunMeans, Sends, unread_reply}
use Rattle.crib_run.specs.Status.{code_of}
use Rattle.crib_run.specs.Text.{text_bytes}

-- a text that needs no allocation is written byte for byte, and so is one that is allocated, such as that of a plan
pub bytes_of_texts : (A : Type 0) (text : _) → (text_bytes {A = A} (texts.Short (record { items = codes "holds\n" })) ≡ codes "holds\n")
    × (text_bytes {A = A} (texts.Section text) ≡ text.items)
unfolding text_bytes
bytes_of_texts A text = (refl, refl)

-- a reply has the bytes of the answer's text, and the status of the answer
pub bytes_and_status : (A : Type 0) (answer : answers.Answer A) → reply_of answer ≡ record { output = text_bytes answer.text; status = answer.status }
unfolding reply_of
bytes_and_status A answer = refl

-- ---- the numbers
pub exit_statuses : map code_of (Yes ∷ No ∷ Refused ∷ Fault ∷ []) ≡ 0 ∷ 1 ∷ 2 ∷ 3 ∷ []
exit_statuses = refl

pub faults : map fault_number (ReadFailed ∷ WriteFailed ∷ NoMemory ∷ TooLarge ∷ []) ≡ 9 ∷ 10 ∷ 11 ∷ 50 ∷ []
faults = refl

abbrev a_refusal : List ℕ → Reply
a_refusal text = record { output = text; status = Refused }

abbrev a_fault : List ℕ → Reply
a_fault text = record { output = text; status = Fault }

abbrev a_blank_line : Refusal
a_blank_line = record { line = 3; cause = Text causes.BadLine }

-- the line of a fault has its number, and so does the line of a refusal, behind the line of the input
pub replies_by_number : a_fault (fault_line 11) ∷ fault_reply 50 ∷ reason_reply (reasons.Fault WriteFailed)
    ∷ refusal_reply (record { line = 12; number = 44 }) ∷ reason_reply (reasons.Refused a_blank_line) ∷ []
    ≡ a_fault (codes "fault 11\n") ∷ a_fault (codes "fault 50\n") ∷ a_fault (codes "fault 10\n")
    ∷ a_refusal (codes "refused line 12: 44\n") ∷ a_refusal (codes "refused line 3: 4\n") ∷ []
unfolding digits
replies_by_number = refl

abbrev holds_reply : Reply
holds_reply = record { output = codes "holds\n"; status = Yes }

-- ---- reading
pub unread_inputs : map unread_reply (causes.TooLong ∷ causes.CutShort ∷ causes.BadByte ∷ causes.ReadFault ∷ causes.NoMemory ∷ [])
    ≡ a_refusal (codes "refused line 0: 2\n") ∷ a_refusal (codes "refused line 0: 3\n") ∷ a_refusal (codes "refused line 0: 1\n")
    ∷ a_fault (codes "fault 9\n") ∷ a_fault (codes "fault 11\n") ∷ []
unfolding digits
unread_inputs = refl

-- the input is all that the device has
pub whole_input : (failed : Type 0) → IsRead (Some (codes "caba")) failed (Ok (codes "caba")) × (IsRead (Some (codes "ab")) failed (Ok (codes "a")) → ⊥)
whole_input failed = (refl, λ same. absurd cc)

-- no failure of the device is shown where there was none, and no short input is too long
pub no_failure_told : (known : Option (List ℕ)) → IsRead known ⊥ (Err causes.ReadFault) → ⊥
no_failure_told known (inl long) = absurd cc
no_failure_told known (inr (inl failed)) = failed.1
no_failure_told known (inr (inr memory)) = absurd cc

pub short_is_not_too_long : (failed : Type 0) → IsRead (Some (codes "ab")) failed (Err causes.TooLong) → ⊥
short_is_not_too_long failed (inl long) = (let more = long.1 in absurd (omega (arith, more)))
short_is_not_too_long failed (inr (inl failure)) = (let is = failure.0 in absurd cc)
short_is_not_too_long failed (inr (inr memory)) = absurd cc

-- without an input the reply is the one that says why
pub answers_a_failed_reader : (may : List ℕ → Reply → Type 0) (reply : Reply) → AnswersRead may (Err causes.ReadFault) reply → reply.status ≡ Fault
answers_a_failed_reader may reply is = ap (λ (reply : Reply). reply.status) is

-- ---- sending
pub sent_whole : (failed : Type 0) → Sends holds_reply (Some (codes "a")) (Some (codes "aholds\n")) failed Yes
sent_whole failed = inl (refl, refl)

-- all but the last byte is a beginning, too
pub cut_by_a_failure : Sends holds_reply (Some []) (Some (codes "hol")) (Unit {0}) Fault × Sends holds_reply (Some []) (Some (codes "holds")) (Unit {0}) Fault
cut_by_a_failure = (inr (3, omega arith, refl, refl, tt), inr (5, omega arith, refl, refl, tt))

-- only a failed writer cuts a reply short, and then the status is `Fault`
pub no_cut_without_failure : (ended : Status) → Sends holds_reply (Some []) (Some (codes "hol")) ⊥ ended → ⊥
no_cut_without_failure ended (inl whole) = absurd cc
no_cut_without_failure ended (inr cut) = cut.4

pub a_cut_is_a_fault : (failed : Type 0) → Sends holds_reply (Some []) (Some (codes "hol")) failed Yes → ⊥
a_cut_is_a_fault failed (inl whole) = absurd cc
a_cut_is_a_fault failed (inr cut) = (let fault = cut.3 in absurd cc)

-- a whole reply is no fault, and the whole of it is no beginning
pub whole_with_its_status : (ended : Status) → Sends holds_reply (Some []) (Some (codes "holds\n")) ⊥ ended → ended ≡ Yes
whole_with_its_status ended (inl whole) = whole.1
whole_with_its_status ended (inr cut) = absurd cut.4

pub whole_is_no_cut : Sends holds_reply (Some []) (Some (codes "holds\n")) (Unit {0}) Fault → ⊥
whole_is_no_cut (inl whole) = (let status : Fault ≡ Yes = whole.1 in absurd cc)
whole_is_no_cut (inr (sent, less, front, fault, fails)) =
    (let six : 6 ≡ sent = ap length front ∙ length-take-le sent (codes "holds\n") (omega (arith, less)) in absurd (omega (arith, six, less)))

-- ---- why nothing was read
pub one_byte_too_many : (bytes : List ℕ) → length bytes ≡ 8388609 → IsRead (Some bytes) ⊥ (Err causes.TooLong)
one_byte_too_many bytes e = inl (refl, omega (arith, e))

pub not_one_byte_too_many : (bytes : List ℕ) → length bytes ≡ 8388608 → IsRead (Some bytes) ⊥ (Err causes.TooLong) → ⊥
not_one_byte_too_many bytes e (inl long) = (let more = long.1 in absurd (omega (arith, more, e)))
not_one_byte_too_many bytes e (inr (inl failed)) = failed.1
not_one_byte_too_many bytes e (inr (inr memory)) = absurd cc

-- of a device whose bytes are not known, an input may be too long. The reader failed, or the memory ran out
pub why_nothing_was_read : IsRead None ⊥ (Err causes.TooLong) × IsRead (Some (codes "ab")) (Unit {0}) (Err causes.ReadFault)
    × IsRead (Some (codes "ab")) ⊥ (Err causes.NoMemory)
why_nothing_was_read = (inl (refl, tt), inr (inl (refl, tt)), inr (inr refl))

pub no_bad_byte_while_reading : IsRead None (Unit {0}) (Err causes.BadByte) → ⊥
no_bad_byte_while_reading (inl long) = (let is = long.0 in absurd cc)
no_bad_byte_while_reading (inr (inl failed)) = (let is = failed.0 in absurd cc)
no_bad_byte_while_reading (inr (inr memory)) = absurd cc

-- ---- an input that was read is answered, and so is one that was not read, by the reason
pub answered : AnswersRead (λ input reply. input ≡ codes "caba") (Ok (codes "caba")) holds_reply
    × (AnswersRead (λ input reply. ⊥) (Ok (codes "ab")) holds_reply → ⊥)
    × AnswersRead (λ input reply. ⊥) (Err causes.TooLong) (a_refusal (codes "refused line 0: 2\n"))
unfolding digits
answered = (refl, λ is. is, refl)

-- ---- a run: what it read, answered and sent
abbrev is_holds : List ℕ → Reply → Type 0
is_holds input reply = reply ≡ holds_reply

pub delivered : Delivers is_holds (Some (codes "ab")) ⊥ (Some (codes "a")) (Some (codes "aholds\n")) ⊥ Yes
delivered = record { read = Ok (codes "ab"); gave = refl; reply = holds_reply; answers = refl; sent = inl (refl, refl) }

pub reads_the_device : (is : Delivers is_holds (Some (codes "ab")) ⊥ (Some []) (Some []) ⊥ Yes) → is.read ≡ Ok (codes "a") → ⊥
reads_the_device is e = (let same : codes "a" ≡ codes "ab" = subst (IsRead (Some (codes "ab")) ⊥) e is.gave in absurd cc)

pub answers_what_it_read : (is : Delivers (λ input reply. ⊥) None ⊥ (Some []) (Some []) ⊥ Yes) → is.read ≡ Ok (codes "a") → ⊥
answers_what_it_read is e = subst (λ read. AnswersRead (λ input reply. ⊥) read is.reply) e is.answers

pub sends_its_reply : (is : Delivers is_holds None ⊥ (Some []) (Some (codes "x")) ⊥ Yes) → is.reply ≡ holds_reply → ⊥
sends_its_reply is e =
    elim (subst (λ reply. Sends reply (Some []) (Some (codes "x")) ⊥ Yes) e is.sent) [ inl whole ↦ let text = whole.0 in absurd cc | inr cut ↦ cut.4 ]

-- ---- what a run guarantees
pub run_to_its_end : RunMeans (λ input reply. input ≡ codes "caba") (codes "caba") (Some (codes "a")) (Some (codes "aholds\n")) ⊥ Yes
run_to_its_end = inl (holds_reply, refl, refl, refl)

pub run_that_failed : RunMeans (λ input reply. ⊥) (codes "ab") (Some []) (Some (codes "ho")) (Unit {0}) Fault
run_that_failed = inr (refl, tt)

-- no run fails without a failure, and one that failed is a fault
pub failed_run_is_a_fault : (RunMeans (λ input reply. ⊥) (codes "ab") (Some []) (Some []) ⊥ Fault → ⊥)
    × (RunMeans (λ input reply. ⊥) (codes "ab") (Some []) (Some []) (Unit {0}) Yes → ⊥)
failed_run_is_a_fault = (
  λ means. elim means [ inl whole ↦ whole.1 | inr failed ↦ failed.1 ],
  λ means. elim means [ inl whole ↦ whole.1 | inr failed ↦ let fault : Yes ≡ Fault = failed.0 in absurd cc ],
)

pub run_with_another_status : RunMeans is_holds [] (Some []) (Some (codes "holds\n")) ⊥ No → ⊥
run_with_another_status (inl whole) = (let status : No ≡ Yes = whole.3 ∙ ap (λ (reply : Reply). reply.status) whole.1 in absurd cc)
run_with_another_status (inr failed) = failed.1

pub run_without_its_text : RunMeans is_holds [] (Some []) (Some []) ⊥ Yes → ⊥
run_without_its_text (inl whole) = (let text : [] ≡ codes "holds\n" = whole.2 ∙ ap (λ (reply : Reply). reply.output) whole.1 in absurd cc)
run_without_its_text (inr failed) = failed.1

-- ---- an answer is a yes or a no, and an outcome is an answer that the question may have, or a reason that it may have
pub yes_and_no : IsAnswer Yes × IsAnswer No × (IsAnswer Refused → ⊥) × (IsAnswer Fault → ⊥)
yes_and_no = (inl refl, inr refl, λ is. elim is [ inl e ↦ absurd cc | inr e ↦ absurd cc ], λ is. elim is [ inl e ↦ absurd cc | inr e ↦ absurd cc ])

abbrev itself : Reply → Reply
itself reply = reply

pub are_outcomes : IsOutcome itself (λ reply. reply ≡ holds_reply) (Ok holds_reply)
    × IsOutcome itself (λ reply. reply ≡ fault_reply 11) (Err (reasons.Fault NoMemory))
are_outcomes = ((inl refl, refl), refl)

-- an answer that is refused, one that may not be, and a reason that may not be
pub no_outcomes : (IsOutcome itself (λ reply. Unit {0}) (Ok (a_refusal [])) → ⊥) × (IsOutcome itself (λ reply. ⊥) (Ok holds_reply) → ⊥)
    × (IsOutcome itself (λ reply. ⊥) (Err (reasons.Fault NoMemory)) → ⊥)
no_outcomes = (λ is. yes_and_no.2 is.0, λ is. is.1, λ is. is)

-- ---- each reply that answers an input has its meaning, and so have the two replies to what no job has read
pub meanings : (may means : List ℕ → Reply → Type 0) → HaveMeaning may means → ((input : List ℕ) (reply : Reply) → may input reply → means input reply)
    × ((input : List ℕ) → most_bytes < length input → means input (a_refusal (codes "refused line 0: 2\n"))) × means [] (a_fault (codes "fault 11\n"))
unfolding digits
meanings may means have = (have.answers, have.long, have.memory [])
