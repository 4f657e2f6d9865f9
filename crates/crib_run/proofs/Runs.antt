-- A run guarantees for its input what `specs/Run` states.
use Rattle.std.proofs.Common.{◌≡◌, ◌⊎◌, inl, inr, ℕ, ◌<◌, List, [], length, replicate, Option, Some, None, IfSome, Result, Ok, Err}
use Rattle.std.proofs.Common.{refl, sym, ◌∙◌, subst, arith}
use Rattle.std.proofs.lemmas.List.{length-replicate}
use Rattle.crib_text.specs.Refusals.{no_memory, too_long}
use Rattle.crib_text.specs.declared.fault.TextCause.{TextCause}
use Rattle.crib_run.specs.declared.status.Status.{Status}
use Rattle.crib_input.specs.Input.{most_bytes}
use Rattle.crib_run.specs.Reply.{Reply}
use Rattle.crib_run.specs.Reply.{refusal_reply, fault_reply}
use Rattle.crib_run.specs.Run.{IsRead, AnswersRead, HaveMeaning, Sends, Delivers, RunMeans}

-- the bytes of a device if they are known, and other bytes if not
abbrev known_or : Option (List ℕ) → List ℕ → List ℕ
known_or None other = other
known_or (Some bytes) other = bytes

known_is : (known : Option (List ℕ)) (other : List ℕ) → IfSome known (λ bytes. known_or known other ≡ bytes)
known_is None other = tt
known_is (Some bytes) other = refl

-- an input of `count` bytes, all of them 0
unfoldable zeros : ℕ → List ℕ
zeros count = replicate count 0

zeros_long : (count : ℕ) → length (zeros count) ≡ count
unfolding zeros
zeros_long count = length-replicate {A = ℕ} count 0

one_more : most_bytes < 8388609
one_more = omega arith

long_known : (known : Option (List ℕ)) → IfSome known (λ bytes. most_bytes < length bytes) → most_bytes < length (known_or known (zeros 8388609))
long_known None long = subst (λ (n : ℕ). most_bytes < n) (sym (zeros_long 8388609)) one_more
long_known (Some bytes) long = long

abbrev MeaningOf : (List ℕ → Reply → Type 0) → Option (List ℕ) → Option (List ℕ) → Option (List ℕ) → Type 0 → Status → Type 0
MeaningOf means known old new failed ended = (input : List ℕ) × IfSome known (λ bytes. input ≡ bytes) × RunMeans means input old new failed ended

module _ (may means : List ℕ → Reply → Type 0) (given : HaveMeaning may means) (known : Option (List ℕ)) (reads writes : Type 0) (old new : Option (List ℕ))
    (ended : Status) where
  -- a run that sent a reply means what the reply means
  sent_means : (input : List ℕ) (reply : Reply) → means input reply → Sends reply old new writes ended → RunMeans means input old new (reads ⊎ writes) ended
  sent_means input reply is (inl whole) = inl (reply, is, whole.0, whole.1)
  sent_means input reply is (inr front) = inr (front.3, inr front.4)

  -- a run that sent a fault because the reader failed
  failed_means : (input : List ℕ) (number : ℕ) → reads → Sends (fault_reply number) old new writes ended →
      RunMeans means input old new (reads ⊎ writes) ended
  failed_means input number failed (inl whole) = inr (whole.1, inl failed)
  failed_means input number failed (inr front) = inr (front.3, inr front.4)

  read_means : (read : Result (List ℕ) TextCause) (reply : Reply) → IsRead known reads read → AnswersRead may read reply → Sends reply old new writes ended →
      MeaningOf means known old new (reads ⊎ writes) ended
  read_means (Ok input) reply gave answers sent = (input, gave, sent_means input reply (given.answers input reply answers) sent)
  read_means (Err cause) reply (inl long) answers sent =
      let input = known_or known (zeros 8388609) in
      let is : reply ≡ refusal_reply (record { line = 0; number = too_long }) = answers ∙ rw long.0 refl in
      let stated = subst (means input) (sym is) (given.long input (long_known known long.1)) in
      (input, known_is known (zeros 8388609), sent_means input reply stated sent)
  read_means (Err cause) reply (inr (inl failed)) answers sent =
      let is : reply ≡ fault_reply 9 = answers ∙ rw failed.0 refl in
      let S : Reply → Type 0 = λ r. Sends r old new writes ended in
      (known_or known [], known_is known [], failed_means (known_or known []) 9 failed.1 (subst S is sent))
  read_means (Err cause) reply (inr (inr memory)) answers sent =
      let input = known_or known [] in
      let is : reply ≡ fault_reply no_memory = answers ∙ rw memory refl in
      (input, known_is known [], sent_means input reply (subst (means input) (sym is) (given.memory input)) sent)

  -- a run means what `RunMeans` states, whether or not the bytes of its device are known
  pub run_means : Delivers may known reads old new writes ended → MeaningOf means known old new (reads ⊎ writes) ended
  run_means d = read_means d.read d.reply d.gave d.answers d.sent
