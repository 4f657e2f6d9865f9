-- The text that the code puts together is the line that the definition states.
use Rattle.std.proofs.Common.{◌≡◌, ℕ, List, [], ◌++◌, ap, codes, decimal, refl, append_assoc}
use Rattle.crib_run.specs.Reply.{fault_line, fault_reply, refusal_reply}
use Rattle.crib_run.specs.declared.status.Status.TheVariants.{Fault, Refused}

-- ---- a fault
pub fault_made : (start first second last : List ℕ) (written number : ℕ) → start ≡ [] → first ≡ start ++ codes "fault "
    → second ≡ first ++ decimal written → written ≡ number → last ≡ second ++ codes "\n"
    → record { output = last; status = Fault } ≡ fault_reply number
fault_made start first second last written number none one two same end =
    let whole : (([] ++ codes "fault ") ++ decimal number) ++ codes "\n" ≡ fault_line number = refl in
    ap (λ (text : List ℕ). record { output = text; status = Fault }) cc

-- ---- a refusal
refusal_text : (line number : ℕ)
    → (((([] ++ codes "refused line ") ++ decimal line) ++ codes ": ") ++ decimal number) ++ codes "\n"
    ≡ (refusal_reply (record { line = line; number = number })).output
refusal_text line number = simp append_assoc

-- the same, one call after the other
pub refusal_made : (start first second third fourth last : List ℕ) (line written number : ℕ) → start ≡ [] → first ≡ start ++ codes "refused line "
    → second ≡ first ++ decimal line → third ≡ second ++ codes ": " → fourth ≡ third ++ decimal written → written ≡ number
    → last ≡ fourth ++ codes "\n" → record { output = last; status = Refused } ≡ refusal_reply (record { line = line; number = number })
refusal_made start first second third fourth last line written number none one two three four same end =
    let whole = refusal_text line number in
    ap (λ (text : List ℕ). record { output = text; status = Refused }) cc
