use Rattle.std.proofs.Common.{◌≡◌, decimal, sym, ap, subst, ◌∙◌, arith, inl, inr}
use Rattle.std.specs.Str.{IsUtf8}
use Rattle.std.proofs.lemmas.Bool.{cases_Bool}
use Rattle.std.proofs.lemmas.Fmt.{IsAscii-decimal, parse-decimal}
use Rattle.std.proofs.lemmas.Str.{IsUtf8-from_ascii}
use Rattle.std.proofs.lemmas.Slice.Eq.{bytes_eq-Decides}
use Rattle.crib_text.proofs.NumberLemmas.{number_read-none, number_read-decimal}
use Rattle.crib_text.proofs.text.number.read_number.Goals as goal

pub returns-in_default : goal.returns-in_default
returns-in_default c = sym (number_read-none c.args.word.now
    (λ n small e. c.in_default.ensures.cases.0 (subst IsUtf8 (sym e) (IsUtf8-from_ascii (decimal n) (IsAscii-decimal n (omega arith))))))

pub returns-in_default-parse : goal.returns-in_default-parse
returns-in_default-parse c = sym (number_read-none c.args.word.now (λ n small e.
    c.in_default-parse.not-Ok n (parse-decimal 32 n c.in-Ok.text.now c.parse.result small (omega arith) (c.in-Ok.ensures.cases.0 ∙ e) c.parse.ensures.value.0)))

pub returns : goal.returns
returns c =
    let word = c.args.word.now in
    let number = c.in-Ok-parse.number in
    let shown = c.as_bytes.ensures.value ∙ c.format.ensures.text in
    elim (cases_Bool c.eq.result) [
      | inl same ↦
          let e : word ≡ decimal number = sym ((bytes_eq-Decides c.as_bytes.result.now word).0 (sym c.eq.ensures ∙ same)) ∙ shown in
          rw (c.then_some.ensures, same, e) (sym (number_read-decimal number (omega arith)))
      | inr other ↦ rw (c.then_some.ensures, other) (sym (number_read-none word (λ n small e.
          let parsed = parse-decimal 32 n c.in-Ok.text.now c.parse.result small (omega arith) (c.in-Ok.ensures.cases.0 ∙ e) c.parse.ensures.value.0 in
          let is : number ≡ n = cc (parsed, c.in-Ok-parse.is) in
          let equal = c.eq.ensures ∙ (bytes_eq-Decides c.as_bytes.result.now word).1 (shown ∙ ap decimal is ∙ sym e) in
          absurd (cc (equal, other)))))
    ]
