use Rattle.std.proofs.Common.{rules, inl, inr, subst, ◌≡◌, true}
use Rattle.clap.specs.Walk.{Text}
use Rattle.crib_command.specs.Private.Command.{is_unknown_option}
use Rattle.crib_command.proofs.OptionLemmas.{first_text, later_unknown, unknown_is_refused}
use Rattle.crib_command.proofs.command.+first_unknown.Goals as goal

pub returns-in-text : goal.returns-in-text
returns-in-text g t c = later_unknown (first_text g.S.AsStr.text c.args.typed.now c.first-item.result (search rules) c.first-item.is)
    (inl (search rules)) c.first_unknown.result c.first_unknown.ensures

pub returns-in_default-word : goal.returns-in_default-word
returns-in_default-word g t c = λ names name.
    let text = g.S.AsStr.text c.first-item.result in
    let all = first_text g.S.AsStr.text c.args.typed.now c.first-item.result (search rules) c.first-item.is in
    rw all (unknown_is_refused names name text _ (subst (λ (w : Text). is_unknown_option w ≡ true) c.as_str-word.ensures (search rules)))

pub returns-in_default-3 : goal.returns-in_default-3
returns-in_default-3 g t c = later_unknown (first_text g.S.AsStr.text c.args.typed.now c.first-item.result (search rules) c.first-item.is)
    (inr (search rules)) c.first_unknown-in_default-3.result c.first_unknown-in_default-3.ensures
