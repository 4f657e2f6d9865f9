use Rattle.std.proofs.Common.{rules, ◌≡◌, ◌⊎◌, ◌∙◌, ◌++◌, ℕ, List, [], refl, sym, ap, inl, subst}
use Rattle.crib_input.specs.Refusals.{refusal_of}
use Rattle.crib_message.specs.Message.{IsMark}
use Rattle.crib_message.proofs.MessageLemmas.{nothing_added}
use Rattle.crib_message.proofs.excerpt.excerpt_of.Goals as goal

pub returns-in-Some : goal.returns-in-Some
returns-in-Some c =
    let window = c.cut-window.result in
    let added = c.add_mark.ensures in
    record {
      before = window.before.now;
      shown = window.shown.now;
      after = window.after.now;
      mark = added.0;
      cut = c.cut-window.ensures.cut;
      wide = search rules;
      is = added.2 ∙ ap (λ (xs : List ℕ). xs ++ added.0) c.shown-excerpt.ensures.items;
      marks = subst (λ (line : List ℕ). (added.0 ≡ []) ⊎ IsMark (refusal_of c.args.refusal.now) line window.before.now window.shown.now added.0)
          (sym c.cut-meant.ensures.cut) added.1;
    }

pub returns-in_default : goal.returns-in_default
returns-in_default c =
    let window = c.cut-window.result in
    record {
      before = window.before.now;
      shown = window.shown.now;
      after = window.after.now;
      mark = [];
      cut = c.cut-window.ensures.cut;
      wide = search rules;
      is = c.shown-excerpt.ensures.items ∙ nothing_added _;
      marks = inl refl;
    }
