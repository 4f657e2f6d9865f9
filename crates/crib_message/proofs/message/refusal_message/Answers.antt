use Rattle.std.proofs.Common.{◌≡◌, ◌∙◌, ◌++◌, ◌∷◌, ℕ, List, [], refl, sym, ap, Bor}
use Rattle.std.specs.Prelude.{option_map}
use Rattle.std.specs.List.{filter}
use Rattle.std.proofs.lemmas.List.Elements.{filter_passes}
use Rattle.crib_text.specs.Spelling.{line_feed}
use Rattle.crib_input.specs.Refusals.{refusal_of}
use Rattle.crib_message.specs.Message.{heading, is_plain}
use Rattle.crib_message.proofs.MessageLemmas.{said, said_alone, shows_line, shows_none, still_worded}
use Rattle.crib_message.proofs.message.refusal_message.Goals as goal

pub returns-in-Some : goal.returns-in-Some
returns-in-Some c =
    let start = c.headed-message.result.text.items in
    let sentence = filter is_plain c.worded.result.now in
    let excerpt = c.excerpt_of.result.items in
    let first = c.add_sentence.new.self.text.items in
    let second = c.add.new.self.text.items in
    let third : c.add-in-Some.new.self.text.items ≡ second ++ excerpt =
    c.add-in-Some.ensures.items ∙ ap (λ (xs : List ℕ). second ++ xs) c.as_slice.ensures.value in
    let head = c.headed-message.ensures.items ∙ ap (heading c.args.program.now c.args.refusal.now.line) c.new-scene.ensures.spot in
    record {
      sentence = sentence;
      excerpt = excerpt;
      is = said start first second c.add-in-Some.new.self.text.items sentence excerpt c.add_sentence.ensures.items
          c.add.ensures.items third
          ∙ ap (λ (xs : List ℕ). xs ++ (sentence ++ line_feed ∷ excerpt)) head;
      plain = filter_passes is_plain c.worded.result.now;
      worded = still_worded c.worded.result.now c.worded.ensures.word;
      shows = shows_line c.args.input.now c.in-Some.line.now excerpt (refusal_of c.args.refusal.now)
          (sym c.new-scene.ensures.line ∙ ap (option_map (λ (b : Bor (List ℕ)). b.now)) c.in-Some.is) c.excerpt_of.ensures;
    }

pub returns-in_default : goal.returns-in_default
returns-in_default c =
    let start = c.headed-message.result.text.items in
    let sentence = filter is_plain c.worded.result.now in
    let first = c.add_sentence.new.self.text.items in
    let head = c.headed-message.ensures.items ∙ ap (heading c.args.program.now c.args.refusal.now.line) c.new-scene.ensures.spot in
    record {
      sentence = sentence;
      excerpt = [];
      is = said_alone start first c.add.new.self.text.items sentence c.add_sentence.ensures.items c.add.ensures.items
          ∙ ap (λ (xs : List ℕ). xs ++ (sentence ++ line_feed ∷ [])) head;
      plain = filter_passes is_plain c.worded.result.now;
      worded = still_worded c.worded.result.now c.worded.ensures.word;
      shows = shows_none c.args.input.now [] (refusal_of c.args.refusal.now)
          (sym c.new-scene.ensures.line ∙ ap (option_map (λ (b : Bor (List ℕ)). b.now)) c.in_default.is) refl;
    }
