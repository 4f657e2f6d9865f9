use Rattle.std.proofs.Common.{◌∙◌, ◌++◌, ◌∷◌, [], codes, append_assoc}
use Rattle.crib_text.specs.Spelling.{line_feed}
use Rattle.crib_input.specs.Refusals.{fault_words}
use Rattle.crib_message.proofs.MessageLemmas.{said_alone}
use Rattle.crib_message.proofs.message.fault_message.Goals as goal

pub returns : goal.returns
returns c =
    let words = fault_words c.args.cause in
    let said = rw (c.as_bytes.ensures.value, c.words.ensures.text) at c.add.ensures.items in
    said_alone c.of_program-message.result.text.items c.add.new.self.text.items c.add-2.new.self.text.items words said c.add-2.ensures.items
    ∙ rw c.of_program-message.ensures (append_assoc c.args.program.now (codes ": ") (words ++ line_feed ∷ []))
