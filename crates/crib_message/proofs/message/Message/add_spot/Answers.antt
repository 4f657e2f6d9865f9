use Rattle.std.proofs.Common.{◌≡◌, ℕ, List, ◌++◌, codes, decimal, sym, ap, ◌∙◌, inl, inr}
use Rattle.crib_message.specs.declared.message.Message.{Message}
use Rattle.crib_message.specs.Message.{spot_words, section_words}
use Rattle.crib_message.proofs.MessageLemmas.{four_added, nothing_added}
use Rattle.crib_message.proofs.message.Message.add_spot.Goals.{in-Plan, in-Game, in-Turns, in-Problem}
use Rattle.crib_message.proofs.message.Message.add_spot.Goals as goal

pub returns-clause-items : goal.returns-clause-items
returns-clause-items c =
    let before = c.add_number.new.self.text.items in
    let items : Message → List ℕ = λ message. message.text.items in
    let words = section_words c.args.spot.number in
    let placed : c.match-spot.self.text.items ≡ before ++ spot_words c.args.spot =
    elim c.match-spot.branch [
      | in-Plan w ↦
          ap items w.self-is ∙ w.add_line_of.ensures.items ∙ ap (λ s. before ++ words s) (sym w.in-Plan.is)
      | in-Game w ↦
          ap items w.self-is ∙ w.add_line_of-in-Game.ensures.items ∙ ap (λ s. before ++ words s) (sym w.in-Game.is)
      | in-Turns w ↦
          ap items w.self-is ∙ w.add_line_of-in-Turns.ensures.items ∙ ap (λ s. before ++ words s) (sym w.in-Turns.is)
      | in-Problem w ↦
          ap items w.self-is ∙ nothing_added before
          ∙ elim w.in-Problem.is [
            | inl e ↦ ap (λ s. before ++ words s) (sym e)
            | inr e ↦ ap (λ s. before ++ words s) (sym e)
          ]
    ] in
    four_added c.args.self.now.text.items c.add.new.self.text.items before c.match-spot.self.text.items (codes "line ")
    (decimal c.args.line) (spot_words c.args.spot) (codes ": ") c.add-2.new.self.text.items c.add.ensures.items
    c.add_number.ensures.items placed c.add-2.ensures.items
