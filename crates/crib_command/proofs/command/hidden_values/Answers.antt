use Rattle.crib_command.proofs.ValueLemmas.{none_joined}
use Rattle.crib_command.proofs.command.hidden_values.Goals as goal

pub loop-name-init : goal.loop-name-init
loop-name-init c = λ word. rw c.new-values.ensures.items (none_joined c.args.program.now.commands.now word)
