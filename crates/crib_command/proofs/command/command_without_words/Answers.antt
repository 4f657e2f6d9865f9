use Rattle.crib_command.specs.Command.{commands_of}
use Rattle.crib_command.proofs.CommandLemmas.{none_missing}
use Rattle.crib_command.proofs.command.command_without_words.Goals as goal

pub returns-clause-missing : goal.returns-clause-missing
returns-clause-missing g c = none_missing _ (commands_of c.args.program.now) c.command_of.result c.command_of.ensures.named c.command_of.ensures.refused
