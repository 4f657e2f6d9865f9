use Rattle.std.proofs.Common.{rules}
use Rattle.crib_command.proofs.OptionLemmas.{unknown_if}
use Rattle.crib_command.proofs.command.is_unknown_option.Goals as goal

pub returns-in_default-2 : goal.returns-in_default-2
returns-in_default-2 c hyphens =
    unknown_if c.args.word.now (search rules) (search rules) (search rules) (search (rules, hyphens))
