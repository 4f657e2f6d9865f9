-- The command line of a program, as clap's definitions describe it.
use Rattle.std.specs.Prelude.{Some, true, codes}
use Rattle.clap.specs.Simple.{filled, help_rule}
use Rattle.clap.specs.Walk.{Rule, Text}
use Rattle.clap.specs.Words.{App, new_app, new_rule, with_rule}
use Rattle.clap.specs.declared.builder.action.ArgAction.TheVariants.{Set}
use Rattle.clap.specs.declared.builder.value_parser.ValueParser.{ValueParser}

-- one required argument `command` and no other
abbrev pub command_app : Text → ValueParser → App
command_app program parser = with_rule (new_app program) (record (new_rule (codes "command")) {
  action = Some Set;
  parser = Some parser;
  required = true;
})

-- the help option, as clap completes it when it builds the command
abbrev pub help_flag : Rule
help_flag = filled help_rule
