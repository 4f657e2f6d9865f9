use Rattle.std.proofs.Common.{◌∙◌, ◌≡◌, rules, ap₂}
use Rattle.clap.specs.Words.{app_of, new_app, with_rule}
use Rattle.crib_command.specs.Command.{commands_of}
use Rattle.crib_command.proofs.CommandLemmas.{IsProgram, found_command, refused_for}
use Rattle.crib_command.proofs.command.matches_of_words.Goals as goal
use Rattle.crib_command.proofs.command.matches_of_words.Given.{Over}
use Rattle.crib_command.proofs.command.matches_of_words.Goals.{After-try_get_matches_from}

-- the command line that clap reads is the program's
is_program : (g : Over) (c : After-try_get_matches_from g) →
    IsProgram c.args.program.now.name.now (commands_of c.args.program.now) (app_of c.in_ok-command.command)
is_program g c =
    let program = c.args.program.now in
    let given = c.value_parser.ensures.given in
    let usage : app_of c.override_usage.result ≡ new_app program.name.now = rw c.override_usage.ensures c.new-2.ensures.app in
    let app : app_of c.after_help.result ≡ new_app program.name.now = rw c.after_help.ensures usage in
    record {
      parser = given.0;
      values = c.args.values;
      app_is = c.in_ok-command.ensures.shape (search rules) ∙ ap₂ with_rule app (search rules);
      parser_is = given.2;
      listed = c.requires;
    }

pub returns-clause-found : goal.returns-clause-found
returns-clause-found g c =
    let is = is_program g (goal.at.returns-clause-found g c).After-try_get_matches_from in
    found_command _ _ _ c.try_get_matches_from.result (app_of c.in_ok-command.command) is c.try_get_matches_from.ensures.kinds
    c.try_get_matches_from.ensures.matches

pub returns-clause-refused : goal.returns-clause-refused
returns-clause-refused g c =
    let is = is_program g (goal.at.returns-clause-refused g c).After-try_get_matches_from in
    refused_for _ _ _ c.try_get_matches_from.result (app_of c.in_ok-command.command) is c.try_get_matches_from.ensures.kinds
