use Rattle.std.proofs.Common.{map, inr, rules}
use Rattle.crib_command.specs.Command.{commands_of}
use Rattle.crib_command.proofs.CommandLemmas.{none_taken, not_taken, some_command}
use Rattle.crib_command.proofs.command.command_of.Goals as goal

pub unwrap-requires : goal.unwrap-requires
unwrap-requires g c =
    let has = c.in_ok-matches.ensures.found in
    some_command _ (commands_of c.args.program.now) has.name c.get_one.result c.requires has.named.listed (c.get_one.ensures.value has.name has.read)

pub returns-clause-named : goal.returns-clause-named
returns-clause-named g c =
    let has = c.in_ok-matches.ensures.found in
    let read = c.get_one.ensures.value has.name has.read in
    (has.name, has.named, rw c.unwrap.ensures at read)

pub returns-in_err-matches-clause-taken : goal.returns-in_err-matches-clause-taken
returns-in_err-matches-clause-taken g c =
    let failed = c.from_residual-in_err-matches in
    none_taken (commands_of c.args.program.now) (map g.S.AsStr.text c.args.words.now) failed.result c.in_err-matches.field-0.0 c.requires.plain
    failed.ensures.1 c.in_err-matches.ensures.refused

pub returns-in-Some-clause-taken : goal.returns-in-Some-clause-taken
returns-in-Some-clause-taken g c =
    not_taken (commands_of c.args.program.now) (map g.S.AsStr.text c.args.words.now) c.in_ok-refused_option.field-0 c.requires.plain
    (inr (search rules))
