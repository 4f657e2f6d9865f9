-- Commands that are read by their names, as the words of a command line.
use Rattle.std.specs.Prelude.{find, ok_or, IsOk}
use Rattle.std.specs.List.{list_any}
use Rattle.std.specs.Str.{bytes_eq}
use Rattle.std.proofs.Common.{◌≡◌, ◌⊎◌, List, [], ◌∷◌, true, false, Some, map, is_some}
use Rattle.std.proofs.Common.{Result, IfOk, IfErr, Ok, Err, sym, subst, arith}
use Rattle.std.proofs.lemmas.Slice.Eq.{bytes_eq-Decides}
use Rattle.clap.specs.Values.{kind_of}
use Rattle.clap.specs.Walk.{Text}
use Rattle.clap.specs.declared.error.Error.{Error}
use Rattle.clap.specs.declared.error.kind.ErrorKind.TheVariants.{OutOfMemory}
use Rattle.crib_command.specs.Command.{AreReadable, IsCommandWords, IsOnlyWord, has_hyphen, is_command, words_refusal}

module _ {C E : Type 0} (name_of : C → Text) (commands : List C) (unknown : E) where
  -- the command with a name, or an error if no command has it
  abbrev called : Text → Result C E
  called text = ok_or (find (λ command. bytes_eq text (name_of command)) commands) unknown

  abbrev names : List Text
  names = map name_of commands

  -- a command that is found by a text has this text as its name
  found_named : (text : Text) (some : List C) (command : C) → find (λ c. bytes_eq text (name_of c)) some ≡ Some command → text ≡ name_of command
  found_named text [] command found = cc
  found_named text (c ∷ some) command found = grind (arith, found, (bytes_eq-Decides text (name_of c)).0, found_named text some command)

  -- a text that is read as a command is the name of this command
  pub called_named : (text : Text) (command : C) → Ok command ≡ called text → text ≡ name_of command
  called_named text command is = found_named text commands command (grind (arith, is))

  -- the name of a command is read as a command
  named_found : (name : Text) (some : List C) → is_command (map name_of some) name ≡ true → is_some (find (λ c. bytes_eq name (name_of c)) some) ≡ true
  named_found name [] named = cc
  named_found name (c ∷ some) named =
      let turned : bytes_eq (name_of c) name ≡ true → bytes_eq name (name_of c) ≡ true =
      λ same. (bytes_eq-Decides name (name_of c)).1 (sym ((bytes_eq-Decides (name_of c) name).0 same)) in
      grind (arith, named, turned, named_found name some)

  read : (name : Text) (r : Result C E) → is_command names name ≡ true → r ≡ called name → IsOk r
  read name r named is = (let found = named_found name commands named in rw is (grind (arith, found)))

  -- the names that a program has are those of its commands, without a hyphen in front
  pub are_readable : (own : List Text) → own ≡ names → list_any has_hyphen names ≡ false → AreReadable {T = C} {E = E} (λ text r. r ≡ called text) own
  are_readable own is bare = rw is (record { plain = bare; read = read })

  -- an answer that names a command prints the same of its commands: the words are its name alone, and the refusal of words is that by the names of the commands
  pub in_commands : ((command : C) → is_command names (name_of command) ≡ true) → (own words : List Text) → own ≡ names → (r : Result C Error)
      → IfOk r (λ command. (name : Text) × IsCommandWords own words name × (Ok command ≡ called name))
      → IfErr r (λ error. (name : Text) → IsCommandWords own words name → kind_of error ≡ OutOfMemory)
      → IfErr r (λ error. (kind_of error ≡ OutOfMemory) ⊎ (words_refusal own words ≡ Some (kind_of error)))
      → IfOk r (λ command. IsOnlyWord words (name_of command))
      × IfErr r (λ error. (command : C) → IsOnlyWord words (name_of command) → kind_of error ≡ OutOfMemory)
      × IfErr r (λ error. (kind_of error ≡ OutOfMemory) ⊎ (words_refusal names words ≡ Some (kind_of error)))
  in_commands listed own words same (Ok command) named taken refused =
      (subst (IsOnlyWord words) (called_named named.0 command named.2) named.1.only, tt, tt)
  in_commands listed own words same (Err error) named taken refused = (
    tt,
    λ command is. taken (name_of command) (record { listed = rw same (listed command); only = is }),
    subst (λ (n : List Text). (kind_of error ≡ OutOfMemory) ⊎ (words_refusal n words ≡ Some (kind_of error))) same refused,
  )
