-- The words of a command line: the command that they name, or their refusal. `names` are those of the commands.
use Rattle.std.specs.Prelude.{◌≡◌, ◌==◌, not, ℕ, Bool, true, false, List, [], ◌∷◌, Option, Some, None, Result}
use Rattle.std.specs.Prelude.{codes, drop, is_some, map, option_and_then, slice_get, if◌then◌else◌, IsOk}
use Rattle.std.specs.List.{list_any}
use Rattle.std.specs.Option.{option_map_or}
use Rattle.std.specs.Str.{bytes_eq, chars}
use Rattle.clap.specs.Lexer.{long_of, short_of, strip_byte}
use Rattle.clap.specs.Walk.{Text}
use Rattle.clap.specs.declared.error.kind.ErrorKind.{ErrorKind}
use Rattle.clap.specs.declared.error.kind.ErrorKind.TheVariants.{DisplayHelp, InvalidValue, MissingRequiredArgument}
use Rattle.clap.specs.declared.error.kind.ErrorKind.TheVariants.{TooManyValues, UnknownArgument}
use Rattle.crib_command.specs.declared.program.Program.{Program}

-- the names of a program's commands
abbrev pub commands_of : Program → List Text
commands_of program = map (λ name. name.now) program.commands.now

-- whether a word is the name of a command
abbrev pub is_command : List Text → Text → Bool
is_command names word = list_any (λ name. bytes_eq name word) names

-- whether a word is `--`. No word after it is an option
abbrev pub is_mark : Text → Bool
is_mark word = bytes_eq word (codes "--")

-- the words without the first `--`
unfoldable pub without_mark : List Text → List Text
without_mark [] = []
without_mark (word ∷ rest) = if is_mark word then rest else word ∷ without_mark rest

-- after the name of the program is this word and no other, except that one `--` may come before or after it
abbrev pub IsOnlyWord : List Text → Text → Type 0
IsOnlyWord words name = without_mark (drop 1 words) ≡ name ∷ []

-- some words name a command: after the name of the program is the name of the command and no other word, except that
-- one `--` may come before or after it
pub record IsCommandWords (names words : List Text) (name : Text) : Type 0 where
  pub listed : is_command names name ≡ true
  pub only : IsOnlyWord words name

-- ---- the names of commands

-- whether a word begins with a hyphen
abbrev pub has_hyphen : Text → Bool
has_hyphen word = is_some (strip_byte 45 word)

-- names are good names of commands: none begins with a hyphen, and each of them is read as a command. `gives` relates a
-- text to what it may be read as
pub record AreReadable {T E : Type 0} (gives : Text → Result T E → Type 0) (names : List Text) : Type 0 where
  pub plain : list_any has_hyphen names ≡ false
  pub read : (name : Text) (r : Result T E) → is_command names name ≡ true → gives name r → IsOk r

-- ---- the refusal of words that name no command

-- whether a word was read as the name of a command, but is not one
abbrev pub is_wrong : List Text → Option Text → Bool
is_wrong names name = option_map_or (λ word. not (is_command names word)) name false

-- the refusal if help is asked for: that of a wrong name if one was read before, and otherwise help
abbrev pub help_refusal : List Text → Option Text → ErrorKind
help_refusal names name = if is_wrong names name then InvalidValue else DisplayHelp

-- the refusal of a long option, by its name and its value: help for `--help`, one value too many for `--help` with a
-- value, and an unknown option for every other name
abbrev pub long_refusal : List Text → Option Text → Text × Option Text → ErrorKind
long_refusal names name option = if bytes_eq (codes "help") option.0
    then (if is_some option.1 then TooManyValues else help_refusal names name) else UnknownArgument

-- the refusal of an option with one hyphen, by its first letter: help for `h`, and an unknown option for every other
-- letter
abbrev pub short_refusal : List Text → Option Text → ℕ → ErrorKind
short_refusal names name letter = if 104 == letter then help_refusal names name else UnknownArgument

-- the refusal of a word if it is an option. `name` is the word before it that was read as the name of a command
abbrev pub option_refusal : List Text → Option Text → Text → Option ErrorKind
option_refusal names name word = option_map_or (λ option. Some (long_refusal names name option)) (long_of word)
    (option_map_or (λ letter. Some (short_refusal names name letter))
    (option_and_then (λ letters. slice_get (chars letters) 0) (short_of word)) None)

-- the refusal at the end of the words: no word was read as the name of a command, or the word that was read is not one
abbrev pub end_refusal : List Text → Option Text → Option ErrorKind
end_refusal names None = Some MissingRequiredArgument
end_refusal names (Some name) = if is_command names name then None else Some InvalidValue

-- the refusal at a word that is not an option. The first such word is read as the name of a command, and `rest` judges
-- the words after it. A second one is refused
abbrev pub plain_refusal : Option Text → Text → (Option Text → Option ErrorKind) → Option ErrorKind
plain_refusal None word rest = rest (Some word)
plain_refusal (Some name) word rest = Some UnknownArgument

-- the first of two refusals, if there is one
abbrev pub first_of : Option ErrorKind → Option ErrorKind → Option ErrorKind
first_of None next = next
first_of (Some kind) next = Some kind

-- the refusal at a word, or of the words after it, which `rest` judges. `ended` says that a `--` came before
abbrev pub word_refusal :
    List Text → Bool → Option Text → Text → (Bool → Option Text → Option ErrorKind) → Option ErrorKind
word_refusal names true name word rest = plain_refusal name word (rest true)
word_refusal names false name word rest = if is_mark word then rest true name
    else first_of (option_refusal names name word) (plain_refusal name word (rest false))

-- the first refusal of some words, from left to right
unfoldable pub refusal_from : List Text → List Text → Bool → Option Text → Option ErrorKind
refusal_from names [] ended name = end_refusal names name
refusal_from names (word ∷ words) ended name = word_refusal names ended name word (refusal_from names words)

-- the first refusal of the words of a command line, if there is one. The first word is the name of the program
abbrev pub words_refusal : List Text → List Text → Option ErrorKind
words_refusal names words = refusal_from names (drop 1 words) false None
