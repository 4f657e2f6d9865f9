-- Which values the command-line parser accepts, and what it found in the words.
use Rattle.std.specs.Prelude.{◌≡◌, not, Bool, List, Some, None, Result, codes, false, MatchResult, ◌⊎◌}
use Rattle.std.specs.List.{list_any}
use Rattle.std.specs.Option.{option_map_or}
use Rattle.std.specs.Str.{bytes_eq}
use Rattle.clap.specs.Lexer.{long_of}
use Rattle.clap.specs.Values.{kind_of, possible_matches}
use Rattle.clap.specs.Words.{Text, one_text}
use Rattle.clap.specs.declared.builder.possible_value.PossibleValue.{PossibleValue}
use Rattle.clap.specs.declared.error.Error.{Error}
use Rattle.clap.specs.declared.error.kind.ErrorKind.TheVariants.{OutOfMemory}
use Rattle.clap.specs.declared.parser.matches.Found.{Found}
use Rattle.crib_command.specs.Command.{IsCommandWords, is_command, words_refusal}

-- the parser accepts a word as one of the values exactly if it is the name of a command
abbrev pub AreValuesOf : List Text → List PossibleValue → Type 0
AreValuesOf names values = (word : Text) → list_any (possible_matches false word) values ≡ is_command names word

-- the words name a command, and the parser found its name as the value of `command`
pub record HasCommand (names words : List Text) (found : Found) : Type 0 where
  pub name : Text
  pub named : IsCommandWords names words name
  pub read : one_text found (codes "command") ≡ Some name

-- if a result is an error, the words are refused with the same kind, or an allocation failed. If it is not an error,
-- the words are not refused
abbrev pub IsRefusedFor : {T : Type 0} → List Text → List Text → Result T Error → Type 0
IsRefusedFor names words r = MatchResult r (λ _. words_refusal names words ≡ None)
    (λ error. (kind_of error ≡ OutOfMemory) ⊎ (words_refusal names words ≡ Some (kind_of error)))

-- whether a word is an option with two hyphens and with another name than `help`
abbrev pub is_unknown_option : Text → Bool
is_unknown_option word = option_map_or (λ option. not (bytes_eq (codes "help") option.0)) (long_of word) false
