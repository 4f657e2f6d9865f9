-- What clap's result says of the command that the words name.
use Rattle.std.specs.Prelude.{IsOk, IsSome}
use Rattle.std.specs.List.{list_any}
use Rattle.std.proofs.Common.{Option, None, ◌≡◌, ◌∙◌, ◌⊎◌, List, [], true, false, Some}
use Rattle.std.proofs.Common.{Result, IfOk, IfErr, IsErrAnd, Ok, Err, MatchResult}
use Rattle.std.proofs.Common.{refl, sym, subst, ap, inl, inr, codes}
use Rattle.std.specs.Borrow.{Bor}
use Rattle.clap.specs.Values.{kind_of}
use Rattle.clap.specs.Words.{App, FailsBy, HasMatchesOf, Text, ReadsOne, fault_of, found_of, is_simple_and_free, matches_of, one_of, rows_of}
use Rattle.clap.specs.declared.error.Error.{Error}
use Rattle.clap.specs.declared.error.kind.ErrorKind.{ErrorKind}
use Rattle.clap.specs.declared.error.kind.ErrorKind.TheVariants.{MissingRequiredArgument, OutOfMemory}
use Rattle.clap.specs.declared.parser.matches.ArgMatches.{ArgMatches}
use Rattle.clap.proofs.WalkLemmas.{one_text-rows}
use Rattle.clap.specs.declared.builder.possible_value.PossibleValue.{PossibleValue}
use Rattle.clap.specs.declared.builder.value_parser.ValueParser.{ValueParser}
use Rattle.clap.specs.declared.builder.value_parser.ValueParser.TheVariants.{Values}
use Rattle.crib_command.specs.Command.{AreReadable, IsCommandWords, has_hyphen, is_command, refusal_from, words_refusal, without_mark}
use Rattle.crib_command.specs.Private.Command.{AreValuesOf, HasCommand, IsRefusedFor}
use Rattle.crib_command.proofs.ClapApp.{command_app}
use Rattle.crib_command.proofs.WordLemmas.{fault_is, found_word, command_words_taken, kinds_of}

-- the name of a command is read as one
pub some_command : {C E : Type 0} (gives : Text → Result C E → Type 0) (names : List Text) (name : Text) (o : Option C) → AreReadable gives names
    → is_command names name ≡ true → ReadsOne gives name o → IsSome o
some_command gives names name (Some command) readable named read = refl
some_command {C} {E} gives names name None readable named read =
    let ok : IsOk {T = C} {E = E} (Err read.0) = readable.read name (Err read.0) named read.1 in cc

-- words that are refused name no command
pub not_taken : (names words : List Text) (error : Error) → list_any has_hyphen names ≡ false
    → (kind_of error ≡ OutOfMemory) ⊎ (words_refusal names words ≡ Some (kind_of error))
    → (name : Text) → IsCommandWords names words name → kind_of error ≡ OutOfMemory
not_taken names words error bare (inl memory) name named = memory
not_taken names words error bare (inr refused) name named = let none = command_words_taken names words name bare named in cc

pub none_taken : {C : Type 0} (names words : List Text) (r : Result C Error) (error : Error) → list_any has_hyphen names ≡ false → IsErrAnd r (λ e. e ≡ error)
    → (kind_of error ≡ OutOfMemory) ⊎ (words_refusal names words ≡ Some (kind_of error))
    → IfErr r (λ e. (name : Text) → IsCommandWords names words name → kind_of e ≡ OutOfMemory)
none_taken names words (Ok command) error bare is refused = absurd is
none_taken names words (Err e) error bare is refused =
    subst (λ (x : Error). (name : Text) → IsCommandWords names words name → kind_of x ≡ OutOfMemory) (sym is) (not_taken names words error bare refused)

-- without words the name of the command is missing
pub none_missing : {C : Type 0} (is : Text → C → Type 0) (names : List Text) (r : Result C Error)
    → IfOk r (λ command. (name : Text) × IsCommandWords names [] name × is name command)
    → IfErr r (λ error. (kind_of error ≡ OutOfMemory) ⊎ (words_refusal names [] ≡ Some (kind_of error)))
    → IsErrAnd r (λ error. (kind_of error ≡ OutOfMemory) ⊎ (kind_of error ≡ MissingRequiredArgument))
unfolding refusal_from without_mark
none_missing is names (Ok command) named refused = let only = named.1.only in cc
none_missing is names (Err error) named (inl memory) = inl memory
none_missing is names (Err error) named (inr missing) = inr cc

-- the kind of clap's error is that of the refusal, and words for which clap gives matches are not refused
refused_by : {T : Type 0} (names words : List Text) (r : Result T Error) → FailsBy (kinds_of (words_refusal names words)) r → IsRefusedFor names words r
refused_by {T} names words r fails = go r (words_refusal names words) fails
  where
    go : (x : Result T Error) (o : Option ErrorKind) → FailsBy (kinds_of o) x
        → MatchResult x (λ _. o ≡ None) (λ error. (kind_of error ≡ OutOfMemory) ⊎ (o ≡ Some (kind_of error)))
    go (Ok m) None none = refl
    go (Ok m) (Some kind) none = cc
    go (Err error) o (inl memory) = inl memory
    go (Err error) None (inr none) = absurd none
    go (Err error) (Some kind) (inr (inl is)) = inr (ap Some (sym is))
    go (Err error) (Some kind) (inr (inr none)) = absurd none

-- the command line is the program's, and its values are the names of its commands
pub record IsProgram (program : Text) (names : List Text) (app : App) : Type 0 where
  pub parser : ValueParser
  pub values : Bor (List PossibleValue)
  pub app_is : app ≡ command_app program parser
  pub parser_is : parser ≡ Values values
  pub listed : AreValuesOf names values.now

pub refused_for : {T : Type 0} (program : Text) (names words : List Text) (r : Result T Error) (app : App) → IsProgram program names app
    → (is_simple_and_free app ≡ true → FailsBy (fault_of app words) r) → IsRefusedFor names words r
refused_for program names words r app is kinds =
    let same : app ≡ command_app program (Values is.values) = is.app_is ∙ ap (command_app program) is.parser_is in
    let fails : FailsBy (fault_of (command_app program (Values is.values)) words) r =
    subst (λ a. is_simple_and_free a ≡ true → FailsBy (fault_of a words) r) same kinds refl in
    refused_by names words r (subst (λ k. FailsBy k r) (fault_is program names is.values is.listed words) fails)

has_command : (program : Text) (names words : List Text) (m : ArgMatches) (values : Bor (List PossibleValue)) → AreValuesOf names values.now
    → rows_of (found_of m) ≡ matches_of (command_app program (Values values)) words → words_refusal names words ≡ None
    → HasCommand names words (found_of m)
has_command program names words m values listed rows none =
    let found = found_word program names values listed words none in
    record {
      name = found.0;
      named = record { listed = found.2; only = found.1 };
      read = one_text-rows (found_of m) (codes "command") ∙ ap (one_of (codes "command")) rows ∙ found.3;
    }

pub found_command : (program : Text) (names words : List Text) (r : Result ArgMatches Error) (app : App) → IsProgram program names app
    → (is_simple_and_free app ≡ true → FailsBy (fault_of app words) r) → IfOk r (HasMatchesOf app words)
    → IfOk r (λ m. HasCommand names words (found_of m))
found_command program names words (Err error) app is kinds matches = tt
found_command program names words (Ok m) app is kinds matches =
    let same : app ≡ command_app program (Values is.values) = is.app_is ∙ ap (command_app program) is.parser_is in
    has_command program names words m is.values is.listed (subst (λ a. HasMatchesOf a words m) same matches refl).0
    (refused_for {T = ArgMatches} program names words (Ok m) app is kinds)
