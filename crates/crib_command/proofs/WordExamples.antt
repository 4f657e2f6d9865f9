-- Worked examples of command lines: the command that the words name, and the refusals.
use Rattle.std.proofs.Common.{◌≡◌, ◌∙◌, ap, subst, sym, true, false, Bool, ℕ, List, [], ◌∷◌, map, Option, Some, None, Result, Ok, Err, codes, refl}
use Rattle.std.specs.Prelude.{IsOk, if◌then◌else◌}
use Rattle.std.proofs.lemmas.Bool.{both_ways}
use Rattle.std.specs.Borrow.{Bor}
use Rattle.std.specs.Str.{chars}
use Rattle.clap.specs.Walk.{Text}
use Rattle.clap.specs.declared.error.kind.ErrorKind.{ErrorKind}
use Rattle.clap.specs.declared.error.kind.ErrorKind.TheVariants.{DisplayHelp, InvalidValue, MissingRequiredArgument}
use Rattle.clap.specs.declared.error.kind.ErrorKind.TheVariants.{TooManyValues, UnknownArgument}
use Rattle.crib_command.specs.Command.{AreReadable, IsCommandWords, has_hyphen, refusal_from, words_refusal, without_mark}
use Rattle.crib_command.specs.Command.{commands_of, end_refusal, first_of, help_refusal, is_command, is_mark, is_wrong, long_refusal, option_refusal}
use Rattle.crib_command.specs.Command.{plain_refusal, short_refusal, word_refusal}
use Rattle.crib_command.specs.declared.program.Program.{Program}
use Rattle.crib_command.specs.Status.{words_status}
use Rattle.crib_run.specs.declared.status.Status.TheVariants.{Yes, Refused, Fault}

-- a program with three commands
abbrev names : List Text
names = codes "check" ∷ codes "solve" ∷ codes "replay" ∷ []

-- a command line: the name of the program, and then some words
abbrev typed : List Text → List Text
typed words = codes "cribplan" ∷ words

-- the program may have another name, and a mark may be before or behind the command
commands_named : IsCommandWords names (typed (codes "check" ∷ [])) (codes "check")
    × IsCommandWords names (codes "./plans" ∷ codes "replay" ∷ []) (codes "replay")
    × IsCommandWords names (typed (codes "--" ∷ codes "check" ∷ [])) (codes "check")
    × IsCommandWords names (typed (codes "check" ∷ codes "--" ∷ [])) (codes "check")
unfolding without_mark
commands_named = (search, search, search, search)

-- a further word, or a word that is the name of no command, names none
no_commands : ¬ (IsCommandWords names (typed (codes "check" ∷ codes "f.txt" ∷ [])) (codes "check"))
    × ¬ (IsCommandWords names (typed (codes "play" ∷ [])) (codes "play"))
unfolding without_mark
no_commands = (λ is. cc is.only, λ is. cc is.listed)

-- the first `--` is left out, and a second one stays
one_mark_left_out : without_mark (codes "check" ∷ codes "--" ∷ codes "f" ∷ codes "--" ∷ []) ≡ codes "check" ∷ codes "f" ∷ codes "--" ∷ []
unfolding without_mark
one_mark_left_out = refl

-- no command is named: by no word, by another name, by a name with a capital letter, and by a hyphen alone, which is no option
no_command : (words_refusal names [] ≡ Some MissingRequiredArgument) × (map (λ name. words_refusal names (typed (name ∷ []))) names ≡ None ∷ None ∷ None ∷ [])
    × (map (λ words. words_refusal names (typed words)) ([] ∷ (codes "play" ∷ []) ∷ (codes "Check" ∷ []) ∷ (codes "-" ∷ []) ∷ [])
    ≡ Some MissingRequiredArgument ∷ Some InvalidValue ∷ Some InvalidValue ∷ Some InvalidValue ∷ [])
unfolding refusal_from chars
no_command = (refl, refl, refl)

-- one word too many: a file, a second name, and a second `--`; and other options
one_word_too_many : map (λ words. words_refusal names (typed words))
    ((codes "solve" ∷ codes "f.txt" ∷ []) ∷ (codes "check" ∷ codes "check" ∷ []) ∷ (codes "--" ∷ codes "--" ∷ codes "check" ∷ []) ∷
    (codes "--" ∷ codes "check" ∷ codes "--help" ∷ []) ∷ (codes "--version" ∷ []) ∷ (codes "-v" ∷ []) ∷ [])
    ≡ Some UnknownArgument ∷ Some UnknownArgument ∷ Some UnknownArgument ∷ Some UnknownArgument ∷ Some UnknownArgument ∷ Some UnknownArgument ∷ []
unfolding refusal_from chars
one_word_too_many = refl

-- help is asked for, also behind the first name and the last one; not so behind a wrong name, nor with a value, nor after `--`, where no word is an option
help : map (λ words. words_refusal names (typed words))
    ((codes "--help" ∷ []) ∷ (codes "check" ∷ codes "-h" ∷ []) ∷ (codes "replay" ∷ codes "-h" ∷ []) ∷ (codes "replay" ∷ codes "--help" ∷ []) ∷
    (codes "play" ∷ codes "-h" ∷ []) ∷ (codes "play" ∷ codes "--help" ∷ []) ∷ (codes "--help=check" ∷ []) ∷ (codes "--" ∷ codes "--help" ∷ []) ∷ [])
    ≡ Some DisplayHelp ∷ Some DisplayHelp ∷ Some DisplayHelp ∷ Some DisplayHelp ∷
    Some InvalidValue ∷ Some InvalidValue ∷ Some TooManyValues ∷ Some InvalidValue ∷ []
unfolding refusal_from chars
help = refl

-- ---- the status: help that was printed is yes, and help that could not be printed a fault. All other words are refused
statuses : (map (words_status DisplayHelp) (true ∷ false ∷ []) ≡ Yes ∷ Fault ∷ [])
    × (map (λ kind. words_status kind true) (InvalidValue ∷ MissingRequiredArgument ∷ UnknownArgument ∷ []) ≡ Refused ∷ Refused ∷ Refused ∷ [])
statuses = (refl, refl)

-- ---- the parts of a refusal. A name is none, one of the program's, or another
abbrev some_names : List (Option Text)
some_names = None ∷ Some (codes "check") ∷ Some (codes "replay") ∷ Some (codes "play") ∷ []

tests_of_words : (map has_hyphen (codes "-h" ∷ codes "--" ∷ codes "h-" ∷ codes ",h" ∷ codes ".h" ∷ []) ≡ true ∷ true ∷ false ∷ false ∷ false ∷ [])
    × (map (is_command names) (codes "check" ∷ codes "replay" ∷ codes "play" ∷ []) ≡ true ∷ true ∷ false ∷ [])
    × (map is_mark (codes "--" ∷ codes "-" ∷ codes "--help" ∷ []) ≡ true ∷ false ∷ false ∷ [])
    × (map (is_wrong names) some_names ≡ false ∷ false ∷ false ∷ true ∷ [])
tests_of_words = (refl, refl, refl, refl)

-- `h` is the letter 104
long_and_short_options :
    (map (long_refusal names None) ((codes "help", None) ∷ (codes "help", Some []) ∷ (codes "helps", None) ∷ [])
    ≡ DisplayHelp ∷ TooManyValues ∷ UnknownArgument ∷ [])
    × (map (short_refusal names None) (103 ∷ 104 ∷ 105 ∷ []) ≡ UnknownArgument ∷ DisplayHelp ∷ UnknownArgument ∷ [])
long_and_short_options = (refl, refl)

help_behind_a_name : map (λ name. help_refusal names name ∷ long_refusal names name (codes "help", None) ∷ short_refusal names name 104 ∷ []) some_names
    ≡ (DisplayHelp ∷ DisplayHelp ∷ DisplayHelp ∷ []) ∷ (DisplayHelp ∷ DisplayHelp ∷ DisplayHelp ∷ []) ∷ (DisplayHelp ∷ DisplayHelp ∷ DisplayHelp ∷ []) ∷
    (InvalidValue ∷ InvalidValue ∷ InvalidValue ∷ []) ∷ []
help_behind_a_name = refl

-- of several letters behind a hyphen the first one counts
options : (map (option_refusal names None) (codes "--help" ∷ codes "-hv" ∷ codes "-vh" ∷ codes "check" ∷ codes "-" ∷ codes "--" ∷ [])
    ≡ Some DisplayHelp ∷ Some DisplayHelp ∷ Some UnknownArgument ∷ None ∷ None ∷ None ∷ [])
    × (map (λ name. map (option_refusal names name) (codes "-h" ∷ codes "--help" ∷ [])) some_names
    ≡ (Some DisplayHelp ∷ Some DisplayHelp ∷ []) ∷ (Some DisplayHelp ∷ Some DisplayHelp ∷ []) ∷ (Some DisplayHelp ∷ Some DisplayHelp ∷ []) ∷
    (Some InvalidValue ∷ Some InvalidValue ∷ []) ∷ [])
unfolding chars
options = (refl, refl)

ends_and_second_names : (map (end_refusal names) some_names ≡ Some MissingRequiredArgument ∷ None ∷ None ∷ Some InvalidValue ∷ [])
    × (map (λ name. plain_refusal name (codes "solve") (λ last. end_refusal names last)) some_names
    ≡ None ∷ Some UnknownArgument ∷ Some UnknownArgument ∷ Some UnknownArgument ∷ [])
ends_and_second_names = (refl, refl)

first_refusals : (map (first_of None) (None ∷ Some InvalidValue ∷ []) ≡ None ∷ Some InvalidValue ∷ [])
    × (map (first_of (Some DisplayHelp)) (None ∷ Some InvalidValue ∷ []) ≡ Some DisplayHelp ∷ Some DisplayHelp ∷ [])
first_refusals = (refl, refl)

-- the words after this one are judged as words behind a `--`, or as words before any
abbrev judged_after : Bool → Option Text → Text → Option ErrorKind
judged_after ended name word = word_refusal names ended name word (λ behind last. if behind then Some TooManyValues else Some MissingRequiredArgument)

words_judged :
    (map (judged_after false None) (codes "check" ∷ codes "--" ∷ codes "--help" ∷ [])
    ≡ Some MissingRequiredArgument ∷ Some TooManyValues ∷ Some DisplayHelp ∷ [])
    × (map (judged_after true None) (codes "check" ∷ codes "--" ∷ codes "--help" ∷ []) ≡ Some TooManyValues ∷ Some TooManyValues ∷ Some TooManyValues ∷ [])
    × (map (judged_after false (Some (codes "check"))) (codes "solve" ∷ codes "--" ∷ codes "--help" ∷ [])
    ≡ Some UnknownArgument ∷ Some TooManyValues ∷ Some DisplayHelp ∷ [])
unfolding chars
words_judged = (refl, refl, refl)

commands_in_order : (program : Program) (one other : Bor Text) → program.commands.now ≡ one ∷ other ∷ [] → commands_of program ≡ one.now ∷ other.now ∷ []
commands_in_order program one other e = ap (map (λ (name : Bor Text). name.now)) e

-- ---- good names: none begins with a hyphen, and each is read as a command
abbrev reads_names : Text → Result ℕ ℕ → Type 0
reads_names name r = r ≡ (if is_command names name then Ok 1 else Err 2)

good_names : AreReadable reads_names names
good_names = record { plain = refl; read = λ name r listed given. subst IsOk (sym (given ∙ ap (λ (b : Bool). if b then Ok 1 else Err 2) listed)) refl }

hyphen_before_a_name : AreReadable reads_names (codes "check" ∷ codes "-solve" ∷ []) → ⊥
hyphen_before_a_name are = (let plain = are.plain in absurd (both_ways true plain refl))

name_that_is_not_read : AreReadable (λ name (r : Result ℕ ℕ). r ≡ Err 2) names → ⊥
name_that_is_not_read are = absurd (both_ways false refl (are.read (codes "check") (Err 2) refl refl))
