-- Worked examples of command lines: the job that the words name, and the refusals.
use Rattle.std.proofs.Common.{◌≡◌, List, [], ◌∷◌, Some, None, codes, refl}
use Rattle.std.specs.Str.{chars}
use Rattle.clap.specs.Walk.{Text}
use Rattle.clap.specs.declared.error.kind.ErrorKind.TheVariants.{DisplayHelp, InvalidValue}
use Rattle.crib_answer.specs.declared.job.Job.TheVariants.{Check, Replay}
use Rattle.crib_command.specs.Command.{refusal_from, without_mark}
use Rattle.cribplan.specs.Command.{IsJobWords, words_refusal}

-- a command line: `cribplan`, and then some words
abbrev typed : List Text → List Text
typed words = codes "cribplan" ∷ words

check_alone : IsJobWords (typed (codes "check" ∷ [])) Check
unfolding without_mark
check_alone = refl

replay_behind_a_mark : IsJobWords (typed (codes "--" ∷ codes "replay" ∷ [])) Replay
unfolding without_mark
replay_behind_a_mark = refl

check_is_taken : words_refusal (typed (codes "check" ∷ [])) ≡ None
unfolding refusal_from chars
check_is_taken = refl

another_name : words_refusal (typed (codes "play" ∷ [])) ≡ Some InvalidValue
unfolding refusal_from chars
another_name = refl

help : words_refusal (typed (codes "--help" ∷ [])) ≡ Some DisplayHelp
unfolding refusal_from chars
help = refl
