-- Worked examples of command lines.
use Rattle.std.proofs.Common.{◌≡◌, [], ◌∷◌, Some, None, codes, refl}
use Rattle.std.specs.Str.{chars}
use Rattle.clap.specs.declared.error.kind.ErrorKind.TheVariants.{DisplayHelp, InvalidValue}
use Rattle.crib_command.specs.Command.{refusal_from, words_refusal}
use Rattle.crib_sheet.specs.Job.{job_names}

game_is_taken : words_refusal job_names (codes "cribsheet" ∷ codes "game" ∷ []) ≡ None
unfolding refusal_from chars
game_is_taken = refl

another_name : words_refusal job_names (codes "cribsheet" ∷ codes "check" ∷ []) ≡ Some InvalidValue
unfolding refusal_from chars
another_name = refl

help : words_refusal job_names (codes "cribsheet" ∷ codes "--help" ∷ []) ≡ Some DisplayHelp
unfolding refusal_from chars
help = refl
