-- The names of the commands as values of the command line.
use Rattle.std.specs.List.{list_any}
use Rattle.std.specs.Str.{bytes_eq}
use Rattle.std.proofs.Common.{◌≡◌, ◌||◌, false, List, [], ◌∷◌, map, refl, ap}
use Rattle.std.specs.Borrow.{Bor}
use Rattle.clap.specs.Values.{possible_matches}
use Rattle.clap.specs.Walk.{Text}
use Rattle.clap.specs.declared.builder.possible_value.PossibleValue.{PossibleValue}
use Rattle.crib_command.specs.Command.{is_command}

-- a word is one of the values or of the names that are left exactly if it is the name of a command
abbrev pub JoinTo : List Text → List PossibleValue → List (Bor Text) → Type 0
JoinTo names values left = (word : Text)
    → list_any (possible_matches false word) values || list_any (λ (name : Bor Text). bytes_eq name.now word) left ≡ is_command names word

-- before the first value all names are left
pub none_joined : (names : List (Bor Text)) → JoinTo (map (λ name. name.now) names) [] names
none_joined [] word = refl
none_joined (name ∷ names) word = ap (λ b. bytes_eq name.now word || b) (none_joined names word)
