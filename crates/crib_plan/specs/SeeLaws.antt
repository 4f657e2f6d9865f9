-- The laws of see lines: when a branch is refused, in the terms of the format.
use Rattle.std.specs.Prelude.{◌≡◌, ◌≢◌, ℕ, ◌<◌, ◌≤◌, ◌==◌, Bool, true, false, List, [], ◌∷◌, ◌++◌, ◌⊎◌, length, map}
use Rattle.std.specs.Prelude.{count_by, slice_index, Some, None, IsOk, Err, codes, decimal}
use Rattle.std.specs.List.{list_any, position_or_len, AllByRecursion}
use Rattle.crib_cards.specs.Sets.{has}
use Rattle.crib_text.specs.Refusals.{bad_line, bad_number}
use Rattle.crib_text.specs.Words.{number_read}
use Rattle.crib_plan.specs.Spelling.{letter_bytes, colon}
use Rattle.crib_plan.specs.Refusals.{bad_next, bad_set}
use Rattle.crib_plan.specs.Reading.{no_branches, branches_in}

-- a branch: its letters, and the number of its node
pub record Branch : Type 0 where
  pub set : List ℕ
  pub node : ℕ

-- the text of a branch: its letters, the colon, and the number of its node
abbrev pub branch_spelling : Branch → List ℕ
branch_spelling branch = branch.set ++ colon ∷ decimal branch.node

-- bytes are some of these letters, in the same order
unfoldable pub AreInOrder : List ℕ → List ℕ → Type 0
AreInOrder [] letters = Unit {0}
AreInOrder (byte ∷ bytes) [] = ⊥
AreInOrder (byte ∷ bytes) (letter ∷ letters) =
    ((byte ≡ letter) × AreInOrder bytes letters) ⊎ AreInOrder (byte ∷ bytes) letters

-- the index of a letter among the fourteen, from 0
abbrev pub letter_number : ℕ → ℕ
letter_number byte = position_or_len (λ letter. letter == byte) letter_bytes

-- the index of the first letter of a branch
abbrev pub first_number : List ℕ → ℕ
first_number set = letter_number (slice_index set 0)

-- whether a letter occurs in some branches
abbrev pub has_letter : List Branch → ℕ → Bool
has_letter branches letter = list_any (λ branch. has branch.set letter) branches

-- whether some branch leads to a node
abbrev pub has_node : List Branch → ℕ → Bool
has_node branches node = list_any (λ branch. branch.node == node) branches

-- an index is above that of the first letter of the last branch, if there is a branch
abbrev pub IsBehindLast : List Branch → ℕ → Type 0
IsBehindLast [] index = Unit {0}
IsBehindLast (branch ∷ []) index = first_number branch.set < index
IsBehindLast (branch ∷ next ∷ branches) index = IsBehindLast (next ∷ branches) index

-- letters that are allowed in the next branch: they are one or more letters in their order, none is in an earlier
-- branch, and the first one is after the first letter of the branch before
pub record IsNextSet (earlier : List Branch) (set : List ℕ) : Type 0 where
  pub some : 0 < length set
  pub in_order : AreInOrder set letter_bytes
  pub once : (letter : ℕ) → has set letter ≡ true → has_letter earlier letter ≡ false
  pub behind : IsBehindLast earlier (first_number set)

-- the branches of a line so far pass
abbrev pub Pass : ℕ → ℕ → List Branch → Type 0
Pass number count earlier =
    AllByRecursion (λ branch. branch.node ≤ 4294967295) earlier
    × IsOk (branches_in number count no_branches (map branch_spelling earlier))

-- after branches that pass, a word is refused with this refusal, whatever words follow it
abbrev pub IsRefused : ℕ → ℕ → List Branch → List ℕ → ℕ → Type 0
IsRefused number count earlier word refusal =
    (more : List (List ℕ)) →
    branches_in number count no_branches (map branch_spelling earlier ++ word ∷ more) ≡ Err refusal

-- bytes contain no colon
abbrev pub HasNoColon : List ℕ → Type 0
HasNoColon bytes = list_any (λ byte. byte == colon) bytes ≡ false

-- a node is a later node of the plan
abbrev pub IsLaterNode : ℕ → ℕ → ℕ → Type 0
IsLaterNode number count node = (number < node) × (node < count)

-- first: a word without exactly one colon is refused
abbrev pub ColonLaw : Type 0
ColonLaw =
    (number count : ℕ) (earlier : List Branch) (word : List ℕ) → Pass number count earlier →
    count_by (λ byte. byte == colon) word ≢ 1 → IsRefused number count earlier word bad_line

-- second: letters that are not allowed there are refused
abbrev pub SetLaw : Type 0
SetLaw =
    (number count : ℕ) (earlier : List Branch) (set next : List ℕ) → Pass number count earlier →
    HasNoColon set → HasNoColon next → ¬ IsNextSet earlier set →
    IsRefused number count earlier (set ++ colon ∷ next) bad_set

-- third: the target `end` is refused
abbrev pub EndLaw : Type 0
EndLaw =
    (number count : ℕ) (earlier : List Branch) (set : List ℕ) → Pass number count earlier →
    HasNoColon set → IsNextSet earlier set → IsRefused number count earlier (set ++ colon ∷ codes "end") bad_next

-- fourth: a target that is no number is refused
abbrev pub NumberLaw : Type 0
NumberLaw =
    (number count : ℕ) (earlier : List Branch) (set next : List ℕ) → Pass number count earlier →
    HasNoColon set → HasNoColon next → IsNextSet earlier set → next ≢ codes "end" → number_read next ≡ None →
    IsRefused number count earlier (set ++ colon ∷ next) bad_number

-- fifth: a number that is not that of a later node is refused
abbrev pub RangeLaw : Type 0
RangeLaw =
    (number count : ℕ) (earlier : List Branch) (set next : List ℕ) (node : ℕ) → Pass number count earlier →
    HasNoColon set → HasNoColon next → IsNextSet earlier set → number_read next ≡ Some node →
    ¬ IsLaterNode number count node → IsRefused number count earlier (set ++ colon ∷ next) bad_next

-- sixth: the node of an earlier branch is refused
abbrev pub NodeLaw : Type 0
NodeLaw =
    (number count : ℕ) (earlier : List Branch) (set next : List ℕ) (node : ℕ) → Pass number count earlier →
    HasNoColon set → HasNoColon next → IsNextSet earlier set → number_read next ≡ Some node →
    IsLaterNode number count node → has_node earlier node ≡ true →
    IsRefused number count earlier (set ++ colon ∷ next) bad_set

-- every other branch passes
abbrev pub PassLaw : Type 0
PassLaw =
    (number count : ℕ) (earlier : List Branch) (set next : List ℕ) (node : ℕ) → Pass number count earlier →
    HasNoColon set → HasNoColon next → IsNextSet earlier set → number_read next ≡ Some node →
    IsLaterNode number count node → has_node earlier node ≡ false →
    IsOk (branches_in number count no_branches (map branch_spelling earlier ++ (set ++ colon ∷ next) ∷ []))
