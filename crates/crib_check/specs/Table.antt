-- The contents of a position table.
use Rattle.std.specs.Prelude.{ℕ, ◌<◌, ◌^◌, Bool, List, length}
use Rattle.std.specs.List.{position_or_len, AllByRecursion}
use Rattle.crib_know.specs.Knowledge.{sight_of, shown_of}
use Rattle.crib_know.specs.declared.knowledge.Sight.{Sight}
use Rattle.crib_check.specs.declared.entries.Entry.{Entry}
use Rattle.crib_sure.specs.declared.keys.Key.{Key}

-- the contents of a position table: a list of what the owner sees, and an entry for each position. An entry has an
-- index into that list, what the opponent has shown, and the place of the plan
pub record Table : Type 0 where
  pub sights : List Sight
  pub entries : List Entry

-- the entry of a position. Its index is that of the first item that is equal to what the owner sees. If none is equal,
-- it is the length of the list
abbrev pub entry_of : (Sight → Sight → Bool) → Table → Key → Entry
entry_of same_sights kept key = record {
  sight = position_or_len (same_sights (sight_of key.know)) kept.sights;
  shown = shown_of key.know;
  place = key.place;
}

-- an entry's index is in range: below this length, and below 2^32
abbrev pub IsInside : ℕ → Entry → Type 0
IsInside sights entry = (entry.sight < sights) × (entry.sight < 2 ^ 32)

-- every entry's index is in range
abbrev pub AreInside : Table → Type 0
AreInside kept = AllByRecursion (IsInside (length kept.sights)) kept.entries
