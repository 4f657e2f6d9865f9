-- The turns of a game after the opening.
use Rattle.std.proofs.Common.{◌≡◌, ℕ, ◌-◌, ◌≤◌, List, [], length, drop, take, flat_map, ap}
use Rattle.std.proofs.lemmas.List.{drop_all, take_rest}
use Rattle.crib_cards.specs.declared.moves.Act.{Act}
use Rattle.crib_plan_sheet.specs.PlanPlay.{turns_of}

pub opening_left : (n : ℕ) (acts : List Act) → flat_map turns_of (take (length acts - n) (drop n acts)) ≡ flat_map turns_of (drop n acts)
opening_left n acts = ap (flat_map turns_of) (take_rest acts n)

pub none_left : (n : ℕ) (acts : List Act) → length acts ≤ n → drop n acts ≡ []
none_left n acts all = drop_all n acts all
