-- What the owner knows with one turn more, and entries that are added.
use Rattle.std.specs.Prelude.{◌≡◌, ◌∷◌, ◌++◌, List, Option, MatchOption}
use Rattle.crib_cards.specs.declared.moves.Act.{Act}
use Rattle.crib_play.specs.History.{Event}
use Rattle.crib_problem.specs.Setup.{Setup}
use Rattle.crib_know.specs.Knowledge.{Knowledge}
use Rattle.crib_know.specs.Hidden.{IsPossible, KnowsAfter}
use Rattle.crib_leads.specs.declared.leads.Lead.{Lead}
use Rattle.crib_leads.specs.Leads.{AreEntries}

-- the knowledge after a turn that follows on another knowledge, or none if no deal agrees with it
abbrev pub IsNextOf : Knowledge → Event → Option Knowledge → Type 0
IsNextOf know event next =
    (problem : Setup) (history : List Event) → KnowsAfter know problem history →
    MatchOption next (¬ IsPossible problem (event ∷ history)) (λ after. KnowsAfter after problem (event ∷ history))

-- entries are added for some turns, behind others
abbrev pub Adds : Setup → List Act → List Lead → List Lead → Type 0
Adds problem acts old new = (here : List Lead) × AreEntries problem acts here × (new ≡ old ++ here)
