-- When a turn of the owner is sure. The opening is the visible turns that the problem lists as played.
use Rattle.std.specs.Prelude.{◌≡◌, ◌⊎◌, ℕ, suc, List, [], ◌∷◌, ◌++◌, Option, Some, None}
use Rattle.crib_cards.specs.declared.sides.Side.TheVariants.{Owner}
use Rattle.crib_cards.specs.declared.moves.Move.TheVariants as move
use Rattle.crib_cards.specs.declared.moves.Act.{Act}
use Rattle.crib_play.specs.History.{event_of}
use Rattle.crib_problem.specs.Refusals.{already_over}
use Rattle.crib_problem.specs.Setup.{Setup}
use Rattle.crib_know.specs.Knowledge.{played_events}
use Rattle.crib_sure.specs.Shows.{IsReachedBehind}
use Rattle.crib_search.specs.Winnable.{IsWinnable}
use Rattle.crib_players.specs.Laws.{longer}
use Rattle.crib_leads.specs.Leads.{played_by, refusal_of}

-- the turns of the owner that can be sure: the cards of the hold, and a go
abbrev pub own_turns : Setup → List Act
own_turns problem = played_by Owner problem.hold ++ record { side = Owner; what = move.Go } ∷ []

-- a turn with this refusal as the next one is sure. If nothing refuses it, a plan is sure after it. If the end of the
-- deal does, each deal that agrees with it reaches the goal
abbrev pub IsSureBy : Option ℕ → Setup → Act → Type 0
IsSureBy None problem act = IsWinnable (longer problem act)
IsSureBy (Some number) problem act =
    (number ≡ already_over) × IsReachedBehind problem (event_of act ∷ played_events problem)

-- a turn may come next, and it is sure
abbrev pub IsSureTurn : Setup → Act → Type 0
IsSureTurn problem act = IsSureBy (refusal_of problem act) problem act

-- exactly so many of some turns are sure
abbrev pub AreSure : Setup → List Act → ℕ → Type 0
AreSure problem [] count = count ≡ 0
AreSure problem (act ∷ acts) count =
    (IsSureTurn problem act × ((others : ℕ) × AreSure problem acts others × (count ≡ suc others)))
    ⊎ ((¬ IsSureTurn problem act) × AreSure problem acts count)
