-- Why a plan states no card that can be played: where it is after the turns of a game.
use Rattle.std.specs.Prelude.{ℕ, ◌-◌, List, [], ◌∷◌, ◌++◌, flat_map, drop, length, Option, Some, None, codes}
use Rattle.std.specs.Prelude.{decimal, if◌then◌else◌}
use Rattle.crib_cards.specs.CardText.{card_text}
use Rattle.crib_cards.specs.Sets.{has}
use Rattle.crib_cards.specs.declared.letters.Letter.{Letter}
use Rattle.crib_cards.specs.declared.letters.Letter.TheVariants.{Seen, Go}
use Rattle.crib_cards.specs.declared.moves.Act.{Act}
use Rattle.crib_problem.specs.Setup.{Setup}
use Rattle.crib_plan.specs.declared.plan.Next.{Next}
use Rattle.crib_plan.specs.declared.plan.Next.TheVariants.{End, To}
use Rattle.crib_plan.specs.declared.plan.Node.{Node}
use Rattle.crib_plan.specs.Places.{plan_start, stated_card, place_after_card, place_after_letter}
use Rattle.crib_plan_sheet.specs.PlanNow.{held_after}
use Rattle.crib_plan_sheet.specs.PlanSheet.{Turn, OwnCard, Shown}
use Rattle.crib_plan_sheet.specs.PlanPlay.{turns_of}
use Rattle.crib_plan_sheet.specs.PlanText.{letter_byte}
use Rattle.crib_plan_sheet.specs.declared.stuck.Halt.{Halt}
use Rattle.crib_plan_sheet.specs.declared.stuck.Halt.TheVariants.{NoNode, At, Ended, NoLine}

-- where a plan is at its next place: at a node, or at the end for this reason
abbrev pub halt_at : Halt → Next → Halt
halt_at ended End = ended
halt_at ended (To node) = At node

-- where a plan is after one more turn
abbrev pub halt_with : List Node → Halt → Turn → Halt
halt_with plan (At node) OwnCard = halt_at (Ended node) (place_after_card plan (To node))
halt_with plan (At node) (Shown letter) = halt_at (NoLine node letter) (place_after_letter plan (To node) letter)
halt_with plan NoNode turn = NoNode
halt_with plan (Ended node) turn = Ended node
halt_with plan (NoLine node letter) turn = NoLine node letter

-- where a plan is after some turns
abbrev pub halt_after : List Node → Halt → List Turn → Halt
halt_after plan halt [] = halt
halt_after plan halt (turn ∷ turns) = halt_after plan (halt_with plan halt turn) turns

-- where a plan is after the acts of a game. The opening leaves it at its start
abbrev pub halt_of : Setup → List Node → List Act → Halt
halt_of problem plan acts =
    halt_after plan (halt_at NoNode (plan_start plan)) (flat_map turns_of (drop (length problem.played) acts))

-- the word for a letter: `K` or `go`
abbrev pub letter_word : Letter → List ℕ
letter_word (Seen rank) = letter_byte (rank - 1) ∷ []
letter_word Go = codes "go"

-- what is wrong at a node that states this card, or none, by the cards that the owner still holds
abbrev pub stated_words : List ℕ → Option ℕ → List ℕ
stated_words held None = codes " looks at what they show next, and it is your turn.\n"
stated_words held (Some card) =
    codes " states " ++ card_text card
    ++ (if has held card then codes ", which doesn't fit.\n" else codes ", which you don't hold.\n")

-- why a plan is stuck, by where it is and the cards that the owner still holds
unfoldable pub stuck_words : List Node → List ℕ → Halt → List ℕ
stuck_words plan held NoNode = codes "The plan has no node.\n"
stuck_words plan held (At node) = codes "Node " ++ decimal node ++ stated_words held (stated_card plan (To node))
stuck_words plan held (Ended node) = codes "The plan ends at node " ++ decimal node ++ codes ".\n"
stuck_words plan held (NoLine node letter) =
    codes "They show " ++ letter_word letter ++ codes ", and node " ++ decimal node ++ codes " has no line for it.\n"

-- why a plan is stuck after the acts of a game
unfoldable pub stuck_text : Setup → List Node → List Act → List ℕ
stuck_text problem plan acts = stuck_words plan (held_after problem acts) (halt_of problem plan acts)
