-- What comes next when a plan is played, as text.
use Rattle.std.specs.Prelude.{ℕ, List, ◌++◌, codes}
use Rattle.crib_cards.specs.declared.moves.Act.{Act}
use Rattle.crib_problem.specs.Setup.{Setup}
use Rattle.crib_plan.specs.declared.plan.Node.{Node}
use Rattle.crib_run.specs.Pieces.{spaced_card}
use Rattle.crib_run.specs.Reply.{Reply}
use Rattle.crib_run.specs.declared.status.Status.{Status}
use Rattle.crib_run.specs.declared.status.Status.TheVariants.{Yes, No}
use Rattle.crib_next.specs.declared.next.NextTurn.{NextTurn}
use Rattle.crib_next.specs.declared.next.NextTurn.TheVariants.{Play, Go, Wait, Over, Stuck}
use Rattle.crib_plan_sheet.specs.PlanStuck.{stuck_text}
use Rattle.crib_sheet.specs.declared.answer.next.NextSheet.{NextSheet}

-- what comes next after some turns, as text. If the owner is stuck, the second line says why
unfoldable pub next_text : Setup → List Node → List Act → NextTurn → List ℕ
next_text problem plan turns (Play card) = codes "play" ++ spaced_card card ++ codes "\n"
next_text problem plan turns Go = codes "say go\n"
next_text problem plan turns Wait = codes "wait\n"
next_text problem plan turns Over = codes "over\n"
next_text problem plan turns Stuck = codes "stuck\n" ++ stuck_text problem plan (problem.played ++ turns)

-- the status of what comes next: no if the owner is stuck, and otherwise yes
abbrev pub next_status : NextTurn → Status
next_status (Play card) = Yes
next_status Go = Yes
next_status Wait = Yes
next_status Over = Yes
next_status Stuck = No

-- the reply with what comes next after some turns
abbrev pub next_reply : Setup → List Node → List Act → NextTurn → Reply
next_reply problem plan turns next =
    record { output = next_text problem plan turns next; status = next_status next }

-- the reply with the parts of what comes next
abbrev pub next_parts_reply : {A : Type 0} → NextSheet A → Reply
next_parts_reply sheet =
    next_reply sheet.question.problem sheet.question.plan sheet.question.turns.items sheet.next
