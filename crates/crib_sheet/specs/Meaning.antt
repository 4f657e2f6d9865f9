-- What the replies guarantee about the input.
use Rattle.std.specs.Prelude.{◌≡◌, ◌≢◌, ◌≤◌, ◌⊎◌, ℕ, Bool, true, false, List, [], ◌++◌, length, Option}
use Rattle.std.specs.Prelude.{Ok, Err}
use Rattle.crib_text.specs.Refusals.{Refusal, no_memory}
use Rattle.crib_cards.specs.declared.moves.Act.{Act}
use Rattle.crib_problem.specs.Setup.{Setup}
use Rattle.crib_plan.specs.Nodes.{ArePlan}
use Rattle.crib_plan.specs.Spelling.{plan_text}
use Rattle.crib_plan.specs.declared.plan.Node.{Node}
use Rattle.crib_game.specs.declared.section.game.Game.{Game}
use Rattle.crib_sure.specs.Sure.{Ends, GoesOn, IsSure}
use Rattle.crib_input.specs.Spelled.{SpellsGame, SpellsPlan, SpellsProblem}
use Rattle.crib_run.specs.declared.status.Status.{Status}
use Rattle.crib_run.specs.declared.status.Status.TheVariants.{Yes, No, Refused, Fault}
use Rattle.crib_run.specs.Reply.{Reply, fault_line, refusal_reply}
use Rattle.crib_answer.specs.Input.{report_of_input}
use Rattle.crib_answer.specs.Answer.{too_large}
use Rattle.crib_search.specs.Tried.{IsNeverStuck}
use Rattle.crib_search.specs.Winnable.{IsWinnable}
use Rattle.crib_answer.specs.Meaning.{HasNoPlan, HasSomePlan, HasSurePlan, SolveMeans}
use Rattle.crib_players.specs.Players.{IsSurePlayer, Player}
use Rattle.crib_players.specs.Refutations.{Refutes}
use Rattle.crib_why.specs.Answer.{AreBySuit, SomeIsSure}
use Rattle.crib_beaten.specs.Tally.{AreFigures}
use Rattle.crib_beaten.specs.declared.rows.Rows.{Rows}
use Rattle.crib_beaten.specs.declared.tally.RanksTally.{RanksTally}
use Rattle.crib_next.specs.Input.{SpellsTurns}
use Rattle.crib_next.specs.Next.{next_from}
use Rattle.crib_next.specs.declared.next.NextTurn.{NextTurn}
use Rattle.crib_next.specs.declared.next.NextTurn.TheVariants.{Stuck}
use Rattle.crib_game_sheet.specs.GameText.{game_sheet_text}
use Rattle.crib_sheet.specs.Beaten.{beaten_text}
use Rattle.crib_sheet.specs.Holes.{HasHoles}
use Rattle.crib_sheet.specs.Leads.{HasLargePlan, HasLeads}
use Rattle.crib_sheet.specs.Next.{next_text}
use Rattle.crib_sheet.specs.PlanHead.{position_text, sure_text}
use Rattle.crib_sheet.specs.PlanBeaten.{AreBeating, IsBest, beating_text, best_text}
use Rattle.crib_sheet.specs.declared.verdict.beaten.Best.{Best}
use Rattle.crib_sheet.specs.Refute.{WhyTexts, refute_texts, why_texts}
use Rattle.crib_sheet.specs.Scores.{scores_text}
use Rattle.crib_tables.specs.Scores.{AreScores}
use Rattle.crib_tables.specs.declared.scores.ScoreTable.{ScoreTable}
use Rattle.crib_plan_sheet.specs.PlanPage.{plan_page}
use Rattle.crib_plan_sheet.specs.PlanPlay.{ReachesGoal}
use Rattle.crib_plan_sheet.specs.PlanSheet.{sheet_with}
use Rattle.crib_sheet.specs.declared.answer.job.SheetJob.{SheetJob}
use Rattle.crib_sheet.specs.declared.answer.job.SheetJob.TheVariants.{Plan, Game as GameJob, Beaten, Try}
use Rattle.crib_sheet.specs.declared.answer.job.SheetJob.TheVariants.{Refute, Why, Leads, Next, Scores, Holes}

-- an input asks about a plan: it spells a problem and the plan, or the problem alone. Then the plan is any plan
abbrev pub AsksAbout : List ℕ → Setup → List Node → Type 0
AsksAbout input problem plan = SpellsPlan input problem plan ⊎ (SpellsProblem input problem × ArePlan plan)

-- an input asks about a sure plan, and the text has its sheet after the position. The play goes on until the deal is
-- done, and whoever plays from that sheet reaches the goal
pub record HasSureSheet (input text : List ℕ) : Type 0 where
  pub problem : Setup
  pub plan : List Node
  pub asked : AsksAbout input problem plan
  pub sure : IsSure problem plan
  pub goes_on : GoesOn problem plan
  pub ends : Ends problem
  pub apart : ℕ → Bool
  pub printed : text ≡ sure_text problem ++ plan_page true apart plan
  pub reaches : ReachesGoal problem (sheet_with apart plan)

-- an input spells a problem and a plan that is not sure
pub record HasUnsurePlan (input : List ℕ) : Type 0 where
  pub problem : Setup
  pub plan : List Node
  pub spelled : SpellsPlan input problem plan
  pub unsure : ¬ IsSure problem plan

-- an input asks about a plan that is not sure, and if it spells a problem alone, no plan is sure, and this one is never
-- stuck. The text has after the position how many deals beat the plan, which hands these have, and how few beat
-- another plan, and ends with the sheet of the plan
pub record HasUnsureSheet (input text : List ℕ) : Type 0 where
  pub problem : Setup
  pub plan : List Node
  pub asked : AsksAbout input problem plan
  pub unsure : ¬ IsSure problem plan
  pub none : SpellsProblem input problem → ¬ IsWinnable problem
  pub stated : SpellsProblem input problem → IsNeverStuck problem plan
  pub open_deals : ℕ
  pub beaten : ℕ
  pub hands : Option Rows
  pub figures : AreBeating problem plan open_deals beaten hands
  pub best : Best
  pub is_best : IsBest problem best
  pub middle : List ℕ
  pub apart : ℕ → Bool
  pub printed :
      text ≡ position_text problem ++ beating_text open_deals beaten hands ++ best_text beaten best ++ middle
      ++ plan_page false apart plan

-- an input spells a problem and a game, and `text` is the sheet of the game
pub record HasGameSheet (input text : List ℕ) : Type 0 where
  pub problem : Setup
  pub game : Game
  pub spelled : SpellsGame input problem game
  pub sheet : game_sheet_text problem game ≡ Ok text

-- what the reply of `plan` guarantees, by its status. Yes: the plan is sure, and so is its sheet. No: the plan is not,
-- and the figures of the deals that beat it are right; if no plan was spelled, no plan is sure. Refused: the input
-- spells neither a problem and a plan nor a problem. Fault: the same as for `solve` of cribplan
abbrev pub PlanMeans : List ℕ → List ℕ → Status → Type 0
PlanMeans input text Yes = HasSureSheet input text
PlanMeans input text No = HasUnsureSheet input text
PlanMeans input text Refused =
    (problem : Setup) → (¬ SpellsProblem input problem) × ((plan : List Node) → ¬ SpellsPlan input problem plan)
PlanMeans input text Fault = SolveMeans input text Fault

-- `replay` of cribplan refuses an input, and `text` is the line of its refusal
pub record IsRefusedByReplay (input text : List ℕ) : Type 0 where
  pub refusal : Refusal
  pub refused : report_of_input input ≡ Err refusal
  pub line : text ≡ (refusal_reply refusal).output

-- what the reply of `game` guarantees, by its status. Yes: the text is the sheet of the game. It is never no. Refused:
-- the text is the line with which `replay` refuses the input. Fault: the text says that an allocation failed
abbrev pub GameMeans : List ℕ → List ℕ → Status → Type 0
GameMeans input text Yes = HasGameSheet input text
GameMeans input text No = ⊥
GameMeans input text Refused = IsRefusedByReplay input text
GameMeans input text Fault = text ≡ fault_line no_memory

-- `text` says exactly how many deals beat a plan for a problem, and how many of each choice of four ranks
pub record SaysHowMany (problem : Setup) (plan : List Node) (text : List ℕ) : Type 0 where
  pub open_deals : ℕ
  pub beaten : ℕ
  pub rows : List RanksTally
  pub right : AreFigures problem plan open_deals beaten rows
  pub printed : text ≡ beaten_text open_deals beaten rows

-- what the reply of `beaten` guarantees, by its status. Yes: the plan is sure. No: the plan is not. With both the text
-- says exactly how many deals beat it. Refused: the input spells no problem and plan. Fault: the text says that an
-- allocation failed
abbrev pub BeatenMeans : List ℕ → List ℕ → Status → Type 0
BeatenMeans input text Yes = (sure : HasSurePlan input) × SaysHowMany sure.problem sure.plan text
BeatenMeans input text No = (unsure : HasUnsurePlan input) × SaysHowMany unsure.problem unsure.plan text
BeatenMeans input text Refused = (problem : Setup) (plan : List Node) → ¬ SpellsPlan input problem plan
BeatenMeans input text Fault = text ≡ fault_line no_memory

-- what the reply of `try` guarantees, by its status. No: no plan is sure, and the text spells one that is never stuck.
-- Otherwise the same as for `solve` of cribplan
abbrev pub TryMeans : List ℕ → List ℕ → Status → Type 0
TryMeans input text Yes = SolveMeans input text Yes
TryMeans input text No =
    (none : HasNoPlan input)
    × ((plan : List Node) × ArePlan plan × IsNeverStuck none.problem plan × (text ≡ plan_text plan))
TryMeans input text Refused = SolveMeans input text Refused
TryMeans input text Fault = SolveMeans input text Fault

-- an input spells a problem, and `text` is that of at most 24 games that refute every player. So no player is sure,
-- whatever they look at
pub record IsRefutedBy (texts : Setup → WhyTexts) (input text : List ℕ) : Type 0 where
  pub problem : Setup
  pub spelled : SpellsProblem input problem
  pub games : List Game
  pub refutes : Refutes problem games
  pub few : length games ≤ 24
  pub nobody : (player : Player) → ¬ IsSurePlayer problem player
  pub printed : text ≡ (texts problem).refuted games

-- an input spells a problem for which no plan is sure but some player is, and `text` has the ranks after which suits
-- decide
pub record IsDecidedBySuits (texts : Setup → WhyTexts) (input text : List ℕ) : Type 0 where
  pub none : HasNoPlan input
  pub somebody : SomeIsSure none.problem
  pub ranks : List ℕ
  pub right : AreBySuit none.problem ranks
  pub printed : text ≡ (texts none.problem).suits ranks

-- what the reply of `refute` or of `why` guarantees, by its status. Yes: some plan is sure. No: the text has games that
-- refute every player; or no plan is sure, some player is, and the text says after which ranks suits decide. Refused:
-- the input spells no problem. Fault: the text says that an allocation failed
abbrev pub WhyMeans : (Setup → WhyTexts) → List ℕ → List ℕ → Status → Type 0
WhyMeans texts input text Yes = (some : HasSomePlan input) × (text ≡ (texts some.problem).sure)
WhyMeans texts input text No = IsRefutedBy texts input text ⊎ IsDecidedBySuits texts input text
WhyMeans texts input text Refused = (problem : Setup) → ¬ SpellsProblem input problem
WhyMeans texts input text Fault = text ≡ fault_line no_memory

-- an input spells a problem, and a reply has the turns that may come next
abbrev pub SpellsLeads : List ℕ → Reply → Type 0
SpellsLeads input reply = (problem : Setup) × SpellsProblem input problem × HasLeads problem reply

-- what the reply of `leads` guarantees, by its status. Yes and no: the text has the turns that may come next, and this
-- is their status. Refused: the input spells no problem. Fault: the text says that an allocation failed; or that a plan
-- has too many nodes, and some plan that is found there has
abbrev pub LeadsMeans : List ℕ → List ℕ → Status → Type 0
LeadsMeans input text Yes = SpellsLeads input (record { output = text; status = Yes })
LeadsMeans input text No = SpellsLeads input (record { output = text; status = No })
LeadsMeans input text Refused = (problem : Setup) → ¬ SpellsProblem input problem
LeadsMeans input text Fault =
    (text ≡ fault_line no_memory)
    ⊎ ((problem : Setup) × SpellsProblem input problem × HasLargePlan problem × (text ≡ fault_line too_large))

-- an input spells a problem, a plan and turns, none of these is refused, and `text` says what comes next after them
pub record SaysNext (input text : List ℕ) : Type 0 where
  pub problem : Setup
  pub plan : List Node
  pub turns : List Act
  pub spelled : SpellsTurns input problem plan turns
  pub line : ℕ
  pub next : NextTurn
  pub right : next_from problem plan line [] turns ≡ Ok next
  pub printed : text ≡ next_text problem plan turns next

-- some turn is refused, if the first of the turns has this line
abbrev pub IsSomeRefused : Setup → List Node → List Act → ℕ → Type 0
IsSomeRefused problem plan turns line = (next : NextTurn) → next_from problem plan line [] turns ≢ Ok next

-- what the reply of `next` guarantees, by its status. Yes: the text says what comes next, and the owner is not stuck.
-- No: the owner is stuck, so the plan is not sure. Refused: the input spells no problem, plan and turns, or some turn
-- is refused. Fault: the text says that an allocation failed
abbrev pub NextMeans : List ℕ → List ℕ → Status → Type 0
NextMeans input text Yes = (says : SaysNext input text) × (says.next ≢ Stuck)
NextMeans input text No = (says : SaysNext input text) × (says.next ≡ Stuck) × (¬ IsSure says.problem says.plan)
NextMeans input text Refused =
    (problem : Setup) (plan : List Node) (turns : List Act) → SpellsTurns input problem plan turns →
    (line : ℕ) × IsSomeRefused problem plan turns line
NextMeans input text Fault = text ≡ fault_line no_memory

-- an input spells a problem, and `text` is the table of what is sure at the scores around those of the problem
pub record HasScores (input text : List ℕ) : Type 0 where
  pub problem : Setup
  pub spelled : SpellsProblem input problem
  pub table : ScoreTable
  pub right : AreScores problem table
  pub printed : text ≡ scores_text problem table

-- what the reply of `scores` guarantees, by its status. Yes: the text is a right table. It is never no. Refused: the
-- input spells no problem. Fault: the text says that an allocation failed
abbrev pub ScoresMean : List ℕ → List ℕ → Status → Type 0
ScoresMean input text Yes = HasScores input text
ScoresMean input text No = ⊥
ScoresMean input text Refused = (problem : Setup) → ¬ SpellsProblem input problem
ScoresMean input text Fault = text ≡ fault_line no_memory

-- what the reply of `holes` guarantees, by its status. Yes: the text has the right figures. It is never no. Refused:
-- the input spells no problem. Fault: the text says that an allocation failed
abbrev pub HolesMean : List ℕ → List ℕ → Status → Type 0
HolesMean input text Yes =
    (problem : Setup) × SpellsProblem input problem × HasHoles problem (record { output = text; status = Yes })
HolesMean input text No = ⊥
HolesMean input text Refused = (problem : Setup) → ¬ SpellsProblem input problem
HolesMean input text Fault = text ≡ fault_line no_memory

-- what the text and the status of a reply guarantee about the input
abbrev pub SheetMeans : SheetJob → List ℕ → Reply → Type 0
SheetMeans Plan input reply = PlanMeans input reply.output reply.status
SheetMeans GameJob input reply = GameMeans input reply.output reply.status
SheetMeans Beaten input reply = BeatenMeans input reply.output reply.status
SheetMeans Try input reply = TryMeans input reply.output reply.status
SheetMeans Refute input reply = WhyMeans (λ problem. refute_texts) input reply.output reply.status
SheetMeans Why input reply = WhyMeans why_texts input reply.output reply.status
SheetMeans Leads input reply = LeadsMeans input reply.output reply.status
SheetMeans Next input reply = NextMeans input reply.output reply.status
SheetMeans Scores input reply = ScoresMean input reply.output reply.status
SheetMeans Holes input reply = HolesMean input reply.output reply.status
