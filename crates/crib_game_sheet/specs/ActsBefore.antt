-- The acts of a game before a refused one.
use Rattle.std.specs.Prelude.{◌-◌, ℕ, List, [], Result, Ok, Err, take}
use Rattle.crib_text.specs.Refusals.{Refusal}
use Rattle.crib_problem.specs.Setup.{Setup, at_lead}
use Rattle.crib_game.specs.declared.fault.GameFault.{GameFault}
use Rattle.crib_game.specs.declared.fault.GameFault.TheVariants.{NotUnseen, NotHeld, DoesNotFit, MustPlay, NotTurn}
use Rattle.crib_game.specs.declared.fault.GameFault.TheVariants.{AfterEnd, Strays, NotAsPlayed}
use Rattle.crib_game.specs.declared.section.game.Game.{Game}
use Rattle.crib_game.specs.declared.replaying.report.Report.{Report}
use Rattle.crib_game.specs.Replay.{replay_result}
use Rattle.crib_input.specs.declared.reason.Reason.{Reason}
use Rattle.crib_input.specs.declared.reason.Reason.TheVariants as reasons
use Rattle.crib_input.specs.declared.sections.Sections.{Sections}
use Rattle.crib_input.specs.declared.sections.Sections.TheVariants.{Played}
use Rattle.crib_input.specs.Input.{played_of_input}
use Rattle.crib_game_sheet.specs.GamePlay.{game_reasons}
use Rattle.crib_game_sheet.specs.GameText.{rows_text}

-- the number of acts before the refused one, and 0 if a card of the opponent is refused
abbrev pub acts_before : GameFault → ℕ
acts_before (NotUnseen card) = 0
acts_before (NotHeld act) = act - 1
acts_before (DoesNotFit act) = act - 1
acts_before (MustPlay act) = act - 1
acts_before (NotTurn act) = act - 1
acts_before (AfterEnd act) = act - 1
acts_before (Strays act) = act - 1
acts_before (NotAsPlayed act) = act - 1

-- the game with its first acts alone
abbrev pub beginning : Game → ℕ → Game
beginning game acts = record game { acts = record { items = take acts game.acts.items } }

-- the lines of a game's acts, or nothing if it is refused
abbrev pub lines_if_accepted : Setup → Game → Result Report GameFault → List ℕ
lines_if_accepted problem game (Ok report) = rows_text problem report (game_reasons problem game)
lines_if_accepted problem game (Err fault) = []

-- the lines of the acts before the refused one. They are replayed without the opening, which they may be part of
abbrev pub text_before : Setup → Game → GameFault → List ℕ
text_before problem game fault =
    let begun = beginning game (acts_before fault) in
    lines_if_accepted (at_lead problem) begun (replay_result (at_lead problem) begun)

-- ---- beside a message

-- the lines of the acts before the refused one, and nothing if no act is refused
abbrev pub text_if_refused : Setup → Game → Result Report GameFault → List ℕ
text_if_refused problem game (Ok report) = []
text_if_refused problem game (Err fault) = text_before problem game fault

-- the lines of the acts before the refused one, if an input has a game
abbrev pub text_if_read : Result (Setup × Game × ℕ) Refusal → List ℕ
text_if_read (Ok (problem, game, first)) = text_if_refused problem game (replay_result problem game)
text_if_read (Err refusal) = []

-- the acts that are shown after a message: those before the refused act if the input is to be a problem and a game and
-- is refused, and none after every other message
abbrev pub acts_beside : Sections → List ℕ → Reason → List ℕ
acts_beside Played input (reasons.Refused refusal) = text_if_read (played_of_input input)
acts_beside sections input reason = []
