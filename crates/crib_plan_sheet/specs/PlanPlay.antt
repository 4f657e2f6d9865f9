-- A deal that is played from the sheet of a plan. The reader begins after the opening, and sees each visible turn.
use Rattle.std.specs.Prelude.{◌≡◌, ◌↔◌, ℕ, Bool, not, ◌&&◌, List, [], ◌∷◌, ◌++◌, flat_map, drop, length, reverse}
use Rattle.std.specs.Prelude.{Option, Some, IsTrue, IsFalse}
use Rattle.std.specs.List.{list_any}
use Rattle.crib_cards.specs.Letters.{letter_of}
use Rattle.crib_cards.specs.Sides.{same_side}
use Rattle.crib_cards.specs.Start.{pone_of}
use Rattle.crib_cards.specs.declared.moves.Act.{Act}
use Rattle.crib_cards.specs.declared.moves.Move.{Move}
use Rattle.crib_cards.specs.declared.moves.Move.TheVariants as move
use Rattle.crib_cards.specs.declared.sides.Dealt.{Dealt}
use Rattle.crib_cards.specs.declared.sides.Side.{Side}
use Rattle.crib_cards.specs.declared.sides.Side.TheVariants.{Owner, Opponent}
use Rattle.crib_play.specs.History.{acts_of}
use Rattle.crib_play.specs.Legal.{IsLegal, cards_left, fits, letters_of}
use Rattle.crib_play.specs.Record.{mover}
use Rattle.crib_problem.specs.Setup.{Setup, IsDealOf, BeginsAsPlayed, start_of, hands_of}
use Rattle.crib_show.specs.declared.show.outcomes.Outcome.TheVariants.{Reached}
use Rattle.crib_plan.specs.declared.plan.Node.{Node}
use Rattle.crib_plan.specs.Nodes.{ArePlan}
use Rattle.crib_plan.specs.Places.{stated_card}
use Rattle.crib_game.specs.Following.{place_of, opening_is_over, is_playable, Follows}
use Rattle.crib_game.specs.Replay.{is_done_for, outcome_for, play_scores}
use Rattle.crib_sure.specs.Sure.{IsSure}
use Rattle.crib_plan_sheet.specs.PlanSheet.{Row, Over, Sheet, Turn, OwnCard, Shown, sheet_with, sheet_card, read_on}
use Rattle.crib_plan_sheet.specs.PlanSheet.{read_turns}

-- ---- what a reader sees

-- a turn of a side, as the reader of a sheet sees it. A go of the owner changes nothing
abbrev pub turns_by : Side → Move → List Turn
turns_by Owner (move.Card card) = OwnCard ∷ []
turns_by Owner move.Go = []
turns_by Opponent what = Shown (letter_of what) ∷ []

-- an act, as the reader of a sheet sees it
abbrev pub turns_of : Act → List Turn
turns_of act = turns_by act.side act.what

-- the turns that both players have shown in a record after the opening, in the order of play
abbrev pub turns_shown : Setup → List Move → List Turn
turns_shown problem past =
    flat_map turns_of (drop (length problem.played) (reverse (acts_of (pone_of (start_of problem)) past)))

-- the card that a reader finds on the sheet after a record, if there is one
abbrev pub card_found : Setup → Sheet → List Move → Option ℕ
card_found problem sheet past = sheet_card sheet (turns_shown problem past)

-- where a reader is on the sheet after a record
unfoldable pub row_after : Setup → Sheet → List Move → Row
row_after problem sheet past = read_turns sheet (read_on sheet sheet.first) (turns_shown problem past)

-- ---- playing from a sheet

-- a turn is as found: if it is a card of the owner, it is this card
abbrev pub IsAsFound : Option ℕ → Side → Move → Type 0
IsAsFound found Owner (move.Card card) = found ≡ Some card
IsAsFound found Owner move.Go = Unit {0}
IsAsFound found Opponent turn = Unit {0}

-- a record is played from a sheet: each card of the owner after the opening is the one that they find there just before
abbrev pub PlaysFrom : Setup → Sheet → List Move → Type 0
PlaysFrom problem sheet [] = Unit {0}
PlaysFrom problem sheet (turn ∷ past) =
    PlaysFrom problem sheet past
    × (IsTrue (opening_is_over problem.played (pone_of (start_of problem)) past) →
    IsAsFound (card_found problem sheet past) (mover (pone_of (start_of problem)) (letters_of past)) turn)

-- a legal record of a deal of the problem that begins with the opening and is played from a sheet after it
pub record IsPlayedFrom (problem : Setup) (sheet : Sheet) (dealt : Dealt) (played : List Move) : Type 0 where
  pub deal : IsDealOf problem dealt
  pub legal : IsLegal (start_of problem) (hands_of problem dealt) played
  pub begins : BeginsAsPlayed problem (acts_of (pone_of (start_of problem)) played)
  pub from_sheet : PlaysFrom problem sheet played

-- whether the owner has to choose a card after a record: the deal is not done, it is their turn, and a card that they
-- still have fits
abbrev pub has_choice : Setup → Dealt → List Move → Bool
has_choice problem dealt played =
    not (is_done_for problem played) && same_side (mover (pone_of (start_of problem)) (letters_of played)) Owner
    && list_any (fits played) (cards_left (hands_of problem dealt) Owner played)

-- who plays from a sheet reaches the goal: wherever they have to choose a card, they find one that they still have and
-- that fits. Where the row has ended, or there is no line, they never have to choose one again. And each deal that is
-- done has the outcome Reached
pub record ReachesGoal (problem : Setup) (sheet : Sheet) : Type 0 where
  pub found : (dealt : Dealt) (played : List Move) → IsPlayedFrom problem sheet dealt played →
      IsTrue (has_choice problem dealt played) →
      IsTrue (is_playable (hands_of problem dealt) played (card_found problem sheet played))
  pub no_choice_left : (dealt : Dealt) (later past : List Move) → IsPlayedFrom problem sheet dealt (later ++ past) →
      row_after problem sheet past ≡ Over → IsFalse (has_choice problem dealt (later ++ past))
  pub reached : (dealt : Dealt) (played : List Move) → IsPlayedFrom problem sheet dealt played →
      IsTrue (is_done_for problem played) → outcome_for problem dealt (play_scores problem played) ≡ Reached

-- ---- the laws

-- after every record a reader finds the card that the plan states there, or none if it states none, whichever nodes
-- have paragraphs of their own
abbrev pub FindsWhatIsStated : Type 0
FindsWhatIsStated =
    (apart : ℕ → Bool) (problem : Setup) (plan : List Node) (past : List Move) → ArePlan plan →
    card_found problem (sheet_with apart plan) past
    ≡ stated_card plan (place_of plan problem.played (pone_of (start_of problem)) past)

-- a record is played from the sheet of a plan exactly when it follows the plan
abbrev pub PlayedAsFollowed : Type 0
PlayedAsFollowed =
    (apart : ℕ → Bool) (problem : Setup) (plan : List Node) (past : List Move) → ArePlan plan →
    (PlaysFrom problem (sheet_with apart plan) past ↔ Follows plan problem.played (pone_of (start_of problem)) past)

-- a plan is sure exactly when whoever plays from its sheet reaches the goal
abbrev pub SureIsReached : Type 0
SureIsReached =
    (apart : ℕ → Bool) (problem : Setup) (plan : List Node) → ArePlan plan →
    (IsSure problem plan ↔ ReachesGoal problem (sheet_with apart plan))
