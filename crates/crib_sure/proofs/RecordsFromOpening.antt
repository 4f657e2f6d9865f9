-- A deal that agrees with a history has a legal record with that history. The record begins with the opening, and plays the opponent's equal ranks in suit
-- order after it.
use Rattle.std.proofs.Common.{◌≡◌, ℕ, List, [], ◌∷◌, ◌++◌, map, refl, sym, ap, ◌∙◌}
use Rattle.crib_cards.specs.Start.{Start, pone_of, Hands}
use Rattle.crib_cards.specs.declared.sides.Dealt.{Dealt}
use Rattle.crib_cards.specs.declared.moves.Move.{Move}
use Rattle.crib_cards.specs.declared.moves.Act.{Act}
use Rattle.crib_play.specs.Legal.{IsLegal}
use Rattle.crib_play.specs.History.{Event, event_of, acts_of, history_of, filled_moves, moves_of, visible_moves}
use Rattle.crib_play.proofs.LegalRecords.{legal_filled, visible_filled}
use Rattle.crib_problem.specs.Setup.{Setup, IsSetup, start_of, hands_of, played_back, IsDealOf, BeginsAsPlayed}
use Rattle.crib_problem.proofs.StartLemmas.{started}
use Rattle.crib_know.specs.Knowledge.{played_events}
use Rattle.crib_know.specs.Hidden.{BeginsAfter}
use Rattle.crib_know.proofs.Events.{events, history_events, Plays}
use Rattle.crib_sure.specs.Private.Suits.{act_of_event, left_after_acts, acts_in_suits}
use Rattle.crib_sure.proofs.AgreeingInSuitOrder.{same_side_of}
use Rattle.crib_sure.proofs.AgreeingInSuitOrder.{Suited, dealt_ok, suited}

-- two acts are the same if their moves are and the owner sees the same of them
same_acts : (acts others : List Act) → moves_of acts ≡ moves_of others → map event_of acts ≡ map event_of others → acts ≡ others
same_acts [] [] m e = refl
same_acts (act ∷ acts) (other ∷ others) m e =
    let what : act.what ≡ other.what = cc in
    let side = same_side_of act.side other.side act.what other.what (cc) in
    let rest = same_acts acts others (cc) (cc) in λ i. record { side = side i; what = what i } ∷ rest i
same_acts acts others m e = absurd cc

-- the acts of a history begin with the opening
pub acts_later : (problem : Setup) (hold : List ℕ) (later : List Event) → BeginsAsPlayed problem (acts_in_suits hold (played_back problem) later)
acts_later problem hold [] = record { later = []; parts = refl }
acts_later problem hold (event ∷ later) =
    let before = acts_later problem hold later in
    let act : Act = act_of_event event (left_after_acts hold (acts_in_suits hold (played_back problem) later)) in
    record { later = act ∷ before.later; parts = λ i. act ∷ before.parts i }

module _ {problem : Setup} {dealt : Dealt} (setup : IsSetup problem) (deal : IsDealOf problem dealt) (later : List Event)
    (plays : Plays (start_of problem) (hands_of problem dealt) (later ++ played_events problem)) where
  abbrev start : Start
  start = start_of problem

  abbrev hands : Hands
  hands = hands_of problem dealt

  abbrev history : List Event
  history = later ++ played_events problem

  abbrev listed : List Act
  listed = acts_in_suits dealt.hold (played_back problem) later

  pub suited_turns : Suited setup deal listed history
  suited_turns = rw plays.shows at (suited setup deal later plays.seen plays.legal plays.shows)

  abbrev played : List Move
  played = filled_moves start (moves_of listed)

  pub suited_legal : IsLegal start hands played
  suited_legal = legal_filled start hands (moves_of listed) (dealt_ok setup deal) suited_turns.legal

  visible_is : visible_moves (pone_of start) played ≡ moves_of listed
  visible_is = visible_filled start hands (moves_of listed) (started problem setup) (dealt_ok setup deal) suited_turns.legal

  pub suited_shows : history_of (pone_of start) played ≡ history
  suited_shows = history_events start hands played (started problem setup) (dealt_ok setup deal) suited_legal
      ∙ ap (events start) visible_is ∙ suited_turns.shows

  pub suited_acts : acts_of (pone_of start) played ≡ listed
  suited_acts = same_acts (acts_of (pone_of start) played) listed visible_is (suited_shows ∙ sym suited_turns.seen)

-- visible turns that begin with the opening
pub record BegunPlays (problem : Setup) (dealt : Dealt) (history : List Event) : Type 0 where
  pub plays : Plays (start_of problem) (hands_of problem dealt) history
  pub begins : BeginsAsPlayed problem (acts_of (pone_of (start_of problem)) (filled_moves (start_of problem) plays.seen))

pub begun_plays : (problem : Setup) → IsSetup problem → (dealt : Dealt) → IsDealOf problem dealt → (history : List Event) → BeginsAfter problem history →
    Plays (start_of problem) (hands_of problem dealt) history → BegunPlays problem dealt history
begun_plays problem setup dealt deal after begun plays =
    let of = rw begun.parts at plays in
    let turns = suited_turns setup deal begun.later of in
    rw begun.parts (record {
      plays = record { seen = moves_of (acts_in_suits dealt.hold (played_back problem) begun.later); legal = turns.legal; shows = turns.shows };
      begins = rw (suited_acts setup deal begun.later of) (acts_later problem dealt.hold begun.later);
    })
