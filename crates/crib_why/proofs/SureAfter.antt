-- Players who are sure after a turn, and before it.
use Rattle.std.proofs.Common.{◌≡◌, ℕ, Bool, true, false, cond, List, ◌∷◌, ◌++◌, map, None, sym, ap, subst, ◌∙◌}
use Rattle.std.specs.List.{list_all}
use Rattle.std.proofs.lemmas.Bool.{false_from_ne_true}
use Rattle.crib_cards.specs.Cards.{IsCard, rank_of}
use Rattle.crib_cards.specs.Sets.{has}
use Rattle.crib_cards.specs.Start.{Start, Hands, pone_of}
use Rattle.crib_cards.specs.declared.letters.Letter.TheVariants.{Seen, Go}
use Rattle.crib_cards.specs.declared.sides.Side.{Side}
use Rattle.crib_cards.specs.declared.sides.Side.TheVariants.{Owner, Opponent}
use Rattle.crib_cards.specs.declared.sides.Dealt.{Dealt}
use Rattle.crib_cards.specs.declared.moves.Move.{Move}
use Rattle.crib_cards.specs.declared.moves.Move.TheVariants as move
use Rattle.crib_cards.specs.declared.moves.Act.{Act}
use Rattle.crib_play.specs.Record.{Record, mover}
use Rattle.crib_play.specs.declared.turns.Turn.TheVariants as turns
use Rattle.crib_play.specs.Filled.{filled_record}
use Rattle.crib_play.specs.Score.{is_done, side_asked, scores_after}
use Rattle.crib_play.specs.Legal.{letters_of, IsDealt}
use Rattle.crib_play.specs.History.{Event, event_of, history_letters, filled_moves, moves_of}
use Rattle.crib_play.proofs.FilledRecords.{letters_filled, not_silent_done}
use Rattle.crib_show.specs.declared.show.outcomes.Outcome.TheVariants.{Reached}
use Rattle.crib_problem.specs.Played.{cards_by, act_refusal}
use Rattle.crib_problem.specs.Setup.{Setup, IsSetup, IsMove, start_of, hands_of, played_back, opening_basis_of, IsDealOf}
use Rattle.crib_problem.proofs.StartLemmas.{started, hands_dealt}
use Rattle.crib_problem.proofs.Setups.{AllMoves}
use Rattle.crib_problem.proofs.HonestTurns.{moves_are}
use Rattle.crib_know.specs.Knowledge.{played_events, asked_now}
use Rattle.crib_know.specs.Hidden.{AgreesWith, CanShow}
use Rattle.crib_know.proofs.LedHistories.{MayCome}
use Rattle.crib_know.proofs.OpeningLawProofs.{letters_same}
use Rattle.crib_know.proofs.PassingIsAgreeing.{theirs_asked}
use Rattle.crib_know.proofs.RecordTurns.{agreeing_led}
use Rattle.crib_game.specs.Replay.{is_done_for, outcome_for, play_scores}
use Rattle.crib_search.specs.Winnable.{IsWinnable}
use Rattle.crib_search.proofs.NoTreeNoPlan.{over_done}
use Rattle.crib_search.proofs.RecordHistories.{letters_whole}
use Rattle.crib_sure.specs.Shows.{IsReachedBehind}
use Rattle.crib_players.specs.Players.{Player, IsPlayedBy, follower_of}
use Rattle.crib_players.specs.Laws.{longer, CanComeNext}
use Rattle.crib_players.proofs.Followers.{follower}
use Rattle.crib_players.proofs.LastTurns.{last_turn}
use Rattle.crib_players.proofs.Longer.{back, rest_all}
use Rattle.crib_players.proofs.SurePlayers.{can_allowed, is_over_with, none_lost, whole}
use Rattle.crib_players.proofs.SureTurns.{sure_turn}
use Rattle.crib_why.specs.Answer.{SomeIsSure}

-- the player who follows a sure plan
pub sure_if_winnable : (problem : Setup) → IsWinnable problem → SomeIsSure problem
sure_if_winnable problem winnable = (follower_of problem winnable.plan, follower problem winnable.plan winnable.sure)

over_asked : (done : Bool) (side : Side) → done ≡ true → cond done turns.Over (side_asked side) ≡ turns.Over
over_asked done side e = ap (λ (d : Bool). cond d turns.Over (side_asked side)) e

module _ (problem : Setup) (setup : IsSetup problem) (act : Act) where
  abbrev start : Start
  start = start_of problem

  abbrev opening : List Act
  opening = played_back problem

  abbrev history : List Event
  history = map event_of (act ∷ opening)

  abbrev next : Setup
  next = longer problem act

  letters_are : letters_of (filled_moves start (moves_of (act ∷ opening))) ≡ filled_record start (history_letters history)
  letters_are = letters_filled start (moves_of (act ∷ opening)) ∙ ap (filled_record start) (sym (letters_same (act ∷ opening)))

  pub over_ended : asked_now problem history ≡ turns.Over → is_over_with problem act ≡ true
  over_ended over = ap (is_done start) letters_are ∙ over_done start (filled_record start (history_letters history)) over

  -- a record with the turn, in a deal of the problem
  module _ (player : Player) (dealt : Dealt) (played : List Move) (is : IsPlayedBy next player dealt played) where
    abbrev hands : Hands
    hands = hands_of problem dealt

    deal : IsDealOf problem dealt
    deal = record {
      deal = is.deal.deal;
      fixed = rest_all (has dealt.hold) act.side act.what opening
          (ap (λ (acts : List Act). list_all (has dealt.hold) (cards_by Opponent acts)) (sym (back problem act)) ∙ is.deal.fixed);
    }

    real : IsDealt hands
    real = hands_dealt problem setup dealt is.deal.deal

    comes : CanComeNext problem act
    comes =
        let parts = is.begins.parts ∙ ap (λ (acts : List Act). is.begins.later ++ acts) (back problem act) in
        let last = last_turn start hands (started problem setup) real played is.begins.later opening act is.legal parts in
        record { dealt = dealt; played = last.turn ∷ last.past; deal = deal; legal = last.legal; shows = last.shows }

    reached_in : is_over_with problem act ≡ true → IsReachedBehind problem history → is_done_for problem played ≡ true →
        outcome_for problem dealt (play_scores problem played) ≡ Reached
    reached_in over reached done =
        let shown = whole problem setup act over is in
        let agrees : AgreesWith problem history dealt = (deal, (played, is.legal, ap (map event_of) shown)) in
        let same : letters_of played ≡ filled_record start (history_letters history) =
        letters_whole problem setup dealt deal played is.legal (not_silent_done start (letters_of played) done)
        ∙ ap (λ (acts : List Act). filled_record start (history_letters (map event_of acts))) shown in
        ap (λ (letters : Record). outcome_for problem dealt (scores_after start letters)) same ∙ reached dealt agrees

  -- after a turn that ends the deal with the goal reached, each player is sure
  pub sure_if_reached : asked_now problem history ≡ turns.Over → IsReachedBehind problem history → SomeIsSure next
  sure_if_reached over reached =
      let none : Player = λ acts. None in (
        none,
        record {
          never_at_loss = λ dealt played is. none_lost problem setup act (over_ended over) is;
          reached = λ dealt played is done. reached_in none dealt played is (over_ended over) reached done;
        },
      )

  going_if : (asked_now problem history ≡ turns.Over → ⊥) → is_over_with problem act ≡ false
  going_if still = false_from_ne_true (is_over_with problem act) (λ over. still (over_asked (is_done start (filled_record start (history_letters history)))
      (mover (pone_of start) (filled_record start (history_letters history))) (ap (is_done start) (sym letters_are) ∙ over)))

  -- so each player is sure after it
  pub sure_if_refused : (asked_now problem history ≡ turns.Over → ⊥) → (act_refusal (opening_basis_of problem) opening act ≡ None → ⊥) → SomeIsSure next
  sure_if_refused still refused =
      let none : Player = λ acts. None in
      let never : (dealt : Dealt) (played : List Move) → IsPlayedBy next none dealt played → ⊥ =
      λ dealt played is. refused (can_allowed problem setup act (comes none dealt played is) (going_if still)) in (
        none,
        record {
          never_at_loss = λ dealt played is. absurd (never dealt played is);
          reached = λ dealt played is done. absurd (never dealt played is);
        },
      )

  -- ---- what comes next
  module _ (can : CanComeNext problem act) where
    pub may_come : MayCome problem (played_events problem) (event_of act)
    may_come =
        let agrees : AgreesWith problem history can.dealt = (can.deal, (can.played, can.legal, ap (map event_of) can.shows)) in
        (agreeing_led problem setup can.dealt history agrees).1

    pub is_move : IsMove act.what
    is_move = (subst AllMoves can.shows (moves_are problem setup can.dealt can.deal.deal can.played can.legal)).0

-- ---- some player is sure before a turn
abbrev pub theirs : Move → Act
theirs what = record { side = Opponent; what = what }

abbrev pub own_go : Act
own_go = record { side = Owner; what = move.Go }

not_both : turns.Opponent ≡ turns.Owner → ⊥
not_both same = cc

module _ (problem : Setup) (setup : IsSetup problem) where
  abbrev now : List Event
  now = played_events problem

  -- the opponent is to move
  pub sure_theirs : asked_now problem now ≡ turns.Opponent →
      ((card : ℕ) → IsCard card → CanShow problem now (Seen (rank_of card)) → SomeIsSure (longer problem (theirs (move.Card card)))) →
      (CanShow problem now Go → SomeIsSure (longer problem (theirs move.Go))) → SomeIsSure problem
  sure_theirs asked cards go = sure_turn problem setup (λ act can. by_act act.side act.what (may_come problem setup act can) (is_move problem setup act can))
    where
      by_act : (side : Side) (what : Move) → MayCome problem now (event_of (record { side = side; what = what })) → IsMove what →
          SomeIsSure (longer problem (record { side = side; what = what }))
      by_act Owner (move.Card card) may is = absurd (not_both (sym asked ∙ may.0))
      by_act Owner move.Go may is = absurd (not_both (sym asked ∙ may.0))
      by_act Opponent (move.Card card) may is = cards card is may
      by_act Opponent move.Go may is = go may

  -- the owner must say go
  pub sure_own_go : asked_now problem now ≡ turns.Owner → ((card : ℕ) → MayCome problem now (event_of (record { side = Owner; what = move.Card card })) → ⊥) →
      SomeIsSure (longer problem own_go) → SomeIsSure problem
  sure_own_go asked none go = sure_turn problem setup (λ act can. by_act act.side act.what (may_come problem setup act can))
    where
      by_act : (side : Side) (what : Move) → MayCome problem now (event_of (record { side = side; what = what })) →
          SomeIsSure (longer problem (record { side = side; what = what }))
      by_act Owner (move.Card card) may = absurd (none card may)
      by_act Owner move.Go may = go
      by_act Opponent (move.Card card) may = absurd (not_both (sym (theirs_asked problem setup now (Seen (rank_of card)) may) ∙ asked))
      by_act Opponent move.Go may = absurd (not_both (sym (theirs_asked problem setup now Go may) ∙ asked))
